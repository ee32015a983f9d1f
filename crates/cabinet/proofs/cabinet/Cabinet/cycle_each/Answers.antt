use Rattle.std.proofs.Common.{rules}
use Rattle.cabinet.proofs.Cycling.{cycle_start, cycle_more}
use Rattle.cabinet.proofs.cabinet.Cabinet.cycle_each.Goals as goal

pub loop-number-init : goal.loop-number-init
loop-number-init g c =
    cycle_start c.requires.all_records (search rules) (search rules) c.new-reader.ensures (search rules)

pub loop-number-preserved : goal.loop-number-preserved
loop-number-preserved g c =
    let went = c.in-Some.ensures.steps in
    cycle_more c.requires.whole_frame c.loop-number.invariant went.0.0 went.0.1.0 went.0.1.1 went.0.1.2 went.1
    c.from.ensures c.line_for-line.ensures.brings c.line_for-line.ensures.steps c.step.ensures
