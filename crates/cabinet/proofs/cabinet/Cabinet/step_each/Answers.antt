use Rattle.std.proofs.Common.{rules}
use Rattle.cabinet.specs.Events.{brought}
use Rattle.cabinet.proofs.Steps.{no_step, one_more}
use Rattle.cabinet.proofs.cabinet.Cabinet.step_each.Goals as goal

pub loop-number-init : goal.loop-number-init
loop-number-init g c = no_step (λ i. brought c.args.event) _

pub loop-number-preserved : goal.loop-number-preserved
loop-number-preserved g c =
    one_more (λ i. brought c.args.event) _ _ _ _ c.loop-number.invariant (search rules) c.step.ensures
