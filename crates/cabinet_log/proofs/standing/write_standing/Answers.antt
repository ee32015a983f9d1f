use Rattle.std.proofs.Common.{string_bytes, arith}
use Rattle.cabinet.specs.Cabinets.{standing}
use Rattle.cabinet_log.specs.CabinetTexts.{axis_line}
use Rattle.cabinet_log.proofs.Rows.{joined-counting_more}
use Rattle.cabinet_log.proofs.standing.write_standing.Goals as goal

pub loop-number-preserved : goal.loop-number-preserved
loop-number-preserved g c =
    let cabinet = c.args.cabinet.now in
    let s = standing g.B.Bank.meanings cabinet in
    let i = c.loop-number.number in
    cc (c.in_ok-write_axis.ensures, joined-counting_more (axis_line s) (string_bytes c.writeln.new.self) 0 i i (omega arith))
