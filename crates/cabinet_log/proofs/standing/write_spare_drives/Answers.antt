use Rattle.std.proofs.Common.{◌≡◌, ◌+◌, ◌-◌, string_bytes, arith}
use Rattle.cabinet.specs.Cabinets.{axis_count}
use Rattle.cabinet_log.specs.CabinetTexts.{spare_line}
use Rattle.cabinet_log.proofs.Rows.{joined-counting_more}
use Rattle.cabinet_log.proofs.standing.write_spare_drives.Goals as goal

pub loop-number-preserved : goal.loop-number-preserved
unfolding spare_line
loop-number-preserved g c =
    let drives = g.B.Bank.meanings c.args.cabinet.now.bank in
    let i = c.loop-number.number in
    let start = axis_count drives in
    let past : start + (i - start) ≡ i = omega (arith, c.axis_count-number.ensures) in
    let next : (i - start) + 1 ≡ (i + 1) - start = omega (arith, c.axis_count-number.ensures) in
    let more = joined-counting_more (spare_line drives) (string_bytes c.args.log.now) start (i - start) i past in
    cc (c.in_ok-writeln.ensures.bytes, c.from.ensures, c.held.ensures, more, next)
