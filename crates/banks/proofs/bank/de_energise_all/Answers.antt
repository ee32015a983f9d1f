use Rattle.std.proofs.Common.{◌<◌, length, length-append, ap, ◌∙◌, arith}
use Rattle.std.proofs.lemmas.List.{length-map, length-take, length-drop, get_or_default}
use Rattle.std.proofs.lemmas.List.Edits.{map_over_more}
use Rattle.drives.specs.Meaning.{de_energised}
use Rattle.banks.specs.Lists.{absent, drive_at}
use Rattle.banks.proofs.bank.de_energise_all.Goals as goal

pub loop-number-preserved : goal.loop-number-preserved
loop-number-preserved g c =
    let before = g.B.Bank.meanings c.args.bank.now in
    let bank = g.B.Bank.meanings c.loop-number.bank in
    let i = c.loop-number.number in
    let within : i < length before = omega (arith, c.count-count.ensures) in
    let within_now : i < length bank =
    omega (arith, simp (length-append, length-map, length-take, length-drop) at (ap length c.loop-number.invariant)) in
    c.de_energise_at.ensures
    ∙ map_over_more de_energised before bank i (drive_at bank i) within c.loop-number.invariant (get_or_default bank i absent _ within_now)
