use Rattle.std.proofs.Common.{◌≡◌, ◌++◌, string_bytes}
use Rattle.std.specs.List.{range_with_len, flat_map}
use Rattle.cabinet.specs.Cabinets.{standing}
use Rattle.cabinet_log.specs.CabinetTexts.{axis_line}
use Rattle.cabinet_log.proofs.standing.write_standing.Given as goal

abbrev pub invariant-loop-number : goal.invariant-loop-number
invariant-loop-number g l =
    let s = standing g.B.Bank.meanings l.cabinet in
    string_bytes l.log ≡ string_bytes l.initial.log ++ flat_map (axis_line s) (range_with_len 0 l.number)
