use Rattle.std.proofs.Common.{◌≡◌, ◌-◌, ◌++◌, string_bytes}
use Rattle.std.specs.List.{range_with_len, flat_map}
use Rattle.cabinet.specs.Cabinets.{axis_count}
use Rattle.cabinet_log.specs.CabinetTexts.{spare_line}
use Rattle.cabinet_log.proofs.standing.write_spare_drives.Given as goal

abbrev pub invariant-loop-number : goal.invariant-loop-number
invariant-loop-number g l =
    let drives = g.B.Bank.meanings l.cabinet.bank in
    string_bytes l.log
    ≡ string_bytes l.initial.log ++ flat_map (spare_line drives) (range_with_len (axis_count drives) (l.number - axis_count drives))
