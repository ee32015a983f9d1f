-- The lines that close a log, byte by byte.
use Rattle.std.specs.Prelude.{ℕ, List, [], ◌∷◌, ◌++◌, Some, None, codes, decimal, Option}
use Rattle.drive_log.specs.Added.{newline}
use Rattle.replay.specs.declared.side.Side.{Side}
use Rattle.replay.specs.Sides.{delay_of}

-- Whether the watch of a cabinet with a delay ran out, and at which line first.
abbrev pub run_out_text : ℕ → Option ℕ → List ℕ
run_out_text delay None = codes "delay " ++ (decimal delay ++ codes ": the watch did not run out")
run_out_text delay (Some line) = codes "delay " ++ (decimal delay ++ (codes ": the watch ran out at line " ++ decimal line))

abbrev pub side_text : Side → List ℕ
side_text side = run_out_text (delay_of side) side.ran_out ++ (newline ∷ [])

-- Whether two cabinets parted, and at which line first.
abbrev pub parted_text : Option ℕ → List ℕ
parted_text None = codes "the two never parted"
parted_text (Some line) = codes "the two parted at line " ++ decimal line

abbrev pub parting_text : Option ℕ → List ℕ
parting_text parted = parted_text parted ++ (newline ∷ [])
