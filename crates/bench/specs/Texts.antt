-- The lines of the log, byte by byte.
use Rattle.std.specs.Prelude.{ℕ, List, [], ◌++◌, Some, None, Ok, Err, codes, decimal, Option, Result}
use Rattle.drives.specs.declared.held.Held.{Held}
use Rattle.drives.specs.declared.target.Refusal.{Refusal}
use Rattle.drives.specs.Refusals.{cause_number}
use Rattle.drive_log.specs.DriveTexts.{drive_text}

-- The answer of a take, with a space after it; nothing for any other operation.
abbrev pub answer_text : Option (Result (Unit {0}) Refusal) → List ℕ
answer_text None = []
answer_text (Some (Ok done)) = codes "taken "
answer_text (Some (Err refusal)) =
    codes "refused cause=" ++ (decimal (cause_number refusal.cause) ++ (codes " depth=" ++ (decimal refusal.depth ++ codes " ")))

-- A line: its number in the scenario, the directive, the answer of a take, the drive.
abbrev pub line_text : ℕ → List ℕ → Option (Result (Unit {0}) Refusal) → ℕ → Held → List ℕ
line_text line directive answer number h =
    decimal line ++ (codes " " ++ (directive ++ (codes ": " ++ (answer_text answer ++ drive_text number h))))
