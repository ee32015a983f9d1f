-- The lines of a call, byte by byte.
use Rattle.std.specs.Prelude.{ℕ, Bool, cond, ◌&&◌, List, ◌∷◌, ◌++◌, Some, None, string_bytes, codes, decimal, Option}
use Rattle.std.specs.Str.{bytes_eq}
use Rattle.drive_log.specs.Added.{newline}
use Rattle.call_log.specs.declared.call_lines.Lines.{Lines}

-- What follows the directive: the answer, and the lines below it.
abbrev pub lines_text : Lines → List ℕ
lines_text lines = codes ": " ++ (string_bytes lines.answer ++ (newline ∷ string_bytes lines.below))

-- A delay after the directive says which of two cabinets speaks.
abbrev pub call_text : ℕ → List ℕ → Option ℕ → Lines → List ℕ
call_text number directive None lines = decimal number ++ (codes " " ++ (directive ++ lines_text lines))
call_text number directive (Some delay) lines =
    decimal number ++ (codes " " ++ (directive ++ (codes " with delay " ++ (decimal delay ++ lines_text lines))))

abbrev pub same_lines : Lines → Lines → Bool
same_lines first second =
    bytes_eq (string_bytes first.answer) (string_bytes second.answer)
    && bytes_eq (string_bytes first.below) (string_bytes second.below)

-- Two cabinets: written once where the lines are the same, else for each with its delay.
abbrev pub both_text : ℕ → List ℕ → ℕ → Lines → ℕ → Lines → List ℕ
both_text number directive delay first other second =
    cond (same_lines first second)
    (call_text number directive None first)
    (call_text number directive (Some delay) first ++ call_text number directive (Some other) second)
