-- The causes of a refusal with their numbers, and a refusal as one number.
use Rattle.std.specs.Prelude.{ℕ, ◌+◌, ◌*◌, min}
use Rattle.drives.specs.declared.target.Cause.{Cause}
use Rattle.drives.specs.declared.target.Cause.TheVariants.{UnknownMode, OwnLimits, Window, NoPower, Trouble}
use Rattle.drives.specs.declared.target.Refusal.{Refusal}

abbrev pub cause_number : Cause → ℕ
cause_number UnknownMode = 1
cause_number OwnLimits = 2
cause_number Window = 3
cause_number NoPower = 4
cause_number Trouble = 5

-- depth × 256 + cause
abbrev pub refusal_code : Refusal → ℕ
refusal_code r = r.depth * 256 + cause_number r.cause

-- one more window stands above: the depth counts up to 255 and no further
abbrev pub deepened : Refusal → Refusal
deepened r = record { cause = r.cause; depth = min 255 (r.depth + 1) }
