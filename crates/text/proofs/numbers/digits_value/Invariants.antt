use Rattle.std.proofs.Common.{◌≡◌, ℕ, drop}
use Rattle.text.specs.Kept.{kept}
use Rattle.text.specs.Numerals.{digits_value, value_after}
use Rattle.text.proofs.numbers.digits_value.Given as goal

-- What is kept of the value so far, after which the rest is still to be read.
abbrev pub invariant-loop-byte : goal.invariant-loop-byte
invariant-loop-byte l =
    (n : ℕ) × (l.value ≡ kept n) × (value_after l.base n (drop l.byte-index l.digits) ≡ digits_value l.base l.digits)
