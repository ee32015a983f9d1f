-- Numbers: decimal digits, or hexadecimal ones after '0x'.
use Rattle.std.specs.Prelude.{ℕ, ◌+◌, ◌*◌, Bool, cond, ◌&&◌, List, [], ◌∷◌, drop, ℤ, pos, neg_ℤ, Some, None, Ok, Err, Option, Result, ◌==◌, int_le, nat_le, nat_lt, slice_index}
use Rattle.std.specs.Option.{option_map, option_and_then}
use Rattle.text.specs.Digits.{digit_of}
use Rattle.text.specs.declared.fault.Fault.{Fault}
use Rattle.text.specs.declared.fault.Fault.TheVariants.{NotANumber, OutOfRange}

abbrev pub below : ℕ → Option ℕ → Option ℕ
below base None = None
below base (Some d) = cond (nat_lt d base) (Some d) None

abbrev pub digit_in : ℕ → ℕ → Option ℕ
digit_in base b = below base (digit_of b)

-- What digits write after the value n. A byte that is no digit of the base makes them no number.
abbrev pub value_after : ℕ → ℕ → List ℕ → Option ℕ
value_after base n [] = Some n
value_after base n (b ∷ bs) = option_and_then (λ d. value_after base (n * base + d) bs) (digit_in base b)

-- One digit or more.
abbrev pub digits_value : ℕ → List ℕ → Option ℕ
digits_value base [] = None
digits_value base (b ∷ bs) = value_after base 0 (b ∷ bs)

-- '0x'
abbrev pub is_hexadecimal : List ℕ → Bool
is_hexadecimal word = slice_index word 0 == 48 && slice_index word 1 == 120

abbrev pub natural_of : List ℕ → Option ℕ
natural_of word = cond (is_hexadecimal word) (digits_value 16 (drop 2 word)) (digits_value 10 word)

-- '-'
abbrev pub is_negative : List ℕ → Bool
is_negative word = slice_index word 0 == 45

abbrev pub minus : ℕ → ℤ
minus n = neg_ℤ (pos n)

-- A minus sign stands before decimal digits only.
abbrev pub integer_of : List ℕ → Option ℤ
integer_of word = cond (is_negative word) (option_map minus (digits_value 10 (drop 1 word))) (option_map pos (natural_of word))

abbrev pub up_to : ℕ → Option ℕ → Result ℕ Fault
up_to highest None = Err NotANumber
up_to highest (Some n) = cond (nat_le n highest) (Ok n) (Err OutOfRange)

abbrev pub within : ℤ → ℤ → Option ℤ → Result ℤ Fault
within lowest highest None = Err NotANumber
within lowest highest (Some z) = cond (int_le lowest z && int_le z highest) (Ok z) (Err OutOfRange)

-- The value of a word that is to be an unsigned number.
abbrev pub unsigned_of : ℕ → List ℕ → Result ℕ Fault
unsigned_of highest word = up_to highest (natural_of word)

-- The value of a word that is to be a signed number.
abbrev pub signed_of : ℤ → ℤ → List ℕ → Result ℤ Fault
signed_of lowest highest word = within lowest highest (integer_of word)
