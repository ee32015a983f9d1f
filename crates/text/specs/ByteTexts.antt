-- Byte strings: pairs of hexadecimal digits, or '-' for no bytes.
use Rattle.std.specs.Prelude.{ℕ, ◌+◌, ◌*◌, ◌%◌, Bool, true, false, cond, not, ◌&&◌, List, [], ◌∷◌, length, is_some, is_ok, Ok, Err, vec_items, Result, Vec, ◌==◌, slice_index}
use Rattle.std.specs.List.{list_all}
use Rattle.std.specs.Option.{unwrap_or}
use Rattle.text.specs.Digits.{digit_of}
use Rattle.text.specs.declared.fault.Fault.{Fault}
use Rattle.text.specs.declared.fault.Fault.TheVariants.{NotANumber, OutOfRange, NotBytes, OddDigits, NoMemory}
use Rattle.hex.specs.declared.error.FromHexError.{FromHexError}
use Rattle.hex.specs.declared.error.FromHexError.TheVariants.{InvalidHexCharacter, OddLength, InvalidStringLength, OutOfMemory}

-- '-' alone
abbrev pub is_dash : List ℕ → Bool
is_dash word = length word == 1 && slice_index word 0 == 45

abbrev pub is_digit : ℕ → Bool
is_digit b = is_some (digit_of b)

abbrev pub all_digits : List ℕ → Bool
all_digits word = list_all is_digit word

abbrev pub is_odd : ℕ → Bool
is_odd n = n % 2 == 1

-- The value of a digit, 0 of any other byte.
abbrev pub digit_value : ℕ → ℕ
digit_value b = unwrap_or (digit_of b) 0

-- Each two digits are a byte, the high one first.
abbrev pub pairs_of : List ℕ → List ℕ
pairs_of [] = []
pairs_of (b ∷ []) = []
pairs_of (high ∷ low ∷ bs) = (16 * digit_value high + digit_value low) ∷ pairs_of bs

-- The bytes of a word. The empty word, which no line has, stands for no bytes.
abbrev pub bytes_of : List ℕ → Result (List ℕ) Fault
bytes_of word =
    cond (is_dash word) (Ok [])
    (cond (not (all_digits word)) (Err NotBytes)
    (cond (is_odd (length word)) (Err OddDigits)
    (Ok (pairs_of word))))

-- The bytes that an answer holds.
abbrev pub given : {Z : Type 0} → Result (Vec ℕ Z) Fault → Result (List ℕ) Fault
given (Ok v) = Ok (vec_items v)
given (Err e) = Err e

abbrev pub is_no_memory : Fault → Bool
is_no_memory NotANumber = false
is_no_memory OutOfRange = false
is_no_memory NotBytes = false
is_no_memory OddDigits = false
is_no_memory NoMemory = true

abbrev pub memory_failed : {Z : Type 0} → Result (Vec ℕ Z) Fault → Bool
memory_failed (Ok v) = false
memory_failed (Err e) = is_no_memory e

-- The answer where memory may fail: only good bytes want memory.
abbrev pub or_no_memory : Bool → Result (List ℕ) Fault → Result (List ℕ) Fault
or_no_memory failed answer = cond (failed && is_ok answer) (Err NoMemory) answer

-- What is wrong with a word that the library does not decode.
abbrev pub fault_of : FromHexError → Fault
fault_of (InvalidHexCharacter c index) = NotBytes
fault_of InvalidStringLength = NotBytes
fault_of OddLength = OddDigits
fault_of OutOfMemory = NoMemory
