-- The bytes that the library decodes are the bytes of the specification.
use Rattle.std.proofs.Common.{◌≡◌, ℕ, ◌+◌, ◌*◌, ◌%◌, ◌⊎◌, true, false, List, [], ◌∷◌, length, is_some, Some, None, Option, Result, Ok, Err, refl, ap, ◌∙◌, arith}
use Rattle.std.specs.Option.{unwrap_or}
use Rattle.std.proofs.lemmas.Bool.{and_parts}
use Rattle.std.proofs.lemmas.Bool.Decides.{nat_tests}
use Rattle.hex.specs.Hex.{hex_digit_value, digit_or_error, value_at, decode_pairs, decode_of}
use Rattle.hex.specs.declared.error.FromHexError.{FromHexError}
use Rattle.hex.specs.declared.error.FromHexError.TheVariants.{OddLength, OutOfMemory}
use Rattle.text.specs.declared.fault.Fault.{Fault}
use Rattle.text.specs.Digits.{digit_of}
use Rattle.text.specs.ByteTexts.{is_dash, is_digit, all_digits, digit_value, pairs_of, bytes_of, fault_of, is_no_memory, or_no_memory}

hex_digit_value_is : (b : ℕ) → hex_digit_value b ≡ digit_of b
hex_digit_value_is b = grind (arith, nat_tests)

some_read : (b i : ℕ) (o : Option ℕ) → is_some o ≡ true → digit_or_error b i o ≡ Ok (unwrap_or o 0)
some_read b i None some = cc
some_read b i (Some d) some = refl

digit_read : (b i : ℕ) → is_digit b ≡ true → value_at b i ≡ Ok (digit_value b)
digit_read b i digit = ap (digit_or_error b i) (hex_digit_value_is b) ∙ some_read b i (digit_of b) digit

pairs_decode : (i : ℕ) (word : List ℕ) → length word % 2 ≡ 0 → all_digits word ≡ true → decode_pairs i word ≡ Ok (pairs_of word)
unfolding decode_pairs
pairs_decode i [] even digits = refl
pairs_decode i (b ∷ []) even digits = absurd (omega arith)
pairs_decode i (high ∷ low ∷ bs) even digits =
    let first = and_parts (is_digit high) _ digits in
    let second = and_parts (is_digit low) _ first.1 in
    let rest = pairs_decode (i + 2) bs (omega arith) second.1 in
    let byte : digit_value high * 16 + digit_value low ≡ 16 * digit_value high + digit_value low = omega arith in
    rw (digit_read high i first.0, digit_read low (i + 1) second.0, rest, byte)

abbrev pub faulty : Result (List ℕ) FromHexError → Result (List ℕ) Fault
faulty (Ok bytes) = Ok bytes
faulty (Err e) = Err (fault_of e)

pub bytes_decode : (word : List ℕ) → is_dash word ≡ false → all_digits word ≡ true → bytes_of word ≡ faulty (decode_of word)
bytes_decode word dash digits = let even = pairs_decode 0 word in grind (arith, nat_tests, even)

pub refused :
    (word : List ℕ) (e : FromHexError)
    → is_dash word ≡ false → all_digits word ≡ true
    → (e ≡ OutOfMemory) ⊎ (decode_of word ≡ Err e) → (length word % 2 ≡ 1 → e ≡ OddLength)
    → Err (fault_of e) ≡ or_no_memory (is_no_memory (fault_of e)) (bytes_of word)
refused word e plain digits why odd = let even = pairs_decode 0 word in grind (arith, nat_tests, even, why, odd)
