-- The value of digits, of which past every range one value is kept.
use Rattle.std.proofs.Common.{◌≡◌, ℕ, ◌+◌, ◌*◌, ◌<◌, ◌≤◌, List, length, get_or, drop, Some, None, Option, sym, ap, ◌∙◌, ⊎_elim, mul-le-mul_left, mul-one, arith}
use Rattle.std.specs.Prelude.{SomeIff}
use Rattle.std.specs.Option.{option_and_then}
use Rattle.std.specs.Char.{digit_value}
use Rattle.std.proofs.lemmas.List.{at_drop_more}
use Rattle.std.proofs.lemmas.Bool.{cases_lt}
use Rattle.std.proofs.lemmas.Bool.Decides.{nat_tests}
use Rattle.text.specs.Kept.{past, kept}
use Rattle.text.specs.Numerals.{digit_in, value_after}

-- The library's digits are the specification's.
pub digit_in_is : (base b : ℕ) (o : Option ℕ) → base ≤ 16 → SomeIff o (digit_value b < base) (digit_value b) → o ≡ digit_in base b
digit_in_is base b None few not = grind (arith, nat_tests)
digit_in_is base b (Some d) few is = grind (arith, nat_tests)

no_less : (n base : ℕ) → 0 < base → n ≤ n * base
no_less n base some = omega (arith, mul-le-mul_left n some, mul-one n)

-- What is kept of a value decides what is kept after one more digit.
pub kept_more : (base n d : ℕ) → 0 < base → kept (kept n * base + d) ≡ kept (n * base + d)
kept_more base n d some =
    ⊎_elim
    (λ below. let same : kept n ≡ n = omega arith in ap (λ m. kept (m * base + d)) same)
    (λ above. let top : kept n ≡ past = omega arith in omega (arith, no_less (kept n) base some, no_less n base some))
    (cases_lt n past)

pub digit_more : (base n i d : ℕ) (xs : List ℕ) → i < length xs → digit_in base (get_or xs i 0) ≡ Some d → value_after base (n * base + d) (drop (i + 1) xs) ≡ value_after base n (drop i xs)
digit_more base n i d xs lt e =
    sym (at_drop_more (value_after base n) xs i 0 lt ∙ ap (option_and_then (λ d. value_after base (n * base + d) (drop (i + 1) xs))) e)
