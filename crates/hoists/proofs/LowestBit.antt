-- The lowest set bit names the trouble: over any table of codes.
use Rattle.std.proofs.Common.{◌≡◌, ℕ, zero, suc, ◌/◌, ◌%◌, ◌^◌, ◌<◌, ◌⊎◌, List, [], ◌∷◌, length, get_or, refl, ap, ◌∙◌, inl, inr, div-one, one-add, arith}
use lib.Count.{count_trailing_zeros}
use Rattle.std.proofs.lemmas.Nat.{shr-shr}
use Rattle.hoists.specs.Inverters.{lowest_named, BitSet, BitClear}

even_or_odd : (n : ℕ) → (n % 2 ≡ 0) ⊎ (n % 2 ≡ 1)
even_or_odd n = grind arith

-- what stands in the table at the place of the lowest set bit
pub named_at : (codes : List ℕ) (bits : ℕ) → get_or codes (count_trailing_zeros (length codes) bits) 0 ≡ lowest_named codes bits
unfolding lowest_named count_trailing_zeros
named_at [] bits = refl
named_at (code ∷ codes) bits = elim (even_or_odd bits) [ inl even ↦ rw even (named_at codes (bits / 2)) | inr odd ↦ rw odd refl ]

-- a bit of a number is a bit of its half, one place lower
halved : (bits k : ℕ) → (bits / 2) / 2 ^ k % 2 ≡ bits / 2 ^ suc k % 2
halved bits k = ap (λ n. n % 2) (shr-shr bits 1 k ∙ ap (λ n. bits / 2 ^ n) (one-add k))

pub lowest_names : (codes : List ℕ) (bits k : ℕ) → BitSet bits k → ((j : ℕ) → j < k → BitClear bits j) → lowest_named codes bits ≡ get_or codes k 0
unfolding lowest_named
lowest_names [] bits k set_here clear-below = refl
lowest_names (code ∷ codes) bits zero set_here clear-below =
    let odd : bits % 2 ≡ 1 = simp div-one at set_here in rw odd refl
lowest_names (code ∷ codes) bits (suc k) set_here clear-below =
    let even : bits % 2 ≡ 0 = simp div-one at (clear-below 0 (omega arith)) in
    rw even
    (lowest_names codes (bits / 2) k (halved bits k ∙ set_here) (λ j below. halved bits j ∙ clear-below (suc j) (omega arith)))
