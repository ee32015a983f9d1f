-- Texts in a row, one more at the end.
use Rattle.std.proofs.Common.{◌≡◌, ℕ, ◌+◌, List, ◌++◌, sym, ap, ◌∙◌}
use Rattle.std.specs.List.{range_with_len, flat_map}
use Rattle.std.proofs.lemmas.List.{flat_map_more, map-id}
use Rattle.std.proofs.lemmas.List.FromFn.{map-range_with_len_more}

pub joined-counting_more :
    {A : Type 0} (f : ℕ → List A) (bs : List A) (a n j : ℕ)
    → a + n ≡ j
    → (bs ++ flat_map f (range_with_len a n)) ++ f j ≡ bs ++ flat_map f (range_with_len a (n + 1))
joined-counting_more f bs a n j next =
    let more = simp map-id at (map-range_with_len_more (λ (i : ℕ). i) a n j next) in
    flat_map_more f bs (range_with_len a n) j ∙ ap (λ numbers. bs ++ flat_map f numbers) (sym more)
