-- The first of a list made from their numbers, one after the other.
use Rattle.std.proofs.Common.{◌≡◌, ℕ, ◌+◌, ◌-◌, ◌<◌, ◌≤◌, List, [], ◌∷◌, ◌++◌, map, length, get_or, drop, set, sym, refl, ap, ◌∙◌, arith}
use Rattle.std.specs.List.{range_with_len}
use Rattle.std.proofs.lemmas.List.FromFn.{length-map-range_with_len, map-range_with_len_more}
use Rattle.std.proofs.lemmas.List.{length-append, length-drop, set_at, get_or_at, drop_more, append_assoc}
use Rattle.cabinet.specs.Cabinets.{first_made}

module _ {A : Type 0} (make : ℕ → A) (xs : List A) where
  pub first_none : first_made 0 make xs ≡ xs
  unfolding first_made
  first_none = refl

  pub first_reads : (i : ℕ) (d : A) → i < length xs → get_or (first_made i make xs) i d ≡ get_or xs i d
  unfolding first_made
  first_reads i d within =
      ap (λ rest. get_or (map make (range_with_len 0 i) ++ rest) i d) (drop_more xs i d within)
      ∙ get_or_at (map make (range_with_len 0 i)) (get_or xs i d) (drop (i + 1) xs) d i (length-map-range_with_len make 0 i)

  pub first_more : (i : ℕ) (d : A) → i < length xs → set (first_made i make xs) i (make i) ≡ first_made (i + 1) make xs
  unfolding first_made
  first_more i d within =
      ap (λ rest. set (map make (range_with_len 0 i) ++ rest) i (make i)) (drop_more xs i d within)
      ∙ set_at (map make (range_with_len 0 i)) (get_or xs i d) (drop (i + 1) xs) (make i) i (length-map-range_with_len make 0 i)
      ∙ sym (append_assoc (map make (range_with_len 0 i)) (make i ∷ []) (drop (i + 1) xs))
      ∙ ap (λ front. front ++ drop (i + 1) xs) (sym (map-range_with_len_more make 0 i i (omega arith)))

  -- the list was as long before
  pub first_within : (i : ℕ) → i < length (first_made i make xs) → i < length xs
  unfolding first_made
  first_within i within =
      let longer : i < i + (length xs - i) = simp (length-append, length-map-range_with_len, length-drop) at within in
      omega (arith, longer)

  pub length-first : (n : ℕ) → n ≤ length xs → length (first_made n make xs) ≡ length xs
  unfolding first_made
  length-first n within = simp (length-append, length-map-range_with_len, length-drop) (omega (arith, within))
