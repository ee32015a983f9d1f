-- The rows of a return image, written one after the other.
use Rattle.std.proofs.Common.{◌≡◌, ℕ, ◌+◌, ◌-◌, ◌*◌, ◌≤◌, List, [], ◌∷◌, ◌++◌, length, take, sym, refl, ap, ◌∙◌, arith}
use borrow.Rule.Slice.PartMut.{put_mid}
use Rattle.std.specs.List.{range_with_len, flat_map}
use Rattle.std.proofs.lemmas.List.FromFn.{map-range_with_len_more}
use Rattle.std.proofs.lemmas.List.{flat_map_more, map-id, take_all}
use Rattle.std.proofs.lemmas.Slice.{take-put_mid}
use Rattle.profile.specs.Status.{row_bytes}
use Rattle.cabinet.specs.Cabinets.{Standing}
use Rattle.cabinet.specs.Cycles.{row_of, rows_of}

numbers_more : (n : ℕ) → range_with_len 0 (n + 1) ≡ range_with_len 0 n ++ n ∷ []
numbers_more n =
    sym (map-id (range_with_len 0 (n + 1)))
    ∙ map-range_with_len_more (λ (i : ℕ). i) 0 n n (omega arith)
    ∙ ap (λ front. front ++ n ∷ []) (map-id (range_with_len 0 n))

module _ (s : Standing) where
  pub rows_none : rows_of s 0 ≡ []
  unfolding rows_of
  rows_none = refl

  rows_more : (n : ℕ) → rows_of s (n + 1) ≡ rows_of s n ++ row_of s n
  unfolding rows_of
  rows_more n = ap (flat_map (row_of s)) (numbers_more n) ∙ sym (flat_map_more (row_of s) [] (range_with_len 0 n) n)

  length-row : (i : ℕ) → length (row_of s i) ≡ 13
  unfolding row_bytes
  length-row i = refl

  -- one row more is written
  pub row_written :
      (i at : ℕ) (image written : List ℕ)
      → at ≡ i
      → 13 * i ≤ length image
      → take (13 * i) image ≡ rows_of s i
      → written ≡ row_of s i
      → take (13 * (i + 1)) (put_mid (13 * at) ((13 * at + 13) - 13 * at) image written) ≡ rows_of s (i + 1)
  row_written i at image written here room before is =
      rw here
      (take-put_mid (13 * i) ((13 * i + 13) - 13 * i) image written (13 * (i + 1)) (omega (arith, ap length is, length-row i)) room
      ∙ ap (λ front. front ++ written) before
      ∙ ap (λ row. rows_of s i ++ row) is
      ∙ sym (rows_more i))

  -- all rows are written
  pub rows_written : (i n : ℕ) (image : List ℕ) → i ≡ n → length image ≡ 13 * n → take (13 * i) image ≡ rows_of s i → image ≡ rows_of s n
  rows_written i n image all whole before =
      sym (take_all (13 * i) image (omega (arith, all, whole))) ∙ before ∙ ap (rows_of s) all
