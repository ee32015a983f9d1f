-- A row of drives as a bank: what stands at a number, and what a change there makes of the row.
use Rattle.std.specs.Prelude.{◌≡◌, ℕ, zero, suc, ◌<◌, ◌≤◌, min, Bool, true, false, cond, List, [], ◌∷◌, ◌++◌, map, length, take, refl}
use Rattle.std.specs.Bool.{then_some}
use Rattle.std.proofs.Common.{ltb, sym, ap, ◌∙◌, arith}
use Rattle.std.proofs.lemmas.Bool.{ltb-true, ltb-false}
use Rattle.std.proofs.ByRecursion.{All-take}
use Rattle.std.proofs.lemmas.List.{map-append, length-map, length-take, get_or-map, get_or-take, get_or_past, map-set, set_past}
use Rattle.drives.specs.Meaning.{DriveMeaning, Lawful}
use Rattle.banks.specs.Lists.{most, absent, AllLawful}
use Rattle.std.proofs.Math.Seq.{take-set-lt}
use Rattle.rows.specs.Rows.{in_row, with_drive, AtPlace, Beyond, PlaceIs}

module _ {D : Type 0} (meaning : D → DriveMeaning) (drives : List D) where
  pub row_count : min (length drives) most ≡ length (in_row meaning drives)
  row_count = simp (length-take, length-map) (omega arith)

  pub row_few : length (in_row meaning drives) ≤ most
  row_few = simp length-take (omega arith)

  pub at_place : (i : ℕ) → i < length (in_row meaning drives) → AtPlace meaning drives i i
  at_place i of-bank =
      let inside : i < length drives = omega (arith, row_count) in
      record {
        inside = inside;
        there = λ d read. get_or-take most (map meaning drives) i absent (omega (arith, row_count))
            ∙ get_or-map meaning drives i d absent inside
            ∙ ap meaning (sym read);
        changes = λ after. ap (take most) (map-set meaning drives i after)
            ∙ take-set-lt most (map meaning drives) i (meaning after) (omega (arith, row_count));
      }

  pub beyond : (i : ℕ) → length (in_row meaning drives) ≤ i → Beyond (in_row meaning drives) i
  beyond i past =
      record {
        there = get_or_past (in_row meaning drives) i absent past;
        changes = λ drive. set_past (in_row meaning drives) i drive past;
      }

  pub place_is : (i : ℕ) (inside : Bool) → inside ≡ ltb i (length (in_row meaning drives)) → PlaceIs meaning drives i (then_some inside i)
  place_is i true is = at_place i (ltb-true i _ (sym is))
  place_is i false is = beyond i (ltb-false i _ (sym is))

  pub row_lawful : ((d : D) → Lawful (meaning d).make) → AllLawful (in_row meaning drives)
  row_lawful law = All-take _ most (map meaning drives) (go drives)
    where
      go : (ds : List D) → AllLawful (map meaning ds)
      go [] = tt
      go (d ∷ ds) = (law d, go ds)

-- to cut a list before or after it grows comes to the same
take-grown : {X : Type 0} (n : ℕ) (xs ys : List X) → take n (take n xs ++ ys) ≡ take n (xs ++ ys)
take-grown zero xs ys = refl
take-grown (suc n) [] ys = refl
take-grown (suc n) (x ∷ xs) ys = ap (λ zs. x ∷ zs) (take-grown n xs ys)

pub row_grown : {D : Type 0} (meaning : D → DriveMeaning) (drives : List D) (d : D) → in_row meaning (drives ++ (d ∷ [])) ≡ with_drive (in_row meaning drives) (meaning d)
row_grown meaning drives d =
    ap (take most) (map-append meaning drives (d ∷ [])) ∙ sym (take-grown most (map meaning drives) (meaning d ∷ []))

-- the same, of a push that may fail
pub row_pushed :
    {D : Type 0} (meaning : D → DriveMeaning) (drives after : List D) (d : D) (went : Bool)
    → after ≡ cond went (drives ++ (d ∷ [])) drives
    → in_row meaning after ≡ cond went (with_drive (in_row meaning drives) (meaning d)) (in_row meaning drives)
row_pushed meaning drives after d true is = ap (in_row meaning) is ∙ row_grown meaning drives d
row_pushed meaning drives after d false is = ap (in_row meaning) is
