-- Where a number of two banks side by side is found, what stands there and what a change there makes of the two.
use Rattle.std.specs.Prelude.{◌≡◌, ℕ, ◌+◌, ◌-◌, ◌<◌, ◌≤◌, min, List, ◌++◌, length, take, refl}
use Rattle.std.proofs.Common.{sym, ap, ◌∙◌, arith}
use Rattle.std.proofs.ByRecursion.{All-append, All-take}
use Rattle.std.proofs.lemmas.List.{length-append, length-take, get_or-take, get_or_append_left, get_or-append_right, get_or_past, set-append_left, set-append_right, set_past}
use Rattle.drives.specs.Meaning.{DriveMeaning}
use Rattle.std.proofs.Math.Seq.{take-set-lt}
use Rattle.pairs.specs.declared.pair.Place.TheVariants.{First, Second}
use Rattle.banks.specs.Lists.{most, absent, AllLawful}
use Rattle.pairs.specs.Pairs.{side_by_side, FoundAt}

module _ (first second : List DriveMeaning) (few : length first ≤ most) (i : ℕ) where
  -- a number of the first bank
  pub found_first : i < length first → FoundAt first second i (First i)
  found_first below =
      record {
        there = get_or-take most (first ++ second) i absent (omega arith) ∙ get_or_append_left first second absent i below;
        changes = λ drive.
            ap (take most) (sym (set-append_left first second i drive below)) ∙ take-set-lt most (first ++ second) i drive (omega arith);
      }

  -- a number past both is beyond the first bank too
  pub found_beyond : most ≤ i → FoundAt first second i (First i)
  found_beyond past =
      let cut : length (side_by_side first second) ≤ i = simp length-take (omega arith) in
      record {
        there = get_or_past (side_by_side first second) i absent cut ∙ sym (get_or_past first i absent (omega arith));
        changes = λ drive. rw (set_past first i drive (omega arith)) (sym (set_past (side_by_side first second) i drive cut));
      }

  -- the second bank counts on from the first
  pub found_second : length first ≤ i → i < most → FoundAt first second i (Second (i - length first))
  found_second past below =
      record {
        there = get_or-take most (first ++ second) i absent below ∙ get_or-append_right first second (length first) i absent refl past;
        changes = λ drive.
            ap (take most) (sym (set-append_right first second (length first) i drive refl past))
            ∙ take-set-lt most (first ++ second) i drive below;
      }

pub lawful-side_by_side : (first second : List DriveMeaning) → AllLawful first → AllLawful second → AllLawful (side_by_side first second)
lawful-side_by_side first second one other = All-take _ most (first ++ second) (All-append _ first second one other)

pub few-side_by_side : (first second : List DriveMeaning) → length (side_by_side first second) ≤ most
few-side_by_side first second = simp length-take (omega arith)

pub count-side_by_side : (first second : List DriveMeaning) → min most (length first + length second) ≡ length (side_by_side first second)
count-side_by_side first second = simp (length-take, length-append) (omega arith)
