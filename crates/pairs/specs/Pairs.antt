-- Two banks side by side: the first one's drives are numbered first, and the first 255 in all are of the bank.
use Rattle.std.specs.Prelude.{◌≡◌, ℕ, List, ◌++◌, take, slice_set}
use Rattle.drives.specs.Meaning.{DriveMeaning}
use Rattle.pairs.specs.declared.pair.Place.{Place}
use Rattle.pairs.specs.declared.pair.Place.TheVariants.{First, Second}
use Rattle.banks.specs.Lists.{most, drive_at}

abbrev pub side_by_side : List DriveMeaning → List DriveMeaning → List DriveMeaning
side_by_side first second = take most (first ++ second)

-- Number i of the whole is number k of one of its two banks, which has the drives `part`: the same drive is there, and
-- a change there is that change in the whole. `whole` puts the changed part back beside the other.
pub record Found (part : List DriveMeaning) (whole : List DriveMeaning → List DriveMeaning) (i k : ℕ) : Type 0 where
  pub there : drive_at (whole part) i ≡ drive_at part k
  pub changes : (drive : DriveMeaning) → whole (slice_set part k drive) ≡ slice_set (whole part) i drive

abbrev pub FoundAt : List DriveMeaning → List DriveMeaning → ℕ → Place → Type 0
FoundAt first second i (First k) = Found first (λ drives. side_by_side drives second) i k
FoundAt first second i (Second k) = Found second (λ drives. side_by_side first drives) i k
