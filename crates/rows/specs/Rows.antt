-- Any number of drives in a row: the first 255 are of the bank.
use Rattle.std.specs.Prelude.{◌≡◌, ℕ, ◌<◌, List, [], ◌∷◌, ◌++◌, map, length, take, Some, None, Option, slice_index_or, slice_set}
use Rattle.drives.specs.Meaning.{DriveMeaning}
use Rattle.banks.specs.Lists.{most, absent, drive_at}

abbrev pub in_row : {D : Type 0} → (D → DriveMeaning) → List D → List DriveMeaning
in_row meaning drives = take most (map meaning drives)

-- One drive more at the end. Past 255 it is not of the bank.
abbrev pub with_drive : List DriveMeaning → DriveMeaning → List DriveMeaning
with_drive bank drive = take most (bank ++ (drive ∷ []))

-- Number i of the bank stands at place k of the row: what that drive means is there, and its change is the bank's.
pub record AtPlace {D : Type 0} (meaning : D → DriveMeaning) (drives : List D) (i k : ℕ) : Type 0 where
  pub inside : k < length drives
  pub there : (d : D) → d ≡ slice_index_or drives k d → drive_at (in_row meaning drives) i ≡ meaning d
  pub changes : (after : D) → in_row meaning (slice_set drives k after) ≡ slice_set (in_row meaning drives) i (meaning after)

-- Number i is beyond the bank: nothing is there to be seen or changed.
pub record Beyond (bank : List DriveMeaning) (i : ℕ) : Type 0 where
  pub there : drive_at bank i ≡ absent
  pub changes : (drive : DriveMeaning) → slice_set bank i drive ≡ bank

abbrev pub PlaceIs : {D : Type 0} → (D → DriveMeaning) → List D → ℕ → Option ℕ → Type 0
PlaceIs meaning drives i (Some k) = AtPlace meaning drives i k
PlaceIs meaning drives i None = Beyond (in_row meaning drives) i
