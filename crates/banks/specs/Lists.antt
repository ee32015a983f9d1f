-- A bank as the list of its drives' meanings, each operated by its number.
use Rattle.std.specs.Prelude.{ℕ, false, List, pos, slice_index_or, slice_set}
use Rattle.std.specs.List.{AllByRecursion}
use Rattle.drives.specs.declared.target.Cause.TheVariants.{NoPower}
use Rattle.drives.specs.Holdings.{at_rest, refusal_for}
use Rattle.drives.specs.Meaning.{DriveMeaning, Lawful}

-- A bank has at most its first 255 drives.
abbrev pub most : ℕ
most = 255

-- What a number beyond the bank stands for: off, zeros, knowing and admitting nothing, refusing for want of power.
abbrev pub absent : DriveMeaning
absent =
    record {
      held = at_rest;
      make = record {
        knows = λ mode. false;
        admits = λ position target. false;
        refuses = λ h target. refusal_for NoPower;
        reads = λ h bytes. (0, pos 0, pos 0);
      };
    }

-- The drive of a number.
abbrev pub drive_at : List DriveMeaning → ℕ → DriveMeaning
drive_at drives i = slice_index_or drives i absent

-- One drive changed, the others as they were; a number beyond the bank alters nothing.
abbrev pub changed : (DriveMeaning → DriveMeaning) → List DriveMeaning → ℕ → List DriveMeaning
changed f drives i = slice_set drives i (f (drive_at drives i))

abbrev pub AllLawful : List DriveMeaning → Type 0
AllLawful drives = AllByRecursion (λ d. Lawful d.make) drives
