-- One drive of a bank changed and looked at again.
use Rattle.std.proofs.Common.{◌≡◌, ℕ, List, length, arith}
use Rattle.std.proofs.lemmas.Bool.{cases_lt}
use Rattle.std.proofs.lemmas.List.{get_or-set_same, get_or_past, set-get_or, set-set, set_past}
use Rattle.drives.specs.Meaning.{DriveMeaning}
use Rattle.banks.specs.Lists.{absent, drive_at, changed}

-- a drive that is put back leaves the bank as it was
pub unchanged : (drives : List DriveMeaning) (i : ℕ) → changed (λ drive. drive) drives i ≡ drives
unchanged drives i = set-get_or drives i absent

module _ (f : DriveMeaning → DriveMeaning) (drives : List DriveMeaning) (i : ℕ) where
  -- what is seen of a drive after a change, beyond the bank too, where the change is not to be seen in an absent drive
  pub seen_after : {X : Type 0} (look : DriveMeaning → X) → look (f absent) ≡ look absent → look (drive_at (changed f drives i) i) ≡ look (f (drive_at drives i))
  seen_after look unseen = grind (arith, cases_lt i (length drives), get_or-set_same {A = DriveMeaning}, set_past {X = DriveMeaning}, get_or_past {X = DriveMeaning}, unseen)

  -- two changes of one drive are one
  pub changed_twice : (g : DriveMeaning → DriveMeaning) → changed g (changed f drives i) i ≡ changed (λ d. g (f d)) drives i
  changed_twice g = grind (arith, cases_lt i (length drives), get_or-set_same {A = DriveMeaning}, set-set {A = DriveMeaning}, set_past {X = DriveMeaning})
