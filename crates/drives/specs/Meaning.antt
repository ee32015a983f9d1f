-- A drive's whole meaning as one value, what the operations make of it, and what every make owes.
use Rattle.std.specs.Prelude.{◌≡◌, ℕ, Bool, true, false, not, ◌&&◌, List, ℤ, pos, is_some, Option, Result, ◌==◌}
use Rattle.drives.specs.declared.target.Target.{Target}
use Rattle.drives.specs.declared.target.Refusal.{Refusal}
use Rattle.drives.specs.declared.held.Held.{Held}
use Rattle.drives.specs.Holdings.{Reading, energised_held, de_energised_held, holding, read_held, own_refusal, taken_held, answered}

-- What belongs to the make and never changes. Admission sees the held position and nothing else that is held.
pub record Make : Type 0 where
  -- the modes known
  pub knows : ℤ → Bool
  -- the targets admitted at a held position
  pub admits : ℤ → Target → Bool
  -- why a target is refused; none exactly where it is taken
  pub refuses : Held → Target → Option Refusal
  -- what a field record reads as
  pub reads : Held → List ℕ → Reading

-- The make of a drive that stands alone, without a window: it refuses for its own reasons.
abbrev pub own_make : (ℤ → Bool) → (ℤ → Target → Bool) → (Held → List ℕ → Reading) → Make
own_make knows admits reads =
    record {
      knows = knows;
      admits = admits;
      refuses = λ h target. own_refusal h (knows target.mode) (admits h.position target);
      reads = reads;
    }

pub record DriveMeaning : Type 0 where
  pub held : Held
  pub make : Make

-- The same drive holding something else.
abbrev pub now_holding : Held → DriveMeaning → DriveMeaning
now_holding h d = record { held = h; make = d.make }

abbrev pub energised : DriveMeaning → DriveMeaning
energised d = now_holding (energised_held d.held) d

abbrev pub de_energised : DriveMeaning → DriveMeaning
de_energised d = now_holding (de_energised_held d.held) d

abbrev pub held_still : DriveMeaning → DriveMeaning
held_still d = now_holding (holding d.held) d

abbrev pub reading_of : List ℕ → DriveMeaning → Reading
reading_of bytes d = d.make.reads d.held bytes

abbrev pub sampled : List ℕ → DriveMeaning → DriveMeaning
sampled bytes d = now_holding (read_held (reading_of bytes d) d.held) d

abbrev pub known_by : ℤ → DriveMeaning → Bool
known_by mode d = d.make.knows mode

abbrev pub admitted_by : Target → DriveMeaning → Bool
admitted_by target d = d.make.admits d.held.position target

abbrev pub refused_by : Target → DriveMeaning → Option Refusal
refused_by target d = d.make.refuses d.held target

abbrev pub taken : Target → DriveMeaning → DriveMeaning
taken target d = now_holding (taken_held target (refused_by target d) d.held) d

abbrev pub take_answer : Target → DriveMeaning → Result (Unit {0}) Refusal
take_answer target d = answered (refused_by target d)

-- Power on, no trouble, and the target admitted at the position held.
abbrev pub fit_to_take : Make → Held → Target → Bool
fit_to_take make h target = (h.powered && h.trouble == 0) && make.admits h.position target

-- What every make owes.
pub record Lawful (make : Make) : Type 0 where
  pub mode_zero_known : make.knows (pos 0) ≡ true
  pub mode_zero_admits_nothing : (position value : ℤ) → make.admits position (record { mode = pos 0; value = value }) ≡ false
  pub admitted_is_known : (position : ℤ) (target : Target) → make.admits position target ≡ true → make.knows target.mode ≡ true
  -- a target is taken exactly with power, without trouble and with admission
  pub taken_exactly_when_fit : (h : Held) (target : Target) → is_some (make.refuses h target) ≡ not (fit_to_take make h target)
