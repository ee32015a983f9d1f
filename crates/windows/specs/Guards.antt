-- A drive below a guard, which may keep targets out and says how a refusal from below is seen.
use Rattle.std.specs.Prelude.{◌≡◌, Bool, true, false, not, ◌&&◌, ◌||◌, ℤ, pos, is_some, Option, Some, None, refl}
use Rattle.std.proofs.Common.{◌∙◌, ap}
use Rattle.std.proofs.Math.Bool.{and-false}
use Rattle.std.proofs.lemmas.Bool.{and_parts}
use Rattle.drives.specs.declared.target.Target.{Target}
use Rattle.drives.specs.declared.target.Refusal.{Refusal}
use Rattle.drives.specs.Meaning.{Make, Lawful, DriveMeaning}

-- Whether a target is kept out at a held position.
abbrev pub KeepsOut : Type 0
KeepsOut = ℤ → Target → Bool

-- The refusal of a target at a held position, given the one from below.
abbrev pub RefusalAbove : Type 0
RefusalAbove = ℤ → Target → Option Refusal → Option Refusal

-- The refusal from below of what is not kept out, as it is seen above.
abbrev pub Deepens : Type 0
Deepens = Refusal → Refusal

-- A target is refused above exactly where it is kept out or refused below.
abbrev pub RefusesExactly : KeepsOut → RefusalAbove → Type 0
RefusesExactly out above =
    (position : ℤ) (target : Target) (below : Option Refusal)
    → is_some (above position target below) ≡ (out position target || is_some below)

-- What is kept out is refused alike whatever is refused below.
abbrev pub RefusesAlone : KeepsOut → RefusalAbove → Type 0
RefusesAlone out above =
    (position : ℤ) (target : Target) (below : Option Refusal)
    → out position target ≡ true → above position target below ≡ above position target None

-- Where a target is not kept out, a refusal from below is seen deepened.
abbrev pub PassesOn : KeepsOut → RefusalAbove → Deepens → Type 0
PassesOn out above deepens =
    (position : ℤ) (target : Target) (refusal : Refusal)
    → out position target ≡ false → above position target (Some refusal) ≡ Some (deepens refusal)

abbrev pub guarded_make : KeepsOut → RefusalAbove → Make → Make
guarded_make out above below =
    record {
      knows = below.knows;
      admits = λ position target. not (out position target) && below.admits position target;
      refuses = λ h target. above h.position target (below.refuses h target);
      reads = below.reads;
    }

-- It holds what the drive below holds.
abbrev pub guarded : KeepsOut → RefusalAbove → DriveMeaning → DriveMeaning
guarded out above below = record { held = below.held; make = guarded_make out above below.make }

kept_out_or_unfit : (out fit admitted : Bool) → (out || not (fit && admitted)) ≡ not (fit && (not out && admitted))
kept_out_or_unfit true true admitted = refl
kept_out_or_unfit true false admitted = refl
kept_out_or_unfit false fit admitted = refl

-- A guard keeps what the drive below it owes.
pub guarded_lawful : (out : KeepsOut) (above : RefusalAbove) → RefusesExactly out above → (below : Make) → Lawful below → Lawful (guarded_make out above below)
guarded_lawful out above exactly below law =
    record {
      mode_zero_known = law.mode_zero_known;
      mode_zero_admits_nothing = λ position value.
          ap (λ admitted. not (out position (record { mode = pos 0; value = value })) && admitted) (law.mode_zero_admits_nothing position value)
          ∙ and-false _;
      admitted_is_known = λ position target admitted.
          law.admitted_is_known position target (and_parts (not (out position target)) _ admitted).1;
      taken_exactly_when_fit = λ h target.
          exactly h.position target (below.refuses h target)
          ∙ ap (λ refused. out h.position target || refused) (law.taken_exactly_when_fit h target)
          ∙ kept_out_or_unfit (out h.position target) _ _;
    }
