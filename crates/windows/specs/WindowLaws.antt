-- A window keeps what the drive below it owes, and what it lets pass is done below.
use Rattle.std.specs.Prelude.{◌≡◌, Bool, true, false, cond, ◌||◌, is_some, Some, None, Ok, Err, Option, refl}
use Rattle.std.proofs.Common.{ap}
use Rattle.std.specs.Option.{option_map}
use Rattle.drives.specs.declared.target.Refusal.{Refusal}
use Rattle.windows.specs.declared.window.Limits.{Limits}
use Rattle.drives.specs.Refusals.{deepened}
use Rattle.drives.specs.declared.target.Target.{Target}
use Rattle.drives.specs.Holdings.{taken_held, answered}
use Rattle.drives.specs.Meaning.{Make, Lawful, DriveMeaning, now_holding, taken, take_answer, refused_by}
use Rattle.windows.specs.Guards.{RefusesExactly, RefusesAlone, PassesOn, guarded_lawful}
use Rattle.windows.specs.Windows.{keeps_out, refusal_above, window_make, windowed}

refused_above :
    (out : Bool) (r : Refusal) (below : Option Refusal)
    → is_some (cond out (Some r) (option_map deepened below)) ≡ (out || is_some below)
refused_above true r below = refl
refused_above false r None = refl
refused_above false r (Some x) = refl

pub limits_refuse_exactly : (limits : Limits) → RefusesExactly (keeps_out limits) (refusal_above limits)
limits_refuse_exactly limits position target below = refused_above (keeps_out limits position target) _ below

pub limits_refuse_alone : (limits : Limits) → RefusesAlone (keeps_out limits) (refusal_above limits)
limits_refuse_alone limits position target below out = rw out refl

pub limits_pass_on : (limits : Limits) → PassesOn (keeps_out limits) (refusal_above limits) deepened
limits_pass_on limits position target refusal passes = rw passes refl

pub window_lawful : (limits : Limits) (below : Make) → Lawful below → Lawful (window_make limits below)
window_lawful limits below law = guarded_lawful (keeps_out limits) (refusal_above limits) (limits_refuse_exactly limits) below law

-- What the drive below makes of a target that the limits let pass, seen through the window.
module _ (limits : Limits) (target : Target) (below : DriveMeaning) (passes : keeps_out limits below.held.position target ≡ false) where
  passed_refusal : refused_by target (windowed limits below) ≡ option_map deepened (refused_by target below)
  passed_refusal = rw passes refl

  -- it carries what the drive below carries
  pub passed_carries : (after : DriveMeaning) → after ≡ taken target below → windowed limits after ≡ taken target (windowed limits below)
  passed_carries after e = rw (e, passed_refusal) (go (refused_by target below))
    where
      go :
          (r : Option Refusal)
          → windowed limits (now_holding (taken_held target r below.held) below)
          ≡ now_holding (taken_held target (option_map deepened r) below.held) (windowed limits below)
      go None = refl
      go (Some r) = refl

  pub passed_taken : Ok tt ≡ take_answer target below → Ok tt ≡ take_answer target (windowed limits below)
  passed_taken e = rw passed_refusal (go (refused_by target below) e)
    where
      go : (r : Option Refusal) → Ok tt ≡ answered r → Ok tt ≡ answered (option_map deepened r)
      go None e' = refl
      go (Some r) e' = cc

  pub passed_refused : (r : Refusal) → Err r ≡ take_answer target below → Err (deepened r) ≡ take_answer target (windowed limits below)
  passed_refused r e = rw passed_refusal (go (refused_by target below) e)
    where
      go : (o : Option Refusal) → Err r ≡ answered o → Err (deepened r) ≡ answered (option_map deepened o)
      go None e' = cc
      go (Some x) e' = let same : r ≡ x = cc in ap (λ y. Err (deepened y)) same
