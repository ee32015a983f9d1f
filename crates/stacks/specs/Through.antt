-- What is done to a drive and asked of it goes through any number of windows.
use Rattle.std.specs.Prelude.{◌≡◌, Bool, true, false, cond, not, ◌&&◌, List, [], ◌∷◌, Some, None, fold, Option, refl}
use Rattle.std.proofs.Common.{sym, ◌∙◌}
use Rattle.std.proofs.Math.Path.{ap}
use Rattle.std.specs.Option.{option_map}
use Rattle.drives.specs.declared.target.Refusal.{Refusal}
use Rattle.drives.specs.declared.target.Target.{Target}
use Rattle.windows.specs.declared.window.Limits.{Limits}
use Rattle.drives.specs.Refusals.{deepened}
use Rattle.drives.specs.Holdings.{driven, taken_held, answered}
use Rattle.drives.specs.Meaning.{DriveMeaning, now_holding, taken, take_answer, refused_by, admitted_by}
use Rattle.windows.specs.Windows.{windowed, keeps_out, refusal_above}
use Rattle.stacks.specs.Enclosures.{enclosed}

-- an operation that goes through one window goes through all of them
pub through :
    (f : DriveMeaning → DriveMeaning)
    → ((limits : Limits) (drive : DriveMeaning) → f (windowed limits drive) ≡ windowed limits (f drive))
    → (drive : DriveMeaning) (windows : List Limits) → f (enclosed drive windows) ≡ enclosed (f drive) windows
through f one drive [] = refl
through f one drive (w ∷ ws) = through f one (windowed w drive) ws ∙ ap (λ d. enclosed d ws) (one w drive)

-- what is seen through one window is seen through all of them
pub seen :
    {X : Type 0} (q : DriveMeaning → X)
    → ((limits : Limits) (drive : DriveMeaning) → q (windowed limits drive) ≡ q drive)
    → (drive : DriveMeaning) (windows : List Limits) → q (enclosed drive windows) ≡ q drive
seen q one drive [] = refl
seen q one drive (w ∷ ws) = seen q one (windowed w drive) ws ∙ one w drive

module _ (target : Target) where
  -- the refusal, gathered from the innermost window outwards
  pub refusal_gathered :
      (drive : DriveMeaning) (windows : List Limits)
      → refused_by target (enclosed drive windows)
      ≡ fold (λ below limits. refusal_above limits drive.held.position target below) (refused_by target drive) windows
  refusal_gathered drive [] = refl
  refusal_gathered drive (w ∷ ws) = refusal_gathered (windowed w drive) ws

  pub admission_gathered :
      (drive : DriveMeaning) (windows : List Limits)
      → admitted_by target (enclosed drive windows)
      ≡ fold (λ below limits. not (keeps_out limits drive.held.position target) && below) (admitted_by target drive) windows
  admission_gathered drive [] = refl
  admission_gathered drive (w ∷ ws) = admission_gathered (windowed w drive) ws

  none_under : (out : Bool) (r : Refusal) (below : Option Refusal) → cond out (Some r) (option_map deepened below) ≡ None → below ≡ None
  none_under true r below e = cc
  none_under false r None e = refl
  none_under false r (Some x) e = cc

  -- what no window refuses and the drive does not refuse
  none_below : (drive : DriveMeaning) (windows : List Limits) → refused_by target (enclosed drive windows) ≡ None → refused_by target drive ≡ None
  none_below drive [] free = free
  none_below drive (w ∷ ws) free =
      none_under (keeps_out w drive.held.position target) _ (refused_by target drive) (none_below (windowed w drive) ws free)

  carrying : DriveMeaning → DriveMeaning
  carrying drive = now_holding (driven drive.held.powered (Some target) drive.held) drive

  taken_free : (drive : DriveMeaning) → refused_by target drive ≡ None → taken target drive ≡ carrying drive
  unfolding carrying
  taken_free drive free = ap (λ r. now_holding (taken_held target r drive.held) drive) free

  pub taken_through :
      (drive : DriveMeaning) (windows : List Limits)
      → refused_by target (enclosed drive windows) ≡ None
      → taken target (enclosed drive windows) ≡ enclosed (taken target drive) windows
  unfolding carrying
  taken_through drive windows free =
      taken_free (enclosed drive windows) free
      ∙ through carrying (λ limits d. refl) drive windows
      ∙ ap (λ d. enclosed d windows) (sym (taken_free drive (none_below drive windows free)))

  pub answer_free :
      (drive : DriveMeaning) (windows : List Limits)
      → refused_by target (enclosed drive windows) ≡ None
      → take_answer target drive ≡ take_answer target (enclosed drive windows)
  answer_free drive windows free = ap answered (none_below drive windows free ∙ sym free)
