-- Any number of windows taken together make the drive that they make one over the other.
use Rattle.std.specs.Prelude.{◌≡◌, Bool, true, false, not, ◌&&◌, ◌||◌, ℤ, List, [], ◌∷◌, Option, Some, None, refl}
use Rattle.std.proofs.Common.{sym, ◌∙◌, ap, arith}
use Rattle.std.proofs.Math.Path.{fun_ext}
use Rattle.windows.specs.declared.window.Limits.{Limits}
use Rattle.drives.specs.declared.target.Target.{Target}
use Rattle.drives.specs.declared.target.Refusal.{Refusal}
use Rattle.drives.specs.Refusals.{deepened}
use Rattle.drives.specs.Meaning.{DriveMeaning, Lawful}
use Rattle.windows.specs.Guards.{RefusesExactly, RefusesAlone, PassesOn}
use Rattle.windows.specs.Windows.{keeps_out, refusal_above, windowed}
use Rattle.windows.specs.WindowLaws.{limits_refuse_exactly, window_lawful}
use Rattle.stacks.specs.Enclosures.{enclosed, any_keeps_out, refusal_above_all, deepened_by_all, stacked}

or_regrouped : (x y z : Bool) → (y || (x || z)) ≡ ((x || y) || z)
or_regrouped x y z = grind arith

pub windows_refuse_exactly : (windows : List Limits) → RefusesExactly (any_keeps_out windows) (refusal_above_all windows)
windows_refuse_exactly [] position target below = refl
windows_refuse_exactly (w ∷ ws) position target below =
    windows_refuse_exactly ws position target (refusal_above w position target below)
    ∙ ap (λ refused. any_keeps_out ws position target || refused) (limits_refuse_exactly w position target below)
    ∙ or_regrouped (keeps_out w position target) _ _

-- whichever window keeps it out refuses it alone, and those around it see only that refusal
refused_alone :
    (w : Limits) (ws : List Limits) (position : ℤ) (target : Target) (below : Option Refusal) (out : Bool)
    → keeps_out w position target ≡ out
    → RefusesAlone (any_keeps_out ws) (refusal_above_all ws)
    → (out || any_keeps_out ws position target) ≡ true
    → refusal_above_all ws position target (refusal_above w position target below)
    ≡ refusal_above_all ws position target (refusal_above w position target None)
refused_alone w ws position target below true here rest kept = rw here refl
refused_alone w ws position target below false here rest kept =
    rest position target (refusal_above w position target below) kept
    ∙ sym (rest position target (refusal_above w position target None) kept)

pub windows_refuse_alone : (windows : List Limits) → RefusesAlone (any_keeps_out windows) (refusal_above_all windows)
windows_refuse_alone [] position target below out = cc
windows_refuse_alone (w ∷ ws) position target below out =
    refused_alone w ws position target below _ refl (windows_refuse_alone ws) out

passed_on :
    (w : Limits) (ws : List Limits) (position : ℤ) (target : Target) (refusal : Refusal) (out : Bool)
    → keeps_out w position target ≡ out
    → PassesOn (any_keeps_out ws) (refusal_above_all ws) (deepened_by_all ws)
    → (out || any_keeps_out ws position target) ≡ false
    → refusal_above_all ws position target (refusal_above w position target (Some refusal))
    ≡ Some (deepened_by_all ws (deepened refusal))
passed_on w ws position target refusal true here rest passes = cc
passed_on w ws position target refusal false here rest passes = rw here (rest position target (deepened refusal) passes)

pub windows_pass_on : (windows : List Limits) → PassesOn (any_keeps_out windows) (refusal_above_all windows) (deepened_by_all windows)
windows_pass_on [] position target refusal passes = refl
windows_pass_on (w ∷ ws) position target refusal passes =
    passed_on w ws position target refusal _ refl (windows_pass_on ws) passes

neither : (x y z : Bool) → (not (x || y) && z) ≡ (not y && (not x && z))
neither x y z = grind arith

pub stacked_is_enclosed : (drive : DriveMeaning) (windows : List Limits) → stacked drive windows ≡ enclosed drive windows
stacked_is_enclosed drive [] = refl
stacked_is_enclosed drive (w ∷ ws) =
    ap (λ admits. record {
      held = drive.held;
      make = record {
        knows = drive.make.knows;
        admits = admits;
        refuses = (stacked drive (w ∷ ws)).make.refuses;
        reads = drive.make.reads;
      };
    }) (fun_ext (λ position. fun_ext (λ target. neither (keeps_out w position target) _ _)))
    ∙ stacked_is_enclosed (windowed w drive) ws

pub enclosed_lawful : (drive : DriveMeaning) (windows : List Limits) → Lawful drive.make → Lawful (enclosed drive windows).make
enclosed_lawful drive [] law = law
enclosed_lawful drive (w ∷ ws) law = enclosed_lawful (windowed w drive) ws (window_lawful w drive.make law)
