-- Any number of windows over a drive, the innermost first.
use Rattle.std.specs.Prelude.{Bool, List, ℤ, Option, fold}
use Rattle.std.specs.List.{list_any}
use Rattle.drives.specs.declared.target.Target.{Target}
use Rattle.drives.specs.declared.target.Refusal.{Refusal}
use Rattle.drives.specs.Refusals.{deepened}
use Rattle.drives.specs.Meaning.{DriveMeaning}
use Rattle.windows.specs.declared.window.Limits.{Limits}
use Rattle.windows.specs.declared.guard.Guarded.{Guarded}
use Rattle.windows.specs.Guards.{guarded}
use Rattle.windows.specs.Windows.{keeps_out, refusal_above, windowed}
use Rattle.stacks.specs.declared.stack.Enclosure.{Enclosure}

abbrev pub enclosed : DriveMeaning → List Limits → DriveMeaning
enclosed drive windows = fold (λ below limits. windowed limits below) drive windows

-- Whether any of the windows keeps a target out at a held position.
abbrev pub any_keeps_out : List Limits → ℤ → Target → Bool
any_keeps_out windows position target = list_any (λ limits. keeps_out limits position target) windows

-- The refusal with all of them above, each above those within it.
abbrev pub refusal_above_all : List Limits → ℤ → Target → Option Refusal → Option Refusal
refusal_above_all windows position target below = fold (λ r limits. refusal_above limits position target r) below windows

-- A refusal from below of a target that none of them keeps out: each window deepens it.
abbrev pub deepened_by_all : List Limits → Refusal → Refusal
deepened_by_all windows refusal = fold (λ r limits. deepened r) refusal windows

-- The windows together as one guard.
abbrev pub stacked : DriveMeaning → List Limits → DriveMeaning
stacked drive windows = guarded (any_keeps_out windows) (refusal_above_all windows) drive

abbrev pub Stack : Type 0 → Type 0
Stack D = Guarded Enclosure D
