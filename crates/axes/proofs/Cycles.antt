-- A cycle of an axis: the drive samples, moves with the axis and acts on a part, beyond the bank too.
use Rattle.std.proofs.Common.{◌≡◌, ℕ, Bool, cond, not, ◌&&◌, List, ℤ, Some, None, Option, refl, ap, arith}
use Rattle.drives.specs.declared.target.Target.{Target}
use Rattle.drives.specs.Meaning.{DriveMeaning, Make, sampled}
use Rattle.banks.specs.Lists.{absent, drive_at, changed}
use Rattle.fieldbus.specs.declared.frame.Part.{Part}
use Rattle.profile.specs.declared.state.State.{State}
use Rattle.axes.specs.declared.axis.Axis.{Axis}
use Rattle.axes.specs.declared.axis.Line.{Line}
use Rattle.axes.specs.declared.axis.Line.TheVariants.{Acts, RunsOut, Quiet}
use Rattle.axes.specs.Moves.{entering}
use Rattle.axes.specs.Steps.{or_kept, displayed_by, named_target, refusal_of, acted, after_move, heeded}
use Rattle.axes.proofs.Changes.{seen_after}

-- a move leaves the make of the drive alone
entering_make : (from next : State) (drive : DriveMeaning) → (entering from next drive).make ≡ drive.make
entering_make from next drive = grind arith

after_make : (from : State) (move : Option State) (drive : DriveMeaning) → (after_move from move drive).make ≡ drive.make
after_make from None drive = refl
after_make from (Some next) drive = entering_make from next drive

refusal_like : (target : Option Target) (drive : DriveMeaning) → drive.make ≡ absent.make → refusal_of target drive ≡ refusal_of target absent
refusal_like None drive make = refl
refusal_like (Some target) drive make = ap (λ (m : Make). m.refuses drive.held target) make

-- an axis sees no more of a drive of the absent make than of an absent drive
acted_like : (part : Part) (was_enabled : Bool) (axis : Axis) (drive : DriveMeaning) → drive.make ≡ absent.make → acted part was_enabled drive axis ≡ acted part was_enabled absent axis
unfolding acted
acted_like part was_enabled axis drive make =
    let wanted : ℤ = or_kept part.mode axis.wanted in
    let shown : displayed_by part was_enabled drive axis ≡ displayed_by part was_enabled absent axis =
    ap (λ (m : Make). cond (not was_enabled && m.knows wanted) wanted axis.displayed) make in
    rw (shown, refusal_like (named_target part (displayed_by part was_enabled absent axis)) drive make) refl

heeded_like : (line : Line) (was_enabled : Bool) (axis : Axis) (drive : DriveMeaning) → drive.make ≡ absent.make → heeded line was_enabled drive axis ≡ heeded line was_enabled absent axis
heeded_like (Acts part) was_enabled axis drive make = acted_like part was_enabled axis drive make
heeded_like RunsOut was_enabled axis drive make = refl
heeded_like Quiet was_enabled axis drive make = refl

module _ (bytes : List ℕ) (drives : List DriveMeaning) (i : ℕ) where
  pub trouble_sampled : (drive_at (changed (sampled bytes) drives i) i).held.trouble ≡ (sampled bytes (drive_at drives i)).held.trouble
  trouble_sampled = seen_after (sampled bytes) drives i (λ drive. drive.held.trouble) refl

  pub heeded_after : (from : State) (move : Option State) (line : Line) (was_enabled : Bool) (axis : Axis) → heeded line was_enabled (drive_at (changed (λ drive. after_move from move (sampled bytes drive)) drives i) i) axis ≡ heeded line was_enabled (after_move from move (sampled bytes (drive_at drives i))) axis
  heeded_after from move line was_enabled axis =
      seen_after (λ drive. after_move from move (sampled bytes drive)) drives i (λ drive. heeded line was_enabled drive axis)
      (heeded_like line was_enabled axis (after_move from move (sampled bytes absent)) (after_make from move (sampled bytes absent)))
