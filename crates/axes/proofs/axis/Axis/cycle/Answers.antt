use Rattle.std.proofs.Common.{ℕ, List, Option, ap}
use Rattle.drives.specs.declared.held.Held.{Held}
use Rattle.drives.specs.Meaning.{DriveMeaning, sampled}
use Rattle.banks.specs.Lists.{drive_at}
use Rattle.profile.specs.declared.state.State.{State}
use Rattle.axes.specs.declared.axis.Axis.{Axis}
use Rattle.axes.specs.Moves.{is_enabled}
use Rattle.axes.specs.Steps.{after_move, moved, stop_cause, cycle_move, heeded_drive, axis_under, drive_under}
use Rattle.axes.proofs.Changes.{changed_twice}
use Rattle.axes.proofs.Cycles.{trouble_sampled, heeded_after}
use Rattle.axes.proofs.axis.Axis.cycle.Goals as goal

pub returns : goal.returns
unfolding axis_under drive_under
returns g c =
    let bytes : List ℕ = c.args.record.now in
    let axis : Axis = c.args.self.now in
    let drives : List DriveMeaning = g.B.Bank.meanings c.args.bank.now in
    let i : ℕ = c.args.number in
    let trouble : ℕ = (sampled bytes (drive_at drives i)).held.trouble in
    let move : Option State = cycle_move c.args.line trouble axis in
    let after : Axis = moved (stop_cause trouble) move axis in
    let told = ap (λ (held : Held). held.trouble) c.held_at-trouble.ensures in
    rw (c.heed.ensures.driven, c.heed.ensures.noted, c.enter.ensures, c.make_move-entered.ensures.moves, c.make_move-entered.ensures.decides, told, c.sample_at.ensures, c.is_enabled-was_enabled.ensures, trouble_sampled bytes drives i, changed_twice (sampled bytes) drives i (after_move axis.state move))
    (record {
      axis_steps = heeded_after bytes drives i axis.state move c.args.line (is_enabled axis.state) after;
      drive_steps = changed_twice (λ drive. after_move axis.state move (sampled bytes drive)) drives i (heeded_drive c.args.line (is_enabled axis.state) after);
    })
