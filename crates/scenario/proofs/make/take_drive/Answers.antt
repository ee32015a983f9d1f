use Rattle.std.proofs.Common.{◌≡◌, true, false, codes, rules}
use Rattle.std.specs.Str.{bytes_eq}
use Rattle.std.proofs.lemmas.List.{reverse-append}
use Rattle.std.proofs.lemmas.Slice.Eq.{text_from_reads}
use Rattle.stacks.specs.Enclosed.{stacked_is_enclosed}
use Rattle.scenario.proofs.Turns.{no_name, window_read, wrong_limits, wrong_make, make_read, turn_shorter}
use Rattle.scenario.proofs.make.take_drive.Goals as goal

pub returns-in_err-name : goal.returns-in_err-name
returns-in_err-name c =
    search (rules, no_name c.loop-limits.invariant)

pub returns-in_err-take_limits-in-window : goal.returns-in_err-take_limits-in-window
returns-in_err-take_limits-in-window c =
    let name : c.in_ok-name.name.now ≡ codes "window" = search (rules, text_from_reads) in
    let window : bytes_eq c.in_ok-name.name.now (codes "window") ≡ true = rw name in
    search (rules, wrong_limits c.loop-limits.invariant c.in_ok-name.ensures window)

pub loop-limits-smaller : goal.loop-limits-smaller
loop-limits-smaller c =
    turn_shorter c.loop-limits.invariant c.in_ok-name.ensures c.in_ok-take_limits-in-window.ensures

pub loop-limits-preserved : goal.loop-limits-preserved
loop-limits-preserved c =
    let name : c.in_ok-name.name.now ≡ codes "window" = search (rules, text_from_reads) in
    let window : bytes_eq c.in_ok-name.name.now (codes "window") ≡ true = rw name in
    search (rules, reverse-append, window_read c.loop-limits.invariant c.in_ok-name.ensures window c.in_ok-take_limits-in-window.ensures)

pub returns-in_err-make-in_default : goal.returns-in_err-make-in_default
returns-in_err-make-in_default c =
    let other : bytes_eq c.in_ok-name.name.now (codes "window") ≡ false = search rules in
    search (rules, wrong_make c.loop-limits.invariant c.in_ok-name.ensures other)

pub returns-in_default : goal.returns-in_default
returns-in_default c =
    let other : bytes_eq c.in_ok-name.name.now (codes "window") ≡ false = search rules in
    search (rules, stacked_is_enclosed, make_read c.loop-limits.invariant c.in_ok-name.ensures other c.in_ok-make-in_default.ensures)
