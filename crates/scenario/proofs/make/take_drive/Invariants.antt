use Rattle.std.proofs.Common.{reverse, length, vec_items}
use Rattle.scenario.specs.Makes.{make_in}
use Rattle.scenario.proofs.Turns.{Still}
use Rattle.scenario.proofs.make.take_drive.Given as goal

abbrev pub invariant-loop-limits : goal.invariant-loop-limits
invariant-loop-limits l = Still (make_in l.initial.words) (reverse (vec_items l.limits)) l.words

abbrev pub decreases-loop-limits : goal.decreases-loop-limits
decreases-loop-limits l = length l.words
