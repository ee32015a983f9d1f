use Rattle.std.proofs.Common.{[], ◌∷◌, codes, decimal, append_assoc}
use Rattle.replay.proofs.closing.write_run_out.Goals as goal

pub returns-in-None : goal.returns-in-None
returns-in-None c =
    rw (← c.ran_out.ensures, c.in-None.is, ← c.delay-delay.ensures, append_assoc (decimal c.delay-delay.result) (codes ": the watch did not run out") (10 ∷ []))
    c.writeln-in-None.ensures.bytes
