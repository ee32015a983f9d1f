use Rattle.std.proofs.Common.{refl, rules}
use Rattle.replay.proofs.stage.Benches.build.Goals as goal

pub returns-in_default : goal.returns-in_default
returns-in_default c =
    record {
      one_delay = search rules;
      lines = c.in_ok-one.lines;
      side_built = rw c.into_bank.ensures at c.in_ok-one.ensures;
      log_shows = c.in_ok-write_lines.ensures;
    }

pub returns : goal.returns
returns c =
    record {
      delay = c.in-Some.delay;
      two_delays = c.in-Some.is;
      one = c.in_ok-one.lines;
      other = c.in_ok-other.other_lines;
      first_built = rw c.into_bank.ensures at c.in_ok-one.ensures;
      second_built = rw c.into_bank-2.ensures at c.in_ok-other.ensures;
      not_parted = refl;
      log_shows = c.in_ok-show.ensures;
    }
