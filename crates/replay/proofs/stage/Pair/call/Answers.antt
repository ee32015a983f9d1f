use Rattle.std.proofs.Common.{◌∙◌, rules}
use Rattle.replay.proofs.stage.Pair.call.Goals as goal

pub returns : goal.returns
returns c =
    record {
      one = c.in_ok-first.first;
      other = c.in_ok-second.second;
      first_shown = c.in_ok-first.ensures;
      second_shown = c.in_ok-second.ensures;
      parted_noted = search rules;
      log_shows = c.in_ok-show.ensures ∙ rw (c.heading.ensures.line, c.heading.ensures.word);
    }
