use Rattle.std.proofs.Common.{◌∙◌}
use Rattle.replay.proofs.stage.call_one.Goals as goal

pub returns : goal.returns
returns c =
    record {
      lines = c.in_ok-lines.lines;
      call_shown = c.in_ok-lines.ensures;
      log_shows = c.in_ok-write_lines.ensures ∙ rw (c.heading.ensures.line, c.heading.ensures.word);
    }
