use Rattle.std.proofs.Common.{Some, ◌∙◌, rules}
use Rattle.scenario.specs.Heard.{says}
use Rattle.bench.proofs.run.Bench.follow.Goals as goal

pub returns : goal.returns
returns c =
    let shows = c.in_ok-shown.ensures in
    record {
      said = Some (says c.in-Some.directive);
      line_says_it = search rules;
      bank_follows = shows.followed_it;
      log_shows = c.in_ok-writeln.ensures.bytes ∙ rw (shows.line_number, shows.directive_name, shows.answer_is_shown, shows.drive_shown, shows.drive_number);
    }
