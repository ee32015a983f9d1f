use Rattle.rows.specs.InRow.{row_pushed}
use Rattle.rows.proofs.row.Row.push.Goals as goal

pub returns-clause-joins_the_bank : goal.returns-clause-joins_the_bank
returns-clause-joins_the_bank g c = row_pushed g.D.Drive.meaning _ _ c.args.drive _ c.push.ensures.items
