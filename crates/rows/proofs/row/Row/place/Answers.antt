use Rattle.std.proofs.Common.{ltb, ap}
use Rattle.rows.specs.InRow.{place_is}
use Rattle.rows.proofs.row.Row.place.Goals as goal

pub returns : goal.returns
returns g c =
    rw (c.then_some.ensures, c.from.ensures) (place_is g.D.Drive.meaning c.args.self.now.drives.items c.args.number _ (ap (ltb c.args.number) c.count.ensures))
