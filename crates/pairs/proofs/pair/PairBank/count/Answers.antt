use Rattle.std.proofs.Common.{arith}
use Rattle.pairs.specs.FoundLemmas.{count-side_by_side}
use Rattle.pairs.proofs.pair.PairBank.count.Goals as goal

pub returns : goal.returns
returns g c =
    let pair = c.args.self.now in
    let both = count-side_by_side (g.F.Bank.meanings pair.first) (g.S.Bank.meanings pair.second) in
    omega (arith, both)
