use Rattle.std.proofs.Common.{⊎_elim, arith}
use Rattle.pairs.specs.FoundLemmas.{found_first, found_beyond, found_second}
use Rattle.pairs.proofs.pair.Pair.place.Goals as goal

pub returns-then-number-eq255 : goal.returns-then-number-eq255
returns-then-number-eq255 g c =
    let first = g.F.Bank.meanings c.args.self.now.first in
    let second = g.S.Bank.meanings c.args.self.now.second in
    let few = g.met.F.Bank.few c.args.self.now.first in
    ⊎_elim
    (λ below. found_first first second few c.args.number (omega (arith, c.count-count.ensures)))
    (λ beyond. found_beyond first second few c.args.number (omega arith))
    c.if-number-eq255.either

pub returns-else-number-eq255 : goal.returns-else-number-eq255
returns-else-number-eq255 g c =
    let first = g.F.Bank.meanings c.args.self.now.first in
    let second = g.S.Bank.meanings c.args.self.now.second in
    let few = g.met.F.Bank.few c.args.self.now.first in
    rw c.count-count.ensures (found_second first second few c.args.number (omega arith) (omega (arith, c.ranges.number)))
