use Rattle.std.proofs.Common.{arith}
use Rattle.std.proofs.lemmas.Int.{to_z-of_z}
use Rattle.grammar.specs.Grammar.{word_in, read_in}
use Rattle.grammar.proofs.grammar.take_signed.Goals as goal

pub returns-in_err-signed : goal.returns-in_err-signed
unfolding word_in read_in
returns-in_err-signed c = grind (arith, to_z-of_z, c.in_err-signed.ensures)
