use Rattle.std.proofs.Common.{arith}
use Rattle.std.proofs.lemmas.Nat.Bits.{and_pow}
use Rattle.fieldbus.proofs.al.acknowledges.Goals as goal

pub returns : goal.returns
returns c = grind (arith, and_pow c.args.control 4)
