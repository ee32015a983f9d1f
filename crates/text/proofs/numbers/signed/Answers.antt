use Rattle.std.proofs.Common.{rules}
use Rattle.std.proofs.lemmas.Int.{to_z-of_z}
use Rattle.text.specs.Numerals.{integer_of}
use Rattle.text.proofs.RangeLaws.{inside, outside}
use Rattle.text.proofs.numbers.signed.Goals as goal

pub returns-then-not-contains : goal.returns-then-not-contains
returns-then-not-contains c =
    outside c.args.lowest c.args.highest c.in_ok-value.value (integer_of c.args.word.now) c.ranges.lowest c.ranges.highest (search rules) (search (rules, to_z-of_z))

pub returns : goal.returns
returns c =
    inside c.args.lowest c.args.highest c.in_ok-value.value (integer_of c.args.word.now) c.ranges.lowest c.ranges.highest (search rules) (search (rules, to_z-of_z))
