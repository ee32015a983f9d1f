use Rattle.std.proofs.Common.{◌≡◌, rules, codes}
use Rattle.std.proofs.lemmas.Slice.Eq.{text_from_reads}
use Rattle.scenario.specs.Makes.{named_in}
use Rattle.scenario.proofs.make.take_named.Goals as goal

pub returns-in-cylinder : goal.returns-in-cylinder
unfolding named_in
returns-in-cylinder c =
    let whole : c.args.name.now ≡ codes "cylinder" = search (rules, text_from_reads) in
    rw whole (search rules)
