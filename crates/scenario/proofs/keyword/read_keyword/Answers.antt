use Rattle.std.proofs.Common.{◌≡◌, codes, rules}
use Rattle.std.proofs.lemmas.Slice.Eq.{text_from_reads}
use Rattle.scenario.proofs.keyword.read_keyword.Goals as goal

pub returns-in-energise : goal.returns-in-energise
returns-in-energise c =
    let whole : c.args.name.now ≡ codes "energise" = search (rules, text_from_reads) in
    rw whole

pub returns-in-deenergise : goal.returns-in-deenergise
returns-in-deenergise c =
    let whole : c.args.name.now ≡ codes "deenergise" = search (rules, text_from_reads) in
    rw whole

pub returns-in-sample : goal.returns-in-sample
returns-in-sample c =
    let whole : c.args.name.now ≡ codes "sample" = search (rules, text_from_reads) in
    rw whole
