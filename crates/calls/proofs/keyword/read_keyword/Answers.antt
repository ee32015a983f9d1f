use Rattle.std.proofs.Common.{◌≡◌, codes, rules}
use Rattle.std.proofs.lemmas.Slice.Eq.{text_from_reads}
use Rattle.calls.proofs.keyword.read_keyword.Goals as goal

pub returns-in-cabinet : goal.returns-in-cabinet
returns-in-cabinet c =
    let whole : c.args.name.now ≡ codes "cabinet" = search (rules, text_from_reads) in
    rw whole
