use Rattle.std.proofs.Common.{take, rules, ap, ◌∙◌, tests}
use Rattle.std.proofs.lemmas.Iterator.{YieldsList-from_slice}
use Rattle.std.proofs.lemmas.Iterator.Search.{position_from_yields_List}
use Rattle.lines.specs.Lines.{is_hash}
use Rattle.lines.proofs.LineLaws.{up_to_first}
use Rattle.lines.proofs.words.without_comment.Goals as goal

pub returns : goal.returns
returns c =
    let text = c.args.text.now in
    let found = position_from_yields_List is_hash _ _ c.position-end.result c.position-end.ensures.ran (YieldsList-from_slice text cc) (λ x b q k. search (rules, tests)) in
    ap (λ n. take n text) (c.unwrap_or.ensures ∙ up_to_first is_hash text c.position-end.result found)
