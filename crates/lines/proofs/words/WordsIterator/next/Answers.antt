use Rattle.std.proofs.Common.{◌≡◌, [], ◌-◌, length, take, drop, rules, refl, sym, ap, ◌∙◌, tests}
use Rattle.std.proofs.lemmas.Iterator.{YieldsList-from_slice}
use Rattle.std.proofs.lemmas.Iterator.Search.{position_from_yields_List}
use Rattle.std.proofs.lemmas.List.{take_rest}
use Rattle.lines.specs.Lines.{is_blank}
use Rattle.lines.proofs.LineLaws.{up_to_first, not_blank, no_word, first_word}
use Rattle.lines.proofs.words.WordsIterator.next.Goals as goal

pub returns-in_default-clause-steps : goal.returns-in_default-clause-steps
returns-in_default-clause-steps c =
    let bytes = c.self.inside.rest.now in
    let found = position_from_yields_List not_blank _ _ c.position.result c.position.ensures.ran (YieldsList-from_slice bytes cc) (λ x b q k. search (rules, tests)) in
    let none : c.args.self.now ≡ [] = sym c.self.view_is ∙ no_word bytes cc in
    (none, refl)

pub returns-clause-steps : goal.returns-clause-steps
returns-clause-steps c =
    let bytes = c.self.inside.rest.now in
    let text = take (length bytes - c.in-Some.start) (drop c.in-Some.start bytes) in
    let found = position_from_yields_List not_blank _ _ c.position.result c.position.ensures.ran (YieldsList-from_slice bytes cc) (λ x b q k. search (rules, tests)) in
    let ends = position_from_yields_List is_blank _ _ c.position-end.result c.position-end.ensures.ran (YieldsList-from_slice text cc) (λ x b q k. search (rules, tests)) in
    rw (← c.self.view_is, c.split_at.ensures.front, c.split_at.ensures.back, c.unwrap_or.ensures ∙ up_to_first is_blank text c.position-end.result ends)
    (first_word bytes c.in-Some.start text (cc) (take_rest bytes c.in-Some.start))

pub returns-clause-goes : goal.returns-clause-goes
returns-clause-goes c = let shorter = ap length (returns-clause-steps c) in search rules
