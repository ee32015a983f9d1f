use Rattle.std.proofs.Common.{Ok, vec_items, inr}
use Rattle.std.proofs.lemmas.Result.{err_from_is_err_and}
use Rattle.text.specs.ByteTexts.{bytes_of}
use Rattle.grammar.proofs.NextWord.{read_found}
use Rattle.grammar.proofs.ReadBytes.{bytes_wrong}
use Rattle.grammar.proofs.grammar.take_bytes.Goals as goal

pub returns : goal.returns
returns c =
    inr (read_found bytes_of c.args.words.now c.in_ok-word.word.now c.take_word.new.words
    (Ok (vec_items c.in_ok-bytes.field-0)) c.in_ok-word.ensures c.in_ok-bytes.ensures)

pub returns-in_err-bytes : goal.returns-in_err-bytes
returns-in_err-bytes c =
    let p = err_from_is_err_and c.from_residual-in_err-bytes.result c.from_residual-in_err-bytes.ensures.1 in
    rw (p.1, p.2)
    (bytes_wrong c.args.words.now c.in_ok-word.word.now c.take_word.new.words c.in_ok-word.ensures
    c.in_err-bytes.field-0.0 c.in_err-bytes.ensures)
