use Rattle.std.proofs.Common.{◌≡◌, true, false, Err, sym, ap, ◌∙◌, rules}
use Rattle.text.specs.ByteTexts.{is_dash, all_digits, fault_of}
use Rattle.text.proofs.ByteLaws.{bytes_decode, faulty, refused}
use Rattle.text.proofs.bytes.bytes.Goals as goal

pub returns-in_err-bytes : goal.returns-in_err-bytes
returns-in_err-bytes c =
    let word = c.args.word.now in
    let plain : is_dash word ≡ false = search rules in
    let digits : all_digits word ≡ true = search rules in
    let e = c.in_err-bytes.field-0.0 in
    let is : c.from_residual.result ≡ Err (fault_of e) = search rules in
    rw is (refused word e plain digits c.in_err-bytes.ensures.err (λ odd. cc (c.in_err-bytes.ensures.odd odd)))

pub returns : goal.returns
returns c =
    let word = c.args.word.now in
    let plain : is_dash word ≡ false = search rules in
    let digits : all_digits word ≡ true = search rules in
    sym (bytes_decode word plain digits ∙ ap faulty c.in_ok-bytes.ensures.ok)
