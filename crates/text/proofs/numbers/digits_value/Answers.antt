use Rattle.std.proofs.Common.{◌+◌, ◌*◌, Some, ◌∙◌, arith}
use Rattle.text.proofs.NumberLaws.{digit_in_is, kept_more, digit_more}
use Rattle.text.proofs.numbers.digits_value.Goals as goal

pub loop-byte-preserved : goal.loop-byte-preserved
loop-byte-preserved c =
    let base = c.args.base in
    let digit = c.in_ok-digit.digit in
    let so_far = c.loop-byte.invariant in
    let is = digit_in_is base c.from.result (Some digit) c.requires.few c.in_ok-digit.ensures.value in
    let more = digit_more base so_far.0 c.loop-byte.byte-index digit c.args.digits.now c.loop-byte-test.true cc in
    (so_far.0 * base + digit, cc (kept_more base so_far.0 digit (omega arith)), more ∙ so_far.2)
