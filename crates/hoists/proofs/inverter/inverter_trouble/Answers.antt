use Rattle.std.proofs.Common.{◌≡◌, get_or, ◌∙◌, rules}
use lib.Count.{count_trailing_zeros}
use Rattle.hoists.specs.Inverters.{inverter_codes}
use Rattle.hoists.proofs.LowestBit.{named_at, lowest_names}
use Rattle.hoists.proofs.inverter.inverter_trouble.Goals as goal

pub returns : goal.returns
returns c =
    let bits = c.args.bits in
    let found : c.unwrap_or.result ≡ get_or inverter_codes (count_trailing_zeros 16 bits) 0 = search rules in
    let named = found ∙ named_at inverter_codes bits in
    record { value = named; lowest_set_bit_names = λ k set_here clear-below. named ∙ lowest_names inverter_codes bits k set_here clear-below }
