use Rattle.std.proofs.Common.{◌≡◌, ℕ, List, length, string_bytes, ap, ◌∙◌, rules}
use Rattle.std.proofs.lemmas.List.{take_at}
use Rattle.cabinet.specs.declared.cycle.Cycled.{Cycled}
use Rattle.cabinet_log.specs.AnswerTexts.{cycle_text}
use Rattle.calls.specs.Heard.{cycle_asks}
use Rattle.replay.specs.Sides.{side_stands, image_length}
use Rattle.replay.proofs.Shown.{cycle_shown}
use Rattle.replay.proofs.side.Side.cycle.Goals as goal

pub returns : goal.returns
returns c =
    let image : List ℕ = c.as_mut_slice.result.now in
    let written : List ℕ = c.carry_out-cycled.new.image in
    let cycled : Cycled = c.carry_out-cycled.result in
    let long : length image ≡ image_length c.args.cycle.now.image (side_stands c.args.self.now) = search rules in
    let same : c.as_slice.result.now ≡ written =
    c.as_slice.ensures.value ∙ take_at written _ c.in_ok-image.image.len (c.carry_out-cycled.auto.image ∙ c.as_mut_slice.ensures.len) in
    let text : string_bytes c.in_ok-format.field-0 ≡ cycle_text cycled c.as_slice.result.now = search rules in
    cycle_shown c.args.line (cycle_asks c.args.cycle.now) (length image) image written cycled
    c.args.self.now c.carry_out-cycled.new.self (string_bytes c.in_ok-format.field-0) long c.carry_out-cycled.ensures
    (text ∙ ap (cycle_text cycled) same)
