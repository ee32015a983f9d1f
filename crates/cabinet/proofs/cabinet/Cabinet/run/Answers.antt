use Rattle.std.proofs.Common.{ap, ◌∙◌, rules}
use Rattle.cabinet.specs.Cabinets.{Standing, axis_count}
use Rattle.cabinet.proofs.Steps.{stepped_count}
use Rattle.cabinet.proofs.cabinet.Cabinet.run.Goals as goal

pub write_image-requires : goal.write_image-requires
write_image-requires g c =
    rw (stepped_count _ _ c.cycle_each.ensures ∙ ap (λ (s : Standing). axis_count s.drives) c.hear-heard.ensures.stands) (search rules)
