-- A cylinder owes what every make owes.
use Rattle.std.specs.Prelude.{ℕ, refl}
use Rattle.std.proofs.Common.{arith}
use Rattle.drives.specs.Meaning.{Lawful}
use Rattle.drives.proofs.OwnLaws.{own_lawful}
use Rattle.cylinders.specs.Cylinders.{cylinder_make}

pub cylinder_lawful : (k : ℕ) → Lawful (cylinder_make k)
cylinder_lawful k = own_lawful _ _ _ refl (λ position value. refl) (λ position target admitted. grind arith)
