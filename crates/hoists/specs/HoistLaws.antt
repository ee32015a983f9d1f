-- A hoist owes what every make owes.
use Rattle.std.specs.Prelude.{ℕ, ℤ, refl}
use Rattle.std.proofs.Common.{arith}
use Rattle.drives.specs.Meaning.{Lawful}
use Rattle.drives.proofs.OwnLaws.{own_lawful}
use Rattle.hoists.specs.Hoists.{hoist_make}

pub hoist_lawful : (lowest highest : ℤ) (speed : ℕ) → Lawful (hoist_make lowest highest speed)
hoist_lawful lowest highest speed = own_lawful _ _ _ refl (λ position value. refl) (λ position target admitted. grind arith)
