-- A make that stands alone owes little: the rest follows from the order of its checks.
use Rattle.std.proofs.Common.{◌≡◌, ℕ, Bool, true, false, not, ◌&&◌, eqb, List, ℤ, pos, is_some, arith}
use Rattle.drives.specs.declared.target.Target.{Target}
use Rattle.drives.specs.declared.held.Held.{Held}
use Rattle.drives.specs.Holdings.{Reading, own_refusal}
use Rattle.drives.specs.Meaning.{Lawful, own_make}

refused_unless_fit :
    (h : Held) (known admitted : Bool)
    → (admitted ≡ true → known ≡ true)
    → is_some (own_refusal h known admitted) ≡ not ((h.powered && eqb h.trouble 0) && admitted)
refused_unless_fit h known admitted known-if = grind arith

pub own_lawful :
    (knows : ℤ → Bool) (admits : ℤ → Target → Bool) (reads : Held → List ℕ → Reading)
    → knows (pos 0) ≡ true
    → ((position value : ℤ) → admits position (record { mode = pos 0; value = value }) ≡ false)
    → ((position : ℤ) (target : Target) → admits position target ≡ true → knows target.mode ≡ true)
    → Lawful (own_make knows admits reads)
own_lawful knows admits reads zero-known zero-admits-nothing admitted_is_known =
    record {
      mode_zero_known = zero-known;
      mode_zero_admits_nothing = zero-admits-nothing;
      admitted_is_known = admitted_is_known;
      taken_exactly_when_fit = λ h target.
          refused_unless_fit h (knows target.mode) (admits h.position target) (admitted_is_known h.position target);
    }
