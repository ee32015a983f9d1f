-- An integer in a range, where past every range one integer is kept.
use Rattle.std.proofs.Common.{◌≡◌, true, false, ◌&&◌, ℤ, Some, None, Ok, Err, Option, arith, w32, w64, SFits, to_z, of_z}
use lib.Signed.{le_z}
use Rattle.std.specs.Option.{option_map}
use Rattle.std.proofs.lemmas.Int.{ints}
use Rattle.text.specs.declared.fault.Fault.TheVariants.{OutOfRange}
use Rattle.text.specs.Kept.{kept_integer}
use Rattle.text.specs.Numerals.{within}

pub outside : (lowest highest v : ℤ) (o : Option ℤ) → SFits w32 lowest → SFits w32 highest → Some v ≡ option_map kept_integer o → (le_z lowest v && le_z v highest) ≡ false → Err OutOfRange ≡ within lowest highest o
outside lowest highest v None low high is out = cc
outside lowest highest v (Some z) low high is out = grind (arith, ints)

pub inside : (lowest highest v : ℤ) (o : Option ℤ) → SFits w32 lowest → SFits w32 highest → Some v ≡ option_map kept_integer o → (le_z lowest v && le_z v highest) ≡ true → Ok (to_z w32 (of_z w32 (to_z w64 (of_z w64 v)))) ≡ within lowest highest o
inside lowest highest v None low high is out = cc
inside lowest highest v (Some z) low high is out = grind (arith, ints)
