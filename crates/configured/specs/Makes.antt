-- A drive of a make chosen at run time means what a drive of the chosen make means.
use Rattle.std.specs.Prelude.{◌≡◌, refl}
use Rattle.drives.specs.declared.held.Held.{Held}
use Rattle.drives.specs.declared.made.MadeDrive.{MadeDrive}
use Rattle.drives.specs.Meaning.{DriveMeaning, Make}
use Rattle.hoists.specs.declared.hoist.HoistMake.{HoistMake}
use Rattle.hoists.specs.Hoists.{hoist_make}
use Rattle.hoists.specs.Meanings.{hoist_is}
use Rattle.cylinders.specs.declared.scale.Scale.{Scale}
use Rattle.cylinders.specs.Cylinders.{cylinder_make}
use Rattle.cylinders.specs.Meanings.{cylinder_is}
use Rattle.configured.specs.declared.make.AnyMake.{AnyMake}
use Rattle.configured.specs.declared.make.AnyMake.TheVariants.{Hoist, Cylinder}

-- the make that was chosen
abbrev pub chosen_make : AnyMake → Make
chosen_make (Hoist make) = hoist_make make.lowest make.highest make.greatest_speed
chosen_make (Cylinder scale) = cylinder_make scale.k

-- the drive as the code has it
abbrev pub make_is : MadeDrive AnyMake → DriveMeaning
make_is d = record { held = d.held; make = chosen_make d.make }

-- holding the same, it is the hoist or the cylinder of the make that was chosen
pub hoist_chosen : (make : HoistMake) (h : Held) → make_is (record { make = Hoist make; held = h }) ≡ hoist_is (record { make = make; held = h })
hoist_chosen make h = refl

pub cylinder_chosen : (scale : Scale) (h : Held) → make_is (record { make = Cylinder scale; held = h }) ≡ cylinder_is (record { make = scale; held = h })
cylinder_chosen scale h = refl
