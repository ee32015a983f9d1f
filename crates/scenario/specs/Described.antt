-- What was described, as a meaning.
use Rattle.std.specs.Prelude.{Ok, Err, vec_items, Result}
use Rattle.drives.specs.Holdings.{at_rest}
use Rattle.drives.specs.Meaning.{DriveMeaning}
use Rattle.drives.specs.declared.made.MadeDrive.{MadeDrive}
use Rattle.configured.specs.declared.make.AnyMake.{AnyMake}
use Rattle.configured.specs.Makes.{make_is}
use Rattle.stacks.specs.Enclosures.{Stack, stacked}
use Rattle.grammar.specs.declared.wrong.Wrong.{Wrong}

abbrev pub stack_is : Stack (MadeDrive AnyMake) → DriveMeaning
stack_is drive = stacked (make_is drive.below) (vec_items drive.guard.windows)

-- a drive of the make, at rest
abbrev pub make_described : Result AnyMake Wrong → Result DriveMeaning Wrong
make_described (Ok make) = Ok (make_is (record { make = make; held = at_rest }))
make_described (Err wrong) = Err wrong

abbrev pub drive_described : Result (Stack (MadeDrive AnyMake)) Wrong → Result DriveMeaning Wrong
drive_described (Ok drive) = Ok (stack_is drive)
drive_described (Err wrong) = Err wrong
