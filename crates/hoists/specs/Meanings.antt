-- What a hoist means, as the code has it.
use Rattle.drives.specs.Meaning.{DriveMeaning}
use Rattle.drives.specs.declared.made.MadeDrive.{MadeDrive}
use Rattle.hoists.specs.declared.hoist.HoistMake.{HoistMake}
use Rattle.hoists.specs.Hoists.{hoist_meaning}

abbrev pub hoist_is : MadeDrive HoistMake → DriveMeaning
hoist_is d = hoist_meaning d.make.lowest d.make.highest d.make.greatest_speed d.held
