-- What a cylinder means, as the code has it.
use Rattle.drives.specs.Meaning.{DriveMeaning}
use Rattle.drives.specs.declared.made.MadeDrive.{MadeDrive}
use Rattle.cylinders.specs.declared.scale.Scale.{Scale}
use Rattle.cylinders.specs.Cylinders.{cylinder_meaning}

abbrev pub cylinder_is : MadeDrive Scale → DriveMeaning
cylinder_is d = cylinder_meaning d.make.k d.held
