-- An operation on a drive, and the answer that is shown for it.
use Rattle.std.specs.Prelude.{Some, None, Option, Result}
use Rattle.drives.specs.declared.target.Refusal.{Refusal}
use Rattle.drives.specs.Meaning.{DriveMeaning, energised, de_energised, held_still, sampled, taken, take_answer}
use Rattle.scenario.specs.declared.directive.Operation.{Operation}
use Rattle.scenario.specs.declared.directive.Operation.TheVariants.{Energise, DeEnergise, Hold, Sample, Take}

abbrev pub operated : Operation → DriveMeaning → DriveMeaning
operated Energise drive = energised drive
operated DeEnergise drive = de_energised drive
operated Hold drive = held_still drive
operated (Sample bytes) drive = sampled bytes drive
operated (Take target) drive = taken target drive

-- Only a take answers.
abbrev pub operation_answer : Operation → DriveMeaning → Option (Result (Unit {0}) Refusal)
operation_answer Energise drive = None
operation_answer DeEnergise drive = None
operation_answer Hold drive = None
operation_answer (Sample bytes) drive = None
operation_answer (Take target) drive = Some (take_answer target drive)
