-- The bank on the bench, and what a line makes of it.
use Rattle.std.specs.Prelude.{◌≡◌, ℕ, ◌⊎◌, List, [], ◌∷◌, ◌++◌, length, Some, None, Ok, Err, vec_items, codes, Option, Result}
use Rattle.text.specs.declared.fault.Fault.TheVariants.{NoMemory}
use Rattle.grammar.specs.declared.wrong.Wrong.{Wrong}
use Rattle.grammar.specs.declared.wrong.Wrong.TheVariants.{Word}
use Rattle.drives.specs.declared.target.Refusal.{Refusal}
use Rattle.drives.specs.Meaning.{DriveMeaning}
use Rattle.banks.specs.Lists.{drive_at, changed}
use Rattle.drive_log.specs.Added.{newline}
use Rattle.drives.specs.declared.made.MadeDrive.{MadeDrive}
use Rattle.configured.specs.declared.make.AnyMake.{AnyMake}
use Rattle.rows.specs.declared.row.Row.{Row}
use Rattle.rows.specs.Rows.{in_row, with_drive}
use Rattle.stacks.specs.Enclosures.{Stack}
use Rattle.scenario.specs.declared.directive.Operation.TheVariants.{Energise, DeEnergise, Hold, Sample, Take}
use Rattle.scenario.specs.Described.{stack_is}
use Rattle.scenario.specs.Directives.{Said, Declares, Operates, line_says}
use Rattle.bench.specs.declared.log.BenchLine.{BenchLine}
use Rattle.bench.specs.Texts.{line_text}
use Rattle.bench.specs.Operations.{operated, operation_answer}

abbrev pub bank_is : Row (Stack (MadeDrive AnyMake)) → List DriveMeaning
bank_is bank = in_row stack_is (vec_items bank.drives)

abbrev pub carried_out : Said → List DriveMeaning → List DriveMeaning
carried_out (Declares drive) bank = with_drive bank drive
carried_out (Operates number operation) bank = changed (operated operation) bank number

-- A line without a word does nothing.
abbrev pub followed : Option Said → List DriveMeaning → List DriveMeaning
followed None bank = bank
followed (Some said) bank = carried_out said bank

-- The word that names what is said.
abbrev pub name_of : Said → List ℕ
name_of (Declares drive) = codes "drive"
name_of (Operates number Energise) = codes "energise"
name_of (Operates number DeEnergise) = codes "deenergise"
name_of (Operates number Hold) = codes "hold"
name_of (Operates number (Sample bytes)) = codes "sample"
name_of (Operates number (Take target)) = codes "take"

-- The drive that is spoken of. A drive that is declared takes the next number of the row, beyond the bank too.
abbrev pub number_of : Said → Row (Stack (MadeDrive AnyMake)) → ℕ
number_of (Declares drive) row = length (vec_items row.drives)
number_of (Operates number operation) row = number

abbrev pub answer_to : Said → List DriveMeaning → Option (Result (Unit {0}) Refusal)
answer_to (Declares drive) bank = None
answer_to (Operates number operation) bank = operation_answer operation (drive_at bank number)

-- The bank has followed what was said, and the line shows it.
pub record LineShows (line : ℕ) (said : Said) (before after : Row (Stack (MadeDrive AnyMake))) (shown : BenchLine) : Type 0 where
  pub followed_it : bank_is after ≡ carried_out said (bank_is before)
  pub line_number : shown.line ≡ line
  pub directive_name : shown.directive.now ≡ name_of said
  pub answer_is_shown : shown.answer ≡ answer_to said (bank_is before)
  pub drive_number : shown.drive.number ≡ number_of said before
  pub drive_shown : shown.drive.held ≡ (drive_at (bank_is after) shown.drive.number).held

-- What the log shows of what is said: nothing of a line without a word, else a line of its own.
abbrev pub log_of : ℕ → Option Said → Row (Stack (MadeDrive AnyMake)) → Row (Stack (MadeDrive AnyMake)) → List ℕ
log_of number None before after = []
log_of number (Some said) before after =
    line_text number (name_of said) (answer_to said (bank_is before)) (number_of said before)
    (drive_at (bank_is after) (number_of said before)).held
    ++ (newline ∷ [])

-- A line of the scenario was followed: the bank has done what it says, and the log shows it.
pub record Followed (number : ℕ) (line : List ℕ) (before after : Row (Stack (MadeDrive AnyMake))) (log longer : List ℕ) : Type 0 where
  pub said : Option Said
  pub line_says_it : Ok said ≡ line_says line
  pub bank_follows : bank_is after ≡ followed said (bank_is before)
  pub log_shows : longer ≡ log ++ log_of number said before after

-- A line is wrong: the bank and the log are as they were.
pub record PassedOver (line : List ℕ) (before after : Row (Stack (MadeDrive AnyMake))) (log same : List ℕ) (wrong : Wrong) : Type 0 where
  pub line_is_wrong : Err wrong ≡ line_says line
  pub bank_stays : bank_is after ≡ bank_is before
  pub log_stays : same ≡ log

abbrev pub LineFollowed : ℕ → List ℕ → Row (Stack (MadeDrive AnyMake)) → Row (Stack (MadeDrive AnyMake)) → List ℕ → List ℕ → Result (Unit {0}) Wrong → Type 0
LineFollowed number line before after log longer (Ok done) = Followed number line before after log longer
LineFollowed number line before after log longer (Err wrong) = (wrong ≡ Word NoMemory) ⊎ PassedOver line before after log longer wrong
