-- What a line of a scenario makes of the bench, of one cabinet and of two, and of the log.
use Rattle.std.specs.Prelude.{◌≡◌, ℕ, Bool, cond, ◌⊎◌, List, [], ◌++◌, Some, None, Ok, string_bytes, codes, Option}
use Rattle.std.specs.Str.{bytes_eq}
use Rattle.text.specs.declared.fault.Fault.TheVariants.{NoMemory}
use Rattle.grammar.specs.declared.wrong.Wrong.{Wrong}
use Rattle.grammar.specs.declared.wrong.Wrong.TheVariants.{Word}
use Rattle.axes.specs.Steps.{or_else}
use Rattle.scenario.specs.Directives.{line_says}
use Rattle.calls.specs.declared.directive.Build.{Build}
use Rattle.calls.specs.Calls.{Asked, Requests, Cycles, CabinetSaid, Builds, Asks, cabinet_line_says}
use Rattle.call_log.specs.declared.call_lines.Lines.{Lines}
use Rattle.call_log.specs.CallTexts.{call_text, both_text}
use Rattle.bench.specs.Benches.{bank_is, Followed}
use Rattle.replay.specs.declared.side.Side.{Side}
use Rattle.replay.specs.declared.stage.Benches.{Benches}
use Rattle.replay.specs.declared.stage.Pair.{Pair}
use Rattle.replay.specs.declared.stage.Stage.{Stage}
use Rattle.replay.specs.declared.stage.Stage.TheVariants.{Bench, One, Two}
use Rattle.replay.specs.Sides.{delay_of, CallShown, SideBuilt}
use Rattle.replay.specs.Closings.{side_text, parting_text}

-- The word that names a call.
abbrev pub name_of : Asked → List ℕ
name_of (Requests request) = codes "al"
name_of (Cycles cycle) = codes "cycle"

-- One cabinet has followed a call, and the log shows it.
pub record OneFollows (number : ℕ) (asked : Asked) (before after : Side) (log longer : List ℕ) : Type 0 where
  pub lines : Lines
  pub call_shown : CallShown number asked before after lines
  pub log_shows : longer ≡ log ++ call_text number (name_of asked) None lines

-- The lines below a call are the same.
abbrev pub stand_alike : Lines → Lines → Bool
stand_alike first second = bytes_eq (string_bytes first.below) (string_bytes second.below)

-- The line, where two stand differently after it.
abbrev pub parting_at : ℕ → Lines → Lines → Option ℕ
parting_at number first second = cond (stand_alike first second) None (Some number)

-- The line at which two first stood differently.
abbrev pub parted_after : ℕ → Lines → Lines → Option ℕ → Option ℕ
parted_after number first second parted = or_else parted (parting_at number first second)

-- Two cabinets have followed a call, each on its own, and the log shows both.
pub record TwoFollow (number : ℕ) (asked : Asked) (before after : Pair) (log longer : List ℕ) : Type 0 where
  pub one : Lines
  pub other : Lines
  pub first_shown : CallShown number asked before.first after.first one
  pub second_shown : CallShown number asked before.second after.second other
  pub parted_noted : after.parted ≡ parted_after number one other before.parted
  pub log_shows : longer ≡ log ++ both_text number (name_of asked) (delay_of after.first) one (delay_of after.second) other

-- Both benches have followed a line; the log shows the first.
pub record BenchesFollow (number : ℕ) (line : List ℕ) (before after : Benches) (log longer : List ℕ) : Type 0 where
  pub first_follows : Followed number line before.first.bank after.first.bank log longer
  pub unseen : List ℕ
  pub second_follows : Followed number line before.second.bank after.second.bank [] unseen

-- One cabinet was built of the first bench, and the log shows it.
pub record OneBuilt (number : ℕ) (build : Build) (benches : Benches) (side : Side) (log longer : List ℕ) : Type 0 where
  pub one_delay : build.second ≡ None
  pub lines : Lines
  pub side_built : SideBuilt build.number build.delay (bank_is benches.first.bank) side lines
  pub log_shows : longer ≡ log ++ call_text number (codes "cabinet") None lines

-- Two cabinets were built, each of a bench of its own.
pub record TwoBuilt (number : ℕ) (build : Build) (benches : Benches) (pair : Pair) (log longer : List ℕ) : Type 0 where
  pub delay : ℕ
  pub two_delays : build.second ≡ Some delay
  pub one : Lines
  pub other : Lines
  pub first_built : SideBuilt build.number build.delay (bank_is benches.first.bank) pair.first one
  pub second_built : SideBuilt build.number delay (bank_is benches.second.bank) pair.second other
  pub not_parted : pair.parted ≡ None
  pub log_shows : longer ≡ log ++ both_text number (codes "cabinet") (delay_of pair.first) one (delay_of pair.second) other

abbrev pub Built : ℕ → Build → Benches → List ℕ → List ℕ → Stage → Type 0
Built number build benches log longer (Bench b) = ⊥
Built number build benches log longer (One side) = OneBuilt number build benches side log longer
Built number build benches log longer (Two pair) = TwoBuilt number build benches pair log longer

abbrev pub NoWord : List ℕ → Type 0
NoWord line = Ok None ≡ line_says line

-- A scenario begins with two benches without drives.
abbrev pub StartsEmpty : Stage → Type 0
StartsEmpty (Bench b) = (bank_is b.first.bank ≡ []) × (bank_is b.second.bank ≡ [])
StartsEmpty (One side) = ⊥
StartsEmpty (Two pair) = ⊥

-- A line of the cabinet part without a word.
pub record Blank {A : Type 0} (line : List ℕ) (before after : A) (log longer : List ℕ) : Type 0 where
  pub no_word : NoWord line
  pub stays : after ≡ before
  pub log_stays : longer ≡ log

-- What a line says to a stage, and what becomes of it.
abbrev pub StageFollows : ℕ → List ℕ → List ℕ → List ℕ → Option CabinetSaid → Stage → Stage → Type 0
StageFollows number line log longer None (Bench b) (Bench c) = BenchesFollow number line b c log longer
StageFollows number line log longer None (Bench b) (One side) = ⊥
StageFollows number line log longer None (Bench b) (Two pair) = ⊥
StageFollows number line log longer None (One side) after = Blank line (One side) after log longer
StageFollows number line log longer None (Two pair) after = Blank line (Two pair) after log longer
StageFollows number line log longer (Some (Builds build)) (Bench b) after = Built number build b log longer after
StageFollows number line log longer (Some (Builds build)) (One side) after = ⊥
StageFollows number line log longer (Some (Builds build)) (Two pair) after = ⊥
StageFollows number line log longer (Some (Asks asked)) (Bench b) after = ⊥
StageFollows number line log longer (Some (Asks asked)) (One side) (Bench b) = ⊥
StageFollows number line log longer (Some (Asks asked)) (One side) (One other) = OneFollows number asked side other log longer
StageFollows number line log longer (Some (Asks asked)) (One side) (Two pair) = ⊥
StageFollows number line log longer (Some (Asks asked)) (Two pair) (Bench b) = ⊥
StageFollows number line log longer (Some (Asks asked)) (Two pair) (One side) = ⊥
StageFollows number line log longer (Some (Asks asked)) (Two pair) (Two other) = TwoFollow number asked pair other log longer

pub record LineFollowed (number : ℕ) (line log longer : List ℕ) (before after : Stage) : Type 0 where
  pub said : Option CabinetSaid
  pub line_says_it : Ok said ≡ cabinet_line_says line
  pub stage_follows : StageFollows number line log longer said before after

-- A wrong line writes nothing, unless memory is wanting.
abbrev pub Unwritten : List ℕ → List ℕ → Wrong → Type 0
Unwritten log longer wrong = (wrong ≡ Word NoMemory) ⊎ (longer ≡ log)

-- The lines that close a log.
abbrev pub closing_text : Stage → List ℕ
closing_text (Bench b) = []
closing_text (One side) = side_text side
closing_text (Two pair) = side_text pair.first ++ (side_text pair.second ++ parting_text pair.parted)
