-- What a line says.
use Rattle.std.specs.Prelude.{ℕ, cond, List, [], ◌∷◌, length, ℤ, pos, negsuc, Some, None, Ok, Err, codes, Option, Result, ◌==◌}
use Rattle.std.specs.Str.{bytes_eq}
use Rattle.drives.specs.declared.target.Target.{Target}
use Rattle.drives.specs.Meaning.{DriveMeaning}
use Rattle.text.specs.ByteTexts.{bytes_of}
use Rattle.lines.specs.Lines.{words_of}
use Rattle.scenario.specs.declared.directive.Operation.{Operation}
use Rattle.scenario.specs.declared.keyword.Keyword.{Keyword}
use Rattle.scenario.specs.declared.keyword.Verb.{Verb}
use Rattle.grammar.specs.declared.wrong.Wrong.{Wrong}
use Rattle.grammar.specs.declared.wrong.Wrong.TheVariants.{RecordLength, UnknownDirective}
use Rattle.grammar.specs.Grammar.{Words, Taken, and_then, read_in, unsigned_in, signed_in, ended}
use Rattle.scenario.specs.Makes.{value_in, make_in}

-- What a directive asks for: one more drive, or an operation on the drive of a number.
pub data Said : Type 0 where
  Declares : DriveMeaning → Said
  Operates : ℕ → Operation → Said

-- The word that a directive begins with.
abbrev pub keyword_of : List ℕ → Option Keyword
keyword_of name =
    cond (bytes_eq name (codes "drive")) (Some Keyword.Drive)
    (cond (bytes_eq name (codes "energise")) (Some (Keyword.Operation Verb.Energise))
    (cond (bytes_eq name (codes "deenergise")) (Some (Keyword.Operation Verb.DeEnergise))
    (cond (bytes_eq name (codes "hold")) (Some (Keyword.Operation Verb.Hold))
    (cond (bytes_eq name (codes "sample")) (Some (Keyword.Operation Verb.Sample))
    (cond (bytes_eq name (codes "take")) (Some (Keyword.Operation Verb.Take))
    None)))))

-- The number of a drive: unsigned, of 8 bits.
abbrev pub drive_in : Words → Taken ℕ
drive_in ws = unsigned_in 255 ws

-- A mode: a signed 8-bit number.
abbrev pub mode_in : Words → Taken ℤ
mode_in ws = signed_in (negsuc 127) (pos 127) ws

-- A field record: twelve bytes.
unfoldable pub record_in : Words → Taken (List ℕ)
record_in ws = and_then (read_in bytes_of ws) (λ bytes rest. cond (length bytes == 12) (Ok (bytes, rest)) (Err RecordLength))

-- MODE VALUE
unfoldable pub target_in : Words → Taken Target
target_in ws = and_then (mode_in ws) (λ mode r. and_then (value_in r) (λ value rest. Ok (record { mode = mode; value = value }, rest)))

-- An operation with the words that belong to it.
unfoldable pub operation_in : Verb → Words → Taken Operation
operation_in Verb.Energise ws = Ok (Operation.Energise, ws)
operation_in Verb.DeEnergise ws = Ok (Operation.DeEnergise, ws)
operation_in Verb.Hold ws = Ok (Operation.Hold, ws)
operation_in Verb.Sample ws = and_then (record_in ws) (λ bytes rest. Ok (Operation.Sample bytes, rest))
operation_in Verb.Take ws = and_then (target_in ws) (λ target rest. Ok (Operation.Take target, rest))

-- What a directive asks for, by its first word and the words after it.
unfoldable pub arguments_in : Keyword → Words → Taken Said
arguments_in Keyword.Drive ws = and_then (make_in ws) (λ drive rest. Ok (Declares drive, rest))
arguments_in (Keyword.Operation verb) ws = and_then (drive_in ws) (λ i r. and_then (operation_in verb r) (λ operation rest. Ok (Operates i operation, rest)))

abbrev pub directive_in : Option Keyword → Words → Result (Option Said) Wrong
directive_in None ws = Err UnknownDirective
directive_in (Some keyword) ws = and_then (arguments_in keyword ws) (λ said rest. ended (Some said) rest)

-- Words without a directive say nothing.
abbrev pub words_say : Words → Result (Option Said) Wrong
words_say [] = Ok None
words_say (name ∷ ws) = directive_in (keyword_of name) ws

abbrev pub line_says : List ℕ → Result (Option Said) Wrong
line_says line = words_say (words_of line)
