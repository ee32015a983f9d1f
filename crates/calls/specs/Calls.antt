-- What a line of the cabinet part says.
use Rattle.std.specs.Prelude.{ℕ, cond, List, [], ◌∷◌, Some, None, Ok, codes, Option, Result}
use Rattle.std.specs.Str.{bytes_eq}
use Rattle.lines.specs.Lines.{words_of}
use Rattle.grammar.specs.declared.wrong.Wrong.{Wrong}
use Rattle.grammar.specs.Grammar.{Words, Taken, and_then, unsigned_in, bytes_in, ended}
use Rattle.calls.specs.declared.call.AlRequest.{AlRequest}
use Rattle.calls.specs.declared.directive.Build.{Build}
use Rattle.calls.specs.declared.keyword.CallName.{CallName}
use Rattle.calls.specs.declared.keyword.Keyword.{Keyword}

-- What a cycle is given: a frame, which is empty where none came, the field records, and the length of the return image.
pub record AskedCycle : Type 0 where
  pub frame : List ℕ
  pub records : List ℕ
  pub image : Option ℕ

-- What a call asks of a cabinet.
pub data Asked : Type 0 where
  Requests : AlRequest → Asked
  Cycles : AskedCycle → Asked

-- What a directive asks for: cabinets to be built, or an answer of theirs.
pub data CabinetSaid : Type 0 where
  Builds : Build → CabinetSaid
  Asks : Asked → CabinetSaid

-- The word that a directive begins with. Every other word belongs to the bench part.
abbrev pub keyword_of : List ℕ → Option Keyword
keyword_of name =
    cond (bytes_eq name (codes "cabinet")) (Some Keyword.Cabinet)
    (cond (bytes_eq name (codes "al")) (Some (Keyword.Call CallName.Request))
    (cond (bytes_eq name (codes "cycle")) (Some (Keyword.Call CallName.Cycle))
    None))

-- A number where a word is left for it.
unfoldable pub optional_in : ℕ → Words → Taken (Option ℕ)
optional_in highest [] = Ok (None, [])
optional_in highest (w ∷ ws) = and_then (unsigned_in highest (w ∷ ws)) (λ n rest. Ok (Some n, rest))

-- cabinet NUMBER DELAY, and a second DELAY where there is one
abbrev pub build_in : Words → Taken Build
build_in ws =
    and_then (unsigned_in 4294967295 ws) (λ number r.
    and_then (unsigned_in 65535 r) (λ delay s.
    and_then (optional_in 65535 s) (λ second rest.
    Ok (record { number = number; delay = delay; second = second }, rest))))

-- al WORD OUTPUT INPUT
abbrev pub request_in : Words → Taken AlRequest
request_in ws =
    and_then (unsigned_in 65535 ws) (λ control r.
    and_then (unsigned_in 65535 r) (λ output s.
    and_then (unsigned_in 65535 s) (λ input rest.
    Ok (record { control = control; output = output; input = input }, rest))))

-- cycle FRAME RECORDS, and LENGTH where there is one
abbrev pub cycle_in : Words → Taken AskedCycle
cycle_in ws =
    and_then (bytes_in ws) (λ frame r.
    and_then (bytes_in r) (λ records s.
    and_then (optional_in 4096 s) (λ image rest.
    Ok (record { frame = frame; records = records; image = image }, rest))))

-- A call with the words that belong to it.
unfoldable pub call_in : CallName → Words → Taken Asked
call_in CallName.Request ws = and_then (request_in ws) (λ request rest. Ok (Requests request, rest))
call_in CallName.Cycle ws = and_then (cycle_in ws) (λ cycle rest. Ok (Cycles cycle, rest))

-- What a directive asks for, by its first word and the words after it.
unfoldable pub arguments_in : Keyword → Words → Taken CabinetSaid
arguments_in Keyword.Cabinet ws = and_then (build_in ws) (λ build rest. Ok (Builds build, rest))
arguments_in (Keyword.Call name) ws = and_then (call_in name ws) (λ asked rest. Ok (Asks asked, rest))

-- The rest of a line whose first word is known. A word of the bench part says nothing here.
abbrev pub directive_in : Option Keyword → Words → Result (Option CabinetSaid) Wrong
directive_in None ws = Ok None
directive_in (Some keyword) ws = and_then (arguments_in keyword ws) (λ said rest. ended (Some said) rest)

abbrev pub words_say : Words → Result (Option CabinetSaid) Wrong
words_say [] = Ok None
words_say (name ∷ ws) = directive_in (keyword_of name) ws

abbrev pub cabinet_line_says : List ℕ → Result (Option CabinetSaid) Wrong
cabinet_line_says line = words_say (words_of line)
