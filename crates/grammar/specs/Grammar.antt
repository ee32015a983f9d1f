-- Words taken one after the other: what they come to and the words that are left, or what is wrong.
use Rattle.std.specs.Prelude.{◌≡◌, ℕ, ◌⊎◌, List, [], ◌∷◌, ℤ, Ok, Err, Result}
use Rattle.std.specs.Borrow.{Bor}
use Rattle.text.specs.declared.fault.Fault.{Fault}
use Rattle.text.specs.declared.fault.Fault.TheVariants.{NoMemory}
use Rattle.text.specs.ByteTexts.{bytes_of}
use Rattle.text.specs.Numerals.{unsigned_of, signed_of}
use Rattle.grammar.specs.declared.wrong.Wrong.{Wrong}
use Rattle.grammar.specs.declared.wrong.Wrong.TheVariants.{MissingWord, SuperfluousWord, Word}

abbrev pub Words : Type 0
Words = List (List ℕ)

abbrev pub Taken : Type 0 → Type 0
Taken X = Result (X × Words) Wrong

-- An answer with the words that it left.
abbrev pub leaving : {X : Type 0} → Result X Wrong → Words → Taken X
leaving (Ok x) rest = Ok (x, rest)
leaving (Err wrong) rest = Err wrong

-- What the code took, as what the words say.
abbrev pub heard_as : {X Y : Type 0} → (X → Y) → Result X Wrong → Result Y Wrong
heard_as says (Ok x) = Ok (says x)
heard_as says (Err wrong) = Err wrong

-- What comes next, unless something is wrong already.
abbrev pub and_then : {X Y : Type 0} → Taken X → (X → Words → Result Y Wrong) → Result Y Wrong
and_then (Ok taken) next = next taken.0 taken.1
and_then (Err wrong) next = Err wrong

abbrev pub or_wrong_word : {X : Type 0} → Result X Fault → Result X Wrong
or_wrong_word (Ok x) = Ok x
or_wrong_word (Err fault) = Err (Word fault)

unfoldable pub word_in : Words → Taken (List ℕ)
word_in [] = Err MissingWord
word_in (w ∷ ws) = Ok (w, ws)

-- The next word, read as what it is to be.
unfoldable pub read_in : {X : Type 0} → (List ℕ → Result X Fault) → Words → Taken X
read_in read [] = Err MissingWord
read_in read (w ∷ ws) = leaving (or_wrong_word (read w)) ws

abbrev pub unsigned_in : ℕ → Words → Taken ℕ
unsigned_in highest ws = read_in (unsigned_of highest) ws

abbrev pub signed_in : ℤ → ℤ → Words → Taken ℤ
signed_in lowest highest ws = read_in (signed_of lowest highest) ws

abbrev pub bytes_in : Words → Taken (List ℕ)
bytes_in ws = read_in bytes_of ws

-- No word is left.
unfoldable pub ended : {X : Type 0} → X → Words → Result X Wrong
ended x [] = Ok x
ended x (w ∷ ws) = Err SuperfluousWord

-- The bytes of a word that was found.
abbrev pub word_of : Result (Bor (List ℕ)) Wrong → Result (List ℕ) Wrong
word_of (Ok word) = Ok word.now
word_of (Err wrong) = Err wrong

-- The answer is what the rule says, unless memory was wanting on the way to it.
abbrev pub UnlessNoMemory : {X : Type 0} → Result X Wrong → Result X Wrong → Type 0
UnlessNoMemory answer rule = (answer ≡ Err (Word NoMemory)) ⊎ (answer ≡ rule)
