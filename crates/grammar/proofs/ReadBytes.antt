-- Bytes out of a word, where memory may be wanting.
use Rattle.std.proofs.Common.{◌≡◌, ℕ, List, Ok, Err, refl, inl, inr}
use Rattle.text.specs.ByteTexts.{bytes_of, is_no_memory, or_no_memory}
use Rattle.text.specs.declared.fault.Fault.{Fault}
use Rattle.text.specs.declared.fault.Fault.TheVariants.{NotANumber, OutOfRange, NotBytes, OddDigits, NoMemory}
use Rattle.grammar.specs.declared.wrong.Wrong.TheVariants.{Word}
use Rattle.grammar.specs.Grammar.{Words, Taken, word_in, bytes_in, UnlessNoMemory}
use Rattle.grammar.proofs.NextWord.{read_found}

module _ (ws : Words) (w : List ℕ) (rest : Words) (e : ◌≡◌ {A = Taken (List ℕ)} (Ok (w, rest)) (word_in ws)) where
  of_fault : (fault : Fault) → Err fault ≡ bytes_of w → Err (Word fault) ≡ bytes_in ws
  of_fault fault is = read_found bytes_of ws w rest (Err fault) e is

  -- memory may be wanting where the bytes are good
  pub bytes_wrong : (fault : Fault) → Err fault ≡ or_no_memory (is_no_memory fault) (bytes_of w) → UnlessNoMemory {X = List ℕ × Words} (Err (Word fault)) (bytes_in ws)
  bytes_wrong NotANumber is = inr (of_fault NotANumber is)
  bytes_wrong OutOfRange is = inr (of_fault OutOfRange is)
  bytes_wrong NotBytes is = inr (of_fault NotBytes is)
  bytes_wrong OddDigits is = inr (of_fault OddDigits is)
  bytes_wrong NoMemory is = inl refl
