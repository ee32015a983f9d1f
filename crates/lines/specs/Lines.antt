-- A line and its words.
use Rattle.std.specs.Prelude.{ℕ, ◌-◌, Bool, cond, not, ◌||◌, List, [], ◌∷◌, ◌++◌, length, take, ◌==◌, slice_index}
use Rattle.std.specs.List.{prefix_len}

-- a space or a tab
abbrev pub is_blank : ℕ → Bool
is_blank b = b == 32 || b == 9

abbrev pub is_hash : ℕ → Bool
is_hash b = b == 35

-- One carriage return at the very end goes.
abbrev pub without_return : List ℕ → List ℕ
without_return line = cond (slice_index line (length line - 1) == 13) (take (length line - 1) line) line

-- What stands before the first '#'.
abbrev pub without_comment : List ℕ → List ℕ
without_comment line = take (prefix_len (λ b. not (is_hash b)) line) line

-- An empty word is none.
abbrev pub unless_empty : List ℕ → List (List ℕ)
unless_empty [] = []
unless_empty (b ∷ bs) = (b ∷ bs) ∷ []

-- The words of a text, after the bytes of a word that has begun: a blank ends it, every other byte belongs to it.
abbrev pub words_after : List ℕ → List ℕ → List (List ℕ)
words_after word [] = unless_empty word
words_after word (b ∷ bs) = cond (is_blank b) (unless_empty word ++ words_after [] bs) (words_after (word ++ b ∷ []) bs)

abbrev pub words_in : List ℕ → List (List ℕ)
words_in text = words_after [] text

-- The words of a line. A carriage return before a comment is not at the end of the line.
abbrev pub words_of : List ℕ → List (List ℕ)
words_of line = words_in (without_comment (without_return line))
