-- Lines and words by the places that the code looks for.
use Rattle.std.proofs.Common.{◌≡◌, ℕ, suc, ◌≤◌, Bool, true, false, not, List, [], ◌∷◌, ◌++◌, length, get_or, take, drop, Some, None, Option, sym, refl, ap, ◌∙◌, append_assoc, append-nil, one-add, arith}
use Rattle.std.specs.List.{position, position_or_len}
use Rattle.std.specs.Option.{unwrap_or}
use Rattle.std.proofs.lemmas.Bool.Decides.{nat_tests}
use Rattle.std.proofs.Math.ListN.{drop_of_length-le}
use Rattle.std.proofs.Math.Seq.{drop-cons}
use Rattle.std.proofs.lemmas.List.Quantifiers.{position-Some}
use Rattle.std.proofs.lemmas.List.Sums.{prefix_len-le-length}
use Rattle.lines.specs.Lines.{is_blank, unless_empty, words_after, words_in}

-- up to the first place that passes, or to the end where none does
pub up_to_first : (p : ℕ → Bool) (xs : List ℕ) (found : Option ℕ) → found ≡ position p xs → unwrap_or found (length xs) ≡ position_or_len p xs
up_to_first p xs found is = grind (arith, nat_tests, prefix_len-le-length)

abbrev pub not_blank : ℕ → Bool
not_blank b = not (is_blank b)

blank_goes : (b : ℕ) (bs : List ℕ) → words_in (drop (position_or_len not_blank bs) bs) ≡ words_in bs → (t : Bool) → is_blank b ≡ t → words_in (drop (position_or_len not_blank (b ∷ bs)) (b ∷ bs)) ≡ words_in (b ∷ bs)
blank_goes b bs after true e = rw (e, one-add) after
blank_goes b bs after false e = simp e

blanks_go : (bs : List ℕ) → words_in (drop (position_or_len not_blank bs) bs) ≡ words_in bs
blanks_go [] = refl
blanks_go (b ∷ bs) = blank_goes b bs (blanks_go bs) (is_blank b) refl

-- the words after the start of one: it goes on to the next blank
abbrev Ends : List ℕ → List ℕ → Type 0
Ends word bs = words_after word bs ≡ unless_empty (word ++ take (position_or_len is_blank bs) bs) ++ words_in (drop (position_or_len is_blank bs) bs)

end_here : (word : List ℕ) (b : ℕ) (bs : List ℕ) → Ends (word ++ b ∷ []) bs → (t : Bool) → is_blank b ≡ t → Ends word (b ∷ bs)
end_here word b bs after true e = simp (e, append-nil)
end_here word b bs after false e = rw (e, one-add) (after ∙ simp append_assoc)

word_ends : (word bs : List ℕ) → Ends word bs
word_ends word [] = simp append-nil
word_ends word (b ∷ bs) = end_here word b bs (word_ends (word ++ b ∷ []) bs) (is_blank b) refl

-- a text of blanks has no words
pub no_word : (bs : List ℕ) → None ≡ position not_blank bs → words_in bs ≡ []
no_word bs none =
    let all : length bs ≤ position_or_len not_blank bs = grind (arith, nat_tests) in
    sym (blanks_go bs) ∙ ap words_in (drop_of_length-le bs all)

word_here : (b : ℕ) (bs : List ℕ) → is_blank b ≡ false → words_in (b ∷ bs) ≡ take (position_or_len is_blank (b ∷ bs)) (b ∷ bs) ∷ words_in (drop (position_or_len is_blank (b ∷ bs)) (b ∷ bs))
word_here b bs solid = rw (solid, one-add) (word_ends (b ∷ []) bs)

-- the first word begins at the first byte that is no blank
pub first_word :
    (bs : List ℕ) (start : ℕ) (text : List ℕ) → Some start ≡ position not_blank bs → text ≡ drop start bs
    → words_in bs ≡ take (position_or_len is_blank text) text ∷ words_in (drop (position_or_len is_blank text) text)
first_word bs start text some begins =
    let here = position-Some not_blank bs start 0 (sym some) in
    let start_is : start ≡ position_or_len not_blank bs = grind (arith, nat_tests) in
    let solid : is_blank (get_or bs start 0) ≡ false = grind (arith, here.1) in
    let cut : text ≡ get_or bs start 0 ∷ drop (suc start) bs = begins ∙ drop-cons bs start 0 here.0 in
    let same : words_in text ≡ words_in bs = rw (begins, start_is) (blanks_go bs) in
    sym same ∙ rw cut (word_here (get_or bs start 0) (drop (suc start) bs) solid)
