-- What the next word comes to.
use Rattle.std.proofs.Common.{◌≡◌, ℕ, ◌<◌, List, [], ◌∷◌, length, Ok, Err, Result, sym, refl, ap, arith}
use Rattle.text.specs.declared.fault.Fault.{Fault}
use Rattle.grammar.specs.declared.wrong.Wrong.{Wrong}
use Rattle.grammar.specs.Grammar.{Words, Taken, and_then, leaving, or_wrong_word, word_in, read_in}

-- a word that was found stands first
pub found : (ws : Words) (w : List ℕ) (rest : Words) → Ok (w, rest) ≡ word_in ws → ws ≡ w ∷ rest
unfolding word_in
found [] w rest e = cc
found (v ∷ vs) w rest e =
    let same : ◌≡◌ {A = List ℕ × Words} (w, rest) (v, vs) = cc in
    sym (ap (λ (both : List ℕ × Words). both.0 ∷ both.1) same)

pub read_found :
    {X : Type 0} (read : List ℕ → Result X Fault) (ws : Words) (w : List ℕ) (rest : Words) (r : Result X Fault)
    → Ok (w, rest) ≡ word_in ws → r ≡ read w → leaving (or_wrong_word r) rest ≡ read_in read ws
unfolding read_in
read_found read ws w rest r e is = rw (found ws w rest e) (ap (λ x. leaving (or_wrong_word x) rest) is)

-- a word that was read is gone
pub read_shorter : {X : Type 0} (read : List ℕ → Result X Fault) (ws : Words) (x : X) (rest : Words) → Ok (x, rest) ≡ read_in read ws → length rest < length ws
unfolding read_in
read_shorter read [] x rest e = absurd cc
read_shorter {X} read (w ∷ ws) x rest e = go (read w) e
  where
    go : (r : Result X Fault) → Ok (x, rest) ≡ leaving (or_wrong_word r) ws → length rest < length (w ∷ ws)
    go (Ok y) same =
        let both : ◌≡◌ {A = X × Words} (x, rest) (y, ws) = cc in
        let lengths : length rest ≡ length ws = ap (λ (p : X × Words). length p.1) both in
        omega arith
    go (Err fault) same = absurd cc

-- what came after a step that went well
pub and_then_ok :
    {X Y : Type 0} (step : Taken X) (next : X → Words → Result Y Wrong) (y : Y) → Ok y ≡ and_then step next
    → (x : X) × (rest : Words) × (step ≡ Ok (x, rest)) × (Ok y ≡ next x rest)
and_then_ok (Ok taken) next y e = (taken.0, taken.1, refl, e)
and_then_ok (Err wrong) next y e = absurd cc
