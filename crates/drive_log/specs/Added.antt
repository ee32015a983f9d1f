-- What a call adds to a text.
use Rattle.std.specs.Prelude.{◌≡◌, ℕ, List, ◌++◌, IfOk, Result}

-- the byte that ends a line
abbrev pub newline : ℕ
newline = 10

-- Where the call succeeds, the text has grown by these bytes.
abbrev pub Adds : {E : Type 0} → Result (Unit {0}) E → List ℕ → List ℕ → List ℕ → Type 0
Adds r bytes before after = IfOk r (λ done. after ≡ before ++ bytes)
