-- One window or the make itself, and what is left of the words.
use Rattle.std.proofs.Common.{◌≡◌, ℕ, zero, suc, ◌<◌, ◌≤◌, true, false, List, ◌∷◌, length, Ok, Err, codes, sym, refl, ap, ◌∙◌, arith}
use Rattle.std.specs.Str.{bytes_eq}
use Rattle.drives.specs.Meaning.{DriveMeaning}
use Rattle.windows.specs.declared.window.Limits.{Limits}
use Rattle.stacks.specs.Enclosures.{enclosed}
use Rattle.grammar.specs.declared.wrong.Wrong.{Wrong}
use Rattle.grammar.specs.Grammar.{Words, Taken, and_then, word_in}
use Rattle.scenario.specs.Makes.{value_in, named_in, limits_in, make_under}
use Rattle.grammar.proofs.NextWord.{and_then_ok, found, read_shorter}

limits_shorter : (ws : Words) (limits : Limits) (rest : Words) → ◌≡◌ {A = Taken Limits} (Ok (limits, rest)) (limits_in ws) → length rest ≤ length ws
unfolding limits_in
limits_shorter ws limits rest e =
    let low = and_then_ok (value_in ws) _ (limits, rest) e in
    let high = and_then_ok (value_in low.1) _ (limits, rest) low.3 in
    let both : ◌≡◌ {A = Limits × Words} (limits, rest) (record { low = low.0; high = high.0 }, high.1) = cc in
    let lengths : length rest ≡ length high.1 = ap (λ (p : Limits × Words). length p.1) both in
    omega (arith, read_shorter _ ws low.0 low.1 (sym low.2), read_shorter _ low.1 high.0 high.1 (sym high.2))

-- what is left of the words makes the whole drive
pub record Still (whole : Taken DriveMeaning) (outer : List Limits) (ws : Words) : Type 0 where
  pub windows : ℕ
  pub enough : length ws < windows
  pub same : make_under windows outer ws ≡ whole

-- at least one turn more may follow
more : (whole : Taken DriveMeaning) (outer : List Limits) (ws : Words) → Still whole outer ws → (n : ℕ) × (length ws ≤ n) × (make_under (suc n) outer ws ≡ whole)
more whole outer ws still = go still.windows still.enough still.same
  where
    go : (n : ℕ) → length ws < n → make_under n outer ws ≡ whole → (m : ℕ) × (length ws ≤ m) × (make_under (suc m) outer ws ≡ whole)
    go zero enough same = absurd (omega arith)
    go (suc m) enough same = (m, omega arith, same)

module _ {whole : Taken DriveMeaning} {outer : List Limits} {ws : Words} (still : Still whole outer ws) where
  pub no_name : {wrong : Wrong} → Err wrong ≡ word_in ws → Err wrong ≡ whole
  unfolding make_under
  no_name e = (rw (← e) refl) ∙ (more whole outer ws still).2

  module _ {name : List ℕ} {r : Words} (e : ◌≡◌ {A = Taken (List ℕ)} (Ok (name, r)) (word_in ws)) where
    after_window :
        (n : ℕ) → bytes_eq name (codes "window") ≡ true
        → and_then (limits_in r) (λ limits s. make_under n (limits ∷ outer) s) ≡ make_under (suc n) outer ws
    unfolding make_under
    after_window n is-window = rw (← e, is-window) refl

    after_name :
        (n : ℕ) → bytes_eq name (codes "window") ≡ false
        → and_then (named_in name r) (λ drive s. Ok (enclosed drive outer, s)) ≡ make_under (suc n) outer ws
    unfolding make_under
    after_name n is-make = rw (← e, is-make) refl

    module _ (is-window : bytes_eq name (codes "window") ≡ true) where
      -- one window more has been read
      pub window_read : {limits : Limits} {s : Words} → ◌≡◌ {A = Taken Limits} (Ok (limits, s)) (limits_in r) → Still whole (limits ∷ outer) s
      window_read {limits} {s} e' =
          let m = more whole outer ws still in
          record {
            windows = m.0;
            enough = omega (arith, limits_shorter r limits s e', m.1, ap length (found ws name r e));
            same = (rw (← e') at (after_window m.0 is-window)) ∙ m.2;
          }

      pub wrong_limits : {wrong : Wrong} → Err wrong ≡ limits_in r → Err wrong ≡ whole
      wrong_limits e' =
          let m = more whole outer ws still in
          (rw (← e') at (after_window m.0 is-window)) ∙ m.2

    module _ (is-make : bytes_eq name (codes "window") ≡ false) where
      pub wrong_make : {wrong : Wrong} → Err wrong ≡ named_in name r → Err wrong ≡ whole
      wrong_make e' =
          let m = more whole outer ws still in
          (rw (← e') at (after_name m.0 is-make)) ∙ m.2

      pub make_read :
          {drive : DriveMeaning} {s : Words} → ◌≡◌ {A = Taken DriveMeaning} (Ok (drive, s)) (named_in name r)
          → ◌≡◌ {A = Taken DriveMeaning} (Ok (enclosed drive outer, s)) whole
      make_read e' =
          let m = more whole outer ws still in
          (rw (← e') at (after_name m.0 is-make)) ∙ m.2

    -- a turn takes words away
    pub turn_shorter : {limits : Limits} {s : Words} → ◌≡◌ {A = Taken Limits} (Ok (limits, s)) (limits_in r) → length s < length ws
    turn_shorter {limits} {s} e' = omega (arith, limits_shorter r limits s e', ap length (found ws name r e))
