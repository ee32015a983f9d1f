-- The drive that words describe: any number of windows, the outermost first, and then a make.
use Rattle.std.specs.Prelude.{ℕ, zero, suc, cond, List, [], ◌∷◌, length, ℤ, pos, negsuc, Ok, Err, codes}
use Rattle.std.specs.Str.{bytes_eq}
use Rattle.drives.specs.Holdings.{at_rest}
use Rattle.drives.specs.Meaning.{DriveMeaning}
use Rattle.windows.specs.declared.window.Limits.{Limits}
use Rattle.hoists.specs.Hoists.{hoist_meaning}
use Rattle.cylinders.specs.Cylinders.{cylinder_meaning, scale_in_range}
use Rattle.stacks.specs.Enclosures.{enclosed}
use Rattle.grammar.specs.declared.wrong.Wrong.TheVariants.{UnknownMake, MissingWord}
use Rattle.grammar.specs.Grammar.{Words, Taken, and_then, word_in, unsigned_in, signed_in}

-- A signed 32-bit number.
abbrev pub value_in : Words → Taken ℤ
value_in ws = signed_in (negsuc 2147483647) (pos 2147483647) ws

-- hoist LOWEST HIGHEST SPEED
abbrev pub hoist_in : Words → Taken DriveMeaning
hoist_in ws =
    and_then (value_in ws) (λ lowest r.
    and_then (value_in r) (λ highest s.
    and_then (unsigned_in 4294967295 s) (λ speed rest.
    Ok (hoist_meaning lowest highest speed at_rest, rest))))

-- cylinder K
abbrev pub cylinder_in : Words → Taken DriveMeaning
cylinder_in ws = and_then (unsigned_in 4294967295 ws) (λ k rest. Ok (cylinder_meaning (scale_in_range k) at_rest, rest))

-- A make by its name.
unfoldable pub named_in : List ℕ → Words → Taken DriveMeaning
named_in name ws =
    cond (bytes_eq name (codes "hoist")) (hoist_in ws)
    (cond (bytes_eq name (codes "cylinder")) (cylinder_in ws)
    (Err UnknownMake))

-- window LOW HIGH
unfoldable pub limits_in : Words → Taken Limits
limits_in ws = and_then (value_in ws) (λ low r. and_then (value_in r) (λ high rest. Ok (record { low = low; high = high }, rest)))

-- A make under at most n windows more, with those read already around it, the latest of them innermost.
unfoldable pub make_under : ℕ → List Limits → Words → Taken DriveMeaning
make_under zero outer ws = Err MissingWord
make_under (suc n) outer ws =
    and_then (word_in ws) (λ name r.
    cond (bytes_eq name (codes "window"))
    (and_then (limits_in r) (λ limits s. make_under n (limits ∷ outer) s))
    (and_then (named_in name r) (λ drive rest. Ok (enclosed drive outer, rest))))

-- A line has no more windows than words.
abbrev pub make_in : Words → Taken DriveMeaning
make_in ws = make_under (suc (length ws)) [] ws
