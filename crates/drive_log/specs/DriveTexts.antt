-- A drive in the log, byte by byte.
use Rattle.std.specs.Prelude.{ℕ, ◌/◌, ◌%◌, Bool, cond, List, [], ◌∷◌, ◌++◌, Some, None, codes, decimal, Option, slice_index}
use Rattle.std.specs.Fmt.{signed_decimal}
use Rattle.drives.specs.declared.held.Held.{Held}
use Rattle.drives.specs.declared.target.Target.{Target}

-- MODE:VALUE, or none
abbrev pub target_text : Option Target → List ℕ
target_text None = codes "none"
target_text (Some target) = signed_decimal target.mode ++ (codes ":" ++ signed_decimal target.value)

-- the lower-case hexadecimal digit of a number below 16
abbrev pub hex_digit : ℕ → ℕ
hex_digit n = slice_index (codes "0123456789abcdef") n

-- 0x and four hexadecimal digits
abbrev pub word_text : ℕ → List ℕ
word_text n = codes "0x" ++ (hex_digit (n / 4096 % 16) ∷ hex_digit (n / 256 % 16) ∷ hex_digit (n / 16 % 16) ∷ hex_digit (n % 16) ∷ [])

abbrev pub power_text : Bool → List ℕ
power_text on = cond on (codes "on") (codes "off")

-- What a drive holds besides its power.
abbrev pub held_text : Held → List ℕ
held_text h =
    codes "trouble=" ++ (word_text h.trouble
    ++ (codes " position=" ++ (signed_decimal h.position
    ++ (codes " velocity=" ++ (signed_decimal h.velocity
    ++ (codes " target=" ++ target_text h.carried))))))

-- What the drive of a number holds.
abbrev pub drive_text : ℕ → Held → List ℕ
drive_text number h =
    codes "drive " ++ (decimal number
    ++ (codes " power=" ++ (power_text h.powered
    ++ (codes " " ++ held_text h))))
