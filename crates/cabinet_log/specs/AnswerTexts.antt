-- What a call answers, byte by byte.
use Rattle.std.specs.Prelude.{ℕ, ◌/◌, ◌%◌, List, [], ◌∷◌, ◌++◌, Ok, Err, Result, codes, decimal}
use Rattle.std.specs.List.{flat_map}
use Rattle.cabinet.specs.declared.cycle.Cycled.{Cycled}
use Rattle.cabinet.specs.declared.cycle.WrongLength.{WrongLength}
use Rattle.cabinet.specs.Cycles.{answer_number}
use Rattle.drive_log.specs.DriveTexts.{hex_digit, word_text}

-- A cabinet is built: how many axes it has, and its delay.
abbrev pub build_text : ℕ → ℕ → List ℕ
build_text axes delay = codes "axes=" ++ (decimal axes ++ (codes " delay=" ++ decimal delay))

-- An AL request: AL status and code.
abbrev pub request_text : ℕ → ℕ → List ℕ
request_text status code = codes "status=" ++ (word_text status ++ (codes " code=" ++ word_text code))

-- the two hexadecimal digits of a byte
abbrev pub byte_text : ℕ → List ℕ
byte_text byte = hex_digit (byte / 16 % 16) ∷ hex_digit (byte % 16) ∷ []

abbrev pub bytes_text : List ℕ → List ℕ
bytes_text bytes = flat_map byte_text bytes

-- The return image; a refused cycle has kept it.
abbrev pub image_text : Result (Unit {0}) WrongLength → List ℕ → List ℕ
image_text (Ok accepted) image = bytes_text image
image_text (Err wrong) image = codes "kept"

-- A cycle: the number of its answer, AL status, the return image.
abbrev pub cycle_text : Cycled → List ℕ → List ℕ
cycle_text cycled image =
    codes "answer=" ++ (decimal (answer_number cycled.answer)
    ++ (codes " status=" ++ (word_text cycled.status
    ++ (codes " image=" ++ image_text cycled.answer image))))
