-- How a cabinet stands, byte by byte.
use Rattle.std.specs.Prelude.{ℕ, ◌-◌, Bool, cond, List, [], ◌∷◌, ◌++◌, length, Some, None, codes, decimal, Option}
use Rattle.std.specs.List.{range_with_len, flat_map}
use Rattle.std.specs.Fmt.{signed_decimal}
use Rattle.drives.specs.declared.target.Refusal.{Refusal}
use Rattle.drives.specs.Meaning.{DriveMeaning}
use Rattle.drives.specs.Refusals.{refusal_code}
use Rattle.banks.specs.Lists.{drive_at}
use Rattle.fieldbus.specs.declared.al.Al.{Al}
use Rattle.fieldbus.specs.AlStates.{al_status, al_code}
use Rattle.profile.specs.declared.state.State.{State}
use Rattle.profile.specs.declared.state.State.TheVariants.{NotReady, SwitchOnDisabled, Ready, SwitchedOn, OperationEnabled, QuickStopActive, FaultReactionActive, Fault}
use Rattle.cabinet.specs.declared.cabinet.ShownAxis.{ShownAxis}
use Rattle.cabinet.specs.Cabinets.{Standing, axis_count}
use Rattle.cabinet.specs.Shows.{shown_at}
use Rattle.drive_log.specs.Added.{newline}
use Rattle.drive_log.specs.DriveTexts.{word_text, held_text, drive_text}

-- AL, and the cycles without a frame that were counted last.
abbrev pub al_text : Al → ℕ → List ℕ
al_text al silence =
    codes "  al=" ++ (word_text (al_status al)
    ++ (codes " code=" ++ (word_text (al_code al)
    ++ (codes " silence=" ++ decimal silence))))

abbrev pub state_text : State → List ℕ
state_text NotReady = codes "not-ready"
state_text SwitchOnDisabled = codes "switch-on-disabled"
state_text Ready = codes "ready"
state_text SwitchedOn = codes "switched-on"
state_text OperationEnabled = codes "operation-enabled"
state_text QuickStopActive = codes "quick-stop-active"
state_text FaultReactionActive = codes "fault-reaction-active"
state_text Fault = codes "fault"

-- 0 for none
abbrev pub refusal_number : Option Refusal → ℕ
refusal_number None = 0
refusal_number (Some refusal) = refusal_code refusal

abbrev pub key_text : Bool → List ℕ
key_text out = cond out (codes "out") (codes "in")

-- What the drive profile has of an axis.
abbrev pub profile_text : ShownAxis → List ℕ
profile_text axis =
    codes "state=" ++ (state_text axis.state
    ++ (codes " status=" ++ (word_text axis.statusword
    ++ (codes " control=" ++ (word_text axis.controlword
    ++ (codes " shown=" ++ (signed_decimal axis.displayed
    ++ (codes " wanted=" ++ (signed_decimal axis.wanted
    ++ (codes " error=" ++ word_text axis.error))))))))))

-- An axis, by its number.
abbrev pub axis_text : ℕ → ShownAxis → List ℕ
axis_text number axis =
    codes "  axis " ++ (decimal number
    ++ (codes " " ++ (profile_text axis
    ++ (codes " " ++ (held_text axis.held
    ++ (codes " refusal=" ++ (word_text (refusal_number axis.refusal)
    ++ (codes " key=" ++ key_text axis.key_out))))))))

-- The line of an axis; a number beyond the axes has none.
abbrev pub line_of : ℕ → Option ShownAxis → List ℕ
line_of number None = []
line_of number (Some axis) = axis_text number axis ++ (newline ∷ [])

unfoldable pub axis_line : Standing → ℕ → List ℕ
axis_line s number = line_of number (shown_at s number)

-- How a cabinet stands: AL, then each axis from number 0 on, one to a line.
abbrev pub standing_text : Standing → List ℕ
standing_text s =
    (al_text s.al s.watch.silence ++ (newline ∷ [])) ++ flat_map (axis_line s) (range_with_len 0 (axis_count s.drives))

unfoldable pub spare_line : List DriveMeaning → ℕ → List ℕ
spare_line drives i = codes "  " ++ (drive_text i (drive_at drives i).held ++ (newline ∷ []))

-- The drives of a bank that have no axis, one to a line.
abbrev pub spare_text : List DriveMeaning → List ℕ
spare_text drives = flat_map (spare_line drives) (range_with_len (axis_count drives) (length drives - axis_count drives))
