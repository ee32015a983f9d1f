-- A frame read axis by axis, and records cut into their arrays.
use Rattle.std.proofs.Common.{◌≡◌, ℕ, suc, ◌+◌, ◌-◌, ◌*◌, ◌<◌, ◌≤◌, true, List, ◌∷◌, length, take, drop, sum_by, refl, ap, ◌∙◌, subst, arith}
use Rattle.std.specs.Simd.{first_chunks}
use Rattle.std.proofs.lemmas.List.{drop-drop, length-drop, take-take}
use Rattle.std.proofs.lemmas.List.Sums.{sum_by_more, sum_by-take-le}
use Rattle.std.proofs.lemmas.Bool.{le-leb}
use Rattle.fieldbus.specs.Frames.{part_length, has_part}
use Rattle.axes.specs.declared.axis.Axis.{Axis}
use Rattle.axes.specs.Steps.{axis_at_start}
use Rattle.cabinet.specs.declared.cycle.Heard.{Heard}
use Rattle.cabinet.specs.declared.cycle.Heard.TheVariants.{Frame, RunOut, Nothing}
use Rattle.cabinet.specs.Cabinets.{axis_at, parts_before}
use Rattle.cabinet.specs.Cycles.{line_for, line_read, rest_read, WholeFrame, record_of}

-- the reader of a frame that is acted on stands before the part of an axis
abbrev pub ReaderAt : Heard → List ℕ → List Axis → ℕ → List ℕ → Type 0
ReaderAt Frame frame axes i rest = rest ≡ drop (parts_before axes i) frame
ReaderAt RunOut frame axes i rest = Unit {0}
ReaderAt Nothing frame axes i rest = Unit {0}

pub read_none : (heard : Heard) (frame : List ℕ) (axes : List Axis) (rest : List ℕ) → rest ≡ frame → ReaderAt heard frame axes 0 rest
read_none Frame frame axes rest is = is
read_none RunOut frame axes rest is = tt
read_none Nothing frame axes rest is = tt

module _ (frame : List ℕ) (axes : List Axis) (i n : ℕ) (below : i < n) (within : i < length axes) where
  next_part_lem : parts_before axes (i + 1) ≡ parts_before axes i + part_length (axis_at axes i).layout
  next_part_lem = sum_by_more (λ (axis : Axis). part_length axis.layout) axes i axis_at_start within

  parts_grow : parts_before axes (i + 1) ≤ parts_before axes n
  parts_grow =
      subst (λ (front : List Axis). sum_by (λ (axis : Axis). part_length axis.layout) front ≤ parts_before axes n)
      (take-take (i + 1) n axes (omega (arith, below)))
      (sum_by-take-le (λ (axis : Axis). part_length axis.layout) (take n axes) (i + 1))

  whole : length frame ≡ parts_before axes n → has_part (axis_at axes i).layout (drop (parts_before axes i) frame) ≡ true
  whole all =
      le-leb (part_length (axis_at axes i).layout) (length (drop (parts_before axes i) frame))
      (simp length-drop (omega (arith, all, next_part_lem, parts_grow)))

  pub read_line : (heard : Heard) (rest : List ℕ) → WholeFrame heard frame axes n → ReaderAt heard frame axes i rest → line_read heard (axis_at axes i).layout rest ≡ line_for heard frame axes i
  read_line Frame rest all here = rw (here, whole all) refl
  read_line RunOut rest all here = refl
  read_line Nothing rest all here = refl

  pub read_rest : (heard : Heard) (rest : List ℕ) → WholeFrame heard frame axes n → ReaderAt heard frame axes i rest → ReaderAt heard frame axes (i + 1) (rest_read heard (axis_at axes i).layout rest)
  read_rest Frame rest all here = rw (here, whole all, next_part_lem) (drop-drop (part_length (axis_at axes i).layout) (parts_before axes i) frame)
  read_rest RunOut rest all here = tt
  read_rest Nothing rest all here = tt

-- the next of the field records that are left
pub next_record :
    (n i : ℕ) (records bytes : List ℕ) (left : List (List ℕ))
    → i < n
    → bytes ∷ left ≡ first_chunks 12 (n - i) (drop (12 * i) records)
    → (bytes ≡ record_of records i) × (left ≡ first_chunks 12 (n - (i + 1)) (drop (12 * (i + 1)) records))
next_record n i records bytes left below is =
    let more : n - i ≡ suc (n - (i + 1)) = omega (arith, below) in
    let cut : bytes ∷ left ≡ record_of records i ∷ first_chunks 12 (n - (i + 1)) (drop 12 (drop (12 * i) records)) =
    is ∙ ap (λ k. first_chunks 12 k (drop (12 * i) records)) more in
    let on : drop 12 (drop (12 * i) records) ≡ drop (12 * (i + 1)) records =
    drop-drop 12 (12 * i) records ∙ ap (λ k. drop k records) (omega arith) in
    ((cc), let same : left ≡ first_chunks 12 (n - (i + 1)) (drop 12 (drop (12 * i) records)) = cc in same ∙ ap (first_chunks 12 (n - (i + 1))) on)
