-- A cycle on its way from axis to axis.
use Rattle.std.proofs.Common.{◌≡◌, ℕ, ◌+◌, ◌-◌, ◌*◌, ◌/◌, ◌<◌, ◌≤◌, List, ◌∷◌, length, drop, sym, ap, ◌∙◌, subst, arith}
use Rattle.std.specs.Simd.{first_chunks}
use Rattle.axes.specs.declared.axis.Line.{Line}
use Rattle.axes.specs.Steps.{Event, Cycles}
use Rattle.cabinet.specs.declared.cycle.Heard.{Heard}
use Rattle.cabinet.specs.Cabinets.{Standing, axis_count, axis_at, OneStep}
use Rattle.cabinet.specs.Cycles.{line_read, rest_read, WholeFrame, record_of, cycle_brings}
use Rattle.cabinet.proofs.Steps.{FirstStep, no_step, one_more, an_axis, axis_reads}
use Rattle.cabinet.proofs.Reading.{ReaderAt, read_none, read_line, read_rest, next_record}

-- the first i axes have stepped; the reader and the records that are left stand before the next
pub record CycleAt (heard : Heard) (frame records : List ℕ) (before present : Standing) (i end : ℕ) (rest : List ℕ) (left : List (List ℕ)) : Type 0 where
  pub steps : FirstStep i (cycle_brings heard frame records before) before present
  pub reads : ReaderAt heard frame before.axes i rest
  pub to_the_end : end ≡ axis_count before.drives
  pub within : i ≤ axis_count before.drives
  pub records_left : left ≡ first_chunks 12 (axis_count before.drives - i) (drop (12 * i) records)

-- no axis has stepped yet
pub cycle_start :
    {heard : Heard} {frame records : List ℕ} {before : Standing} {i end : ℕ} {rest : List ℕ} {left : List (List ℕ)}
    → length records ≡ 12 * axis_count before.drives
    → i ≡ 0
    → end ≡ axis_count before.drives
    → rest ≡ frame
    → left ≡ first_chunks 12 (length records / 12) records
    → CycleAt heard frame records before before i end rest left
cycle_start {heard} {frame} {records} {before} {i} {end} {rest} {left} all is_0 to_the_end unread cut =
    rw is_0
    record {
      steps = no_step (cycle_brings heard frame records before) before;
      reads = read_none heard frame before.axes rest unread;
      to_the_end = to_the_end;
      within = omega arith;
      records_left = cut ∙ ap (λ k. first_chunks 12 k records) (omega (arith, all));
    }

-- the next axis steps, under what the reader gave it and its own record
pub cycle_more :
    {heard : Heard} {frame records : List ℕ} {before present after : Standing} {i end number from next last : ℕ} {rest unread : List ℕ} {left others : List (List ℕ)} {line : Line} {bytes : List ℕ}
    → WholeFrame heard frame before.axes (axis_count before.drives)
    → CycleAt heard frame records before present i end rest left
    → last ≡ end
    → 0 < end - i
    → number ≡ i
    → next ≡ i + 1
    → left ≡ bytes ∷ others
    → from ≡ number
    → line ≡ line_read heard (axis_at present.axes from).layout rest
    → unread ≡ rest_read heard (axis_at present.axes from).layout rest
    → OneStep number (Cycles line bytes) present after
    → CycleAt heard frame records before after next last unread others
cycle_more {heard} {frame} {records} {before} {present} {after} {i} {end} {number} {from} {next} {last} {rest} {unread} {left} {others} {line} {bytes} whole here same_end more is_i next_i took is_number brings goes step =
    let n : ℕ = axis_count before.drives in
    let brought : ℕ → Event = cycle_brings heard frame records before in
    let below : i < n = omega (arith, more, here.to_the_end) in
    let a-drive : i < length before.drives = omega (arith, below) in
    let one : OneStep i (Cycles line bytes) present after = subst (λ k. OneStep k (Cycles line bytes) present after) is_i step in
    let an-axis : i < length before.axes = an_axis brought before present after i here.steps a-drive one.in_table in
    let axis : axis_at present.axes from ≡ axis_at before.axes i =
    ap (axis_at present.axes) (is_number ∙ is_i) ∙ axis_reads brought before present after i here.steps a-drive one.in_table in
    let reads = read_line frame before.axes i n below an-axis heard rest whole here.reads in
    let cut : (bytes ≡ record_of records i) × (others ≡ first_chunks 12 (n - (i + 1)) (drop (12 * (i + 1)) records)) =
    next_record n i records bytes others below (sym took ∙ here.records_left) in
    let its-event : Cycles line bytes ≡ brought i = cc in
    let left : unread ≡ rest_read heard (axis_at before.axes i).layout rest = cc in
    rw next_i
    record {
      steps = one_more brought before present after i here.steps a-drive (subst (λ (event : Event). OneStep i event present after) its-event one);
      reads = subst (ReaderAt heard frame before.axes (i + 1)) (sym left) (read_rest frame before.axes i n below an-axis heard rest whole here.reads);
      to_the_end = same_end ∙ here.to_the_end;
      within = omega (arith, below);
      records_left = cut.1;
    }
