-- One axis more has stepped.
use Rattle.std.proofs.Common.{◌≡◌, ℕ, ◌+◌, ◌<◌, min, List, length, sym, refl, ap, ◌∙◌, subst, arith}
use Rattle.banks.specs.Lists.{absent, drive_at}
use Rattle.axes.specs.declared.axis.Axis.{Axis}
use Rattle.axes.specs.Steps.{axis_at_start, Event}
use Rattle.cabinet.specs.Cabinets.{Standing, axis_count, axis_at, axis_step, drive_step, axes_after, drives_after, stepped, OneStep}
use Rattle.cabinet.proofs.Firsts.{first_none, first_reads, first_more, first_within, length-first}

-- the first n axes have stepped, and nothing else has changed
pub record FirstStep (n : ℕ) (brings : ℕ → Event) (before after : Standing) : Type 0 where
  pub number_stays : after.number ≡ before.number
  pub al_stays : after.al ≡ before.al
  pub watch_stays : after.watch ≡ before.watch
  pub axes_step : after.axes ≡ axes_after n brings before.axes before.drives
  pub drives_step : after.drives ≡ drives_after n brings before.axes before.drives

pub no_step : (brings : ℕ → Event) (s : Standing) → FirstStep 0 brings s s
no_step brings s =
    record {
      number_stays = refl;
      al_stays = refl;
      watch_stays = refl;
      axes_step = sym (first_none (axis_step brings s.axes s.drives) s.axes);
      drives_step = sym (first_none (drive_step brings s.axes s.drives) s.drives);
    }

-- the first i axes have stepped, and the next one steps
module _ (brings : ℕ → Event) (before now after : Standing) (i : ℕ) (steps : FirstStep i brings before now) (a-drive : i < length before.drives) where
  pub an_axis : i < length now.axes → i < length before.axes
  an_axis in_table =
      first_within (axis_step brings before.axes before.drives) before.axes i
      (subst (λ (axes : List Axis). i < length axes) steps.axes_step in_table)

  -- the next axis and its drive are still as they were
  pub axis_reads : i < length now.axes → axis_at now.axes i ≡ axis_at before.axes i
  axis_reads in_table =
      ap (λ axes. axis_at axes i) steps.axes_step
      ∙ first_reads (axis_step brings before.axes before.drives) before.axes i axis_at_start (an_axis in_table)

  drive_reads : drive_at now.drives i ≡ drive_at before.drives i
  drive_reads =
      ap (λ drives. drive_at drives i) steps.drives_step
      ∙ first_reads (drive_step brings before.axes before.drives) before.drives i absent a-drive

  pub one_more : OneStep i (brings i) now after → FirstStep (i + 1) brings before after
  one_more one =
      let same-axis : axis_at now.axes i ≡ axis_at before.axes i = axis_reads one.in_table in
      let same-drive : drive_at now.drives i ≡ drive_at before.drives i = drive_reads in
      let more-axes = first_more (axis_step brings before.axes before.drives) before.axes i axis_at_start (an_axis one.in_table) in
      let more-drives = first_more (drive_step brings before.axes before.drives) before.drives i absent a-drive in
      record { number_stays = cc; al_stays = cc; watch_stays = cc; axes_step = cc; drives_step = cc }

-- steps add no drive and take none away
pub stepped_count : (brings : ℕ → Event) (before : Standing) {after : Standing} → after ≡ stepped brings before → axis_count after.drives ≡ axis_count before.drives
stepped_count brings before stands =
    ap (λ (s : Standing). axis_count s.drives) stands
    ∙ ap (λ k. min k 8) (length-first (drive_step brings before.axes before.drives) before.drives (axis_count before.drives) (omega arith))
