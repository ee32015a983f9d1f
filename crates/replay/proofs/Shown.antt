-- A cycle that was carried out is shown.
use Rattle.std.proofs.Common.{◌≡◌, ℕ, List, ◌++◌, length, Ok, Err, Result, codes, decimal, refl, ap, ◌∙◌}
use Rattle.fieldbus.specs.AlStates.{al_status}
use Rattle.cabinet.specs.declared.cycle.Cycled.{Cycled}
use Rattle.cabinet.specs.declared.cycle.WrongLength.{WrongLength}
use Rattle.cabinet.specs.Cabinets.{Standing}
use Rattle.cabinet.specs.Cycles.{answer_number, checked, after_cycle, image_of, unless_refused}
use Rattle.cabinet_log.specs.AnswerTexts.{bytes_text, image_text, cycle_text}
use Rattle.drive_log.specs.DriveTexts.{word_text}
use Rattle.calls.specs.Calls.{AskedCycle, Cycles}
use Rattle.replay.specs.declared.side.Side.{Side}
use Rattle.replay.specs.Sides.{side_stands, image_length, answer_to, after_call, run_out_noted, CycleFollowed, AnswerShown}

image_shown : (answer : Result (Unit {0}) WrongLength) (written new old : List ℕ) → written ≡ unless_refused answer new old → image_text answer written ≡ image_text answer new
image_shown (Ok accepted) written new old is = ap bytes_text is
image_shown (Err wrong) written new old is = refl

same_cycled : (one other : Cycled) → one.answer ≡ other.answer → one.status ≡ other.status → one ≡ other
same_cycled one other answer status =
    let as-built : ◌≡◌ {A = Cycled} (record { answer = one.answer; status = one.status }) other = rw (answer, status) refl in as-built

pub cycle_shown : (line : ℕ) (cycle : AskedCycle) (size : ℕ) (image written : List ℕ) (cycled : Cycled) (before after : Side) (text : List ℕ) → size ≡ image_length cycle.image (side_stands before) → CycleFollowed line cycle size image written cycled before after → text ≡ cycle_text cycled written → AnswerShown line (Cycles cycle) before after text
cycle_shown line cycle size image written cycled before after text long followed shown =
    let s : Standing = side_stands before in
    let t : Standing = side_stands after in
    let answer : cycled.answer ≡ answer_to cycle s =
    followed.answered ∙ ap (λ k. checked (length cycle.records) (length cycle.frame) k s) long in
    let follows : t ≡ after_call (Cycles cycle) s =
    followed.cabinet_follows ∙ ap (λ a. unless_refused a (after_cycle cycle.frame cycle.records s) s) answer in
    let same : cycled ≡ record { answer = answer_to cycle s; status = al_status t.al } =
    same_cycled cycled (record { answer = answer_to cycle s; status = al_status t.al }) answer followed.status_is in
    record {
      call_followed = follows;
      run_out_is_noted = followed.run_out_is_noted ∙ ap (λ u. run_out_noted line s u before.ran_out) follows;
      answer_is_shown =
          shown
          ∙ ap (λ (bytes : List ℕ). codes "answer=" ++ (decimal (answer_number cycled.answer) ++ (codes " status=" ++ (word_text cycled.status ++ (codes " image=" ++ bytes)))))
          (image_shown cycled.answer written (image_of t) image followed.image_written)
          ∙ ap (λ (c : Cycled). cycle_text c (image_of t)) same
          ∙ ap (λ (u : Standing). cycle_text (record { answer = answer_to cycle s; status = al_status u.al }) (image_of u)) follows;
    }
