use Rattle.std.proofs.Common.{◌≡◌, ℕ, ◌<◌, min, Ok, Err, ◌∙◌, arith}
use Rattle.std.specs.Prelude.{Result}
use Rattle.std.specs.Result.{OkIff, result_unwrap_or}
use Rattle.rows.specs.InRow.{row_count}
use Rattle.rows.proofs.row.RowBank.count.Goals as goal

capped : {E : Type 0} (n : ℕ) (r : Result ℕ E) → OkIff r (n < 256) n → result_unwrap_or r 255 ≡ min n 255
capped n (Ok x) h = omega (arith, h.0, h.1)
capped n (Err e) h = omega (arith, h)

pub returns : goal.returns
returns g c =
    c.unwrap_or.ensures
    ∙ capped _ c.try_from.result (rw c.len.ensures at c.try_from.ensures)
    ∙ row_count g.D.Drive.meaning c.args.self.now.drives.items
