use Rattle.std.proofs.Common.{◌+◌, ◌≤◌, ◌^◌, Option, Some, None, length, sym, ap, subst, ◌∙◌, arith}
use Rattle.std.specs.Borrow.{Bor}
use Rattle.lc_reading.specs.TableView.{listed}
use Rattle.lc_reading.specs.declared.table.NameTable.{NameTable}
use Rattle.lc_reading.proofs.Places.{place_below}
use Rattle.lc_rider_text.specs.Tables.{count_there}
use Rattle.lc_rider_text.proofs.Placed.{placed_first, placed_second}
use Rattle.lc_rider_text.proofs.scope.place_behind.Goals as goal

pub returns-in-Some : goal.returns-in-Some
returns-in-Some c = placed_first (listed c.args.first.now) c.args.second c.args.name.now c.in-Some.place (sym c.in-Some.ensures)

pub returns-in_err-place : goal.returns-in_err-place
returns-in_err-place c =
    c.from_residual.ensures
    ∙ placed_second (listed c.args.first.now) c.args.second c.in-Some-second.second c.args.name.now None c.in-Some-second.is (sym c.place.ensures ∙ c.in_default.is) (sym c.in_err-place.ensures)

pub overflow_add-result : goal.overflow_add-result
overflow_add-result c =
    let few : length (listed c.args.first.now) + length (listed c.in-Some-second.second.now) ≤ 2 ^ 32 = subst (λ (o : Option (Bor NameTable)). length (listed c.args.first.now) + count_there o ≤ 2 ^ 32) c.in-Some-second.is c.requires.few in
    let below = place_below (listed c.in-Some-second.second.now) c.args.name.now c.in_ok-place.place (sym c.in_ok-place.ensures) in
    omega (arith, few, below, c.len.ensures)

pub returns : goal.returns
returns c =
    ap (λ n. Some (n + c.in_ok-place.place)) c.len.ensures
    ∙ placed_second (listed c.args.first.now) c.args.second c.in-Some-second.second c.args.name.now (Some c.in_ok-place.place) c.in-Some-second.is (sym c.place.ensures ∙ c.in_default.is) (sym c.in_ok-place.ensures)
