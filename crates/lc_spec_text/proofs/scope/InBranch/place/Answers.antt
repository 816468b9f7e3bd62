use Rattle.std.proofs.Common.{◌+◌, Some, None, sym, ap, ◌∙◌, arith}
use Rattle.lc_reading.proofs.Places.{place_below, placed_before}
use Rattle.lc_reading.specs.TableView.{listed}
use Rattle.lc_spec_text.proofs.Behind.{placed_behind}
use Rattle.lc_spec_text.proofs.scope.InBranch.place.Goals as goal

pub overflow_add-result : goal.overflow_add-result
overflow_add-result c =
    let s = c.args.self.now in
    omega (arith, c.len.ensures, place_below (listed s.parameters) c.args.name.now c.in-Some-place.place (sym c.in-Some-place.ensures), s.counted)

pub returns-in-Some : goal.returns-in-Some
returns-in-Some c =
    let s = c.args.self.now in
    sym (placed_before (listed s.variables.now) (listed s.parameters) c.args.name.now c.in-Some.place (sym c.in-Some.ensures))

pub returns-in-Some-place : goal.returns-in-Some-place
returns-in-Some-place c =
    let s = c.args.self.now in
    ap (λ n. Some (n + c.in-Some-place.place)) c.len.ensures
    ∙ sym (placed_behind (listed s.variables.now) (listed s.parameters) c.args.name.now (Some c.in-Some-place.place) (sym c.in-None.ensures) (sym c.in-Some-place.ensures))

pub returns-in-None-place : goal.returns-in-None-place
returns-in-None-place c =
    let s = c.args.self.now in
    sym (placed_behind (listed s.variables.now) (listed s.parameters) c.args.name.now None (sym c.in-None.ensures) (sym c.in-None-place.ensures))
