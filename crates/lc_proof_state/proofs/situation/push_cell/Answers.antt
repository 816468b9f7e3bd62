use Rattle.std.proofs.Common.{refl}
use Rattle.std.proofs.lemmas.List.{map-append}
use Rattle.lc_term.specs.Lists.{Every}
use Rattle.lc_term.specs.State.{column_count}
use Rattle.lc_term.specs.UpdateView.{write_view, writes_view}
use Rattle.lc_proof_state.specs.Situation.{IsElsewhere}
use Rattle.lc_proof_state.proofs.Apart.{cells-more}
use Rattle.lc_proof_state.proofs.situation.push_cell.Goals as goal

pub returns : goal.returns
returns c =
    let cell = c.in-Some.cell in
    let before = writes_view c.args.cells.now.items in
    let away : Every (IsElsewhere cell.column.0 cell.index) before = rw c.deref.ensures.value at (c.if-is_among.ensures refl) in
    rw (c.in_ok-push.ensures.items, map-append) (cells-more (column_count c.args.state.now) before (write_view cell) c.requires c.in-Some.ensures away)
