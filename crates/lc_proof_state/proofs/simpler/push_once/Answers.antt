use Rattle.std.proofs.Common.{refl}
use Rattle.std.proofs.lemmas.List.{map-append}
use Rattle.lc_term.specs.Lists.{Every}
use Rattle.lc_term.specs.UpdateView.{write_view, writes_view}
use Rattle.lc_proof_state.specs.Situation.{IsElsewhere}
use Rattle.lc_proof_state.proofs.Apart.{cells-more}
use Rattle.lc_proof_state.proofs.simpler.push_once.Goals as goal

pub returns : goal.returns
returns c =
    let cell = c.args.cell in
    let before = writes_view c.args.cells.now.items in
    let away : Every (IsElsewhere cell.column.0 cell.index) before = rw c.deref.ensures.value at (c.if-is_among.ensures refl) in
    rw (c.in_ok-push.ensures.items, map-append) (cells-more c.args.columns before (write_view cell) c.requires c.if-cell-columns.false away)
