use Rattle.std.proofs.Common.{w64, sym, ap, ◌∙◌, subst}
use Rattle.std.specs.Prelude.{FitsSigned, OkIff}
use Rattle.std.proofs.lemmas.Int.{to_z-of_z}
use Rattle.std.proofs.lemmas.List.{length-map}
use Rattle.lc_term.specs.State.{cells_of}
use Rattle.lc_term.proofs.Cells.{column_at-map}
use Rattle.lc_term.proofs.state.State.read.Goals as goal

pub returns : goal.returns
returns c =
    let cells = c.index.result.now in
    let is = ap (cells_of cells) (to_z-of_z w64 c.args.index c.ranges.index) ∙
    ap (λ column. column c.args.index) (sym (column_at-map cells_of c.args.self.now.columns.items c.args.column.0 cells (rw length-map at c.requires) c.index.ensures)) in
    subst (λ x. OkIff c.read.result (FitsSigned w64 x) x) is c.read.ensures
