use Rattle.std.proofs.Common.{w64, ◌≡◌, ap, ◌∙◌, subst, rules}
use Rattle.std.specs.Prelude.{FitsSigned, unwrap_or}
use Rattle.std.specs.Ordering.{int_cmp}
use Rattle.std.specs.BTreeMap.{get}
use Rattle.std.proofs.lemmas.Int.{to_z-of_z}
use Rattle.lc_term.specs.Meaning.{affine}
use Rattle.lc_term.specs.State.{cells_of}
use Rattle.lc_term.proofs.state.Cells.read.Goals as goal

pub returns-in-Some : goal.returns-in-Some
returns-in-Some c =
    let cells = c.args.self.now in
    let fits : FitsSigned w64 c.in-Some.number.now = search rules in
    let is : c.in-Some.number.now ≡ cells_of cells c.args.index =
    ap (λ o. unwrap_or o (affine cells.slope cells.start c.args.index))
    (c.in-Some.ensures.value ∙ ap (get int_cmp cells.written) (to_z-of_z w64 c.args.index c.ranges.index)) in
    (subst (FitsSigned w64) is fits, to_z-of_z w64 c.in-Some.number.now fits ∙ is)
