use Rattle.std.proofs.Common.{◌≡◌, ℕ, ℤ, pos, sym, ap, ap₂, subst, arith, to_z, of_z, w64}
use Rattle.std.proofs.lemmas.Int.{ints, to_z-of_z}
use Rattle.std.proofs.lemmas.Result.{IfOk-weaker}
use Rattle.lc_term.specs.Syntax.{Formula, Eq, Read, Number}
use Rattle.lc_term.specs.SystemColumns as Y
use Rattle.lc_table.specs.Tables.{term_in, HasFormula}
use Rattle.lc_seq.specs.TextView.{specification_of}
use Rattle.lc_action.specs.ActionView.{first_of}
use Rattle.lc_rider.specs.MarkView.{marking_of, with_duties}
use Rattle.lc_rider.specs.Paths.{Path, named_duty}
use Rattle.lc_rider.specs.PathView.{path_in}
use Rattle.lc_rider.specs.Rider.{Marking}
use Rattle.lc_rider.proofs.PathsAdded.{is_later, has_same}
use Rattle.lc_rider.proofs.mark_paths.with_named_duty.Goals as goal

pub returns-clause-path : goal.returns-clause-path
returns-clause-path c =
    let operations = (specification_of c.args.mark.specification.now).operations in
    let first = first_of c.args.mark.system in
    let n = c.args.mark.rider in
    let t0 = c.args.terms.now in
    let t1 = c.cell_is.new.terms in
    let cl = term_in t0 c.args.mark.client in
    let p = path_in t0 c.args.path in
    let o = c.in-Other.operation.0 in
    let g : Formula = Eq (Read (p.columns (Y.op_column first)) cl) (Number (pos o)) in
    let number : to_z w64 (of_z w64 c.from-number.result) ≡ pos o = grind (arith, ints, to_z-of_z) in
    let goal_is : HasFormula t1 c.in_ok-goal.goal g =
    subst (HasFormula t1 c.in_ok-goal.goal) (ap₂ (λ (j : ℕ) (z : ℤ). (let f : Formula = Eq (Read (p.columns j) cl) (Number z) in f)) c.operation-column.ensures number) c.in_ok-goal.ensures.id in
    let named : Marking → Path = λ k. with_duties p (named_duty operations first n k p cl) in
    IfOk-weaker c.with_duty.result _ _
    (λ r h. has_same t1 r _ _ (h t1 p g (is_later t0 t1 c.args.path c.requires.path c.in_ok-goal.ensures.kept) goal_is) (ap named (sym (ap (λ m. marking_of m cl) c.in-Other.is)))) c.with_duty.ensures
