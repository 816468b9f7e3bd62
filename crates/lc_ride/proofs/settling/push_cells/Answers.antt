use mir.Val.{to_z}
use Rattle.std.proofs.Common.{◌≡◌, pos, w64, get_or, rules, sym, subst}
use Rattle.std.specs.Prelude.{FitsSigned}
use Rattle.std.proofs.lemmas.List.{drop_more}
use Rattle.lc_base.specs.declared.ids.ColId.{ColId}
use Rattle.lc_term.specs.State.{state_of}
use Rattle.lc_seq.specs.declared.fault.SeqFault.TheVariants.{Overflow}
use Rattle.lc_ride.specs.RidingFits.{CellsFit}
use Rattle.lc_ride.proofs.Cells.{numbers_of}
use Rattle.lc_ride.proofs.Taking.{says-err}
use Rattle.lc_ride.proofs.settling.push_cells.Goals as goal

pub returns-in_err-read-clause-err : goal.returns-in_err-read-clause-err
returns-in_err-read-clause-err c =
    let cs = c.args.columns.now in
    let s = state_of c.args.state.now in
    let x = pos c.args.client in
    let d : ColId = record { 0 = 0 } in
    let split = drop_more cs c.loop-column.column-index d c.loop-column-test.true in
    let same : to_z w64 c.args.client ≡ x = search rules in
    says-err c.from_residual.result Overflow (CellsFit s (numbers_of cs) x) c.from_residual.ensures.1
    (λ h. c.in_err-read.ensures (subst (λ z. FitsSigned w64 (s (get_or cs c.loop-column.column-index d).0 z)) (sym same) (subst (λ l. CellsFit s (numbers_of l) x) split (c.loop-column.invariant.rest_fits h)).0))
