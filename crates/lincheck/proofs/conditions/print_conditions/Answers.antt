use Rattle.std.proofs.Common.{sym, subst, ◌∙◌}
use Rattle.std.proofs.lemmas.Result.{err_from_is_err_and}
use Rattle.lc_cond_text.specs.ConditionText.{conditions_text}
use Rattle.lc_cond_text.specs.LinesView.{text_left}
use Rattle.lc_outline.specs.DevelopmentView.{development_view}
use Rattle.lincheck.proofs.Endings.{leaves_all, leaves_less, prints_nothing, prints_beginning}
use Rattle.lincheck.specs.Printing.{LeavesOf}
use Rattle.lincheck.proofs.conditions.print_conditions.Goals as goal

pub returns-in_err-lines : goal.returns-in_err-lines
returns-in_err-lines g c =
    let p = err_from_is_err_and c.from_residual.result c.from_residual.ensures.1 in
    rw (p.1, p.2) (prints_nothing (g.O.Write.contents c.args.out.now) (conditions_text (development_view c.args.development.now)))

pub pieces-init : goal.pieces-init
pieces-init g c =
    let known = g.O.Write.contents c.args.out.now in
    let text = conditions_text (development_view c.args.development.now) in
    subst (λ left. LeavesOf known known left text) (sym c.in_ok-lines.ensures.text) (leaves_all known text)

pub returns-in_err-piece : goal.returns-in_err-piece
returns-in_err-piece g c =
    let p = err_from_is_err_and c.from_residual-in_err-piece.result c.from_residual-in_err-piece.ensures.1 in
    rw (p.1, p.2)
    (prints_beginning (g.O.Write.contents c.args.out.now) (g.O.Write.contents c.pieces.out) (text_left c.pieces.lines) (conditions_text (development_view c.args.development.now)) c.pieces.invariant)

pub pieces-preserved : goal.pieces-preserved
pieces-preserved g c =
    let cut = rw c.in-Some.is at c.in_ok-piece.ensures.piece in
    leaves_less (g.O.Write.contents c.args.out.now) (g.O.Write.contents c.pieces.out) (g.O.Write.contents c.write_all.new.self) (text_left c.pieces.lines) c.in-Some.piece.items
    c.deref.result.now (text_left c.next_piece.new.self) (conditions_text (development_view c.args.development.now)) c.write_all.result
    c.pieces.invariant cut.0 c.deref.ensures.value (sym c.is_err.ensures.value ∙ c.if-is_err.false) c.write_all.ensures.bytes
