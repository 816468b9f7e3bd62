use Rattle.std.proofs.Common.{rules, ◌≡◌, ◌∙◌, ap, ap₂, Some}
use Rattle.std.proofs.lemmas.Result.{IfOk-weaker}
use Rattle.lc_term.specs.Syntax as S
use Rattle.lc_table.specs.Tables.{term_in, HasTerm, HasColumn}
use Rattle.lc_table.proofs.Later.{term_is, term_later, term_still, is_term_still, column_is, kept_on}
use Rattle.lc_array.proofs.axioms.affine_axiom.Goals as goal

pub has_value-requires-clause-index : goal.has_value-requires-clause-index
has_value-requires-clause-index c = is_term_still _ _ c.args.index c.requires (kept_on _ _ _ c.in_ok-value.ensures.kept c.in_ok-column.ensures.kept)

pub returns-clause-id : goal.returns-clause-id
returns-clause-id c =
    let now = c.affine.new.self in
    let index = c.args.index in
    let line : HasTerm c.line.new.terms c.in_ok-value.value (S.Add (S.Multiply c.args.slope (term_in c.args.terms.now index)) (S.Number c.args.start)) = search rules in
    let column : HasColumn now c.in_ok-column.column (S.Affine c.args.slope c.args.start) = search rules in
    let value = term_is now _ _ (term_later _ now _ _ line c.in_ok-column.ensures.kept) in
    let there = column_is now _ _ column in
    let same = term_still _ now index c.requires (kept_on _ _ _ c.in_ok-value.ensures.kept c.in_ok-column.ensures.kept) in
    IfOk-weaker c.has_value.result _ _ (λ k h. h ∙ ap Some (ap₂ S.Eq (ap₂ S.Read there same) value)) c.has_value.ensures.id
