use Rattle.std.proofs.Common.{rules, ◌≡◌, ◌++◌, ◌∙◌, List, ℕ, true, codes, append_assoc, ap, ap₂, sym}
use Rattle.lc_term.specs.Syntax as S
use Rattle.lc_table.specs.Tables.{term_in, column_in}
use Rattle.lc_text.specs.Spelled.{spelled_term, spelled_column}
use Rattle.lc_outline.specs.DevelopmentView.{development_view}
use Rattle.lc_cond_text.specs.ConditionText.{spelled}
use Rattle.lc_cond_text.proofs.term_text.push_read.Goals as goal

grouped : (o w a s i e : List ℕ) → ((((o ++ w) ++ a) ++ s) ++ i) ++ e ≡ o ++ (((w ++ a) ++ (s ++ i)) ++ e)
grouped o w a s i e = simp append_assoc

pub returns-clause-written : goal.returns-clause-written
returns-clause-written c e =
    let d = development_view c.args.development.now in
    let by = spelled d in
    let n = c.args.depth in
    let ts = c.args.terms.now in
    let out = c.args.out.now.items in
    let index = spelled_term by n (term_in ts c.in-Read.index) in
    let column = spelled_column by n (column_in ts c.in-Read.column) in
    let base : column_in ts c.in-Read.column ≡ S.Base c.in-Base.base.0 = search rules in
    let tree : term_in ts c.args.term ≡ S.Read (column_in ts c.in-Read.column) (term_in ts c.in-Read.index) = search rules in
    let simple : c.in_ok-push_simple.field-0 ≡ true = search rules in
    let name = c.column_name.ensures ∙ ap (spelled_column by n) (sym base) in
    let first = c.in_ok-push_text-2.ensures ∙ ap₂ (λ a b. a ++ b) c.in_ok-push_text.ensures name in
    let second = c.in_ok-push_simple.ensures.written d simple ∙ ap (λ l. l ++ index) (c.in_ok-push_space.ensures ∙ ap (λ l. l ++ codes " ") first) in
    c.in_ok-push_end.ensures ∙ ap (λ l. l ++ codes ")") second ∙ grouped out (codes "(rd ") column (codes " ") index (codes ")") ∙ ap (λ t. out ++ spelled_term by n t) (sym tree)
