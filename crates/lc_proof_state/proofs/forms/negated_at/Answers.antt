use Rattle.std.proofs.Common.{◌≡◌, IfOk, ap, sym, subst, ◌∙◌, option_map}
use Rattle.std.proofs.lemmas.Option.{slice_get-map}
use Rattle.lc_term.specs.Syntax.{Not}
use Rattle.lc_term.specs.View.{formula_of, formulas_of}
use Rattle.lc_proof_state.proofs.forms.negated_at.Goals as goal

pub returns : goal.returns
returns c =
    subst (λ x. IfOk c.not_of.result (λ made. option_map formula_of made ≡ x))
    (ap (option_map Not) c.in_ok-found.ensures ∙ sym (slice_get-map Not (formulas_of c.args.formulas.now) c.args.place)) c.not_of.ensures
