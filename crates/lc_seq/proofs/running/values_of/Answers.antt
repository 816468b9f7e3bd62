use Rattle.std.proofs.Common.{◌+◌, ◌∷◌, ◌++◌, [], map, drop, w64, arith, rules, ap, subst, ◌∙◌}
use Rattle.std.specs.Prelude.{FitsSigned}
use Rattle.std.proofs.lemmas.Int.{to_z-of_z}
use Rattle.lc_lemmas.proofs.Lists.{drop_at_element}
use Rattle.lc_term.specs.State.{state_of, env_of, column_count, variable_count}
use Rattle.lc_term.specs.View.{term_of}
use Rattle.lc_seq.specs.TextStep.{TermsFit, values_of}
use Rattle.lc_seq.specs.declared.fault.SeqFault.TheVariants.{Overflow}
use Rattle.lc_seq.proofs.Runs.{AreValued, handed_on, valued_next}
use Rattle.lc_seq.proofs.running.values_of.Goals as goal

pub returns-in_err-value : goal.returns-in_err-value
returns-in_err-value c =
    let s = state_of c.args.state.now in
    let e = env_of c.args.env.now in
    let whole = map term_of c.args.terms.now in
    let front = ap (map term_of) (drop_at_element c.args.terms.now c.loop-term.term-index c.term-item.result (omega arith) c.term-item.is) in
    handed_on (λ numbers. numbers.items) (TermsFit s e whole) (values_of s e whole) c.from_residual.result Overflow c.from_residual.ensures.1
    (λ fits. c.in_err-value.ensures (subst (TermsFit s e) front (c.loop-term.invariant.rest_fits fits)).0)

pub loop-term-preserved : goal.loop-term-preserved
loop-term-preserved c =
    let s = state_of c.args.state.now in
    let e = env_of c.args.env.now in
    let whole = map term_of c.args.terms.now in
    let i = c.loop-term.term-index in
    let front = ap (map term_of) (drop_at_element c.args.terms.now i c.term-item.result (omega arith) c.term-item.is) in
    let fits : FitsSigned w64 c.in_ok-value.value = search rules in
    valued_next s e (column_count c.args.state.now) (variable_count c.args.env.now) whole (term_of c.term-item.result) (map term_of (drop (i + 1) c.args.terms.now)) c.loop-term.values.items c.push.new.self.items c.in_ok-value.value
    (subst (λ rest. AreValued s e (column_count c.args.state.now) (variable_count c.args.env.now) whole rest c.loop-term.values.items) front c.loop-term.invariant)
    c.in_ok-value.ensures.0
    (c.in_ok-push.ensures.items ∙ ap (λ z. c.loop-term.values.items ++ z ∷ []) (to_z-of_z w64 c.in_ok-value.value fits))
    c.in_ok-value.ensures.1
