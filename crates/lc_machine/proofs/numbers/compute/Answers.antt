use Rattle.std.proofs.Common.{◌≡◌, w64, ◌+◌, true, length, drop, ◌∷◌, ◌++◌, [], subst, rules, sym, ap, ◌∙◌}
use Rattle.std.specs.Prelude.{FitsSigned}
use Rattle.std.proofs.lemmas.Int.{to_z-of_z}
use Rattle.std.proofs.lemmas.List.{length-append, drop_more}
use Rattle.lc_lemmas.proofs.Booleans.{left_true, right_true}
use Rattle.lc_object.specs.View.{terms_of}
use Rattle.lc_object.specs.WellFormed.{are_code_terms, is_code_term}
use Rattle.lc_term.specs.View.{term_of}
use Rattle.lc_term.specs.State.{state_of, variable_count, column_count}
use Rattle.lc_term.specs.Reached.{TermsFit}
use Rattle.lc_machine.specs.World.{variable}
use Rattle.lc_machine.proofs.Known.{known_term, one_more}
use Rattle.lc_machine.proofs.numbers.compute.Goals as goal

pub eval_term-requires : goal.eval_term-requires
eval_term-requires c =
    let i = c.loop-term.term-index in
    let ts = c.args.terms.now in
    let t = c.term-item.result in
    let n = variable_count c.args.variables.now in
    let split : drop i ts ≡ t ∷ drop (i + 1) ts = drop_more ts i t c.loop-term-test.true ∙ ap (λ x. x ∷ drop (i + 1) ts) (sym c.term-item.is) in
    let code = subst (λ l. are_code_terms n (terms_of l) ≡ true) split c.loop-term.invariant.code in
    known_term (column_count c.args.state.now) n (term_of t) (left_true (is_code_term n (term_of t)) (are_code_terms n (terms_of (drop (i + 1) ts))) code)

pub loop-term-preserved : goal.loop-term-preserved
loop-term-preserved c =
    let i = c.loop-term.term-index in
    let ts = c.args.terms.now in
    let t = c.term-item.result in
    let n = variable_count c.args.variables.now in
    let s = state_of c.args.state.now in
    let vs = c.args.variables.now.values.items in
    let before = c.loop-term.invariant in
    let number = c.in_ok-eval_term.field-0 in
    let split : drop i ts ≡ t ∷ drop (i + 1) ts = drop_more ts i t c.loop-term-test.true ∙ ap (λ x. x ∷ drop (i + 1) ts) (sym c.term-item.is) in
    let code = subst (λ l. are_code_terms n (terms_of l) ≡ true) split before.code in
    let number_fits : FitsSigned w64 number = search rules in
    let pushed : c.push.new.self.items ≡ c.loop-term.numbers.items ++ number ∷ [] = simp to_z-of_z at c.push.ensures.items in
    record {
      code = right_true (is_code_term n (term_of t)) (are_code_terms n (terms_of (drop (i + 1) ts))) code;
      rest_fits = λ h. (subst (λ l. TermsFit s (variable vs) (terms_of l)) split (before.rest_fits h)).1;
      all_fit = λ h. before.all_fit (subst (λ l. TermsFit s (variable vs) (terms_of l)) (sym split) (c.in_ok-eval_term.ensures.0, h));
      count = ap length pushed ∙ length-append c.loop-term.numbers.items (number ∷ []) ∙ ap (λ k. k + 1) before.count;
      same = one_more s vs c.loop-term.numbers.items c.push.new.self.items number (term_of t) (terms_of (drop (i + 1) ts)) (terms_of (drop i ts)) (terms_of ts) (ap terms_of split) pushed c.in_ok-eval_term.ensures.1 before.same;
    }
