use Rattle.std.proofs.Common.{◌++◌, length, ap, sym, subst, ◌∙◌}
use Rattle.std.proofs.lemmas.List.{length-map}
use Rattle.std.proofs.lemmas.Result.{IfOk-weaker}
use Rattle.lc_table.specs.Tables.{formulas_in}
use Rattle.lc_term.specs.Lists.{Every}
use Rattle.lc_term.specs.View.{formula_of, formulas_of}
use Rattle.lc_table.proofs.Later.{kept_on}
use Rattle.lc_outline.specs.Development.{invariant_of}
use Rattle.lc_outline.specs.DevelopmentView.{development_view}
use Rattle.lc_outline.specs.Resolved.{IsBelow}
use Rattle.lc_cond.specs.Adding.{HasFormulas}
use Rattle.lc_cond.specs.Crossings.{code_variable_limit}
use Rattle.lc_cond.specs.Stretches.{IsWithin, stretch_of}
use Rattle.lc_cond.proofs.Adding.{formulas_are, formulas_later, formulas_listed, terms_later, terms_listed}
use Rattle.lc_cond.proofs.Crossed.{known_all}
use Rattle.lc_cond.proofs.Stretched.{formulas_length, stretch_formulas, stretch_every}
use Rattle.lc_cond.proofs.stability.entered_crossings.Goals as goal

pub asked_about-requires : goal.asked_about-requires
asked_about-requires c =
    let t3 = c.entered.new.terms in
    let conjuncts = c.args.asserted.conjuncts.now in
    subst (λ m. IsWithin m c.args.asserted.asked)
    (sym (length-map conjuncts formula_of) ∙ sym (formulas_length t3 c.in_ok-asserts.asserts.items (formulas_of conjuncts) c.in_ok-asserts.ensures.list) ∙ ap length (sym c.deref-7.ensures.value)) c.requires.asked

pub all_crossings-requires-clause-given : goal.all_crossings-requires-clause-given
all_crossings-requires-clause-given c =
    let t0 = c.args.terms.now in
    let own = c.code_variables.new.terms in
    let t1 = c.entered_clients.new.terms in
    let t2 = c.entered_invariant.new.terms in
    let t3 = c.entered.new.terms in
    let kept23 = c.in_ok-asserts.ensures.kept in
    let kept13 = kept_on t1 t2 t3 c.in_ok-invariant.ensures.kept kept23 in
    let kept_own = kept_on own t1 t3 c.in_ok-clients.ensures.kept kept13 in
    let kept = kept_on t0 own t3 c.in_ok-variables.ensures.kept kept_own in
    let fs = formulas_of c.args.asserted.conjuncts.now in
    let frame = c.args.frame.now in
    let s = c.args.asserted.asked in
    let invariant = subst (HasFormulas t3 c.in_ok-invariant.invariant.items) (ap (λ d. invariant_of d) c.parts.ensures.shown) (formulas_later t2 t3 c.in_ok-invariant.invariant.items _ c.in_ok-invariant.ensures.list kept23) in
    let known = known_all t0 t3 frame c.in_ok-invariant.invariant.items c.in_ok-asserts.asserts.items c.deref.result.now c.deref-2.result.now c.in_ok-known.known.items c.deref-5.result.now (formulas_in t0 frame) _ _
    (formulas_are t0 frame c.requires.frame) kept invariant c.in_ok-asserts.ensures.list c.deref.ensures.value c.deref-2.ensures.value c.in_ok-known.ensures c.deref-5.ensures.value in
    let asked = formulas_listed t3 _ c.asked_about.result.now _ (stretch_formulas t3 c.deref-7.result.now fs s (formulas_listed t3 c.in_ok-asserts.asserts.items c.deref-7.result.now fs c.in_ok-asserts.ensures.list c.deref-7.ensures.value)) c.asked_about.ensures in
    record {
      few = c.requires.client;
      variables = terms_listed t3 c.in_ok-variables.variables.items c.deref-3.result.now _ (terms_later own t3 c.in_ok-variables.variables.items _ c.in_ok-variables.ensures.list kept_own) c.deref-3.ensures.value;
      clients = formulas_listed t3 c.in_ok-clients.clients.items c.deref-4.result.now _ (formulas_later t1 t3 c.in_ok-clients.clients.items _ c.in_ok-clients.ensures.list kept13) c.deref-4.ensures.value;
      known = known.are;
      invariant = formulas_listed t3 c.in_ok-invariant.invariant.items c.deref-6.result.now _ invariant c.deref-6.ensures.value;
      asserts = asked.are;
      below = subst (Every (IsBelow code_variable_limit)) (sym asked.trees) (stretch_every (IsBelow code_variable_limit) s fs c.requires.below);
    }

pub returns-clause-crossings : goal.returns-clause-crossings
returns-clause-crossings c =
    let t0 = c.args.terms.now in
    let own = c.code_variables.new.terms in
    let t1 = c.entered_clients.new.terms in
    let t2 = c.entered_invariant.new.terms in
    let t3 = c.entered.new.terms in
    let kept23 = c.in_ok-asserts.ensures.kept in
    let kept = kept_on t0 own t3 c.in_ok-variables.ensures.kept (kept_on own t1 t3 c.in_ok-clients.ensures.kept (kept_on t1 t2 t3 c.in_ok-invariant.ensures.kept kept23)) in
    let fs = formulas_of c.args.asserted.conjuncts.now in
    let invariant = subst (HasFormulas t3 c.in_ok-invariant.invariant.items) (ap (λ d. invariant_of d) c.parts.ensures.shown) (formulas_later t2 t3 c.in_ok-invariant.invariant.items _ c.in_ok-invariant.ensures.list kept23) in
    IfOk-weaker c.all_crossings.result _ _
    (λ cs crosses hs has. crosses (hs ++ (invariant_of (development_view c.args.development.now) ++ fs)) (stretch_of c.args.asserted.asked fs)
    (known_all t0 t3 c.args.frame.now c.in_ok-invariant.invariant.items c.in_ok-asserts.asserts.items c.deref.result.now c.deref-2.result.now c.in_ok-known.known.items c.deref-5.result.now hs _ fs
    has kept invariant c.in_ok-asserts.ensures.list c.deref.ensures.value c.deref-2.ensures.value c.in_ok-known.ensures c.deref-5.ensures.value)
    (formulas_listed t3 _ c.asked_about.result.now _ (stretch_formulas t3 c.deref-7.result.now fs c.args.asserted.asked (formulas_listed t3 c.in_ok-asserts.asserts.items c.deref-7.result.now fs c.in_ok-asserts.ensures.list c.deref-7.ensures.value)) c.asked_about.ensures)) c.all_crossings.ensures.crossings
