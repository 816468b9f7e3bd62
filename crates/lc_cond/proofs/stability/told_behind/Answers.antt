use Rattle.std.proofs.Common.{map, arith, sym, subst}
use Rattle.std.proofs.lemmas.Result.{IfOk-weaker}
use Rattle.lc_term.specs.Lists.{Every}
use Rattle.lc_term.specs.Syntax.{Variable}
use Rattle.lc_term.specs.View.{term_of}
use Rattle.lc_table.specs.Tables.{formulas_in}
use Rattle.lc_put.proofs.ByNumber.{are_terms_later}
use Rattle.lc_table.proofs.Later.{are_formulas_still}
use Rattle.lc_action.specs.Action.{post_columns}
use Rattle.lc_action.specs.ActionView.{action_of}
use Rattle.lc_outline.specs.Development.{invariant_of}
use Rattle.lc_outline.specs.DevelopmentView.{development_view}
use Rattle.lc_outline.specs.Resolved.{IsBelow}
use Rattle.lc_outline.proofs.Resolving.{passed_is_resolved}
use Rattle.lc_cond.specs.Adding.{HasFormulas}
use Rattle.lc_cond.specs.Crossings.{code_variable_limit, code_variables}
use Rattle.lc_cond.proofs.Adding.{formulas_are, formulas_later, terms_later, columns_listed}
use Rattle.lc_cond.proofs.Few.{below_more}
use Rattle.lc_cond.proofs.OwnVariables.{told_own}
use Rattle.lc_cond.proofs.stability.told_behind.Goals as goal

pub told_in-requires-clause-columns : goal.told_in-requires-clause-columns
told_in-requires-clause-columns c = (columns_listed c.entered_post.new.terms c.in_ok-columns.columns.items c.deref.result.now _ c.in_ok-columns.ensures.list c.deref.ensures.value).are

pub told_in-requires-clause-variables : goal.told_in-requires-clause-variables
told_in-requires-clause-variables c = are_terms_later c.args.terms.now c.entered_post.new.terms c.args.given.now.variables.now c.requires.variables.are c.in_ok-columns.ensures.kept

pub told_in-requires-clause-invariant : goal.told_in-requires-clause-invariant
told_in-requires-clause-invariant c = are_formulas_still c.args.terms.now c.entered_post.new.terms c.args.given.now.invariant.now c.requires.invariant.are c.in_ok-columns.ensures.kept

pub told_in-requires-clause-asserts : goal.told_in-requires-clause-asserts
told_in-requires-clause-asserts c = are_formulas_still c.args.terms.now c.entered_post.new.terms c.args.given.now.asserts.now c.requires.asserts c.in_ok-columns.ensures.kept

pub returns-clause-invariant : goal.returns-clause-invariant
returns-clause-invariant c =
    let t0 = c.args.terms.now in
    let t1 = c.entered_post.new.terms in
    let t2 = c.told_in.new.terms in
    let g = c.args.given.now in
    let σ = post_columns (action_of c.args.action.now) (Variable g.client) (map term_of c.args.parameters.now) in
    let fs = formulas_in t0 g.invariant.now in
    let kept = c.in_ok-columns.ensures.kept in
    let columns = columns_listed t1 c.in_ok-columns.columns.items c.deref.result.now σ c.in_ok-columns.ensures.list c.deref.ensures.value in
    let variables = terms_later t0 t1 g.variables.now code_variables c.requires.variables kept in
    let formulas = formulas_later t0 t1 g.invariant.now fs (formulas_are t0 g.invariant.now c.requires.invariant.are) kept in
    let D = development_view c.args.development.now in
    let below = subst (Every (IsBelow code_variable_limit)) (sym c.requires.invariant.trees) (below_more 1 code_variable_limit (invariant_of D) (omega arith) (passed_is_resolved D c.args.development.now.resolved).invariant) in
    IfOk-weaker c.told_in.result _ _ (λ p tells. subst (HasFormulas t2 p.0.items) (told_own code_variable_limit σ fs below) (tells σ code_variables fs columns variables formulas)) c.told_in.ensures.invariant

pub returns-clause-asserts : goal.returns-clause-asserts
returns-clause-asserts c =
    let t0 = c.args.terms.now in
    let t1 = c.entered_post.new.terms in
    let t2 = c.told_in.new.terms in
    let g = c.args.given.now in
    let σ = post_columns (action_of c.args.action.now) (Variable g.client) (map term_of c.args.parameters.now) in
    let fs = formulas_in t0 g.asserts.now in
    let kept = c.in_ok-columns.ensures.kept in
    let columns = columns_listed t1 c.in_ok-columns.columns.items c.deref.result.now σ c.in_ok-columns.ensures.list c.deref.ensures.value in
    let variables = terms_later t0 t1 g.variables.now code_variables c.requires.variables kept in
    let formulas = formulas_later t0 t1 g.asserts.now fs (formulas_are t0 g.asserts.now c.requires.asserts) kept in
    IfOk-weaker c.told_in.result _ _ (λ p tells. subst (HasFormulas t2 p.1.items) (told_own code_variable_limit σ fs c.requires.below) (tells σ code_variables fs columns variables formulas)) c.told_in.ensures.asserts
