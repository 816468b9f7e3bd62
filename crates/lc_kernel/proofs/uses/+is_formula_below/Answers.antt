use Rattle.std.proofs.Common.{rules, arith, ◌≡◌, inl, inr, sym, ap, ◌∙◌, subst}
use Rattle.std.proofs.lemmas.Result.{IfOk-weaker}
use Rattle.lc_table.specs.Nodes.{AllBelow, PartsBelow, TreeFits, tree_of}
use Rattle.lc_term.specs.Syntax as S
use Rattle.lc_table.specs.Tables.{parts, formulas, formula_in, formulas_in, AreFormulas}
use Rattle.lc_table.proofs.Listed.{beyond-le, get-beyond, are_formulas-get}
use Rattle.lc_kernel.specs.Below.{formula_below, all_below}
use Rattle.lc_kernel.proofs.Views.{parts_below, body_below}
use Rattle.lc_kernel.proofs.uses.+is_formula_below.Goals as goal

pub are_formulas_below-is_formula_below-requires : goal.are_formulas_below-is_formula_below-requires
are_formulas_below-is_formula_below-requires t c =
    let ks = c.args.formulas.now in
    let i = c.loop-formula.formula-index in
    let least = get-beyond ks i (record { 0 = 0 }) c.loop-formula-test.true in
    (omega arith, (are_formulas-get c.args.in_use.terms.now ks i (record { 0 = 0 }) c.requires.there c.loop-formula-test.true, c.loop-formula.invariant.0))

pub is_formula_node_below-are_formulas_below-requires : goal.is_formula_node_below-are_formulas_below-requires
is_formula_node_below-are_formulas_below-requires t c =
    let ts = c.args.in_use.terms.now in
    let ks = c.in-And.parts.items in
    let same : c.deref.result.now ≡ ks = search rules in
    let small : AllBelow c.args.formula.0 ks =
    elim c.in-And.is [ inl v ↦ subst (PartsBelow c.args.formula.0) v c.formula_node.ensures.below | inr v ↦ subst (PartsBelow c.args.formula.0) v c.formula_node.ensures.below ] in
    let fits : AreFormulas ts ks =
    elim c.in-And.is [ inl v ↦ subst (TreeFits (parts ts) (formulas ts)) v c.formula_node.ensures.fits | inr v ↦ subst (TreeFits (parts ts) (formulas ts)) v c.formula_node.ensures.fits ] in
    let least = beyond-le c.args.formula.0 c.deref.result.now (subst (AllBelow c.args.formula.0) (sym same) small) in
    (omega arith, (subst (AreFormulas ts) (sym same) fits, c.requires.1))

pub is_formula_node_below-returns-in-Forall-clause-below : goal.is_formula_node_below-returns-in-Forall-clause-below
is_formula_node_below-returns-in-Forall-clause-below t c =
    let ts = c.args.in_use.terms.now in
    let count = c.args.in_use.count in
    let body = formula_in ts c.in-Forall.body in
    let there : formula_below count (formula_in ts c.args.formula) ≡ formula_below count (S.Forall body) =
    elim c.in-Forall.is [
      | inl v ↦ ap (formula_below count) (c.formula_node.ensures.tree ∙ ap (tree_of (parts ts) (formulas ts)) v)
      | inr v ↦ ap (formula_below count) (c.formula_node.ensures.tree ∙ ap (tree_of (parts ts) (formulas ts)) v)
    ] in
    IfOk-weaker c.is_formula_below-in-Forall.result _ _ (λ b h. h ∙ body_below count body ∙ sym there) c.is_formula_below-in-Forall.ensures.below

pub is_formula_node_below-returns-in-And-clause-below : goal.is_formula_node_below-returns-in-And-clause-below
is_formula_node_below-returns-in-And-clause-below t c =
    let ts = c.args.in_use.terms.now in
    let count = c.args.in_use.count in
    let ks = c.in-And.parts.items in
    let same : c.deref.result.now ≡ ks = search rules in
    let there : formula_below count (formula_in ts c.args.formula) ≡ formula_below count (S.And (S.formulas (formulas_in ts ks))) =
    elim c.in-And.is [
      | inl v ↦ ap (formula_below count) (c.formula_node.ensures.tree ∙ ap (tree_of (parts ts) (formulas ts)) v)
      | inr v ↦ ap (formula_below count) (c.formula_node.ensures.tree ∙ ap (tree_of (parts ts) (formulas ts)) v)
    ] in
    IfOk-weaker c.are_formulas_below.result _ _ (λ b h. h ∙ ap (λ xs. all_below count (formulas_in ts xs)) same ∙ parts_below count (formulas_in ts ks) ∙ sym there) c.are_formulas_below.ensures.below
