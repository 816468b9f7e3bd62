-- What is seen of conjunctions and disjunctions, and of the branches of a proof.
use Rattle.std.proofs.Common.{◌≡◌, Some, Vec, ap, ◌∙◌, rules}
use Rattle.std.specs.declared.alloc.Global.{Global}
use Rattle.lc_kernel.proofs.Views.{parts_formulas}
use Rattle.lc_kernel.specs.Table.{alternatives, conjuncts, failing, negations, pushed_inward}
use Rattle.lc_term.specs.Syntax as S
use Rattle.lc_term.specs.View.{formula_of, formulas_of}
use Rattle.lc_term.specs.declared.formula.Formula.{Formula, And, Or, the_lemmas}

pub formula_of-And : (fs : Vec Formula Global) → formula_of (And fs) ≡ S.And (S.formulas (formulas_of fs.items))
formula_of-And fs = search (rules, the_lemmas)

formula_of-Or : (fs : Vec Formula Global) → formula_of (Or fs) ≡ S.Or (S.formulas (formulas_of fs.items))
formula_of-Or fs = search (rules, the_lemmas)

-- ---- of `(and F ..)` and `(or F ..)`

pub conjuncts_of : (f : Formula) (fs : Vec Formula Global) → f ≡ And fs → conjuncts (formula_of f) ≡ Some (formulas_of fs.items)
conjuncts_of f fs is = ap (λ g. conjuncts (formula_of g)) is ∙ ap conjuncts (formula_of-And fs) ∙ ap Some (parts_formulas (formulas_of fs.items))

pub failing_of : (f : Formula) (fs : Vec Formula Global) → f ≡ And fs → failing (formula_of f) ≡ Some (negations (formulas_of fs.items))
failing_of f fs is = ap (λ g. failing (formula_of g)) is ∙ ap failing (formula_of-And fs) ∙ ap (λ gs. Some (negations gs)) (parts_formulas (formulas_of fs.items))

pub alternatives_of : (f : Formula) (fs : Vec Formula Global) → f ≡ Or fs → alternatives (formula_of f) ≡ Some (formulas_of fs.items)
alternatives_of f fs is = ap (λ g. alternatives (formula_of g)) is ∙ ap alternatives (formula_of-Or fs) ∙ ap Some (parts_formulas (formulas_of fs.items))

pub pushed_of : (f : Formula) (fs : Vec Formula Global) → f ≡ Or fs → pushed_inward (formula_of f) ≡ Some (S.And (S.formulas (negations (formulas_of fs.items))))
pushed_of f fs is = ap (λ g. pushed_inward (formula_of g)) is ∙ ap pushed_inward (formula_of-Or fs) ∙ ap (λ gs. Some (S.And (S.formulas (negations gs)))) (parts_formulas (formulas_of fs.items))
