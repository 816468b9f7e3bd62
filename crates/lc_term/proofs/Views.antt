-- What is seen of each kind of formula.
use Rattle.std.proofs.Common.{◌≡◌, rules}
use Rattle.std.specs.Prelude.{Box}
use Rattle.std.specs.declared.alloc.Global.{Global}
use Rattle.lc_term.specs.Syntax as S
use Rattle.lc_term.specs.declared.formula.Formula.{Formula, Implies, Forall, Exists, the_lemmas}
use Rattle.lc_term.specs.View.{formula_of}

pub formula_of-Implies : (f g : Box Formula Global) → formula_of (Implies f g) ≡ S.Implies (formula_of f.value) (formula_of g.value)
formula_of-Implies f g = search (rules, the_lemmas)

pub formula_of-Forall : (f : Box Formula Global) → formula_of (Forall f) ≡ S.Forall (formula_of f.value)
formula_of-Forall f = search (rules, the_lemmas)

pub formula_of-Exists : (f : Box Formula Global) → formula_of (Exists f) ≡ S.Exists (formula_of f.value)
formula_of-Exists f = search (rules, the_lemmas)
