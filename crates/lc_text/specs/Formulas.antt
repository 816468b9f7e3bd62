-- What a text reads as where a formula is expected.
use Rattle.std.specs.Prelude.{ℕ, ◌+◌, if◌then◌else◌, List, [], ◌∷◌, ◌++◌, Option, Some, None}
use Rattle.lc_sexp.specs.Trees.{Tree, Trees, atom, list, none, ◌▸◌, item_count}
use Rattle.lc_term.specs.Syntax as S
use Rattle.lc_term.specs.Syntax.{Term, Formula, Formulas}
use Rattle.lc_text.specs.Names.{Names}
use Rattle.lc_reading.specs.Naming.{within, spelled_reading}
use Rattle.lc_reading.specs.Readings.{Reading, fine, wrong, mapped, both, two_of, ended}
use Rattle.lc_reading.specs.Reserved.{is_reserved}
use Rattle.lc_reading.specs.declared.pass.Pass.TheVariants.{Shape, Repeated}
use Rattle.lc_text.specs.Heads.{connective_due}
use Rattle.lc_text.specs.Terms.{pair, terms_reading}
use Rattle.lc_text.specs.declared.words.Connective.{Connective}
use Rattle.lc_text.specs.declared.words.Connective.TheVariants as C

-- the name of a quantifier's variable, which may be declared
abbrev pub binder_reading : ℕ → Tree → Reading (Unit {0})
binder_reading n t = spelled_reading (λ w. if is_reserved w then wrong Repeated n else within n w tt) n t

-- the names that are bound inside a quantifier whose name is this
abbrev pub bound_inside : Tree → List (List ℕ) → List (List ℕ)
bound_inside (atom w) bound = bound ++ (w ∷ [])
bound_inside (list ts) bound = bound

-- two terms compared
abbrev pub comparison_of : Connective → Term × Term → Formula
comparison_of C.Le p = S.Le p.0 p.1
comparison_of _ p = S.Eq p.0 p.1

-- formulas in a row
abbrev pub joined_by : Connective → Formulas → Formula
joined_by C.And fs = S.And fs
joined_by _ fs = S.Or fs

abbrev pub implication_of : Formula × Formula → Formula
implication_of p = S.Implies p.0 p.1

-- the body of a quantifier
abbrev pub quantified_by : Connective → Formula → Formula
quantified_by C.Forall f = S.Forall f
quantified_by _ f = S.Exists f

-- the body, after its name
abbrev pub body_of : Unit {0} → Formula → Formula
body_of u f = f

-- the list n that begins so, if its parts read so: as two terms, as one formula, as any formulas, as two, as a name and a formula
abbrev pub connective_reading : ℕ → Option Connective → Reading (Term × Term) → Reading Formula → Reading Formulas → Reading (Formula × Formula) → Reading Formula → Reading Formula
connective_reading n None terms one any two body = wrong Shape n
connective_reading n (Some C.Le) terms one any two body = mapped (comparison_of C.Le) terms
connective_reading n (Some C.Eq) terms one any two body = mapped (comparison_of C.Eq) terms
connective_reading n (Some C.Not) terms one any two body = mapped S.Not one
connective_reading n (Some C.And) terms one any two body = mapped (joined_by C.And) any
connective_reading n (Some C.Or) terms one any two body = mapped (joined_by C.Or) any
connective_reading n (Some C.Implies) terms one any two body = mapped implication_of two
connective_reading n (Some C.Forall) terms one any two body = mapped (quantified_by C.Forall) body
connective_reading n (Some C.Exists) terms one any two body = mapped (quantified_by C.Exists) body

abbrev mutual
  -- the item n, where a formula is expected and quantifiers bind these names
  pub formula_reading : Names → List (List ℕ) → ℕ → Tree → Reading Formula
  formula_reading names bound n (list (atom w ▸ ts)) =
      connective_reading n (connective_due names w) (terms_reading names bound n (n + 2) ts) (only_reading names bound n (n + 2) ts)
      (formulas_reading names bound (n + 2) ts) (both_reading names bound n (n + 2) ts) (body_reading names bound n (n + 2) ts)
  formula_reading names bound n _ = wrong Shape n

  -- F: the parts of the list n, numbered from m on
  pub only_reading : Names → List (List ℕ) → ℕ → ℕ → Trees → Reading Formula
  only_reading names bound n m none = wrong Shape n
  only_reading names bound n m (t ▸ ts) = ended (m + item_count t) ts (formula_reading names bound m t)

  -- F F
  pub both_reading : Names → List (List ℕ) → ℕ → ℕ → Trees → Reading (Formula × Formula)
  both_reading names bound n m (t ▸ u ▸ ts) = two_of pair m t u ts (formula_reading names bound m t) (formula_reading names bound (m + item_count t) u)
  both_reading names bound n m _ = wrong Shape n

  -- NAME F
  pub body_reading : Names → List (List ℕ) → ℕ → ℕ → Trees → Reading Formula
  body_reading names bound n m (t ▸ u ▸ ts) = two_of body_of m t u ts (binder_reading m t) (formula_reading names (bound_inside t bound) (m + item_count t) u)
  body_reading names bound n m _ = wrong Shape n

  -- F*
  pub formulas_reading : Names → List (List ℕ) → ℕ → Trees → Reading Formulas
  formulas_reading names bound m none = fine S.none
  formulas_reading names bound m (t ▸ ts) = both S.more (formula_reading names bound m t) (formulas_reading names bound (m + item_count t) ts)

-- the list n that begins so, whose other parts are numbered from m on
abbrev pub connective_with : Names → List (List ℕ) → Connective → ℕ → ℕ → Trees → Reading Formula
connective_with names bound c n m ts =
    connective_reading n (Some c) (terms_reading names bound n m ts) (only_reading names bound n m ts) (formulas_reading names bound m ts) (both_reading names bound n m ts)
    (body_reading names bound n m ts)
