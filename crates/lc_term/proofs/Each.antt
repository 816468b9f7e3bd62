-- Lists of formulas, tested and replaced one after another.
use Rattle.std.proofs.Common.{◌≡◌, ℕ, suc, ◌+◌, ◌<◌, ◌&&◌, IsTrue, List, [], ◌∷◌, ◌++◌, length, take, drop, map, get_or, refl, sym, ap, ap₂, ◌∙◌, add-one}
use Rattle.std.proofs.Math.Seq.{drop-cons}
use Rattle.std.proofs.lemmas.List.{map_more, map-append}
use Rattle.std.proofs.lemmas.Bool.{and_parts}
use Rattle.lc_term.specs.Syntax as S
use Rattle.lc_term.specs.Syntax.{formulas}
use Rattle.lc_term.specs.Places.{Test, passes, all_pass}
use Rattle.lc_term.specs.Replacement.{Replacement, replace, replace_all}
use Rattle.lc_term.specs.View.{formula_of, formulas_of}
use Rattle.lc_term.specs.declared.formula.Formula.{Formula}

pub replace_all-formulas : (r : Replacement) (fs : List S.Formula) → replace_all r (formulas fs) ≡ formulas (map (replace r) fs)
replace_all-formulas r [] = refl
replace_all-formulas r (f ∷ fs) = ap (S.more (replace r f)) (replace_all-formulas r fs)

pub all_pass-drop : (p : ℕ → Test) (n : ℕ) (fs : List Formula) (i : ℕ) (d : Formula) → i < length fs →
    all_pass p n (formulas (formulas_of (drop i fs))) ≡ (passes p n (formula_of (get_or fs i d)) && all_pass p n (formulas (formulas_of (drop (suc i) fs))))
all_pass-drop p n fs i d h = ap (λ gs. all_pass p n (formulas (formulas_of gs))) (drop-cons fs i d h)

-- the formulas before i are replaced, and those from i on pass
abbrev pub ReplacedBelow : (ℕ → Test) → ℕ → Replacement → List Formula → List Formula → ℕ → Type 0
ReplacedBelow p n r each fs i = (formulas_of each ≡ map (replace r) (formulas_of (take i fs))) × IsTrue (all_pass p n (formulas (formulas_of (drop i fs))))

pub ReplacedBelow-more : (p : ℕ → Test) (n : ℕ) (r : Replacement) (each fs : List Formula) (i : ℕ) (g d : Formula) → i < length fs →
    (IsTrue (passes p n (formula_of (get_or fs i d))) → formula_of g ≡ replace r (formula_of (get_or fs i d))) →
    ReplacedBelow p n r each fs i → ReplacedBelow p n r (each ++ g ∷ []) fs (i + 1)
ReplacedBelow-more p n r each fs i g d lt is below =
    let both = and_parts (passes p n (formula_of (get_or fs i d))) (all_pass p n (formulas (formulas_of (drop (suc i) fs)))) (sym (all_pass-drop p n fs i d lt) ∙ below.1) in (
      map-append formula_of each (g ∷ []) ∙ ap₂ (λ xs x. xs ++ x ∷ []) below.0 (is both.0) ∙
          sym (ap (map (replace r)) (map_more formula_of fs i d lt) ∙ map-append (replace r) (formulas_of (take i fs)) (formula_of (get_or fs i d) ∷ [])),
      rw add-one both.1,
    )
