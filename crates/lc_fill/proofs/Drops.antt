-- Loops over what is planned: what is left of a list, and what it says.
use Rattle.std.proofs.Common.{◌≡◌, ℕ, true, false, List, [], ◌∷◌, refl, sym, ap, ◌∙◌}
use Rattle.std.specs.Prelude.{◌==◌}
use Rattle.std.proofs.lemmas.Bool.{eq-eqb, ne_eqb}
use Rattle.lc_sexp.specs.Trees.{Trees, none}
use Rattle.lc_fill.specs.PlanView.{found}
use Rattle.lc_fill.specs.declared.plan.Planned.{Planned}

-- ---- what is planned

pub found_here : (ps qs : List Planned) (p : Planned) (n : ℕ) (all : Trees) → ps ≡ p ∷ qs → p.place ≡ n → found ps n ≡ all → p.items ≡ all
found_here ps qs p n all e h so_far =
    let test : (p.place == n) ≡ true = eq-eqb p.place n h in
    let here : found (p ∷ qs) n ≡ p.items = rw test refl in
    sym here ∙ ap (λ xs. found xs n) (sym e) ∙ so_far

pub found_later : (ps qs : List Planned) (p : Planned) (n : ℕ) (all : Trees) → ps ≡ p ∷ qs → (p.place ≡ n → ⊥) → found ps n ≡ all → found qs n ≡ all
found_later ps qs p n all e h so_far =
    let test : (p.place == n) ≡ false = ne_eqb p.place n h in
    let later : found (p ∷ qs) n ≡ found qs n = rw test refl in
    sym later ∙ ap (λ xs. found xs n) (sym e) ∙ so_far

pub found_none : (ps : List Planned) (n : ℕ) (all : Trees) → ps ≡ [] → found ps n ≡ all → none ≡ all
found_none ps n all e so_far = ap (λ xs. found xs n) (sym e) ∙ so_far
