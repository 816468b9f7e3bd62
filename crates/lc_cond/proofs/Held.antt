-- Terms that the cells of a client hold, one after another.
use Rattle.std.proofs.Common.{◌≡◌, ℕ, ◌≤◌, List, [], ◌∷◌, ◌++◌, length, drop, map, refl, sym, ap, ◌∙◌, append-nil}
use Rattle.std.proofs.Math.ListN.{drop_of_length-le}
use Rattle.lc_base.specs.declared.ids.ColId.{ColId}
use Rattle.lc_term.specs.Syntax as S
use Rattle.lc_term.specs.View.{term_of}
use Rattle.lc_term.specs.declared.term.Term.{Term}
use Rattle.lc_cond.specs.Conditions.{hold_terms}

abbrev pub numbers_of : List ColId → List ℕ
numbers_of cs = map (λ c. c.0) cs

no_terms : (cs : List ℕ) → hold_terms cs [] ≡ []
no_terms [] = refl
no_terms (c ∷ cs) = refl

-- no term is left
pub held_end : (cs : List ColId) (ts : List Term) (i : ℕ) (done whole : List S.Formula) → length ts ≤ i →
    done ++ hold_terms (numbers_of (drop i cs)) (map term_of (drop i ts)) ≡ whole → done ≡ whole
held_end cs ts i done whole h e =
    sym (append-nil done)
    ∙ ap (λ r. done ++ r) (sym (ap (λ (l : List Term). hold_terms (numbers_of (drop i cs)) (map term_of l)) (drop_of_length-le ts h) ∙ no_terms (numbers_of (drop i cs)))) ∙ e
