-- Terms stored in the cells of a client, one after another.
use Rattle.std.proofs.Common.{◌≡◌, ℕ, ◌≤◌, List, [], ◌∷◌, ◌++◌, length, drop, map, refl, sym, ap, ◌∙◌, append-nil}
use Rattle.std.proofs.Math.ListN.{drop_of_length-le}
use Rattle.lc_base.specs.declared.ids.ColId.{ColId}
use Rattle.lc_term.specs.Updates as U
use Rattle.lc_term.specs.Said.{at_client}
use Rattle.lc_term.specs.View.{term_of}
use Rattle.lc_term.specs.declared.term.Term.{Term}

abbrev pub numbers_of : List ColId → List ℕ
numbers_of cs = map (λ c. c.0) cs

pub no_terms : (cs : List ℕ) → at_client cs [] ≡ []
no_terms [] = refl
no_terms (c ∷ cs) = refl

-- no term is left
pub own_end : (cs : List ColId) (ts : List Term) (i : ℕ) → length ts ≤ i → at_client (numbers_of (drop i cs)) (map term_of (drop i ts)) ≡ []
own_end cs ts i h = ap (λ (l : List Term). at_client (numbers_of (drop i cs)) (map term_of l)) (drop_of_length-le ts h) ∙ no_terms (numbers_of (drop i cs))

pub updates_end : (cs : List ColId) (ts : List Term) (i : ℕ) (done whole : List U.Update) → length ts ≤ i →
    done ++ at_client (numbers_of (drop i cs)) (map term_of (drop i ts)) ≡ whole → done ≡ whole
updates_end cs ts i done whole h e = sym (append-nil done) ∙ ap (λ r. done ++ r) (sym (own_end cs ts i h)) ∙ e
