-- What an instruction leaves, one local or one store after another.
use Rattle.std.proofs.Common.{◌≡◌, ℕ, ◌+◌, ◌<◌, List, [], ◌∷◌, length, drop, map, get_or, refl, sym, ap, ap₂, ◌∙◌}
use Rattle.std.specs.Prelude.{slice_set}
use Rattle.std.proofs.lemmas.List.{drop_more}
use Rattle.lc_term.specs.Said.{put, puts}
use Rattle.lc_term.specs.Syntax as S
use Rattle.lc_term.specs.Updates.{assigned}
use Rattle.lc_term.specs.View.{term_of}
use Rattle.lc_term.specs.declared.term.Term.{Term}
use Rattle.lc_term.specs.UpdateView.{update_of}
use Rattle.lc_object.specs.View.{locals_of, terms_of}
use Rattle.lc_term.specs.declared.update.Update.{Update}
use Rattle.lc_object.specs.declared.instr.LocalId.{LocalId}

-- no value is left
pub assigned_none : (xs : List S.Term) (rs : List ℕ) → assigned xs rs [] ≡ xs
assigned_none xs [] = refl
assigned_none xs (r ∷ rs) = refl

-- one more local
pub assigned_more : (xs : List S.Term) (rs : List LocalId) (ts : List Term) (i : ℕ) (r : LocalId) (t : Term) →
    i < length rs → r ≡ get_or rs i (record { 0 = 0 }) → i < length ts → t ≡ get_or ts i t →
    assigned xs (locals_of (drop i rs)) (terms_of (drop i ts)) ≡ assigned (slice_set xs r.0 (term_of t)) (locals_of (drop (i + 1) rs)) (terms_of (drop (i + 1) ts))
assigned_more xs rs ts i r t hr er ht et =
    ap₂ (λ (qs : List LocalId) (us : List Term). assigned xs (locals_of qs) (terms_of us))
    (drop_more rs i (record { 0 = 0 }) hr ∙ ap (λ (x : LocalId). x ∷ drop (i + 1) rs) (sym er))
    (drop_more ts i t ht ∙ ap (λ (x : Term). x ∷ drop (i + 1) ts) (sym et))

-- one more store
pub stored_more : (us : List Update) (i : ℕ) (u : Update) (ρ : ℕ → S.Column) → i < length us → u ≡ get_or us i u →
    puts ρ (map update_of (drop i us)) ≡ puts (put ρ (update_of u)) (map update_of (drop (i + 1) us))
stored_more us i u ρ h e = ap (λ (vs : List Update). puts ρ (map update_of vs)) (drop_more us i u h ∙ ap (λ (x : Update). x ∷ drop (i + 1) us) (sym e))
