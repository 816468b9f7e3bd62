-- What updates store, one after another.
use Rattle.std.proofs.Common.{◌≡◌, ℕ, ◌<◌, ◌≤◌, ◌+◌, ℤ, List, [], ◌∷◌, ◌++◌, map, take, length, get_or, sym, ap, ◌∙◌, subst}
use Rattle.std.proofs.lemmas.List.{map-append, take_all}
use Rattle.lc_cond.proofs.Sized.{every_at}
use Rattle.lc_term.specs.Lists.{Every}
use Rattle.lc_term.specs.Meaning.{State}
use Rattle.lc_term.specs.UpdateView.{update_of, updates_of, write_view, writes_view}
use Rattle.lc_term.specs.Updates as U
use Rattle.lc_term.specs.Updates.{AreWithin, variable}
use Rattle.lc_term.specs.declared.update.Update.{Update}
use Rattle.lc_term.specs.declared.update.Write.{Write}
use Rattle.lc_acting.specs.NoAction.{IsUpdate}
use Rattle.lc_acting.proofs.LeftIn.{every_next, taken_more}
use Rattle.lc_acting.proofs.Viewed.{seen_at}

module _ (columns : ℕ) (m : State) (vs : List ℤ) where
  -- these are what updates store, which are evaluated
  abbrev pub AreStored : List U.Update → List U.Write → Type 0
  AreStored us ws = Every (IsUpdate columns m vs) us × (ws ≡ U.writes_of m (variable vs) us)

  module _ (us : List Update) (i : ℕ) where
    pub stored_more : (u : Update) (w : Write) (ws new : List Write) → i < length us → u ≡ get_or us i u → IsUpdate columns m vs (update_of u) → write_view w ≡ U.write_of m (variable vs) (update_of u) →
        new ≡ ws ++ w ∷ [] → AreStored (updates_of (take i us)) (writes_view ws) → AreStored (updates_of (take (i + 1) us)) (writes_view new)
    stored_more u w ws new lt is seen here more (all, same) =
        let f = U.write_of m (variable vs) in
        let before = updates_of (take i us) in (
          every_next update_of us i (IsUpdate columns m vs) u lt is seen all,
          ap writes_view more ∙ (map-append write_view ws (w ∷ []) ∙ ((λ j. same j ++ here j ∷ []) ∙ (sym (map-append f before (update_of u ∷ [])) ∙ ap (map f) (sym (taken_more update_of us i u lt is))))),
        )

    pub stored_none : (u : Update) → i < length us → u ≡ get_or us i u → (IsUpdate columns m vs (update_of u) → ⊥) → Every (IsUpdate columns m vs) (updates_of us) → ⊥
    stored_none u lt is not all = not (every_at (IsUpdate columns m vs) (updates_of us) i (update_of u) all (seen_at update_of us i u lt is))

    pub stored_to_end : (ws : List U.Write) → length us ≤ i → AreStored (updates_of (take i us)) ws → AreStored (updates_of us) ws
    stored_to_end ws past so = subst (λ (l : List Update). AreStored (updates_of l) ws) (take_all i us past) so

  -- they are in columns that are there
  pub stored_within : (us : List U.Update) → Every (IsUpdate columns m vs) us → AreWithin columns (U.writes_of m (variable vs) us)
  stored_within [] all = tt
  stored_within (u ∷ us) all = (all.0.0, stored_within us all.1)
