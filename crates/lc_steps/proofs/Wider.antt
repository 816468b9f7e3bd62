-- What uses only the first columns is within any larger number of them.
use Rattle.std.proofs.Common.{◌≡◌, ℕ, ◌≤◌, true, ◌&&◌, List, [], ◌∷◌, refl, arith}
use Rattle.std.specs.Prelude.{nat_lt}
use Rattle.std.specs.List.{list_all}
use Rattle.std.proofs.lemmas.Bool.Decides.{nat_tests}
use Rattle.std.proofs.lemmas.Bool.{and_from}
use Rattle.lc_lemmas.proofs.Booleans.{left_true, right_true}
use Rattle.lc_term.specs.Places.{known, term_passes, is_known}
use Rattle.lc_term.specs.Syntax.{Term}
use Rattle.lc_term.specs.Truth.{is_ground}
use Rattle.lc_term.specs.Updates.{Update}
use Rattle.lc_term.proofs.Weaker.{IsWeaker, weaker_term, weaker_formula}
use Rattle.lc_seq.specs.Specification.{Branch, update_is_resolved, branch_is_resolved}
use Rattle.lc_seq.proofs.Choosing.{resolved_behind}

below : (c n m : ℕ) → n ≤ m → nat_lt c n ≡ true → nat_lt c m ≡ true
below c n m le e = grind (arith, nat_tests)

module _ (n m variables : ℕ) (le : n ≤ m) where
  wider : IsWeaker (known n variables) (known m variables)
  wider = record { columns = λ c h. below c n m le h; variables = λ k h. h; bounds = λ k h. h }

  term-wider : (t : Term) → term_passes (known n variables) t ≡ true → term_passes (known m variables) t ≡ true
  term-wider t h = weaker_term (known n variables) (known m variables) wider t h

  terms-wider : (ts : List Term) → list_all (term_passes (known n variables)) ts ≡ true → list_all (term_passes (known m variables)) ts ≡ true
  terms-wider [] h = refl
  terms-wider (t ∷ ts) h =
      and_from _ _ (term-wider t (left_true _ (list_all (term_passes (known n variables)) ts) h)) (terms-wider ts (right_true (term_passes (known n variables) t) _ h))

  update-wider : (u : Update) → update_is_resolved n variables u ≡ true → update_is_resolved m variables u ≡ true
  update-wider u h =
      let terms = term_passes (known n variables) u.index && term_passes (known n variables) u.value in
      let both = right_true (nat_lt u.column n) terms h in
      and_from _ _ (below u.column n m le (left_true (nat_lt u.column n) terms h))
      (and_from _ _ (term-wider u.index (left_true _ (term_passes (known n variables) u.value) both)) (term-wider u.value (right_true (term_passes (known n variables) u.index) _ both)))

  updates-wider : (us : List Update) → list_all (update_is_resolved n variables) us ≡ true → list_all (update_is_resolved m variables) us ≡ true
  updates-wider [] h = refl
  updates-wider (u ∷ us) h =
      and_from _ _ (update-wider u (left_true _ (list_all (update_is_resolved n variables) us) h)) (updates-wider us (right_true (update_is_resolved n variables u) _ h))

  branch-wider : (b : Branch) → branch_is_resolved n variables b ≡ true → branch_is_resolved m variables b ≡ true
  branch-wider b h =
      let guard = is_ground b.guard && is_known n variables b.guard in
      let updates = list_all (update_is_resolved n variables) b.updates in
      let replies = list_all (term_passes (known n variables)) b.replies in
      let front = left_true guard (updates && replies) h in
      let rest = right_true guard (updates && replies) h in
      and_from _ _ (and_from _ _ (left_true (is_ground b.guard) _ front) (weaker_formula (λ k. known n variables) (λ k. known m variables) (λ k. wider) 0 b.guard (right_true (is_ground b.guard) _ front)))
      (and_from _ _ (updates-wider b.updates (left_true updates replies rest)) (terms-wider b.replies (right_true updates replies rest)))

-- branches with the variables of their labels
pub branches-wider : (n m variables : ℕ) → n ≤ m → (bs : List Branch) → list_all (resolved_behind n variables) bs ≡ true → list_all (resolved_behind m variables) bs ≡ true
branches-wider n m variables le [] h = refl
branches-wider n m variables le (b ∷ bs) h =
    and_from _ _ (branch-wider n m _ le b (left_true (resolved_behind n variables b) (list_all (resolved_behind n variables) bs) h))
    (branches-wider n m variables le bs (right_true (resolved_behind n variables b) (list_all (resolved_behind n variables) bs) h))
