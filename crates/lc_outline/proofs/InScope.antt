-- What the tests of scope tell.
use Rattle.std.proofs.Common.{◌≡◌, ℕ, ◌+◌, Bool, true, ◌&&◌, List, [], ◌∷◌, Some, None, Option, length}
use Rattle.std.specs.List.{list_all}
use Rattle.std.specs.Prelude.{nat_lt}
use Rattle.lc_lemmas.proofs.Booleans.{left_true, right_true}
use Rattle.lc_lemmas.proofs.Numbers.{below_from_test}
use Rattle.lc_term.specs.Lists.{Every}
use Rattle.lc_term.specs.Syntax.{Formula}
use Rattle.lc_term.specs.Updates.{Update}
use Rattle.lc_seq.specs.Sequential.{given_in}
use Rattle.lc_seq.specs.Specification.{update_is_resolved}
use Rattle.lc_rider.specs.Rider.{Marking, Own, Other, Note, Deed, Assign, Marks, Rider}
use Rattle.lc_action.specs.Action.{Action}
use Rattle.lc_outline.specs.Development.{On, Outline}
use Rattle.lc_outline.specs.Scope.{is_scoped, term_is_scoped, IsScoped, IsTermScoped, IsUpdateScoped, IsMarkingScoped, IsDeedScoped, IsConditionScoped, IsRiderScoped, IsOnScoped, IsOutlineScoped, IsActionScoped}
use Rattle.lc_outline.specs.Scope.{marking_is_scoped, deed_is_scoped, condition_is_scoped, rider_is_scoped, on_is_scoped, outline_is_scoped, action_is_scoped}

pub list_all_every : {A : Type 0} (P : A → Type 0) (p : A → Bool) → ((x : A) → p x ≡ true → P x) → (xs : List A) → list_all p xs ≡ true → Every P xs
list_all_every P p f [] h = tt
list_all_every P p f (x ∷ xs) h = (f x (left_true (p x) (list_all p xs) h), list_all_every P p f xs (right_true (p x) (list_all p xs) h))

module _ (columns variables : ℕ) where
  pub update : (u : Update) → update_is_resolved columns variables u ≡ true → IsUpdateScoped columns variables u
  update u h =
      let a = nat_lt u.column columns in
      let b = term_is_scoped columns variables u.index in
      let c = term_is_scoped columns variables u.value in
      let terms = right_true a (b && c) h in
      record { column = below_from_test u.column columns (left_true a (b && c) h); index = left_true b c terms; value = right_true b c terms }

  marking : (k : Marking) → marking_is_scoped columns variables k ≡ true → IsMarkingScoped columns variables k
  marking Own h = tt
  marking (Other t p) h = h
  marking Note h = tt

  deed : (d : Deed) → deed_is_scoped columns variables d ≡ true → IsDeedScoped columns variables d
  deed (Assign u) h = update u h
  deed (Marks k by) h =
      let a = marking_is_scoped columns variables k in
      let b = list_all (term_is_scoped columns variables) (given_in by) in
      (marking k (left_true a b h), list_all_every (IsTermScoped columns variables) (term_is_scoped columns variables) (λ t e. e) (given_in by) (right_true a b h))

  condition : (f : Option Formula) → condition_is_scoped columns variables f ≡ true → IsConditionScoped columns variables f
  condition None h = tt
  condition (Some f) h = h

  rider : (r : Rider) → rider_is_scoped columns variables r ≡ true → IsRiderScoped columns variables r
  rider r h =
      let a = condition_is_scoped columns variables r.condition in
      let b = deed_is_scoped columns variables r.deed in
      (condition r.condition (left_true a b h), deed r.deed (right_true a b h))

  pub on : (x : On) → on_is_scoped columns variables x ≡ true → IsOnScoped columns variables x
  on x h =
      let a = list_all (term_is_scoped columns variables) x.arguments in
      let b = list_all (rider_is_scoped columns variables) x.riders in
      record {
        arguments = list_all_every (IsTermScoped columns variables) (term_is_scoped columns variables) (λ t e. e) x.arguments (left_true a b h);
        riders = list_all_every (IsRiderScoped columns variables) (rider_is_scoped columns variables) rider x.riders (right_true a b h);
      }

  pub outline : (x : Outline) → outline_is_scoped columns variables x ≡ true → IsOutlineScoped columns variables x
  outline x h =
      let a = list_all (is_scoped columns variables) x.asserts in
      let b = list_all (on_is_scoped columns variables) x.ons in
      record {
        asserts = list_all_every (IsScoped columns variables) (is_scoped columns variables) (λ f e. e) x.asserts (left_true a b h);
        ons = list_all_every (IsOnScoped columns variables) (on_is_scoped columns variables) on x.ons (right_true a b h);
      }

pub action_in_scope : (columns : ℕ) (a : Action) → action_is_scoped columns a ≡ true → IsActionScoped columns a
action_in_scope columns a h =
    let n = 2 + length a.parameters in
    let guard = is_scoped columns n a.guard in
    let updates = list_all (update_is_resolved columns n) a.updates in
    record { guard = left_true guard updates h; updates = list_all_every (IsUpdateScoped columns n) (update_is_resolved columns n) (update columns n) a.updates (right_true guard updates h) }
