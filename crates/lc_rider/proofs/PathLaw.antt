-- The facts of at most one path hold; and what riders do goes along a path.
use Rattle.std.proofs.Common.{ℕ, suc, List, [], ◌∷◌, ◌++◌, Option, Some, None, map, refl, inl, inr}
use Rattle.lc_term.specs.Lists.{Every, IsIn, concat_map}
use Rattle.lc_term.specs.Syntax.{Term, Formula, Not}
use Rattle.lc_term.specs.Meaning.{State, Env, outside, Holds, EachHolds}
use Rattle.lc_term.specs.Replacement.{replacing, replace_term}
use Rattle.lc_seq.specs.Sequential.{given_in}
use Rattle.lc_seq.specs.Specification.{Branch, Operation, chosen}
use Rattle.lc_term.specs.Said.{told, term_at}
use Rattle.lc_seq.specs.Branches.{op_branches, arity}
use Rattle.lc_rider.specs.Rider.{Marking, Deed, Assign, Marks, Rider}
use Rattle.lc_rider.specs.Paths.{Path, with_fact, branch_variables, marked_client, marked_op, owing, branch_paths, deed_paths, deed_paths_where, rider_paths, paths}
use Rattle.lc_rider.specs.PathLaws.{AreApart, PathsExclude, RunsGoAlong}
use Rattle.lc_term.proofs.Stores.{Every-append, Every-map}
use Rattle.lc_term.proofs.Symbolic.{each_left, each_right}
use Rattle.lc_rider.proofs.Riding.{along}

module _ (s : State) (e : Env) where
  abbrev Facts : Path → Type 0
  Facts p = EachHolds s e p.facts

  -- what holds on these holds on p
  abbrev Behind : Path → List Path → Type 0
  Behind p qs = Every (λ (q : Path). Facts q → Facts p) qs

  both_apart : (xs ys : List Path) → AreApart s e xs → AreApart s e ys → Every (λ (x : Path). Every (λ (y : Path). Facts x → Facts y → ⊥) ys) xs → AreApart s e (xs ++ ys)
  both_apart [] ys a b h = b
  both_apart (x ∷ xs) ys a b h = (Every-append (λ (q : Path). Facts x → Facts q → ⊥) xs ys a.0 h.0, both_apart xs ys a.1 b h.1)

  -- each of the one list against each of the other
  against : (p q : Path) (xs ys : List Path) → (Facts p → Facts q → ⊥) → Behind p xs → Behind q ys → Every (λ (x : Path). Every (λ (y : Path). Facts x → Facts y → ⊥) ys) xs
  against p q xs ys never hx hy =
      Every-map (λ (x : Path). Facts x → Facts p) (λ (x : Path). Every (λ (y : Path). Facts x → Facts y → ⊥) ys) xs
      (λ x f. Every-map (λ (y : Path). Facts y → Facts q) (λ (y : Path). Facts x → Facts y → ⊥) ys (λ y g a b. never (f a) (g b)) hy) hx

  -- one path against the paths that others lead to
  against_all : (f : Path → List Path) (p : Path) (ps : List Path) → ((x : Path) → Behind x (f x)) → Every (λ (q : Path). Facts p → Facts q → ⊥) ps → Every (λ (x : Path). Every (λ (y : Path). Facts x → Facts y → ⊥) (concat_map f ps)) (f p)
  against_all f p [] behind never = nothing (f p)
    where
      nothing : (xs : List Path) → Every (λ (x : Path). Every (λ (y : Path). Facts x → Facts y → ⊥) []) xs
      nothing [] = tt
      nothing (x ∷ xs) = (tt, nothing xs)
  against_all f p (q ∷ qs) behind never = joined (f p) (against p q (f p) (f q) never.0 (behind p) (behind q)) (against_all f p qs behind never.1)
    where
      joined : (xs : List Path) → Every (λ (x : Path). Every (λ (y : Path). Facts x → Facts y → ⊥) (f q)) xs → Every (λ (x : Path). Every (λ (y : Path). Facts x → Facts y → ⊥) (concat_map f qs)) xs →
          Every (λ (x : Path). Every (λ (y : Path). Facts x → Facts y → ⊥) (f q ++ concat_map f qs)) xs
      joined [] a b = tt
      joined (x ∷ xs) a b = (Every-append (λ (y : Path). Facts x → Facts y → ⊥) (f q) (concat_map f qs) a.0 b.0, joined xs a.1 b.1)

  all_apart : (f : Path → List Path) (ps : List Path) → ((x : Path) → AreApart s e (f x)) → ((x : Path) → Behind x (f x)) → AreApart s e ps → AreApart s e (concat_map f ps)
  all_apart f [] apart behind h = tt
  all_apart f (p ∷ ps) apart behind h = both_apart (f p) (concat_map f ps) (apart p) (all_apart f ps apart behind h.1) (against_all f p ps behind h.0)

  behind_all : (f : Path → List Path) (p : Path) (ps : List Path) → ((x : Path) → Behind x (f x)) → Behind p ps → Behind p (concat_map f ps)
  behind_all f p [] behind h = tt
  behind_all f p (q ∷ qs) behind h =
      Every-append (λ (x : Path). Facts x → Facts p) (f q) (concat_map f qs) (Every-map (λ (x : Path). Facts x → Facts q) (λ (x : Path). Facts x → Facts p) (f q) (λ x g a. h.0 (g a)) (behind q)) (behind_all f p qs behind h.1)

  last_of : (fs : List Formula) (f : Formula) → EachHolds s e (fs ++ f ∷ []) → Holds s e outside f
  last_of fs f h = (each_right s e fs (f ∷ []) h).0

  -- a fact, and then that it fails
  fails : (fs : List Formula) (f : Formula) → EachHolds s e (fs ++ f ∷ []) → EachHolds s e (fs ++ Not f ∷ []) → ⊥
  fails fs f a b = last_of fs (Not f) b (last_of fs f a)

  module _ (operations : List Operation) (first : ℕ) where
    branches_behind : (n : ℕ) (k : Marking) (τ : List Term) (bs : List Branch) (p : Path) → Behind p (branch_paths operations first n k τ bs p)
    branches_behind n k τ [] p = tt
    branches_behind n k τ (b ∷ bs) p =
        let g = told p.columns τ b.guard in (
          (λ h. each_left s e p.facts (g ∷ []) h),
          Every-map (λ (x : Path). Facts x → Facts (with_fact p (Not g))) (λ (x : Path). Facts x → Facts p) (branch_paths operations first n k τ bs (with_fact p (Not g)))
              (λ x f a. each_left s e p.facts (Not g ∷ []) (f a)) (branches_behind n k τ bs (with_fact p (Not g))),
        )

    branches_apart : (n : ℕ) (k : Marking) (τ : List Term) (bs : List Branch) (p : Path) → AreApart s e (branch_paths operations first n k τ bs p)
    branches_apart n k τ [] p = tt
    branches_apart n k τ (b ∷ bs) p =
        let g = told p.columns τ b.guard in (
          Every-map (λ (x : Path). Facts x → Facts (with_fact p (Not g))) (λ (x : Path). EachHolds s e (p.facts ++ g ∷ []) → Facts x → ⊥) (branch_paths operations first n k τ bs (with_fact p (Not g)))
              (λ x f a b. fails p.facts g a (f b)) (branches_behind n k τ bs (with_fact p (Not g))),
          branches_apart n k τ bs (with_fact p (Not g)),
        )

    deed_behind : (n o : ℕ) (τ : List Term) (d : Deed) (p : Path) → Behind p (deed_paths operations first n o τ d p)
    deed_behind n o τ (Assign u) p = ((λ h. h), tt)
    deed_behind n o τ (Marks k by) p =
        let c = replace_term (replacing p.columns (term_at τ)) (marked_client k) in
        let ts = map (replace_term (replacing p.columns (term_at τ))) (given_in by) in
        let bs = chosen by (op_branches operations (marked_op o k)) in
        let υ = branch_variables p.columns first (arity operations (marked_op o k)) c ts in
        branches_behind n k υ bs (owing operations first n k c υ bs p)

    deed_apart : (n o : ℕ) (τ : List Term) (d : Deed) (p : Path) → AreApart s e (deed_paths operations first n o τ d p)
    deed_apart n o τ (Assign u) p = (tt, tt)
    deed_apart n o τ (Marks k by) p =
        let c = replace_term (replacing p.columns (term_at τ)) (marked_client k) in
        let ts = map (replace_term (replacing p.columns (term_at τ))) (given_in by) in
        let bs = chosen by (op_branches operations (marked_op o k)) in
        let υ = branch_variables p.columns first (arity operations (marked_op o k)) c ts in
        branches_apart n k υ bs (owing operations first n k c υ bs p)

    where_behind : (c : Option Formula) (n o : ℕ) (τ : List Term) (d : Deed) (p : Path) → Behind p (deed_paths_where operations first c n o τ d p)
    where_behind None n o τ d p = deed_behind n o τ d p
    where_behind (Some f) n o τ d p =
        let g = told p.columns τ f in
        Every-append (λ (x : Path). Facts x → Facts p) (deed_paths operations first n o τ d (with_fact p g)) (with_fact p (Not g) ∷ [])
        (Every-map (λ (x : Path). Facts x → Facts (with_fact p g)) (λ (x : Path). Facts x → Facts p) (deed_paths operations first n o τ d (with_fact p g)) (λ x h a. each_left s e p.facts (g ∷ []) (h a)) (deed_behind n o τ d (with_fact p g)))
        ((λ h. each_left s e p.facts (Not g ∷ []) h), tt)

    where_apart : (c : Option Formula) (n o : ℕ) (τ : List Term) (d : Deed) (p : Path) → AreApart s e (deed_paths_where operations first c n o τ d p)
    where_apart None n o τ d p = deed_apart n o τ d p
    where_apart (Some f) n o τ d p =
        let g = told p.columns τ f in
        both_apart (deed_paths operations first n o τ d (with_fact p g)) (with_fact p (Not g) ∷ []) (deed_apart n o τ d (with_fact p g)) (tt, tt)
        (against (with_fact p g) (with_fact p (Not g)) (deed_paths operations first n o τ d (with_fact p g)) (with_fact p (Not g) ∷ []) (λ a b. fails p.facts g a b) (deed_behind n o τ d (with_fact p g)) ((λ h. h), tt))

    paths_behind : (n o : ℕ) (τ : List Term) (rs : List Rider) (p : Path) → Behind p (paths operations first n o τ rs p)
    paths_behind n o τ [] p = ((λ h. h), tt)
    paths_behind n o τ (r ∷ rs) p = behind_all (paths operations first (suc n) o τ rs) p (rider_paths operations first n o τ r p) (λ x. paths_behind (suc n) o τ rs x) (where_behind r.condition n o τ r.deed p)

    pub paths_apart : (n o : ℕ) (τ : List Term) (rs : List Rider) (p : Path) → AreApart s e (paths operations first n o τ rs p)
    paths_apart n o τ [] p = (tt, tt)
    paths_apart n o τ (r ∷ rs) p = all_apart (paths operations first (suc n) o τ rs) (rider_paths operations first n o τ r p) (λ x. paths_apart (suc n) o τ rs x) (λ x. paths_behind (suc n) o τ rs x) (where_apart r.condition n o τ r.deed p)

pub paths_exclude : PathsExclude
paths_exclude operations first n o τ rs q s e = paths_apart s e operations first n o τ rs q

-- each element of a list is in it
each_in : {A : Type 0} (xs : List A) → Every (λ x. IsIn x xs) xs
each_in [] = tt
each_in (x ∷ xs) = (inl refl, Every-map (λ y. IsIn y xs) (λ y. IsIn y (x ∷ xs)) xs (λ y h. inr h) (each_in xs))

pub go_along : RunsGoAlong
go_along operations first n self o τ rs q s e ms m grounds mine facts met ride =
    let t = along operations first grounds s e τ self o mine (λ p. IsIn p (paths operations first n o τ rs q)) n rs q ms m (facts, met) ride (each_in (paths operations first n o τ rs q)) in
    (t.0, t.1.0, t.1.1.0.0, t.1.1.0.1, t.1.1.1)
