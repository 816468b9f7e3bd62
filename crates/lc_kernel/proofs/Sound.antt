-- A derivation refutes its hypotheses.
use Rattle.std.proofs.Common.{◌≡◌, ℕ, suc, true, false, ◌&&◌, List, [], ◌∷◌, ◌++◌, IsTrue, refl, sym, ap, subst, arith}
use Rattle.std.specs.Prelude.{ℤ, ◌==◌, nat_lt, if◌then◌else◌, length}
use Rattle.std.specs.List.{AllByRecursion}
use Rattle.std.proofs.lemmas.Bool.{and_parts, and_from}
use Rattle.std.proofs.lemmas.Bool.Decides.{nat_tests}
use Rattle.lc_lemmas.proofs.Numbers.{equal_to_itself}
use Rattle.lc_array.proofs.Truths.{written_is_true, same_index_is_true, affine_cell_is_true}
use Rattle.lc_array.specs.Axioms.{written, same_index, affine_cell}
use Rattle.lc_term.proofs.Agree.{Holds-agree}
use Rattle.lc_term.proofs.Replacement.{both_ways}
use Rattle.lc_term.proofs.Stable.{Holds-stable}
use Rattle.lc_term.proofs.Substituted.{Holds-instantiated}
use Rattle.lc_term.specs.Equal.{formula_eq}
use Rattle.lc_term.specs.EqualLaws.{Decides-formula_eq}
use Rattle.lc_term.specs.Meaning.{State, Env, push, outside, value, Holds, EachHolds, Valid}
use Rattle.lc_term.specs.Places.{is_closed}
use Rattle.lc_term.specs.Substitution.{with_value, instantiated}
use Rattle.lc_term.specs.Syntax.{Term, Variable, Formula, Not}
use Rattle.lc_kernel.proofs.InUse.{inner_below, all_below-append}
use Rattle.lc_kernel.proofs.Kept.{Gives-kept, Gives-branches, hypothesis_below, for_some_below}
use Rattle.lc_kernel.proofs.Holding.{AllRefuted, each_append, hypothesis_holds, each_refuted, conjuncts_hold, one_holds, pushed_holds, for_all_holds, for_some_holds, one_is_less, entries_hold, closes_refuted, quotient_holds}
use Rattle.lc_kernel.proofs.Found.{opens_same, taking_opens, in_use_opens, branching_in_use, sum_gives_summed, opposite_gives_opposed, open_opens}
use Rattle.lc_kernel.specs.Below.{below, term_below, column_below, formula_below, all_below}
use Rattle.lc_kernel.specs.Derivation.{Derives, derives, EachDerives, all_closed, one_closed}
use Rattle.lc_kernel.specs.Proofs as S
use Rattle.lc_kernel.specs.Proofs.{Step, Proof, Proofs, proof_count}
use Rattle.lc_kernel.specs.Table.{opens, conjuncts, alternatives, less, pushed, for_all, for_some, apart, excess, each, InUse, Opens, Appends, QuotientGives, Gives}

-- ---- other numbers for the variables that are not in use

-- the variables in use have the same numbers
abbrev pub AgreeBelow : ℕ → Env → Env → Type 0
AgreeBelow v e e' = (k : ℕ) → IsTrue (nat_lt k v) → e k ≡ e' k

not_in_use : (v k : ℕ) → IsTrue (nat_lt k v) → (k == v) ≡ false
not_in_use v k h = grind (arith, nat_tests)

with_value-other : (v k : ℕ) (x : ℤ) (e : Env) → (k == v) ≡ false → e k ≡ with_value v x e k
with_value-other v k x e h = ap (λ b. if b then x else e k) (sym h)

with_value-agrees : (v : ℕ) (x : ℤ) (e : Env) → AgreeBelow v e (with_value v x e)
with_value-agrees v x e k h = with_value-other v k x e (not_in_use v k h)

with_value-there : (v : ℕ) (x : ℤ) (e : Env) → x ≡ with_value v x e v
with_value-there v x e = ap (λ b. if b then x else e v) (sym (equal_to_itself v))

module _ (s : State) (v : ℕ) (e e' : Env) (same : AgreeBelow v e e') where
  still_holds : (b : Env) (n : ℕ) (f : Formula) → IsTrue (inner_below v n f) → Holds s e b f → Holds s e' b f
  still_holds b n f h = (both_ways (Holds-agree (below v) s s e e' (λ c _. refl) same b n f h)).0

  each_still_holds : (H : List Formula) → IsTrue (all_below v H) → EachHolds s e H → EachHolds s e' H
  each_still_holds [] h all = tt
  each_still_holds (f ∷ H) h all =
      let p = and_parts (formula_below v f) (all_below v H) h in
      (still_holds outside 0 f p.0 all.0, each_still_holds H p.1 all.1)

-- ---- the rules

module _ (s : State) (e : Env) where
  -- the branches are refuted, whatever numbers the variables have that are not in use
  abbrev pub BranchesRefuted : ℕ → List (List Formula) → Type 0
  BranchesRefuted v bs = (e' : Env) → AgreeBelow v e e' → AllRefuted s e' bs

  refuted_here : (v w : ℕ) (bs cs : List (List Formula)) → opens w bs ≡ opens v cs → BranchesRefuted v bs → AllRefuted s e cs
  refuted_here v w bs cs is no' = subst (AllRefuted s e) (opens_same v w bs cs is).1 (no' e (λ k h. refl))

  formula_refuted : (v w : ℕ) (bs : List (List Formula)) (f : Formula) → Appends v f (opens w bs) → BranchesRefuted v bs → Holds s e outside f → ⊥
  formula_refuted v w bs f is no' h = (refuted_here v w bs ((f ∷ []) ∷ []) is no').0 (h, tt)

  instance_holds : (u : Term) (f : Formula) → ((x : ℤ) → Holds s e (push x outside) f) → Holds s e outside (instantiated u f)
  instance_holds u f h = (both_ways (Holds-instantiated s e outside u f)).1 (h (value s e outside u))

  -- what holds of some number holds of the new variable, once it has this number
  fresh_holds : (v : ℕ) (f : Formula) (x : ℤ) → IsTrue (inner_below v 1 f) → Holds s e (push x outside) f → Holds s (with_value v x e) outside (instantiated (Variable v) f)
  fresh_holds v f x in_use h =
      let there = still_holds s v e (with_value v x e) (with_value-agrees v x e) (push x outside) 1 f in_use h in
      (both_ways (Holds-instantiated s (with_value v x e) outside (Variable v) f)).1
      (subst (λ y. Holds s (with_value v x e) (push y outside) f) (with_value-there v x e) there)

  fresh_refuted : (v w : ℕ) (bs : List (List Formula)) (f : Formula) → Appends (suc v) (instantiated (Variable v) f) (opens w bs) → IsTrue (inner_below v 1 f) →
      BranchesRefuted v bs → (x : ℤ) → Holds s e (push x outside) f → ⊥
  fresh_refuted v w bs f is in_use no' x h =
      let n = subst (AllRefuted s (with_value v x e)) (opens_same (suc v) w bs ((instantiated (Variable v) f ∷ []) ∷ []) is).1 (no' (with_value v x e) (with_value-agrees v x e)) in
      n.0 (fresh_holds v f x in_use h, tt)

  opposite_refuted : (f g : Formula) → IsTrue (formula_eq g (Not f)) → Holds s e outside f → Holds s e outside g → ⊥
  opposite_refuted f g same h k = (subst (Holds s e outside) ((Decides-formula_eq g (Not f)).0 same) k) h

  -- if the branches that a step opens are refuted, so are its hypotheses
  pub Gives-refuted : (v w : ℕ) (H : List Formula) (n : ℕ) (st : Step) (bs : List (List Formula)) → Gives v H n st (opens w bs) → IsTrue (all_below v H) → EachHolds s e H → BranchesRefuted v bs → ⊥
  Gives-refuted v w H n (S.Split h) bs is in_use' all no' =
      let t = taking_opens w bs H h conjuncts n (λ fs. 1) (λ fs. Opens v (fs ∷ [])) is in
      (refuted_here v w bs (t.part ∷ []) t.gives no').0 (conjuncts_hold s e t.formula t.part t.has (hypothesis_holds s e H h t.formula t.stands all))
  Gives-refuted v w H n (S.Cases h) bs is in_use' all no' =
      let t = taking_opens w bs H h alternatives n (λ fs. length fs) (λ fs. Opens v (each fs)) is in
      one_holds s e t.formula t.part t.has (hypothesis_holds s e H h t.formula t.stands all) (each_refuted s e t.part (refuted_here v w bs (each t.part) t.gives no'))
  Gives-refuted v w H n (S.Push h) bs is in_use' all no' =
      let t = taking_opens w bs H h pushed n (λ f. 1) (λ f. Appends v f) is in
      formula_refuted v w bs t.part t.gives no' (pushed_holds s e t.formula t.part t.has (hypothesis_holds s e H h t.formula t.stands all))
  Gives-refuted v w H n (S.Instantiate h u) bs is in_use' all no' =
      let t = taking_opens w bs H h for_all n (λ f. 1) (λ f. InUse (term_below v u && is_closed u) (Appends v (instantiated u f))) is in
      let g = in_use_opens w bs (term_below v u && is_closed u) (Appends v (instantiated u t.part)) t.gives in
      formula_refuted v w bs (instantiated u t.part) g.1 no'
      (instance_holds u t.part (for_all_holds s e t.formula t.part t.has (hypothesis_holds s e H h t.formula t.stands all)))
  Gives-refuted v w H n (S.Fresh h) bs is in_use' all no' =
      let t = taking_opens w bs H h for_some n (λ f. 1) (λ f. Appends (suc v) (instantiated (Variable v) f)) is in
      for_some_holds s e t.formula t.part t.has (hypothesis_holds s e H h t.formula t.stands all)
      (fresh_refuted v w bs t.part t.gives (for_some_below v t.formula t.part t.has (hypothesis_below v H h t.formula t.stands in_use')) no')
  Gives-refuted v w H n (S.Cut f) bs is in_use' all no' =
      let g = branching_in_use w bs n 2 (formula_below v f) (Opens v (each (Not f ∷ f ∷ []))) is in
      let n = refuted_here v w bs (each (Not f ∷ f ∷ [])) g.1 no' in
      n.0 (λ x. n.1.0 (x, tt), tt)
  Gives-refuted v w H n (S.Written c i x j) bs is in_use' all no' =
      let g = branching_in_use w bs n 1 (column_below v c && term_below v i && term_below v x && term_below v j) (Appends v (written c i x j)) is in
      formula_refuted v w bs (written c i x j) g.1 no' (written_is_true s e outside c i x j)
  Gives-refuted v w H n (S.Same c i j) bs is in_use' all no' =
      let g = branching_in_use w bs n 1 (column_below v c && term_below v i && term_below v j) (Appends v (same_index c i j)) is in
      formula_refuted v w bs (same_index c i j) g.1 no' (same_index_is_true s e outside c i j)
  Gives-refuted v w H n (S.Affine a b i) bs is in_use' all no' =
      let g = branching_in_use w bs n 1 (term_below v i) (Appends v (affine_cell a b i)) is in
      formula_refuted v w bs (affine_cell a b i) g.1 no' (affine_cell_is_true s e outside a b i)
  Gives-refuted v w H n (S.Trichotomy h) bs is in_use' all no' =
      let t = taking_opens w bs H h apart n (λ p. 2) (λ p. Opens v (each (less p.0 p.1 ∷ less p.1 p.0 ∷ []))) is in
      let p = t.part in
      one_is_less s e t.formula p t.has (hypothesis_holds s e H h t.formula t.stands all)
      (each_refuted s e (less p.0 p.1 ∷ less p.1 p.0 ∷ []) (refuted_here v w bs (each (less p.0 p.1 ∷ less p.1 p.0 ∷ [])) t.gives no'))
  Gives-refuted v w H n (S.Divide h k f) bs is in_use' all no' =
      let t = taking_opens w bs H h excess n (λ t. 1) (λ t. InUse (formula_below v f) (QuotientGives v f t k)) is in
      let g = in_use_opens w bs (formula_below v f) (QuotientGives v f t.part k) t.gives in
      formula_refuted v w bs f g.1.0 no' (quotient_holds s e t.formula t.part k f t.has g.1.3 (hypothesis_holds s e H h t.formula t.stands all))
  Gives-refuted v w H n (S.Sum ms) bs is in_use' all no' =
      let t = sum_gives_summed v H n ms w bs is in closes_refuted s e t.found t.gives.1 (entries_hold s e H ms t.found all t.stand)
  Gives-refuted v w H n (S.Opposite h g) bs is in_use' all no' =
      let t = opposite_gives_opposed v H n h g w bs is in
      opposite_refuted t.formula t.negation t.opposite (hypothesis_holds s e H h t.formula t.stands all) (hypothesis_holds s e H g t.negation t.stands' all)
  Gives-refuted v w H n S.Open bs is in_use' all no' = open_opens v H n w bs is

-- ---- derivations

mutual
  -- in no state, and for no numbers of the variables, do all hypotheses of a derivation hold
  pub sound : {v : ℕ} {H : List Formula} {p : Proof} → Derives v H p → IsTrue (all_below v H) → (s : State) (e : Env) → EachHolds s e H → ⊥
  sound (derives {v = v} {w = w} {H = H} {s = st} {ps = ps} {bs = bs} is ds) in_use' s e all =
      let k = Gives-kept v w H (proof_count ps) st bs is in_use' in
      Gives-refuted s e v w H (proof_count ps) st bs is in_use' all
      (λ e' same. sounds ds (Gives-branches v w H (proof_count ps) st bs is in_use') s e' (each_still_holds s v e e' same H in_use' all))

  sounds : {v : ℕ} {H : List Formula} {bs : List (List Formula)} {ps : Proofs} → EachDerives v H bs ps → AllByRecursion (λ b. IsTrue (all_below v (H ++ b))) bs →
      (s : State) (e : Env) → EachHolds s e H → AllRefuted s e bs
  sounds all_closed in_use' s e all = tt
  sounds (one_closed {H = H} {b = b} d ds) in_use' s e all = (λ h. sound d in_use'.0 s e (each_append s e H b all h), sounds ds in_use'.1 s e all)

-- a goal that has a derivation follows from the hypotheses
pub derived_is_valid : (v : ℕ) (H : List Formula) (goal : Formula) (p : Proof) → Derives v (H ++ Not goal ∷ []) p → IsTrue (all_below v H) → IsTrue (formula_below v goal) → Valid H goal
derived_is_valid v H goal p d in_use' in_use_goal = record {
  holds = λ s e all.
      Holds-stable s e outside goal
      (λ n. sound d (all_below-append v H (Not goal ∷ []) in_use' (and_from (formula_below v goal) true in_use_goal refl)) s e (each_append s e H (Not goal ∷ []) all (n, tt)));
}
