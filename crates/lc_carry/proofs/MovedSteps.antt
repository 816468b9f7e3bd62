-- A derivation stays one with other columns, if no two become one.
use Rattle.std.proofs.Common.{◌≡◌, ℕ, suc, Bool, true, false, ◌&&◌, List, [], ◌∷◌, Option, Some, None, map, length, refl, sym, ap, ap₂, subst, ◌∙◌}
use Rattle.std.specs.Prelude.{ℤ, ◌==◌, option_map}
use Rattle.std.proofs.lemmas.List.{map-append, length-map}
use Rattle.lc_array.specs.Axioms.{written, same_index, affine_cell}
use Rattle.lc_linear.specs.Closing.{Entry}
use Rattle.lc_term.specs.Equal.{formula_eq}
use Rattle.lc_term.specs.EqualLaws.{Decides-formula_eq}
use Rattle.lc_term.specs.Places.{is_closed, no_bounds}
use Rattle.lc_term.specs.Substitution.{instantiated}
use Rattle.lc_term.specs.Syntax.{Term, Variable, Column, Formula, Le, Eq, Not}
use Rattle.lc_kernel.specs.Below.{below, term_below, column_below, formula_below}
use Rattle.lc_kernel.specs.Derivation.{Derives, derives, EachDerives, all_closed, one_closed}
use Rattle.lc_kernel.specs.Proofs as S
use Rattle.lc_kernel.specs.Proofs.{Step, Proof, Proofs, none, more, proof_count}
use Rattle.lc_kernel.specs.Table.{Outcome, flawed, opens, conjuncts, alternatives, less, pushed, for_all, for_some, apart, excess, each, hypothesis, entry_before, entries, is_comparison, all_comparisons, Needing, Taking, Testing, Branching, InUse, Opens, Appends, SumGives, CanCompare, IsQuotient, QuotientGives, Gives}
use Rattle.lc_kernel.specs.declared.reason.Flaw.TheVariants.{Bad}
use Rattle.lc_kernel.specs.declared.reason.Reason.{Reason}
use Rattle.lc_kernel.specs.declared.reason.Reason.TheVariants.{NoHypothesis, WrongForm, VariableNotInUse, NotOpposite, IsOpen}
use Rattle.lc_carry.proofs.Moved.{moved_term, moved_column, moved, moved_sides, each-moved, conjuncts-moved, alternatives-moved, pushed-moved, for_all-moved, for_some-moved, apart-moved, excess-moved, hypothesis-moved, term_passes-moved, column_passes-moved, passes-moved, instantiated-moved}
use Rattle.lc_carry.proofs.MovedForms.{has_form-moved, closes-moved, divided-moved}
use Rattle.lc_carry.specs.RenamedProofs.{renamed_step, renamed, all_renamed}
use Rattle.lc_carry.specs.Renaming.{column_or}

-- ---- what is needed and tested

needing : {A B : Type 0} (g : A → B) (x : Option A) (y : Option B) (why : Reason) (next : A → Outcome → Type 0) (next' : B → Outcome → Type 0) (w : ℕ) (bs bs' : List (List Formula)) → option_map g x ≡ y
    → ((a : A) → next a (opens w bs) → next' (g a) (opens w bs')) → Needing x why next (opens w bs) → Needing y why next' (opens w bs')
needing g None y why next next' w bs bs' e f h = absurd (let no : opens w bs ≡ flawed (Bad why) = h in cc)
needing g (Some a) y why next next' w bs bs' e f h = subst (λ z. Needing z why next' (opens w bs')) e (f a h)

testing : (t t' : Bool) (why : Reason) (next next' : Outcome → Type 0) (w : ℕ) (bs bs' : List (List Formula)) → t ≡ t' → (next (opens w bs) → next' (opens w bs')) → Testing t why next (opens w bs) → Testing t' why next' (opens w bs')
testing true t' why next next' w bs bs' e f h = subst (λ z. Testing z why next' (opens w bs')) e (f h)
testing false t' why next next' w bs bs' e f h = absurd (let no : opens w bs ≡ flawed (Bad why) = h in cc)

branching : (n m m' : ℕ) (next next' : Outcome → Type 0) (w : ℕ) (bs bs' : List (List Formula)) → m ≡ m' → (next (opens w bs) → next' (opens w bs')) → Branching n m next (opens w bs) → Branching n m' next' (opens w bs')
branching n m m' next next' w bs bs' e f h = testing (n == m) (n == m') WrongForm next next' w bs bs' (ap (λ k. n == k) e) f h

module _ (to : ℕ → Option ℕ) where
  abbrev moved_branches : List (List Formula) → List (List Formula)
  moved_branches bs = map (map (moved to)) bs

  -- what a step comes to, with other columns
  abbrev moved_outcome : Outcome → Outcome
  moved_outcome (flawed why) = flawed why
  moved_outcome (opens w bs) = opens w (moved_branches bs)

  opens-moved : (v w : ℕ) (bs cs ds : List (List Formula)) → moved_branches cs ≡ ds → Opens v cs (opens w bs) → Opens v ds (opens w (moved_branches bs))
  opens-moved v w bs cs ds e h = ap moved_outcome h ∙ ap (opens v) e

  taking : {A B : Type 0} (H : List Formula) (h : ℤ) (form : Formula → Option A) (form' : Formula → Option B) (g : A → B) (next : A → Outcome → Type 0) (next' : B → Outcome → Type 0) (w : ℕ) (bs bs' : List (List Formula))
      → ((f : Formula) → option_map g (form f) ≡ form' (moved to f)) → ((a : A) → next a (opens w bs) → next' (g a) (opens w bs')) → Taking H h form next (opens w bs) → Taking (map (moved to) H) h form' next' (opens w bs')
  taking H h form form' g next next' w bs bs' e f is =
      needing (moved to) (hypothesis H h) (hypothesis (map (moved to) H) h) NoHypothesis (λ x. Needing (form x) WrongForm next) (λ x. Needing (form' x) WrongForm next') w bs bs' (hypothesis-moved to H h)
      (λ x. needing g (form x) (form' (moved to x)) WrongForm next next' w bs bs' (e x) f) is

  -- ---- sums

  entry_before-moved : (x : Option Formula) (k : ℤ) (es : Option (List Entry)) → option_map (map (λ (e : Entry). (moved to e.0, e.1))) (entry_before x k es) ≡ entry_before (option_map (moved to) x) k (option_map (map (λ (e : Entry). (moved to e.0, e.1))) es)
  entry_before-moved (Some f) k (Some es) = refl
  entry_before-moved (Some f) k None = refl
  entry_before-moved None k (Some es) = refl
  entry_before-moved None k None = refl

  entries-moved : (H : List Formula) (ms : List (ℤ × ℤ)) → option_map (map (λ (e : Entry). (moved to e.0, e.1))) (entries H ms) ≡ entries (map (moved to) H) ms
  entries-moved H [] = refl
  entries-moved H (m ∷ ms) = entry_before-moved (hypothesis H m.0) m.1 (entries H ms) ∙ ap₂ (λ x y. entry_before x m.1 y) (hypothesis-moved to H m.0) (entries-moved H ms)

  comparison-moved : (f : Formula) → is_comparison f ≡ is_comparison (moved to f)
  comparison-moved (Le t u) = refl
  comparison-moved (Eq t u) = refl
  comparison-moved _ = refl

  comparisons-moved : (es : List Entry) → all_comparisons es ≡ all_comparisons (map (λ (e : Entry). (moved to e.0, e.1)) es)
  comparisons-moved [] = refl
  comparisons-moved (e ∷ es) = ap₂ (λ a b. a && b) (comparison-moved e.0) (comparisons-moved es)

  -- ---- variables in use

  term_below-moved : (v : ℕ) (t : Term) → term_below v t ≡ term_below v (moved_term to t)
  term_below-moved v t = sym (term_passes-moved to (below v) (λ c. refl) t)

  column_below-moved : (v : ℕ) (c : Column) → column_below v c ≡ column_below v (moved_column to c)
  column_below-moved v c = sym (column_passes-moved to (below v) (λ c. refl) c)

  formula_below-moved : (v : ℕ) (f : Formula) → formula_below v f ≡ formula_below v (moved to f)
  formula_below-moved v f = sym (passes-moved to (below v) (λ c. refl) 0 f)

  is_closed-moved : (t : Term) → is_closed t ≡ is_closed (moved_term to t)
  is_closed-moved t = sym (term_passes-moved to no_bounds (λ c. refl) t)

  opposite-moved : (f g : Formula) → formula_eq g (Not f) ≡ true → formula_eq (moved to g) (Not (moved to f)) ≡ true
  opposite-moved f g h = (Decides-formula_eq (moved to g) (Not (moved to f))).1 (ap (moved to) ((Decides-formula_eq g (Not f)).0 h))

  opposing : (f g : Formula) (n v w : ℕ) (bs : List (List Formula)) (s : Bool) → formula_eq g (Not f) ≡ s → Testing s NotOpposite (Branching n 0 (Opens v [])) (opens w bs)
      → Testing (formula_eq (moved to g) (Not (moved to f))) NotOpposite (Branching n 0 (Opens v [])) (opens w (moved_branches bs))
  opposing f g n v w bs true e h =
      subst (λ s. Testing s NotOpposite (Branching n 0 (Opens v [])) (opens w (moved_branches bs))) (sym (opposite-moved f g e))
      (branching n 0 0 (Opens v []) (Opens v []) w bs (moved_branches bs) refl (opens-moved v w bs [] [] refl) h)
  opposing f g n v w bs false e h = absurd (let no : opens w bs ≡ flawed (Bad NotOpposite) = h in cc)

  all-in-use : (v : ℕ) (c : Column) (i x j : Term) → (column_below v c && term_below v i && term_below v x && term_below v j) ≡ (column_below v (moved_column to c) && term_below v (moved_term to i) && term_below v (moved_term to x) && term_below v (moved_term to j))
  all-in-use v c i x j =
      let a = column_below-moved v c in let b = term_below-moved v i in let d = term_below-moved v x in let e = term_below-moved v j in λ y. a y && b y && d y && e y

  -- if columns can be put back, no two have become one
  module _ (back : ℕ → ℕ) (undone : (k : ℕ) → back (column_or to k) ≡ k) where
    can_compare-moved : (x y : Option Term) → option_map (moved_term to) x ≡ y → CanCompare x → CanCompare y
    can_compare-moved None y e h = subst CanCompare e tt
    can_compare-moved (Some t) y e h = subst CanCompare e (has_form-moved to back undone t h)

    quotient-moved : (t : Term) (k : ℤ) (x y : Option Term) → option_map (moved_term to) x ≡ y → IsQuotient t k x → IsQuotient (moved_term to t) k y
    quotient-moved t k None y e h = absurd h
    quotient-moved t k (Some q) y e h = subst (IsQuotient (moved_term to t) k) e (divided-moved to back undone t q k h)

    -- a step opens the branches with these columns
    Gives-moved : (v w : ℕ) (H : List Formula) (n : ℕ) (s : Step) (bs : List (List Formula)) → Gives v H n s (opens w bs) → Gives v (map (moved to) H) n (renamed_step to s) (opens w (moved_branches bs))
    Gives-moved v w H n (S.Split h) bs is =
        taking H h conjuncts conjuncts (map (moved to)) (λ fs. Branching n 1 (Opens v (fs ∷ []))) (λ fs. Branching n 1 (Opens v (fs ∷ []))) w bs (moved_branches bs) (conjuncts-moved to)
        (λ fs. branching n 1 1 (Opens v (fs ∷ [])) (Opens v (map (moved to) fs ∷ [])) w bs (moved_branches bs) refl (opens-moved v w bs (fs ∷ []) (map (moved to) fs ∷ []) refl)) is
    Gives-moved v w H n (S.Cases h) bs is =
        taking H h alternatives alternatives (map (moved to)) (λ fs. Branching n (length fs) (Opens v (each fs))) (λ fs. Branching n (length fs) (Opens v (each fs))) w bs (moved_branches bs) (alternatives-moved to)
        (λ fs. branching n (length fs) (length (map (moved to) fs)) (Opens v (each fs)) (Opens v (each (map (moved to) fs))) w bs (moved_branches bs) (sym (length-map fs (moved to)))
        (opens-moved v w bs (each fs) (each (map (moved to) fs)) (each-moved to fs))) is
    Gives-moved v w H n (S.Push h) bs is =
        taking H h pushed pushed (moved to) (λ f. Branching n 1 (Appends v f)) (λ f. Branching n 1 (Appends v f)) w bs (moved_branches bs) (pushed-moved to)
        (λ f. branching n 1 1 (Appends v f) (Appends v (moved to f)) w bs (moved_branches bs) refl (opens-moved v w bs ((f ∷ []) ∷ []) ((moved to f ∷ []) ∷ []) refl)) is
    Gives-moved v w H n (S.Instantiate h t) bs is =
        taking H h for_all for_all (moved to) (λ f. Branching n 1 (InUse (term_below v t && is_closed t) (Appends v (instantiated t f))))
        (λ f. Branching n 1 (InUse (term_below v (moved_term to t) && is_closed (moved_term to t)) (Appends v (instantiated (moved_term to t) f)))) w bs (moved_branches bs) (for_all-moved to)
        (λ f. branching n 1 1 (InUse (term_below v t && is_closed t) (Appends v (instantiated t f)))
        (InUse (term_below v (moved_term to t) && is_closed (moved_term to t)) (Appends v (instantiated (moved_term to t) (moved to f)))) w bs (moved_branches bs) refl
        (testing (term_below v t && is_closed t) (term_below v (moved_term to t) && is_closed (moved_term to t)) VariableNotInUse (Appends v (instantiated t f)) (Appends v (instantiated (moved_term to t) (moved to f)))
        w bs (moved_branches bs) (ap₂ (λ a b. a && b) (term_below-moved v t) (is_closed-moved t))
        (opens-moved v w bs ((instantiated t f ∷ []) ∷ []) ((instantiated (moved_term to t) (moved to f) ∷ []) ∷ []) (ap (λ x. (x ∷ []) ∷ []) (instantiated-moved to t f))))) is
    Gives-moved v w H n (S.Fresh h) bs is =
        taking H h for_some for_some (moved to) (λ f. Branching n 1 (Appends (suc v) (instantiated (Variable v) f))) (λ f. Branching n 1 (Appends (suc v) (instantiated (Variable v) f))) w bs (moved_branches bs) (for_some-moved to)
        (λ f. branching n 1 1 (Appends (suc v) (instantiated (Variable v) f)) (Appends (suc v) (instantiated (Variable v) (moved to f))) w bs (moved_branches bs) refl
        (opens-moved (suc v) w bs ((instantiated (Variable v) f ∷ []) ∷ []) ((instantiated (Variable v) (moved to f) ∷ []) ∷ []) (ap (λ x. (x ∷ []) ∷ []) (instantiated-moved to (Variable v) f)))) is
    Gives-moved v w H n (S.Cut f) bs is =
        branching n 2 2 (InUse (formula_below v f) (Opens v (each (Not f ∷ f ∷ [])))) (InUse (formula_below v (moved to f)) (Opens v (each (Not (moved to f) ∷ moved to f ∷ [])))) w bs (moved_branches bs) refl
        (testing (formula_below v f) (formula_below v (moved to f)) VariableNotInUse (Opens v (each (Not f ∷ f ∷ []))) (Opens v (each (Not (moved to f) ∷ moved to f ∷ []))) w bs (moved_branches bs) (formula_below-moved v f)
        (opens-moved v w bs (each (Not f ∷ f ∷ [])) (each (Not (moved to f) ∷ moved to f ∷ [])) refl)) is
    Gives-moved v w H n (S.Written c i x j) bs is =
        branching n 1 1 (InUse (column_below v c && term_below v i && term_below v x && term_below v j) (Appends v (written c i x j)))
        (InUse (column_below v (moved_column to c) && term_below v (moved_term to i) && term_below v (moved_term to x) && term_below v (moved_term to j))
        (Appends v (written (moved_column to c) (moved_term to i) (moved_term to x) (moved_term to j)))) w bs (moved_branches bs) refl
        (testing (column_below v c && term_below v i && term_below v x && term_below v j) (column_below v (moved_column to c) && term_below v (moved_term to i) && term_below v (moved_term to x) && term_below v (moved_term to j))
        VariableNotInUse (Appends v (written c i x j)) (Appends v (written (moved_column to c) (moved_term to i) (moved_term to x) (moved_term to j))) w bs (moved_branches bs) (all-in-use v c i x j)
        (opens-moved v w bs ((written c i x j ∷ []) ∷ []) ((written (moved_column to c) (moved_term to i) (moved_term to x) (moved_term to j) ∷ []) ∷ []) refl)) is
    Gives-moved v w H n (S.Same c i j) bs is =
        branching n 1 1 (InUse (column_below v c && term_below v i && term_below v j) (Appends v (same_index c i j)))
        (InUse (column_below v (moved_column to c) && term_below v (moved_term to i) && term_below v (moved_term to j)) (Appends v (same_index (moved_column to c) (moved_term to i) (moved_term to j)))) w bs (moved_branches bs) refl
        (testing (column_below v c && term_below v i && term_below v j) (column_below v (moved_column to c) && term_below v (moved_term to i) && term_below v (moved_term to j)) VariableNotInUse
        (Appends v (same_index c i j)) (Appends v (same_index (moved_column to c) (moved_term to i) (moved_term to j))) w bs (moved_branches bs)
        (ap₂ (λ a b. a && b) (ap₂ (λ a b. a && b) (column_below-moved v c) (term_below-moved v i)) (term_below-moved v j))
        (opens-moved v w bs ((same_index c i j ∷ []) ∷ []) ((same_index (moved_column to c) (moved_term to i) (moved_term to j) ∷ []) ∷ []) refl)) is
    Gives-moved v w H n (S.Affine a b i) bs is =
        branching n 1 1 (InUse (term_below v i) (Appends v (affine_cell a b i))) (InUse (term_below v (moved_term to i)) (Appends v (affine_cell a b (moved_term to i)))) w bs (moved_branches bs) refl
        (testing (term_below v i) (term_below v (moved_term to i)) VariableNotInUse (Appends v (affine_cell a b i)) (Appends v (affine_cell a b (moved_term to i))) w bs (moved_branches bs) (term_below-moved v i)
        (opens-moved v w bs ((affine_cell a b i ∷ []) ∷ []) ((affine_cell a b (moved_term to i) ∷ []) ∷ []) refl)) is
    Gives-moved v w H n (S.Trichotomy h) bs is =
        taking H h apart apart (moved_sides to) (λ p. Branching n 2 (Opens v (each (less p.0 p.1 ∷ less p.1 p.0 ∷ [])))) (λ p. Branching n 2 (Opens v (each (less p.0 p.1 ∷ less p.1 p.0 ∷ [])))) w bs (moved_branches bs) (apart-moved to)
        (λ p. branching n 2 2 (Opens v (each (less p.0 p.1 ∷ less p.1 p.0 ∷ []))) (Opens v (each (less (moved_term to p.0) (moved_term to p.1) ∷ less (moved_term to p.1) (moved_term to p.0) ∷ []))) w bs (moved_branches bs) refl
        (opens-moved v w bs (each (less p.0 p.1 ∷ less p.1 p.0 ∷ [])) (each (less (moved_term to p.0) (moved_term to p.1) ∷ less (moved_term to p.1) (moved_term to p.0) ∷ [])) refl)) is
    Gives-moved v w H n (S.Divide h k f) bs is =
        taking H h excess excess (moved_term to) (λ t. Branching n 1 (InUse (formula_below v f) (QuotientGives v f t k))) (λ t. Branching n 1 (InUse (formula_below v (moved to f)) (QuotientGives v (moved to f) t k))) w bs (moved_branches bs) (excess-moved to)
        (λ t. branching n 1 1 (InUse (formula_below v f) (QuotientGives v f t k)) (InUse (formula_below v (moved to f)) (QuotientGives v (moved to f) (moved_term to t) k)) w bs (moved_branches bs) refl
        (testing (formula_below v f) (formula_below v (moved to f)) VariableNotInUse (QuotientGives v f t k) (QuotientGives v (moved to f) (moved_term to t) k) w bs (moved_branches bs) (formula_below-moved v f)
        (λ q. (
          opens-moved v w bs ((f ∷ []) ∷ []) ((moved to f ∷ []) ∷ []) refl q.0,
          has_form-moved to back undone t q.1,
          can_compare-moved (excess f) (excess (moved to f)) (excess-moved to f) q.2,
          quotient-moved t k (excess f) (excess (moved to f)) (excess-moved to f) q.3,
        )))) is
    Gives-moved v w H n (S.Sum ms) bs is =
        needing (map (λ (e : Entry). (moved to e.0, e.1))) (entries H ms) (entries (map (moved to) H) ms) NoHypothesis (λ es. Testing (all_comparisons es) WrongForm (Branching n 0 (SumGives v es)))
        (λ es. Testing (all_comparisons es) WrongForm (Branching n 0 (SumGives v es))) w bs (moved_branches bs) (entries-moved H ms)
        (λ es. testing (all_comparisons es) (all_comparisons (map (λ (e : Entry). (moved to e.0, e.1)) es)) WrongForm (Branching n 0 (SumGives v es)) (Branching n 0 (SumGives v (map (λ (e : Entry). (moved to e.0, e.1)) es))) w bs (moved_branches bs)
        (comparisons-moved es)
        (branching n 0 0 (SumGives v es) (SumGives v (map (λ (e : Entry). (moved to e.0, e.1)) es)) w bs (moved_branches bs) refl (λ c. (opens-moved v w bs [] [] refl c.0, closes-moved to back undone es c.1)))) is
    Gives-moved v w H n (S.Opposite h g) bs is =
        needing (moved to) (hypothesis H h) (hypothesis (map (moved to) H) h) NoHypothesis
        (λ f. Needing (hypothesis H g) NoHypothesis (λ f'. Testing (formula_eq f' (Not f)) NotOpposite (Branching n 0 (Opens v []))))
        (λ f. Needing (hypothesis (map (moved to) H) g) NoHypothesis (λ f'. Testing (formula_eq f' (Not f)) NotOpposite (Branching n 0 (Opens v [])))) w bs (moved_branches bs) (hypothesis-moved to H h)
        (λ f. needing (moved to) (hypothesis H g) (hypothesis (map (moved to) H) g) NoHypothesis (λ f'. Testing (formula_eq f' (Not f)) NotOpposite (Branching n 0 (Opens v [])))
        (λ f'. Testing (formula_eq f' (Not (moved to f))) NotOpposite (Branching n 0 (Opens v []))) w bs (moved_branches bs) (hypothesis-moved to H g)
        (λ f'. opposing f f' n v w bs (formula_eq f' (Not f)) refl)) is
    Gives-moved v w H n S.Open bs is =
        branching n 0 0 (λ o. o ≡ flawed (Bad IsOpen)) (λ o. o ≡ flawed (Bad IsOpen)) w bs (moved_branches bs) refl (λ no. absurd (let e : opens w bs ≡ flawed (Bad IsOpen) = no in cc)) is

    count-moved : (ps : Proofs) → proof_count (all_renamed to ps) ≡ proof_count ps
    count-moved none = refl
    count-moved (more p ps) = ap suc (count-moved ps)

    mutual
      -- the derivation with these columns
      pub derives-moved : {v : ℕ} {H : List Formula} {p : Proof} → Derives v H p → Derives v (map (moved to) H) (renamed to p)
      derives-moved (derives {v = v} {w = w} {H = H} {s = s} {ps = ps} {bs = bs} is ds) =
          derives (subst (λ n. Gives v (map (moved to) H) n (renamed_step to s) (opens w (moved_branches bs))) (sym (count-moved ps)) (Gives-moved v w H (proof_count ps) s bs is)) (each-derives-moved ds)

      each-derives-moved : {v : ℕ} {H : List Formula} {bs : List (List Formula)} {ps : Proofs} → EachDerives v H bs ps → EachDerives v (map (moved to) H) (moved_branches bs) (all_renamed to ps)
      each-derives-moved all_closed = all_closed
      each-derives-moved (one_closed {v = v} {H = H} {b = b} {p = p} d ds) = one_closed (subst (λ l. Derives v l (renamed to p)) (map-append (moved to) H b) (derives-moved d)) (each-derives-moved ds)
