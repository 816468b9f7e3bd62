-- What a step that holds opens in a branch is what is defined.
use Rattle.std.proofs.Common.{◌≡◌, ℕ, zero, suc, ◌≤◌, ◌&&◌, ℤ, Bool, true, false, IsTrue, List, [], ◌∷◌, slice_get, Option, Some, None, sym, ap, ap₂, ◌∙◌, subst, arith}
use Rattle.std.specs.Prelude.{◌==◌, length, option_map, option_and_then, if◌then◌else◌}
use Rattle.lc_array.specs.Axioms.{written, same_index, affine_cell}
use Rattle.lc_term.specs.Equal.{formula_eq}
use Rattle.lc_term.specs.Places.{is_closed}
use Rattle.lc_term.specs.Substitution.{instantiated}
use Rattle.lc_term.specs.Syntax.{Variable, Formula, Not}
use Rattle.lc_kernel.specs.Below.{term_below, column_below, formula_below}
use Rattle.lc_kernel.specs.Proofs as S
use Rattle.lc_kernel.specs.Proofs.{Step}
use Rattle.lc_kernel.specs.Table.{Outcome, flawed, opens, conjuncts, alternatives, pushed, for_all, for_some, apart, excess, hypothesis, each, entries, all_comparisons, Needing, Taking, Testing, Branching, InUse, Opens, Appends, SumGives, QuotientGives, Gives}
use Rattle.lc_kernel.specs.declared.reason.Flaw.TheVariants.{Bad}
use Rattle.lc_kernel.specs.declared.reason.Reason.TheVariants.{NoHypothesis, WrongForm, NotOpposite, IsOpen}
use Rattle.lc_proof_state.specs.Opened.{appended, opened_by, orders, put_in, taken}
use Rattle.lc_kernel.proofs.Found.{opens_same, needing_opens, testing_opens, in_use_opens}

-- ---- what was asked for is there

branching_is : (w : ℕ) (bs : List (List Formula)) (n m : ℕ) (next : Outcome → Type 0) → Branching n m next (opens w bs) → next (opens w bs)
branching_is w bs n m next is = (testing_opens w bs (n == m) WrongForm next is).1

-- the hypothesis in its form, if as many proofs are below the step as it opens branches
taking_is : {A : Type 0} (w : ℕ) (bs : List (List Formula)) (H : List Formula) (h : ℤ) (form : Formula → Option A) (n : ℕ) (m : A → ℕ) (next : A → Outcome → Type 0)
    → Taking H h form (λ a. Branching n (m a) (next a)) (opens w bs) → (a : A) × (taken H h form ≡ Some a) × next a (opens w bs)
taking_is w bs H h form n m next is =
    let f = needing_opens w bs (hypothesis H h) NoHypothesis (λ f. Needing (form f) WrongForm (λ a. Branching n (m a) (next a))) is in
    let a = needing_opens w bs (form f.0) WrongForm (λ a. Branching n (m a) (next a)) f.2 in
    (a.0, ap (option_and_then form) f.1 ∙ a.1, branching_is w bs n (m a.0) (next a.0) a.2)

-- ---- the branch at a place

-- of one branch
only_at : (i : ℕ) (b c : List Formula) → slice_get (c ∷ []) i ≡ Some b → c ≡ b
only_at zero b c at = cc
only_at (suc i) b c at = cc

-- what is added
abbrev pub added : ℕ → List Formula → Option (ℕ × List Formula)
added v b = Some (v, b)

one_is : (v w i : ℕ) (bs : List (List Formula)) (b c : List Formula) → opens w bs ≡ opens v (c ∷ []) → slice_get bs i ≡ Some b → added v c ≡ added w b
one_is v w i bs b c is at =
    let same = opens_same v w bs (c ∷ []) is in
    ap₂ added (sym same.0) (only_at i b c (subst (λ l. slice_get l i ≡ Some b) same.1 at))

-- of a branch for each formula
each_at : (fs : List Formula) (i : ℕ) (b : List Formula) → slice_get (each fs) i ≡ Some b → option_map (λ f. f ∷ []) (slice_get fs i) ≡ Some b
each_at [] i b at = cc
each_at (f ∷ fs) zero b at = at
each_at (f ∷ fs) (suc i) b at = each_at fs i b at

appended_at : (v w : ℕ) (b : List Formula) (f : Option Formula) → w ≡ v → option_map (λ g. g ∷ []) f ≡ Some b → appended v f ≡ Some (w, b)
appended_at v w b None is at = cc
appended_at v w b (Some f) is at = let same : f ∷ [] ≡ b = cc in ap₂ added (sym is) same

each_is : (v w i : ℕ) (bs : List (List Formula)) (b fs : List Formula) → opens w bs ≡ opens v (each fs) → slice_get bs i ≡ Some b → appended v (slice_get fs i) ≡ Some (w, b)
each_is v w i bs b fs is at =
    let same = opens_same v w bs (each fs) is in
    appended_at v w b (slice_get fs i) same.0 (each_at fs i b (subst (λ l. slice_get l i ≡ Some b) same.1 at))

-- of none
none_is : (v w i : ℕ) (bs : List (List Formula)) (b : List Formula) → opens w bs ≡ opens v [] → slice_get bs i ≡ Some b → ⊥
none_is v w i bs b is at = let no' : None ≡ Some b = subst (λ l. slice_get l i ≡ Some b) (opens_same v w bs [] is).1 at in cc

-- ---- each step

second_true : (a b : Bool) → IsTrue (a && b) → b ≡ true
second_true true b both = both
second_true false b both = cc

pub opened_is : (v w n i : ℕ) (H : List Formula) (s : Step) (bs : List (List Formula)) (b : List Formula) → Gives v H n s (opens w bs) → slice_get bs i ≡ Some b → opened_by v H s i ≡ Some (w, b)
opened_is v w n i H (S.Split h) bs b is at =
    let t = taking_is w bs H h conjuncts n (λ fs. 1) (λ fs. Opens v (fs ∷ [])) is in ap (option_map (λ fs. (v, fs))) t.1 ∙ one_is v w i bs b t.0 t.2 at
opened_is v w n i H (S.Cases h) bs b is at =
    let t = taking_is w bs H h alternatives n (λ fs. length fs) (λ fs. Opens v (each fs)) is in
    ap (λ x. appended v (option_and_then (λ fs. slice_get fs i) x)) t.1 ∙ each_is v w i bs b t.0 t.2 at
opened_is v w n i H (S.Push h) bs b is at =
    let t = taking_is w bs H h pushed n (λ f. 1) (λ f. Appends v f) is in ap (appended v) t.1 ∙ one_is v w i bs b (t.0 ∷ []) t.2 at
opened_is v w n i H (S.Instantiate h u) bs b is at =
    let t = taking_is w bs H h for_all n (λ f. 1) (λ f. InUse (term_below v u && is_closed u) (Appends v (instantiated u f))) is in
    let g = in_use_opens w bs (term_below v u && is_closed u) (Appends v (instantiated u t.0)) t.2 in
    ap (λ x. appended v (option_and_then (put_in u) x)) t.1 ∙ ap (λ c. appended v (if c then Some (instantiated u t.0) else None)) (second_true (term_below v u) (is_closed u) g.0)
    ∙ one_is v w i bs b (instantiated u t.0 ∷ []) g.1 at
opened_is v w n i H (S.Fresh h) bs b is at =
    let t = taking_is w bs H h for_some n (λ f. 1) (λ f. Appends (suc v) (instantiated (Variable v) f)) is in
    ap (λ x. appended (suc v) (option_map (instantiated (Variable v)) x)) t.1 ∙ one_is (suc v) w i bs b (instantiated (Variable v) t.0 ∷ []) t.2 at
opened_is v w n i H (S.Cut f) bs b is at =
    let g = in_use_opens w bs (formula_below v f) (Opens v (each (Not f ∷ f ∷ []))) (branching_is w bs n 2 (InUse (formula_below v f) (Opens v (each (Not f ∷ f ∷ [])))) is) in
    each_is v w i bs b (Not f ∷ f ∷ []) g.1 at
opened_is v w n i H (S.Written c j x k) bs b is at =
    let used = column_below v c && term_below v j && term_below v x && term_below v k in
    let g = in_use_opens w bs used (Appends v (written c j x k)) (branching_is w bs n 1 (InUse used (Appends v (written c j x k))) is) in
    one_is v w i bs b (written c j x k ∷ []) g.1 at
opened_is v w n i H (S.Same c j k) bs b is at =
    let used = column_below v c && term_below v j && term_below v k in
    let g = in_use_opens w bs used (Appends v (same_index c j k)) (branching_is w bs n 1 (InUse used (Appends v (same_index c j k))) is) in
    one_is v w i bs b (same_index c j k ∷ []) g.1 at
opened_is v w n i H (S.Affine m d j) bs b is at =
    let g = in_use_opens w bs (term_below v j) (Appends v (affine_cell m d j)) (branching_is w bs n 1 (InUse (term_below v j) (Appends v (affine_cell m d j))) is) in
    one_is v w i bs b (affine_cell m d j ∷ []) g.1 at
opened_is v w n i H (S.Trichotomy h) bs b is at =
    let t = taking_is w bs H h apart n (λ p. 2) (λ p. Opens v (each (orders p))) is in
    ap (λ x. appended v (option_and_then (λ p. slice_get (orders p) i) x)) t.1 ∙ each_is v w i bs b (orders t.0) t.2 at
opened_is v w n i H (S.Divide h k f) bs b is at =
    let t = taking_is w bs H h excess n (λ t. 1) (λ t. InUse (formula_below v f) (QuotientGives v f t k)) is in
    let g = in_use_opens w bs (formula_below v f) (QuotientGives v f t.0 k) t.2 in
    one_is v w i bs b (f ∷ []) g.1.0 at
opened_is v w n i H (S.Sum ms) bs b is at =
    let e = needing_opens w bs (entries H ms) NoHypothesis (λ es. Testing (all_comparisons es) WrongForm (Branching n 0 (SumGives v es))) is in
    let t = testing_opens w bs (all_comparisons e.0) WrongForm (Branching n 0 (SumGives v e.0)) e.2 in
    let g = branching_is w bs n 0 (SumGives v e.0) t.1 in
    absurd (none_is v w i bs b g.0 at)
opened_is v w n i H (S.Opposite h g) bs b is at =
    let f = needing_opens w bs (hypothesis H h) NoHypothesis (λ f. Needing (hypothesis H g) NoHypothesis (λ f'. Testing (formula_eq f' (Not f)) NotOpposite (Branching n 0 (Opens v [])))) is in
    let f' = needing_opens w bs (hypothesis H g) NoHypothesis (λ f'. Testing (formula_eq f' (Not f.0)) NotOpposite (Branching n 0 (Opens v []))) f.2 in
    let t = testing_opens w bs (formula_eq f'.0 (Not f.0)) NotOpposite (Branching n 0 (Opens v [])) f'.2 in
    absurd (none_is v w i bs b (branching_is w bs n 0 (Opens v []) t.1) at)
opened_is v w n i H S.Open bs b is at =
    let no' : opens w bs ≡ flawed (Bad IsOpen) = branching_is w bs n 0 (λ o. o ≡ flawed (Bad IsOpen)) is in cc

-- ---- variables in use

mapped_same : {A : Type 0} (v w : ℕ) (b : List Formula) (g : A → List Formula) (x : Option A) → option_map {U = ℕ × List Formula} (λ a. (v, g a)) x ≡ added w b → w ≡ v
mapped_same v w b g None is = cc
mapped_same v w b g (Some a) is = let same : ◌≡◌ {A = ℕ × List Formula} (v, g a) (w, b) = cc in sym (ap (λ x. x.0) same)

kept : (v w : ℕ) (b : List Formula) (f : Option Formula) → appended v f ≡ Some (w, b) → w ≤ suc v
kept v w b f is = let same = mapped_same v w b (λ g. g ∷ []) f is in omega (arith, same)

-- a step takes one more into use at most
pub opened_grows : (v w i : ℕ) (H : List Formula) (s : Step) (b : List Formula) → opened_by v H s i ≡ Some (w, b) → w ≤ suc v
opened_grows v w i H (S.Split h) b is = let same = mapped_same v w b (λ fs. fs) (taken H h conjuncts) is in omega (arith, same)
opened_grows v w i H (S.Cases h) b is = kept v w b (option_and_then (λ fs. slice_get fs i) (taken H h alternatives)) is
opened_grows v w i H (S.Push h) b is = kept v w b (taken H h pushed) is
opened_grows v w i H (S.Instantiate h u) b is = kept v w b (option_and_then (put_in u) (taken H h for_all)) is
opened_grows v w i H (S.Fresh h) b is =
    let same = mapped_same (suc v) w b (λ g. g ∷ []) (option_map (instantiated (Variable v)) (taken H h for_some)) is in omega (arith, same)
opened_grows v w i H (S.Cut f) b is = kept v w b (slice_get (Not f ∷ f ∷ []) i) is
opened_grows v w i H (S.Written c j x k) b is = kept v w b (Some (written c j x k)) is
opened_grows v w i H (S.Same c j k) b is = kept v w b (Some (same_index c j k)) is
opened_grows v w i H (S.Affine m d j) b is = kept v w b (Some (affine_cell m d j)) is
opened_grows v w i H (S.Trichotomy h) b is = kept v w b (option_and_then (λ p. slice_get (orders p) i) (taken H h apart)) is
opened_grows v w i H (S.Divide h k f) b is = kept v w b (Some f) is
opened_grows v w i H (S.Sum ms) b is = cc
opened_grows v w i H (S.Opposite h g) b is = cc
opened_grows v w i H S.Open b is = cc
