-- A step comes to one outcome, and to no other.
use Rattle.std.proofs.Common.{◌≡◌, ℕ, suc, Bool, true, false, ◌&&◌, IsTrue, List, [], ◌∷◌, Option, Some, None, inl, inr, refl, sym, ap, ◌∙◌}
use Rattle.std.specs.Prelude.{ℤ, ◌==◌, length}
use Rattle.std.proofs.lemmas.Bool.{false≢true}
use Rattle.lc_array.specs.Axioms.{written, same_index, affine_cell}
use Rattle.lc_linear.proofs.Refutes.{IsDivided-Divides}
use Rattle.lc_linear.specs.Closing.{Entry, are_allowed, combined, Closes}
use Rattle.lc_linear.specs.Divided.{Divides}
use Rattle.lc_linear.specs.Form.{form_of, HasForm}
use Rattle.lc_term.specs.Equal.{formula_eq}
use Rattle.lc_term.specs.Places.{is_closed}
use Rattle.lc_term.specs.Substitution.{instantiated}
use Rattle.lc_term.specs.Syntax.{Term, Variable, Formula, Not}
use Rattle.lc_kernel.proofs.Decided.{Decision, decision_of_both, has_form, decision_closes, decision_divides, is_divided}
use Rattle.lc_kernel.specs.Below.{term_below, column_below, formula_below}
use Rattle.lc_kernel.specs.Proofs as S
use Rattle.lc_kernel.specs.Proofs.{Step}
use Rattle.lc_kernel.specs.Table.{Outcome, flawed, opens, conjuncts, alternatives, less, pushed, for_all, for_some, apart, excess, hypothesis, each, entries, all_comparisons, Needing, Taking, Testing, Branching, InUse, Opens, Appends, SumGives, CanCompare, IsQuotient, QuotientGives, Gives}
use Rattle.lc_kernel.specs.declared.reason.Flaw.TheVariants.{Bad, Large}
use Rattle.lc_kernel.specs.declared.reason.Reason.{Reason}
use Rattle.lc_kernel.specs.declared.reason.Reason.TheVariants.{NoHypothesis, WrongForm, VariableNotInUse, DoesNotClose, NotDivisible, NotOpposite, IsOpen, WrongQuotient}

-- exactly one outcome meets P
pub record One (P : Outcome → Type 0) : Type 0 where
  pub outcome : Outcome
  pub meets : P outcome
  pub only : (o o' : Outcome) → P o → P o' → o ≡ o'

is_one : (o : Outcome) → One (λ o'. o' ≡ o)
is_one o = record { outcome = o; meets = refl; only = λ a b h h'. h ∙ sym h' }

needing_one : {A : Type 0} (x : Option A) (why : Reason) (next : A → Outcome → Type 0) → ((a : A) → One (next a)) → One (Needing x why next)
needing_one None why next one = is_one (flawed (Bad why))
needing_one (Some a) why next one = one a

testing_one : (holds : Bool) (why : Reason) (next : Outcome → Type 0) → (IsTrue holds → One next) → One (Testing holds why next)
testing_one true why next one = one refl
testing_one false why next one = is_one (flawed (Bad why))

branching_one : (n m : ℕ) (next : Outcome → Type 0) → One next → One (Branching n m next)
branching_one n m next one = testing_one (n == m) WrongForm next (λ h. one)

in_use_one : (yes' : Bool) (next : Outcome → Type 0) → One next → One (InUse yes' next)
in_use_one yes' next one = testing_one yes' VariableNotInUse next (λ h. one)

taking_one : {A : Type 0} (H : List Formula) (h : ℤ) (form : Formula → Option A) (n : ℕ) (m : A → ℕ) (next : A → Outcome → Type 0) → ((a : A) → One (next a)) →
    One (Taking H h form (λ a. Branching n (m a) (next a)))
taking_one H h form n m next one =
    needing_one (hypothesis H h) NoHypothesis (λ f. Needing (form f) WrongForm (λ a. Branching n (m a) (next a)))
    (λ f. needing_one (form f) WrongForm (λ a. Branching n (m a) (next a)) (λ a. branching_one n (m a) (next a) (one a)))

-- ---- sums

comparisons_once : (v : ℕ) (es : List Entry) (o o' : Outcome) → SumGives v es o → SumGives v es o' → o ≡ o'
comparisons_once v es (opens w bs) (opens w' bs') h h' = h.0 ∙ sym h'.0
comparisons_once v es (opens w bs) (flawed Large) h h' = absurd (h'.1 h.1.fits)
comparisons_once v es (opens w bs) (flawed (Bad why)) h h' = absurd (h'.2 h.1)
comparisons_once v es (flawed Large) (opens w bs) h h' = absurd (h.1 h'.1.fits)
comparisons_once v es (flawed Large) (flawed Large) h h' = refl
comparisons_once v es (flawed Large) (flawed (Bad why)) h h' = absurd (h.1 (h'.1 h.0))
comparisons_once v es (flawed (Bad why)) (opens w bs) h h' = absurd (h.2 h'.1)
comparisons_once v es (flawed (Bad why)) (flawed Large) h h' = absurd (h'.1 (h.1 h'.0))
comparisons_once v es (flawed (Bad why)) (flawed (Bad why')) h h' = ap (λ r. flawed (Bad r)) (h.0 ∙ sym h'.0)

-- ---- quotients

-- what has a quotient can be divided
quotient_divides : (t : Term) (k : ℤ) (x : Option Term) → IsQuotient t k x → Divides k (form_of t)
quotient_divides t k (Some q) h = IsDivided-Divides (form_of t) k (form_of q) h
quotient_divides t k None h = absurd h

-- the outcomes of a quotient, one by one
pub data QuotientOutcome (v : ℕ) (f : Formula) (t : Term) (k : ℤ) : Outcome → Type 0 where
  divided : {o : Outcome} → o ≡ opens v ((f ∷ []) ∷ []) → HasForm t → CanCompare (excess f) → IsQuotient t k (excess f) → QuotientOutcome v f t k o
  large : {o : Outcome} → o ≡ flawed Large → (HasForm t × CanCompare (excess f) → ⊥) → QuotientOutcome v f t k o
  no_multiple : {o : Outcome} → o ≡ flawed (Bad NotDivisible) → HasForm t → CanCompare (excess f) → (Divides k (form_of t) → ⊥) → QuotientOutcome v f t k o
  wrong : {o : Outcome} → o ≡ flawed (Bad WrongQuotient) → HasForm t → CanCompare (excess f) → Divides k (form_of t) → (IsQuotient t k (excess f) → ⊥) → QuotientOutcome v f t k o

outcome : (v : ℕ) (f : Formula) (t : Term) (k : ℤ) (o : Outcome) → QuotientGives v f t k o → QuotientOutcome v f t k o
outcome v f t k (opens w bs) h = divided h.0 h.1 h.2 h.3
outcome v f t k (flawed Large) h = large refl h
outcome v f t k (flawed (Bad NotDivisible)) h = no_multiple refl h.0 h.1 h.2
outcome v f t k (flawed (Bad WrongQuotient)) h = wrong refl h.0 h.1 h.2 h.3
outcome v f t k (flawed (Bad _)) h = absurd h

outcomes_once : (v : ℕ) (f : Formula) (t : Term) (k : ℤ) (o o' : Outcome) → QuotientOutcome v f t k o → QuotientOutcome v f t k o' → o ≡ o'
outcomes_once v f t k o o' (divided is a b q) (divided is' a' b' q') = is ∙ sym is'
outcomes_once v f t k o o' (divided is a b q) (large is' n) = absurd (n (a, b))
outcomes_once v f t k o o' (divided is a b q) (no_multiple is' a' b' n) = absurd (n (quotient_divides t k (excess f) q))
outcomes_once v f t k o o' (divided is a b q) (wrong is' a' b' d n) = absurd (n q)
outcomes_once v f t k o o' (large is n) (divided is' a b q) = absurd (n (a, b))
outcomes_once v f t k o o' (large is n) (large is' n') = is ∙ sym is'
outcomes_once v f t k o o' (large is n) (no_multiple is' a b n') = absurd (n (a, b))
outcomes_once v f t k o o' (large is n) (wrong is' a b d n') = absurd (n (a, b))
outcomes_once v f t k o o' (no_multiple is a b n) (divided is' a' b' q) = absurd (n (quotient_divides t k (excess f) q))
outcomes_once v f t k o o' (no_multiple is a b n) (large is' n') = absurd (n' (a, b))
outcomes_once v f t k o o' (no_multiple is a b n) (no_multiple is' a' b' n') = is ∙ sym is'
outcomes_once v f t k o o' (no_multiple is a b n) (wrong is' a' b' d n') = absurd (n d)
outcomes_once v f t k o o' (wrong is a b d n) (divided is' a' b' q) = absurd (n q)
outcomes_once v f t k o o' (wrong is a b d n) (large is' n') = absurd (n' (a, b))
outcomes_once v f t k o o' (wrong is a b d n) (no_multiple is' a' b' n') = absurd (n' d)
outcomes_once v f t k o o' (wrong is a b d n) (wrong is' a' b' d' n') = is ∙ sym is'

quotient_once : (v : ℕ) (f : Formula) (t : Term) (k : ℤ) (o o' : Outcome) → QuotientGives v f t k o → QuotientGives v f t k o' → o ≡ o'
quotient_once v f t k o o' h h' = outcomes_once v f t k o o' (outcome v f t k o h) (outcome v f t k o' h')

-- ---- sums and quotients come to something

sum_decided : (v : ℕ) (es : List Entry) → IsTrue (are_allowed es) → HasForm (combined es) → Decision (Closes es) → (o : Outcome) × SumGives v es o
sum_decided v es allowed fits (inl c) = (opens v [], (refl, c))
sum_decided v es allowed fits (inr no') = (flawed (Bad DoesNotClose), (refl, λ h. fits, no'))

sum_of_form : (v : ℕ) (es : List Entry) → IsTrue (are_allowed es) → Decision (HasForm (combined es)) → (o : Outcome) × SumGives v es o
sum_of_form v es allowed (inl fits) = sum_decided v es allowed fits (decision_closes es allowed fits)
sum_of_form v es allowed (inr no') = (flawed Large, (allowed, no'))

sum_by : (v : ℕ) (es : List Entry) (b : Bool) → are_allowed es ≡ b → (o : Outcome) × SumGives v es o
sum_by v es true is = sum_of_form v es is (has_form (combined es))
sum_by v es false is = (flawed (Bad DoesNotClose), (refl, (λ h. absurd (false≢true (sym is ∙ h))), λ c. false≢true (sym is ∙ c.allowed)))

sum_one : (v : ℕ) (es : List Entry) → One (SumGives v es)
sum_one v es = let s = sum_by v es (are_allowed es) refl in record { outcome = s.0; meets = s.1; only = comparisons_once v es }

can_compare : (x : Option Term) → Decision (CanCompare x)
can_compare (Some t) = has_form t
can_compare None = inl tt

is_quotient : (t : Term) (k : ℤ) (x : Option Term) → Decision (IsQuotient t k x)
is_quotient t k (Some q) = is_divided t k q
is_quotient t k None = inr (λ h. h)

quotient_decided : (v : ℕ) (f : Formula) (t : Term) (k : ℤ) → Decision (HasForm t × CanCompare (excess f)) → Decision (Divides k (form_of t)) → Decision (IsQuotient t k (excess f)) →
    (o : Outcome) × QuotientGives v f t k o
quotient_decided v f t k (inr no') d q = (flawed Large, no')
quotient_decided v f t k (inl fits) (inr no') q = (flawed (Bad NotDivisible), (fits.0, fits.1, no'))
quotient_decided v f t k (inl fits) (inl d) (inr no') = (flawed (Bad WrongQuotient), (fits.0, fits.1, d, no'))
quotient_decided v f t k (inl fits) (inl d) (inl q) = (opens v ((f ∷ []) ∷ []), (refl, fits.0, fits.1, q))

quotient_one : (v : ℕ) (f : Formula) (t : Term) (k : ℤ) → One (QuotientGives v f t k)
quotient_one v f t k =
    let q = quotient_decided v f t k (decision_of_both (has_form t) (can_compare (excess f))) (decision_divides k t) (is_quotient t k (excess f)) in
    record { outcome = q.0; meets = q.1; only = quotient_once v f t k }

-- ---- steps

pub gives_one : (v : ℕ) (H : List Formula) (n : ℕ) (s : Step) → One (Gives v H n s)
gives_one v H n (S.Split h) = taking_one H h conjuncts n (λ fs. 1) (λ fs. Opens v (fs ∷ [])) (λ fs. is_one (opens v (fs ∷ [])))
gives_one v H n (S.Cases h) = taking_one H h alternatives n (λ fs. length fs) (λ fs. Opens v (each fs)) (λ fs. is_one (opens v (each fs)))
gives_one v H n (S.Push h) = taking_one H h pushed n (λ f. 1) (λ f. Appends v f) (λ f. is_one (opens v ((f ∷ []) ∷ [])))
gives_one v H n (S.Instantiate h u) =
    taking_one H h for_all n (λ f. 1) (λ f. InUse (term_below v u && is_closed u) (Appends v (instantiated u f)))
    (λ f. in_use_one (term_below v u && is_closed u) (Appends v (instantiated u f)) (is_one (opens v ((instantiated u f ∷ []) ∷ []))))
gives_one v H n (S.Fresh h) =
    taking_one H h for_some n (λ f. 1) (λ f. Appends (suc v) (instantiated (Variable v) f)) (λ f. is_one (opens (suc v) ((instantiated (Variable v) f ∷ []) ∷ [])))
gives_one v H n (S.Cut f) =
    let bs = each (Not f ∷ f ∷ []) in
    branching_one n 2 (InUse (formula_below v f) (Opens v bs)) (in_use_one (formula_below v f) (Opens v bs) (is_one (opens v bs)))
gives_one v H n (S.Written c i x j) =
    let used = column_below v c && term_below v i && term_below v x && term_below v j in
    let f = written c i x j in
    branching_one n 1 (InUse used (Appends v f)) (in_use_one used (Appends v f) (is_one (opens v ((f ∷ []) ∷ []))))
gives_one v H n (S.Same c i j) =
    let used = column_below v c && term_below v i && term_below v j in
    let f = same_index c i j in
    branching_one n 1 (InUse used (Appends v f)) (in_use_one used (Appends v f) (is_one (opens v ((f ∷ []) ∷ []))))
gives_one v H n (S.Affine a b i) =
    let f = affine_cell a b i in
    branching_one n 1 (InUse (term_below v i) (Appends v f)) (in_use_one (term_below v i) (Appends v f) (is_one (opens v ((f ∷ []) ∷ []))))
gives_one v H n (S.Trichotomy h) =
    taking_one H h apart n (λ p. 2) (λ p. Opens v (each (less p.0 p.1 ∷ less p.1 p.0 ∷ []))) (λ p. is_one (opens v (each (less p.0 p.1 ∷ less p.1 p.0 ∷ []))))
gives_one v H n (S.Divide h k f) =
    taking_one H h excess n (λ t. 1) (λ t. InUse (formula_below v f) (QuotientGives v f t k))
    (λ t. in_use_one (formula_below v f) (QuotientGives v f t k) (quotient_one v f t k))
gives_one v H n (S.Sum ms) =
    needing_one (entries H ms) NoHypothesis (λ es. Testing (all_comparisons es) WrongForm (Branching n 0 (SumGives v es)))
    (λ es. testing_one (all_comparisons es) WrongForm (Branching n 0 (SumGives v es)) (λ h. branching_one n 0 (SumGives v es) (sum_one v es)))
gives_one v H n (S.Opposite h g) =
    needing_one (hypothesis H h) NoHypothesis (λ f. Needing (hypothesis H g) NoHypothesis (λ f'. Testing (formula_eq f' (Not f)) NotOpposite (Branching n 0 (Opens v []))))
    (λ f. needing_one (hypothesis H g) NoHypothesis (λ f'. Testing (formula_eq f' (Not f)) NotOpposite (Branching n 0 (Opens v [])))
    (λ f'. testing_one (formula_eq f' (Not f)) NotOpposite (Branching n 0 (Opens v [])) (λ h. branching_one n 0 (Opens v []) (is_one (opens v [])))))
gives_one v H n S.Open = branching_one n 0 (λ o. o ≡ flawed (Bad IsOpen)) (is_one (flawed (Bad IsOpen)))

pub gives_once : (v : ℕ) (H : List Formula) (n : ℕ) (s : Step) (o o' : Outcome) → Gives v H n s o → Gives v H n s o' → o ≡ o'
gives_once v H n s = (gives_one v H n s).only

pub gives_some : (v : ℕ) (H : List Formula) (n : ℕ) (s : Step) → (o : Outcome) × Gives v H n s o
gives_some v H n s = let one = gives_one v H n s in (one.outcome, one.meets)
