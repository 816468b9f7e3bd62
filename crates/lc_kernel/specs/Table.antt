-- The table of steps: what a step needs, and what it opens.
-- Hypotheses are numbered from 0. Nothing is ever taken away from them.
use Rattle.std.specs.Prelude.{◌≡◌, ℕ, suc, ℤ, pos, negsuc, Bool, true, false, ◌&&◌, IsTrue, Option, Some, None, slice_get, ◌==◌, List, [], ◌∷◌, length, map}
use Rattle.lc_term.specs.Equal.{formula_eq}
use Rattle.lc_term.specs.Places.{is_closed}
use Rattle.lc_term.specs.Substitution.{instantiated}
use Rattle.lc_term.specs.Syntax.{Term, Number, Variable, Add, Subtract, Formula, Le, Eq, Not, And, Or, Implies, Forall, Exists, none, more, formulas, parts}
use Rattle.lc_linear.specs.Form.{form_of, HasForm}
use Rattle.lc_linear.specs.Divided.{Divides, IsDivided}
use Rattle.lc_linear.specs.Closing.{Entry, are_allowed, combined, Closes}
use Rattle.lc_array.specs.Axioms.{written, same_index, affine_cell}
use Rattle.lc_kernel.specs.Below.{term_below, column_below, formula_below}
use Rattle.lc_kernel.specs.Proofs as S
use Rattle.lc_kernel.specs.Proofs.{Step}
use Rattle.lc_kernel.specs.declared.reason.Flaw.{Flaw}
use Rattle.lc_kernel.specs.declared.reason.Flaw.TheVariants.{Bad, Large}
use Rattle.lc_kernel.specs.declared.reason.Reason.{Reason}
use Rattle.lc_kernel.specs.declared.reason.Reason.TheVariants.{NoHypothesis, WrongForm, VariableNotInUse, DoesNotClose, NotDivisible, NotOpposite, IsOpen, WrongQuotient}

-- What a step comes to: what is wrong with it; or the branches that it opens, each by the formulas that it appends
-- to the hypotheses, and how many variables are in use there
pub data Outcome : Type 0 where
  flawed : Flaw → Outcome
  opens : ℕ → List (List Formula) → Outcome

-- ---- forms of hypotheses

-- the parts of `(and F ..)`
abbrev pub conjuncts : Formula → Option (List Formula)
conjuncts (And fs) = Some (parts fs)
conjuncts _ = None

abbrev pub negations : List Formula → List Formula
negations fs = map Not fs

-- one of which fails if the formula fails: the parts of `(and F ..)`
abbrev pub failing : Formula → Option (List Formula)
failing (And fs) = Some (negations (parts fs))
failing _ = None

-- one of which holds if the formula holds: the parts of `(or F ..)`, `(not A)` and `B` of `(=> A B)`,
-- each `(not F)` of `(not (and F ..))`
abbrev pub alternatives : Formula → Option (List Formula)
alternatives (Or fs) = Some (parts fs)
alternatives (Implies f g) = Some (Not f ∷ g ∷ [])
alternatives (Not f) = failing f
alternatives _ = None

-- `t < u` in whole numbers: `(<= (+ t 1) u)`
abbrev pub less : Term → Term → Formula
less t u = Le (Add t (Number (pos 1))) u

-- what `(not F)` says, with the negation pushed inward: line by line, of F
abbrev pub pushed_inward : Formula → Option Formula
pushed_inward (Not f) = Some f
pushed_inward (Le t u) = Some (less u t)
pushed_inward (Or fs) = Some (And (formulas (negations (parts fs))))
pushed_inward (Implies f g) = Some (And (more f (more (Not g) none)))
pushed_inward (Forall f) = Some (Exists (Not f))
pushed_inward (Exists f) = Some (Forall (Not f))
pushed_inward _ = None

abbrev pub pushed : Formula → Option Formula
pushed (Not f) = pushed_inward f
pushed _ = None

-- the body of `(forall x F)`
abbrev pub for_all : Formula → Option Formula
for_all (Forall f) = Some f
for_all _ = None

-- the body of `(exists x F)`
abbrev pub for_some : Formula → Option Formula
for_some (Exists f) = Some f
for_some _ = None

abbrev pub sides : Formula → Option (Term × Term)
sides (Eq t u) = Some (t, u)
sides _ = None

-- the sides of `(not (= t u))`
abbrev pub apart : Formula → Option (Term × Term)
apart (Not f) = sides f
apart _ = None

-- the difference of the sides of `(<= t u)`
abbrev pub excess : Formula → Option Term
excess (Le t u) = Some (Subtract t u)
excess _ = None

-- ---- what a step needs

-- hypothesis h, if there is one
abbrev pub hypothesis : List Formula → ℤ → Option Formula
hypothesis H (pos n) = slice_get H n
hypothesis H (negsuc n) = None

-- what is needed, or the reason that is reported if it is missing
abbrev pub Needing : {A : Type 0} → Option A → Reason → (A → Outcome → Type 0) → Outcome → Type 0
Needing None reason next o = o ≡ flawed (Bad reason)
Needing (Some a) reason next o = next a o

-- hypothesis h, which has this form
abbrev pub Taking : {A : Type 0} → List Formula → ℤ → (Formula → Option A) → (A → Outcome → Type 0) → Outcome → Type 0
Taking H h form next o = Needing (hypothesis H h) NoHypothesis (λ f. Needing (form f) WrongForm next) o

-- a test, or the reason that is reported if it fails
abbrev pub Testing : Bool → Reason → (Outcome → Type 0) → Outcome → Type 0
Testing true reason next o = next o
Testing false reason next o = o ≡ flawed (Bad reason)

-- m branches, if n proofs are below the step
abbrev pub Branching : ℕ → ℕ → (Outcome → Type 0) → Outcome → Type 0
Branching n m next o = Testing (n == m) WrongForm next o

-- each variable is in use
abbrev pub InUse : Bool → (Outcome → Type 0) → Outcome → Type 0
InUse yes' next o = Testing yes' VariableNotInUse next o

-- ---- what a step opens

-- a branch for each formula
abbrev pub each : List Formula → List (List Formula)
each fs = map (λ f. f ∷ []) fs

-- these branches, where v variables are in use
abbrev pub Opens : ℕ → List (List Formula) → Outcome → Type 0
Opens v bs o = o ≡ opens v bs

-- one branch, with one formula more
abbrev pub Appends : ℕ → Formula → Outcome → Type 0
Appends v f o = Opens v ((f ∷ []) ∷ []) o

-- ---- sums and quotients

-- an entry in front of the others, if all are there
abbrev pub entry_before : Option Formula → ℤ → Option (List Entry) → Option (List Entry)
entry_before (Some f) k (Some es) = Some ((f, k) ∷ es)
entry_before _ k _ = None

-- the hypotheses that a sum names, with their multipliers, if all are there
abbrev pub entries : List Formula → List (ℤ × ℤ) → Option (List Entry)
entries H [] = Some []
entries H (m ∷ ms) = entry_before (hypothesis H m.0) m.1 (entries H ms)

abbrev pub is_comparison : Formula → Bool
is_comparison (Le t u) = true
is_comparison (Eq t u) = true
is_comparison _ = false

abbrev pub all_comparisons : List Entry → Bool
all_comparisons [] = true
all_comparisons (e ∷ es) = is_comparison e.0 && all_comparisons es

-- The sum of these comparisons: a multiplier that is not allowed, then Large, then whether it closes
abbrev pub SumGives : ℕ → List Entry → Outcome → Type 0
SumGives v es (opens w bs) = Opens v [] (opens w bs) × Closes es
SumGives v es (flawed Large) = IsTrue (are_allowed es) × (HasForm (combined es) → ⊥)
SumGives v es (flawed (Bad reason)) = (reason ≡ DoesNotClose) × (IsTrue (are_allowed es) → HasForm (combined es)) × (Closes es → ⊥)

-- the form of a `<=` can be made; nothing is asked of another formula
abbrev pub CanCompare : Option Term → Type 0
CanCompare (Some t) = HasForm t
CanCompare None = Unit {0}

-- the formula is a `<=` whose form is that of t, divided by k
abbrev pub IsQuotient : Term → ℤ → Option Term → Type 0
IsQuotient t k (Some q) = IsDivided (form_of t) k (form_of q)
IsQuotient t k None = ⊥

-- the formula f, which says that q is at most 0 if it is a `<=`, from a `<=` which says that t is at most 0
abbrev pub QuotientGives : ℕ → Formula → Term → ℤ → Outcome → Type 0
QuotientGives v f t k (opens w bs) = Appends v f (opens w bs) × HasForm t × CanCompare (excess f) × IsQuotient t k (excess f)
QuotientGives v f t k (flawed Large) = HasForm t × CanCompare (excess f) → ⊥
QuotientGives v f t k (flawed (Bad NotDivisible)) = HasForm t × CanCompare (excess f) × (Divides k (form_of t) → ⊥)
QuotientGives v f t k (flawed (Bad WrongQuotient)) = HasForm t × CanCompare (excess f) × Divides k (form_of t) × (IsQuotient t k (excess f) → ⊥)
QuotientGives v f t k (flawed (Bad _)) = ⊥

-- ---- the table

-- What a step comes to, if v variables are in use, H are the hypotheses and n proofs are below the step
abbrev pub Gives : ℕ → List Formula → ℕ → Step → Outcome → Type 0
Gives v H n (S.Split h) o = Taking H h conjuncts (λ fs. Branching n 1 (Opens v (fs ∷ []))) o
Gives v H n (S.Cases h) o = Taking H h alternatives (λ fs. Branching n (length fs) (Opens v (each fs))) o
Gives v H n (S.Push h) o = Taking H h pushed (λ f. Branching n 1 (Appends v f)) o
Gives v H n (S.Instantiate h t) o = Taking H h for_all (λ f. Branching n 1 (InUse (term_below v t && is_closed t) (Appends v (instantiated t f)))) o
Gives v H n (S.Fresh h) o = Taking H h for_some (λ f. Branching n 1 (Appends (suc v) (instantiated (Variable v) f))) o
Gives v H n (S.Cut f) o = Branching n 2 (InUse (formula_below v f) (Opens v (each (Not f ∷ f ∷ [])))) o
Gives v H n (S.Written c i x j) o = Branching n 1 (InUse (column_below v c && term_below v i && term_below v x && term_below v j) (Appends v (written c i x j))) o
Gives v H n (S.Same c i j) o = Branching n 1 (InUse (column_below v c && term_below v i && term_below v j) (Appends v (same_index c i j))) o
Gives v H n (S.Affine a b i) o = Branching n 1 (InUse (term_below v i) (Appends v (affine_cell a b i))) o
Gives v H n (S.Trichotomy h) o = Taking H h apart (λ p. Branching n 2 (Opens v (each (less p.0 p.1 ∷ less p.1 p.0 ∷ [])))) o
Gives v H n (S.Divide h k f) o = Taking H h excess (λ t. Branching n 1 (InUse (formula_below v f) (QuotientGives v f t k))) o
Gives v H n (S.Sum ms) o = Needing (entries H ms) NoHypothesis (λ es. Testing (all_comparisons es) WrongForm (Branching n 0 (SumGives v es))) o
Gives v H n (S.Opposite h g) o = Needing (hypothesis H h) NoHypothesis (λ f. Needing (hypothesis H g) NoHypothesis (λ f'. Testing (formula_eq f' (Not f)) NotOpposite (Branching n 0 (Opens v [])))) o
Gives v H n S.Open o = Branching n 0 (λ o'. o' ≡ flawed (Bad IsOpen)) o
