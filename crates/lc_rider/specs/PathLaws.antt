-- What the paths of riders say of their runs.
use Rattle.std.specs.Prelude.{◌≡◌, ◌⊎◌, ℕ, ℤ, true, List, [], ◌∷◌, pos, map}
use Rattle.lc_term.specs.Lists.{Every, IsIn}
use Rattle.lc_term.specs.Updates.{Update, variable}
use Rattle.lc_term.specs.SystemColumns.{pend}
use Rattle.lc_term.specs.Syntax.{Term}
use Rattle.lc_term.specs.Meaning.{State, Env, outside, value, column, Holds, EachHolds}
use Rattle.lc_term.specs.Truth.{is_ground}
use Rattle.lc_seq.specs.Specification.{Branch, Operation}
use Rattle.lc_seq.specs.Branches.{op_branches}
use Rattle.lc_rider.specs.Rider.{Rider, Mark, Deed, Assign, Marks, RideAll}
use Rattle.lc_rider.specs.Paths.{Path, Duty, paths}

-- no guard has a quantifier
abbrev pub AreOpen : List Operation → Type 0
AreOpen operations = (p : ℕ) → Every (λ (b : Branch). is_ground b.guard ≡ true) (op_branches operations p)

-- no guard of these has a quantifier
abbrev pub AreGround : List Branch → Type 0
AreGround bs = Every (λ (b : Branch). is_ground b.guard ≡ true) bs

-- in no state with these numbers do the facts of two of them hold
abbrev pub AreApart : State → Env → List Path → Type 0
AreApart s e [] = Unit {0}
AreApart s e (p ∷ ps) = Every (λ (q : Path). EachHolds s e p.facts → EachHolds s e q.facts → ⊥) ps × AreApart s e ps

-- the facts of at most one path hold
abbrev pub PathsExclude : Type 0
PathsExclude =
    (operations : List Operation) (first n o : ℕ) (variables : List Term) (riders : List Rider) (q : Path) (s : State) (e : Env) →
    AreApart s e (paths operations first n o variables riders q)

-- the columns of a path, and the numbers of variables
abbrev pub columns_of : State → Env → Path → State
columns_of s e p = λ c. column s e outside (p.columns c)

abbrev pub numbers_of : State → Env → List Term → Env
numbers_of s e τ = variable (map (value s e outside) τ)

-- these duties are met
abbrev pub AreMet : State → Env → List Duty → Type 0
AreMet s e ds = Every (λ (d : Duty). Holds s e outside d.goal) ds

-- if the riders run, they run along a path: its facts hold, its duties are met, and its columns are those that they
-- leave
abbrev pub RunsGoAlong : Type 0
RunsGoAlong =
    (operations : List Operation) (first n self o : ℕ) (variables : List Term) (riders : List Rider) (q : Path) (s : State) (e : Env) (marks : List Mark) (m : State) →
    AreOpen operations → numbers_of s e variables 1 ≡ pos self → EachHolds s e q.facts → AreMet s e q.duties →
    RideAll operations first self o (numbers_of s e variables) (columns_of s e q) riders marks m →
    (p : Path) × IsIn p (paths operations first n o variables riders q) × EachHolds s e p.facts × AreMet s e p.duties × (columns_of s e p ≡ m)

-- only clients are in calls
abbrev pub OnlyClients : ℕ → State → Type 0
OnlyClients first m = (i : ℤ) → (m (pend first) i ≡ pos 0) ⊎ ((c : ℕ) × (i ≡ pos c))

-- updates, and what a rider does, that store nothing of their own in the column that says who is in a call
abbrev pub LeavesCalls : ℕ → List Update → Type 0
LeavesCalls first us = Every (λ (u : Update). u.column ≡ pend first → ⊥) us

abbrev pub DeedLeavesCalls : ℕ → Deed → Type 0
DeedLeavesCalls first (Assign u) = LeavesCalls first (u ∷ [])
DeedLeavesCalls first (Marks k by) = Unit {0}

-- if only clients are in calls, and neither branches nor riders' own stores change that: if the facts of a path hold
-- and its duties are met, the riders run, and leave its columns
abbrev pub PathsAreTaken : Type 0
PathsAreTaken =
    (operations : List Operation) (first n self o : ℕ) (variables : List Term) (riders : List Rider) (q : Path) (s : State) (e : Env) (p : Path) →
    AreOpen operations → ((a : ℕ) → Every (λ (b : Branch). LeavesCalls first b.updates) (op_branches operations a)) →
    Every (λ (r : Rider). DeedLeavesCalls first r.deed) riders →
    numbers_of s e variables 1 ≡ pos self → OnlyClients first (columns_of s e q) →
    IsIn p (paths operations first n o variables riders q) → EachHolds s e p.facts → AreMet s e p.duties →
    (marks : List Mark) × RideAll operations first self o (numbers_of s e variables) (columns_of s e q) riders marks (columns_of s e p)
