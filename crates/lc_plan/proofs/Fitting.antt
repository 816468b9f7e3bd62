-- What is read as a plan fits the development.
use Rattle.std.proofs.Common.{◌≡◌, ℕ, suc, ℤ, pos, negsuc, ◌+◌, Bool, true, false, ◌&&◌, List, [], ◌∷◌, length, Option, Some, None, refl, sym, ap, subst, ◌∙◌}
use Rattle.std.proofs.lemmas.Bool.{eq-eqb, and_from}
use Rattle.std.specs.Prelude.{slice_get, option_map, if◌then◌else◌}
use Rattle.std.specs.List.{list_all}
use Rattle.lc_base.specs.Limits.{seat_limit}
use Rattle.lc_base.specs.NameText.{is_name}
use Rattle.lc_sexp.specs.Trees.{Tree, Trees, atom, list, none, ◌▸◌, item_count, item_count_of_all}
use Rattle.lc_sexp.specs.Parts.{Fit, fits, misshapen, beyond, integer_fit}
use Rattle.lc_reading.proofs.Holding.{Holds, holds_of_fine, holds_unit, holds_weaker, and_holds, mapped_holds, both_holds, ended_holds, if_holds, listed_holds, behind_holds, each_holds, counted_holds, declared_holds}
use Rattle.lc_reading.specs.Listed.{place_of}
use Rattle.lc_reading.specs.Naming.{known, text_in, use_reading}
use Rattle.lc_reading.specs.Readings.{Reading, fine, flawed, wrong, both}
use Rattle.lc_reading.specs.Rows.{first_name}
use Rattle.lc_reading.specs.Words.{is, is_long}
use Rattle.lc_reading.specs.declared.pass.Pass.TheVariants.{Shape, Repeated, Bound}
use Rattle.lc_text.specs.Terms.{number_reading}
use Rattle.lc_seq.specs.Specification.{Operation, takes, has_call}
use Rattle.lc_plan.specs.Fitting.{calls_fit, script_fits, plan_fits, PlansFit}
use Rattle.lc_plan.specs.Limits.{most_turns, usual_turns}
use Rattle.lc_plan.specs.Numbers.{is_from, between, bounded, count_reading, turns_reading, client_fit, client_reading}
use Rattle.lc_plan.specs.Plans.{Plan}
use Rattle.lc_plan.specs.Readings.{names_of, arity_at, arity_named, numbers_reading, the_call, call_reading, once, repeatedly, upto_reading, call_form_reading, pair, times_parts_reading, head_of, calls_with, calls_reading, the_script, script_parts_reading, script_reading, scripts_reading, phase_reading, count_in, the_plan, plan_parts_reading, form_reading, only_reading, plan_reading}
use Rattle.lc_plan.specs.declared.calls.Head.{Head}
use Rattle.lc_plan.specs.declared.calls.Head.TheVariants as H

-- ---- numbers

tested : (test : ℕ → Bool) (k n : ℕ) (b : Bool) → test k ≡ b → Holds (λ j. test j ≡ true) (if b then fine k else wrong Bound n)
tested test k n true e = e
tested test k n false e = tt

between_holds : (least end n : ℕ) (z : ℤ) → Holds (λ k. is_from least end k ≡ true) (between least end n z)
between_holds least end n (pos k) = tested (is_from least end) k n (is_from least end k) refl
between_holds least end n (negsuc k) = tt

bounded_holds : (least end n : ℕ) (r : Reading ℤ) → Holds (λ k. is_from least end k ≡ true) (bounded least end n r)
bounded_holds least end n (fine z) = between_holds least end n z
bounded_holds least end n (flawed f) = tt

client_fit_holds : (clients : ℕ) (again : Bool) (n : ℕ) (f : Fit ℤ) → Holds (λ k. is_from 0 clients k ≡ true) (client_fit clients again n f)
client_fit_holds clients again n misshapen = tt
client_fit_holds clients again n beyond = if_holds (λ k. is_from 0 clients k ≡ true) again (wrong Repeated n) (wrong Bound n) tt tt
client_fit_holds clients again n (fits z) = if_holds (λ k. is_from 0 clients k ≡ true) again (wrong Repeated n) (between 0 clients n z) tt (between_holds 0 clients n z)

-- ---- calls

-- the operation whose name is at this place, if it is the first or among the others
at_place : (o : Operation) (os : List Operation) (b : Bool) (rest : Option ℕ) (k : ℕ) → ((j : ℕ) → rest ≡ Some j → (p : Operation) × (slice_get os j ≡ Some p))
    → (if b then Some 0 else option_map suc rest) ≡ Some k → (p : Operation) × (slice_get (o ∷ os) k ≡ Some p)
at_place o os true rest k others e = let first : 0 ≡ k = cc in (o, subst (λ j. slice_get (o ∷ os) j ≡ Some o) first refl)
at_place o os false None k others e = absurd (cc)
at_place o os false (Some j) k others e =
    let next : suc j ≡ k = cc in
    let at = others j refl in
    (at.0, subst (λ i. slice_get (o ∷ os) i ≡ Some at.0) next at.1)

there : (os : List Operation) (w : List ℕ) (k : ℕ) → place_of (names_of os) w ≡ Some k → (o : Operation) × (slice_get os k ≡ Some o)
there [] w k e = absurd (cc)
there (o ∷ os) w k e = at_place o os (is w o.name) (place_of (names_of os) w) k (there os w) e

known_holds : (n : ℕ) (w : List ℕ) (o : Option ℕ) → Holds (λ k. o ≡ Some k) (known n w o)
known_holds n w None = tt
known_holds n w (Some k) = if_holds (λ j. Some k ≡ Some j) (is_long w) (wrong Bound n) (fine k) tt refl

use_holds : (names : List (List ℕ)) (n : ℕ) (t : Tree) → Holds (λ k. place_of names (text_in t) ≡ Some k) (use_reading names n t)
use_holds names n t =
    if_holds (λ k. place_of names (text_in t) ≡ Some k) (is_name (text_in t)) (known n (text_in t) (place_of names (text_in t))) (wrong Shape n) (known_holds n (text_in t) (place_of names (text_in t))) tt

numbers_holds : (count : Option ℕ) (n m : ℕ) (ts : Trees) → Holds (λ zs. (k : ℕ) → count ≡ Some k → length zs ≡ k) (numbers_reading count n m ts)
numbers_holds None n m ts = holds_weaker (λ zs. Unit {0}) (λ zs. (k : ℕ) → None ≡ Some k → length zs ≡ k) (numbers_reading None n m ts) (λ zs u k e. absurd (cc)) (holds_unit (numbers_reading None n m ts))
numbers_holds (Some count) n m ts =
    holds_weaker (λ zs. (list_all (λ z. true) zs ≡ true) × (length zs ≡ count)) (λ zs. (k : ℕ) → Some count ≡ Some k → length zs ≡ k) (numbers_reading (Some count) n m ts)
    (λ zs h k e. let same : count ≡ k = cc in h.1 ∙ same)
    (counted_holds (λ z. true) number_reading (λ i t. holds_weaker (λ z. Unit {0}) (λ z. true ≡ true) (number_reading i t) (λ z u. refl) (holds_unit (number_reading i t))) n count m ts)

-- as many numbers as it takes
taken : (os : List Operation) (op n : ℕ) (o : Operation) (zs : List ℤ) → slice_get os op ≡ Some o → ((k : ℕ) → arity_at os (Some op) ≡ Some k → length zs ≡ k) → has_call os (the_call op zs) ≡ true
taken os op n o zs at count =
    let arity : arity_at os (Some op) ≡ Some (length o.arguments) = ap (option_map (λ (p : Operation). length p.arguments)) at in
    ap (λ found. takes found (length zs)) at ∙ eq-eqb (length o.arguments) (length zs) (sym (count (length o.arguments) arity))

call_holds : (os : List Operation) (n m : ℕ) (ts : Trees) → Holds (λ call. has_call os call ≡ true) (call_reading os n m ts)
call_holds os n m none = tt
call_holds os n m (list us ▸ ts) =
    both_holds (λ op. ⊥) (λ zs. Unit {0}) (λ call. has_call os call ≡ true) the_call (use_reading (names_of os) m (list us)) (numbers_reading None n (m + item_count (list us)) ts)
    tt (holds_unit (numbers_reading None n (m + item_count (list us)) ts)) (λ op zs none u. absurd none)
call_holds os n m (atom w ▸ ts) =
    both_holds (λ op. place_of (names_of os) w ≡ Some op) (λ zs. (k : ℕ) → arity_at os (place_of (names_of os) w) ≡ Some k → length zs ≡ k) (λ call. has_call os call ≡ true) the_call
    (use_reading (names_of os) m (atom w)) (numbers_reading (arity_named os (atom w)) n (m + item_count (atom w)) ts)
    (use_holds (names_of os) m (atom w)) (numbers_holds (arity_named os (atom w)) n (m + item_count (atom w)) ts)
    (λ op zs at count. let o = there os w op at in taken os op n o.0 zs o.1 (λ k e. count k (ap (arity_at os) at ∙ e)))

-- ---- steps

upto_holds : (os : List Operation) (n m : ℕ) (ts : Trees) → Holds (λ c. calls_fit os c ≡ true) (upto_reading os n m ts)
upto_holds os n m none = tt
upto_holds os n m (t ▸ ts) =
    both_holds (λ k. is_from 0 (most_turns + 1) k ≡ true) (λ call. has_call os call ≡ true) (λ c. calls_fit os c ≡ true) once (turns_reading m t) (call_reading os n (m + item_count t) ts)
    (bounded_holds 0 (most_turns + 1) m (number_reading m t)) (call_holds os n (m + item_count t) ts)
    (λ k call u h. and_from (has_call os call) (is_from 0 (most_turns + 1) k) h u)

times_holds : (os : List Operation) (n m : ℕ) (ts : Trees) → Holds (λ p. (is_from 0 (most_turns + 1) p.0 ≡ true) × (has_call os p.1 ≡ true)) (times_parts_reading os n m ts)
times_holds os n m none = tt
times_holds os n m (t ▸ none) = tt
times_holds os n m (t ▸ u ▸ ts) =
    ended_holds (λ p. (is_from 0 (most_turns + 1) p.0 ≡ true) × (has_call os p.1 ≡ true)) (m + item_count t + item_count u) ts (both pair (turns_reading m t) (call_form_reading os (m + item_count t) u))
    (both_holds (λ k. is_from 0 (most_turns + 1) k ≡ true) (λ call. has_call os call ≡ true) (λ p. (is_from 0 (most_turns + 1) p.0 ≡ true) × (has_call os p.1 ≡ true)) pair (turns_reading m t) (call_form_reading os (m + item_count t) u)
    (bounded_holds 0 (most_turns + 1) m (number_reading m t)) (behind_holds (λ call. has_call os call ≡ true) _ (call_reading os) (m + item_count t) u (call_holds os)) (λ k call u h. (u, h)))

with_holds : (os : List Operation) (n m : ℕ) (ts : Trees) (h : Option Head) → Holds (λ c. calls_fit os c ≡ true) (calls_with os n m ts h)
with_holds os n m ts None = tt
with_holds os n m ts (Some H.Call) =
    mapped_holds (λ call. has_call os call ≡ true) (λ c. calls_fit os c ≡ true) (once usual_turns) (call_reading os n m ts) (call_holds os n m ts) (λ call h. and_from (has_call os call) true h refl)
with_holds os n m ts (Some H.UpTo) = upto_holds os n m ts
with_holds os n m ts (Some H.Times) =
    mapped_holds (λ p. (is_from 0 (most_turns + 1) p.0 ≡ true) × (has_call os p.1 ≡ true)) (λ c. calls_fit os c ≡ true) repeatedly (times_parts_reading os n m ts) (times_holds os n m ts)
    (λ p h. and_from (has_call os p.1) (is_from 0 (most_turns + 1) p.0 && true) h.1 (and_from (is_from 0 (most_turns + 1) p.0) true h.0 refl))

calls_hold : (os : List Operation) (n : ℕ) (t : Tree) → Holds (λ c. calls_fit os c ≡ true) (calls_reading os n t)
calls_hold os n (atom w) = tt
calls_hold os n (list none) = tt
calls_hold os n (list (list us ▸ ts)) = tt
calls_hold os n (list (atom w ▸ ts)) = with_holds os n (n + 2) ts (head_of w)

-- ---- scripts and phases

parts_hold : (os : List Operation) (clients : ℕ) (before : List (List ℕ)) (n m : ℕ) (ts : Trees) → Holds (λ s. script_fits os clients s ≡ true) (script_parts_reading os clients before n m ts)
parts_hold os clients before n m none = tt
parts_hold os clients before n m (t ▸ ts) =
    both_holds (λ k. is_from 0 clients k ≡ true) (λ cs. list_all (calls_fit os) cs ≡ true) (λ s. script_fits os clients s ≡ true) the_script (client_reading clients before m t) _
    (client_fit_holds clients _ m (integer_fit t)) (each_holds (calls_fit os) (calls_reading os) (calls_hold os) (m + item_count t) ts)
    (λ k cs u h. and_from (is_from 0 clients k) (list_all (calls_fit os) cs) u h)

script_holds : (os : List Operation) (clients : ℕ) (before : List (List ℕ)) (n : ℕ) (t : Tree) → Holds (λ s. script_fits os clients s ≡ true) (script_reading os clients before n t)
script_holds os clients before n t = listed_holds (λ s. script_fits os clients s ≡ true) (script_parts_reading os clients before) n t (parts_hold os clients before)

phase_holds : (os : List Operation) (clients n : ℕ) (t : Tree) → Holds (λ ss. list_all (script_fits os clients) ss ≡ true) (phase_reading os clients n t)
phase_holds os clients n t =
    behind_holds (λ ss. list_all (script_fits os clients) ss ≡ true) _ (λ i m ts. scripts_reading os clients m ts) n t
    (λ i m ts. declared_holds (script_fits os clients) (script_reading os clients) first_name (script_holds os clients) [] m ts)

-- ---- the plan

counted : (r : Reading ℕ) → Holds (λ c. count_in r ≡ c) r
counted (fine c) = refl
counted (flawed f) = tt

plan_parts_hold : (os : List Operation) (n m : ℕ) (ts : Trees)
    → Holds (λ (p : Plan). (is_from 1 (seat_limit + 1) p.clients && list_all (list_all (script_fits os p.clients)) p.phases) ≡ true) (plan_parts_reading os n m ts)
plan_parts_hold os n m none = tt
plan_parts_hold os n m (t ▸ ts) =
    let read = count_reading m t in
    both_holds (λ c. (is_from 1 (seat_limit + 1) c ≡ true) × (count_in read ≡ c)) (λ ps. list_all (list_all (script_fits os (count_in read))) ps ≡ true)
    (λ (p : Plan). (is_from 1 (seat_limit + 1) p.clients && list_all (list_all (script_fits os p.clients)) p.phases) ≡ true) the_plan read _
    (and_holds (λ c. is_from 1 (seat_limit + 1) c ≡ true) (λ c. count_in read ≡ c) read (bounded_holds 1 (seat_limit + 1) m (number_reading m t)) (counted read))
    (each_holds (list_all (script_fits os (count_in read))) (phase_reading os (count_in read)) (phase_holds os (count_in read)) (m + item_count t) ts)
    (λ c ps u h. and_from (is_from 1 (seat_limit + 1) c) (list_all (list_all (script_fits os c)) ps) u.0 (subst (λ d. list_all (list_all (script_fits os d)) ps ≡ true) u.1 h))

only_holds : (os : List Operation) (n m : ℕ) (ts : Trees)
    → Holds (λ (p : Plan). (is_from 1 (seat_limit + 1) p.clients && list_all (list_all (script_fits os p.clients)) p.phases) ≡ true) (only_reading os n m ts)
only_holds os n m none = tt
only_holds os n m (t ▸ ts) =
    let Fits : Plan → Type 0 = λ p. (is_from 1 (seat_limit + 1) p.clients && list_all (list_all (script_fits os p.clients)) p.phases) ≡ true in
    ended_holds Fits (m + item_count t) ts (form_reading os m t) (behind_holds Fits _ (plan_parts_reading os) m t (plan_parts_hold os))

pub plans_fit : PlansFit
plans_fit D bytes p (ts, reads, says) =
    holds_of_fine (λ q. plan_fits D q ≡ true) (plan_reading D ts) p (only_holds D.specification.operations (item_count_of_all ts) 0 ts) says
