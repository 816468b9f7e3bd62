-- Laws of specifications in text.
use Rattle.std.specs.Prelude.{◌≡◌, ◌↔◌, ℕ, Bool, true, false, List, [], ℤ, Option, Some, None, option_map, refl, length, slice_get, ◌==◌, if◌then◌else◌, ◌++◌}
use Rattle.std.specs.Prelude.{◌&&◌}
use Rattle.std.specs.Ordering.{int_eq}
use Rattle.std.specs.Bool.{nat_eq}
use Rattle.std.specs.Cmp.Lexicographic.{pointwise}
use Rattle.std.proofs.Common.{ap}
use Rattle.std.proofs.lemmas.Bool.{eqb-true, eq-eqb}
use Rattle.std.proofs.lemmas.Bool.Decides.{Decides-int_eq}
use Rattle.std.proofs.lemmas.Slice.Eq.{slice_eq-Decides}
use Rattle.lc_term.specs.Meaning.{State}
use Rattle.lc_seq.specs.Sequential.{Call, Choice, Step, given_in}
use Rattle.lc_seq.specs.Specification.{Operation, branches_in, chosen, takes, has_call}
use Rattle.lc_seq.specs.TextStep.{text_step, run, call_env, outcome}

has_branches : (o : Option Operation) (n : ℕ) (s : State) (client : ℕ) (numbers : List ℤ) (choice : Choice) (x : State × List ℤ)
    → option_map (outcome s) (run s (call_env client numbers) (chosen choice (branches_in o n))) ≡ Some x → takes o n ≡ true
has_branches None n s client numbers choice x e = absurd cc
has_branches (Some o) n s client numbers choice x e = step (length o.arguments == n) refl e
  where
    step : (b : Bool) → (length o.arguments == n) ≡ b → option_map (outcome s) (run s (call_env client numbers) (chosen choice (if b then o.branches else []))) ≡ Some x → (length o.arguments == n) ≡ true
    step true is e = is
    step false is e = absurd cc

-- only a call that is there takes a step
pub text_steps_by_calls : (operations : List Operation) (s : State) (client : ℕ) (call : Call) (choice : Choice) (t : State) (reply : List ℤ) → Step (text_step operations) s client call choice t reply → has_call operations call ≡ true
text_steps_by_calls operations s client call choice t reply e =
    has_branches (slice_get operations call.op) (length call.numbers) s client (call.numbers ++ given_in choice) choice (t, reply) e

left : (a b : Bool) → (a && b) ≡ true → a ≡ true
left true b e = refl
left false b e = e

right : (a b : Bool) → (a && b) ≡ true → b ≡ true
right true b e = e
right false b e = absurd cc

both : (a b : Bool) → a ≡ true → b ≡ true → (a && b) ≡ true
both true b e f = f
both false b e f = e

abbrev the_call : ℕ → List ℤ → Call
the_call op numbers = record { op = op; numbers = numbers }

-- calls are equal if their operations and their numbers are
pub calls_are_equal : (o p : ℕ) (xs ys : List ℤ) → ((nat_eq o p && pointwise int_eq xs ys) ≡ true) ↔ (the_call o xs ≡ the_call p ys)
calls_are_equal o p xs ys =
    let decides = slice_eq-Decides Decides-int_eq xs ys (pointwise int_eq xs ys) refl in (
      λ e. λ i. the_call (eqb-true o p (left (nat_eq o p) (pointwise int_eq xs ys) e) i) (decides.0 (right (nat_eq o p) (pointwise int_eq xs ys) e) i),
      λ same. both (nat_eq o p) (pointwise int_eq xs ys) (eq-eqb o p (ap (λ c. c.op) same)) (decides.1 (ap (λ c. c.numbers) same)),
    )

-- replies are equal if their numbers are
pub replies_are_equal : (xs ys : List ℤ) → (pointwise int_eq xs ys ≡ true) ↔ (xs ≡ ys)
replies_are_equal xs ys = slice_eq-Decides Decides-int_eq xs ys (pointwise int_eq xs ys) refl

-- a call of another operation is another call
pub calls_differ : (o p : ℕ) (xs ys : List ℤ) → (o ≡ p → ⊥) → (false ≡ true) ↔ (the_call o xs ≡ the_call p ys)
calls_differ o p xs ys differ = (λ e. absurd cc, λ same. absurd (differ (ap (λ (c : Call). c.op) same)))

-- a call of the same operation is the same call if its numbers are
pub calls_agree : (o p : ℕ) (xs ys : List ℤ) (b : Bool) → o ≡ p → (b ≡ true) ↔ (xs ≡ ys) → (b ≡ true) ↔ (the_call o xs ≡ the_call p ys)
calls_agree o p xs ys b op equal = (λ e. λ i. the_call (op i) (equal.0 e i), λ same. equal.1 (ap (λ (c : Call). c.numbers) same))
