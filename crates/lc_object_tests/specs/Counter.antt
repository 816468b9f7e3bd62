-- A counter, as an example of a sequential object: operation 0 adds one and gives the number before, operation 1 gives the number.
use Rattle.std.specs.Prelude.{◌≡◌, ℕ, zero, suc, ◌⊎◌, List, [], ◌∷◌, ℤ, pos, ◌+ℤ◌, Option, Some, None, FitsSigned, refl, ◌↔◌, true}
use Rattle.std.proofs.Common.{inl, inr, ap, arith}
use Rattle.std.specs.Int.{w64}
use Rattle.std.specs.Ordering.{int_eq}
use Rattle.std.proofs.lemmas.Bool.Decides.{Decides-int_eq}
use Rattle.lc_seq.specs.Sequential.{Call}

abbrev pub increment : Call
increment = record { op = 0; numbers = [] }

abbrev pub get : Call
get = record { op = 1; numbers = [] }

abbrev pub by_code : ℤ → ℕ → List ℤ → Option (ℤ × List ℤ)
by_code n zero [] = Some (n +ℤ pos 1, n ∷ [])
by_code n (suc zero) [] = Some (n, n ∷ [])
by_code n op numbers = None

abbrev pub counter_step : ℤ → Call → Option (ℤ × List ℤ)
counter_step n call = by_code n call.op call.numbers

abbrev pub fits_by_code : ℤ → ℕ → Type 0
fits_by_code n zero = FitsSigned w64 (n +ℤ pos 1)
fits_by_code n (suc op) = Unit {0}

abbrev pub CounterFits : ℤ → Call → Type 0
CounterFits n call = fits_by_code n call.op

-- the numbers of a reply
abbrev pub the_number : ℤ → List ℤ
the_number n = n ∷ []

abbrev pub IsCounterCall : Call → Type 0
IsCounterCall call = (call ≡ increment) ⊎ (call ≡ get)

is_by_code : (n : ℤ) (op : ℕ) (numbers : List ℤ) (x : ℤ × List ℤ) → by_code n op numbers ≡ Some x → IsCounterCall (record { op = op; numbers = numbers })
is_by_code n zero [] x e = inl refl
is_by_code n zero (m ∷ ms) x e = absurd cc
is_by_code n (suc zero) [] x e = inr refl
is_by_code n (suc zero) (m ∷ ms) x e = absurd cc
is_by_code n (suc (suc op)) numbers x e = absurd cc

pub counter_steps_by_calls : (n : ℤ) (call : Call) (m : ℤ) (reply : List ℤ) → counter_step n call ≡ Some (m, reply) → IsCounterCall call
counter_steps_by_calls n call m reply e = is_by_code n call.op call.numbers (m, reply) e

pub calls_differ : increment ≡ get → ⊥
calls_differ e = omega (arith, ap (λ call. call.op) e)

-- replies are equal if their numbers are
pub replies_are_equal : (a b : ℤ) → (int_eq a b ≡ true) ↔ (the_number a ≡ the_number b)
replies_are_equal a b = (λ e. ap the_number ((Decides-int_eq a b).0 e), λ e. (Decides-int_eq a b).1 (cc e))
