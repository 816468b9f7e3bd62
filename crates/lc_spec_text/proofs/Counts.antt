-- Counts of replies, and their signs.
use Rattle.std.proofs.Common.{◌≡◌, ℕ, zero, suc, Bool, true, false, List, [], ◌∷◌, Option, Some, None, Ok, Err, cond, refl, ap, arith}
use Rattle.std.proofs.lemmas.Bool.Decides.{nat_tests}
use Rattle.std.specs.Prelude.{◌==◌, nat_lt, option_map, ℤ, pos}
use Rattle.lc_base.specs.Limits.{reply_limit}
use Rattle.lc_sexp.specs.Numerals.{natural_of, negative_of, negated, integer_of}
use Rattle.lc_sexp.specs.Parts.{Fit, fits, misshapen, beyond, fits_i64, integer_within, integer_fit}
use Rattle.lc_sexp.specs.Shown.{Answers, Same}
use Rattle.lc_sexp.specs.Trees.{atom}
use Rattle.lc_sexp.specs.declared.misfit.Misfit.TheVariants as M
use Rattle.lc_reading.specs.Readings.{flawed, wrong}
use Rattle.lc_reading.specs.Flaws.{at}
use Rattle.lc_reading.specs.declared.pass.Pass.TheVariants.{Shape, Bound}
use Rattle.lc_spec_text.specs.Operations.{natural, few, is_negative}

-- a number that fits is this one
pub fitting_is : (o : Option ℤ) (z : ℤ) → integer_within o ≡ fits z → o ≡ Some z
fitting_is None z e = absurd (cc)
fitting_is (Some y) z e = by_fit (fits_i64 y) e where
  by_fit : (b : Bool) → cond b (fits y) beyond ≡ fits z → Some y ≡ Some z
  by_fit true e = let same : y ≡ z = cc in ap Some same
  by_fit false e = absurd (cc)

pub misshapen_is : (o : Option ℤ) → integer_within o ≡ misshapen → o ≡ None
misshapen_is None e = refl
misshapen_is (Some y) e = by_fit (fits_i64 y) e where
  by_fit : (b : Bool) → cond b (fits y) beyond ≡ misshapen → Some y ≡ None
  by_fit true e = absurd (cc)
  by_fit false e = absurd (cc)

-- below 0 there is no natural number
negated_not_natural : (n : ℕ) → (n == 0) ≡ false → natural (Some (negated n)) ≡ None
negated_not_natural zero e = cc
negated_not_natural (suc n) e = refl

not_natural : (o : Option ℕ) → natural (negative_of o) ≡ None
not_natural None = refl
not_natural (Some n) = by_zero (n == 0) refl where
  by_zero : (b : Bool) → (n == 0) ≡ b → natural (cond b None (Some (negated n))) ≡ None
  by_zero true e = refl
  by_zero false e = negated_not_natural n e

large : (n : ℕ) → fits_i64 (pos n) ≡ false → nat_lt reply_limit n ≡ true
large n e = grind (arith, nat_tests)

many : (i n : ℕ) → fits_i64 (pos n) ≡ false → few i (Some n) ≡ wrong Bound i
many i n e = let more : nat_lt reply_limit n ≡ true = large n e in rw more refl

within_beyond : (i : ℕ) (o : Option ℕ) → integer_within (option_map pos o) ≡ beyond → few i (natural (option_map pos o)) ≡ wrong Bound i
within_beyond i None e = absurd (cc)
within_beyond i (Some n) e = by_fit (fits_i64 (pos n)) refl e where
  by_fit : (b : Bool) → fits_i64 (pos n) ≡ b → cond b (fits (pos n)) beyond ≡ beyond → few i (natural (option_map pos (Some n))) ≡ wrong Bound i
  by_fit true h e = absurd (cc)
  by_fit false h e = many i n h

by_sign : (i : ℕ) (b : Bool) (o p : Option ℕ) → integer_within (cond b (negative_of o) (option_map pos p)) ≡ beyond
    → few i (natural (cond b (negative_of o) (option_map pos p))) ≡ flawed (at (cond b Shape Bound) i)
by_sign i true o p e = ap (few i) (not_natural o)
by_sign i false o p e = within_beyond i p e

-- a number beyond 64 bits is too many unless it begins with a minus
pub beyond_told : (i : ℕ) (w : List ℕ) → integer_fit (atom w) ≡ beyond → few i (natural (integer_of w)) ≡ flawed (at (cond (is_negative w) Shape Bound) i)
beyond_told i [] e = absurd (cc)
beyond_told i (c ∷ w) e = by_sign i (c == 45) (natural_of w) (natural_of (c ∷ w)) e

pub misshapen_told : (i : ℕ) (w : List ℕ) → integer_fit (atom w) ≡ misshapen → few i (natural (integer_of w)) ≡ wrong Shape i
misshapen_told i w e = ap (λ o. few i (natural o)) (misshapen_is (integer_of w) e)

pub fitting_told : (i : ℕ) (w : List ℕ) (z : ℤ) → integer_fit (atom w) ≡ fits z → few i (natural (integer_of w)) ≡ few i (natural (Some z))
fitting_told i w z e = ap (λ o. few i (natural o)) (fitting_is (integer_of w) z e)

-- what an atom is, by its answer
pub answers_fits : (f : Fit ℤ) (n : ℕ) (z : ℤ) → Answers f Same n (Ok z) → f ≡ fits z
answers_fits (fits y) n z h = ap fits h
answers_fits misshapen n z h = absurd (cc)
answers_fits beyond n z h = absurd (cc)

pub answers_misshapen : (f : Fit ℤ) (n m : ℕ) → Answers f Same n (Err (M.Shape m)) → f ≡ misshapen
answers_misshapen (fits y) n m h = absurd h
answers_misshapen misshapen n m h = refl
answers_misshapen beyond n m h = absurd (cc)

pub answers_beyond : (f : Fit ℤ) (n m : ℕ) → Answers f Same n (Err (M.Bound m)) → f ≡ beyond
answers_beyond (fits y) n m h = absurd h
answers_beyond misshapen n m h = absurd (cc)
answers_beyond beyond n m h = refl
