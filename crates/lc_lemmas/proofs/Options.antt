-- What may be there, and results.
use Rattle.std.proofs.Common.{◌≡◌, false, Option, Some, None, refl, ℕ, suc, ◌+◌, option_map, ap, arith, Bool, true, cond, sym, ◌∙◌}
use Rattle.std.specs.Prelude.{is_some, Result, Ok, Err, IfOk}
use Rattle.std.specs.Option.{option_or}

pub none_from_is_some : {X : Type 0} (o : Option X) → is_some o ≡ false → o ≡ None
none_from_is_some None h = refl
none_from_is_some (Some x) h = cc

pub counted_on : (n : ℕ) (p : Option ℕ) → option_map (λ k. n + 1 + k) p ≡ option_map (λ k. n + k) (option_map suc p)
counted_on n None = refl
counted_on n (Some k) = ap Some (omega arith)

pub first_of_two : {X : Type 0} (here there : Bool) (v w : X) (o : Option X) → cond here (Some v) (option_or o (cond there (Some w) None)) ≡ option_or (cond here (Some v) o) (cond there (Some w) None)
first_of_two true there v w o = refl
first_of_two false there v w o = refl

pub same_option : {A : Type 0} (o : Option A) (x y : A) → o ≡ Some x → o ≡ Some y → x ≡ y
same_option o x y p q = let e : Some x ≡ Some y = sym p ∙ q in cc

pub map-zero : (o : Option ℕ) → o ≡ option_map (λ p. 0 + p) o
map-zero None = refl
map-zero (Some p) = ap Some (omega arith)

pub if_ok : {A E : Type 0} (r : Result A E) (P Q : A → Type 0) → ((x : A) → P x → Q x) → IfOk r P → IfOk r Q
if_ok (Ok x) P Q f h = f x h
if_ok (Err e) P Q f h = tt

pub one_before : (n : ℕ) (here : Bool) (o p : Option ℕ)
    → cond here (Some 0) (option_map suc (option_or o (option_map (λ k. n + k) p))) ≡ option_or (cond here (Some 0) (option_map suc o)) (option_map (λ k. suc n + k) p)
one_before n true o p = refl
one_before n false (Some k) p = refl
one_before n false None None = refl
one_before n false None (Some k) = ap Some (let same : suc (n + k) ≡ suc n + k = omega arith in same)
