-- What a call takes, as it is computed.
use Rattle.std.proofs.Common.{◌≡◌, ℕ, zero, suc, Bool, true, false, List, [], ◌∷◌, ◌++◌, ℤ, pos, Option, None, Result, Ok, Err, take, cond, refl, sym, ap, subst, ◌∙◌}
use Rattle.std.specs.Prelude.{FitsSigned, slice_index_or, IsErrAnd, IfErr}
use Rattle.std.specs.Int.{w64}
use Rattle.std.specs.Ordering.{int_eq}
use Rattle.std.proofs.lemmas.Bool.Decides.{Decides-int_eq}
use Rattle.lc_term.specs.Computed.{IsComputed}
use Rattle.lc_term.specs.Meaning.{State, Env}
use Rattle.lc_term.specs.SystemColumns.{pend, arg_columns}
use Rattle.lc_term.specs.Updates.{Write, row}
use Rattle.lc_seq.specs.Run.{seq_says}
use Rattle.lc_seq.specs.Sequential.{Choice, given_in}
use Rattle.lc_seq.specs.Specification.{Operation, Branch, chosen}
use Rattle.lc_seq.specs.Branches.{op_branches, arity}
use Rattle.lc_seq.specs.TextStep.{run, RunFits, call_env}
use Rattle.lc_seq.specs.declared.fault.SeqFault.{SeqFault}
use Rattle.lc_seq.specs.declared.fault.SeqFault.TheVariants.{Overflow, OutOfMemory}
use Rattle.lc_rider.specs.Rider.{arguments_in}
use Rattle.lc_ride.specs.Riding.{taken}
use Rattle.lc_ride.specs.RidingFits.{CellsFit, TakenFits}

-- ---- the variables of a branch

pub take-row : (k : ℕ) (m : State) (cs : List ℕ) (i : ℤ) → row m (take k cs) i ≡ take k (row m cs i)
take-row zero m cs i = refl
take-row (suc k) m [] i = refl
take-row (suc k) m (c ∷ cs) i = ap (λ xs. m c i ∷ xs) (take-row k m cs i)

call-env-at : (c : ℕ) (args : List ℤ) (k : ℕ) → slice_index_or (pos 0 ∷ pos c ∷ args) k (pos 0) ≡ call_env c args k
call-env-at c args zero = refl
call-env-at c args (suc zero) = refl
call-env-at c args (suc (suc k)) = refl

pub call-env-is : (c : ℕ) (args items : List ℤ) → items ≡ pos 0 ∷ pos c ∷ args → (λ k. slice_index_or items k (pos 0)) ≡ call_env c args
call-env-is c args items e = ap (λ (xs : List ℤ). λ k. slice_index_or xs k (pos 0)) e ∙ (λ i k. call-env-at c args k i)

pub env-given : (c : ℕ) (args : List ℤ) {xs ys : List ℤ} → xs ≡ ys → call_env c (args ++ xs) ≡ call_env c (args ++ ys)
env-given c args e = ap (λ zs. call_env c (args ++ zs)) e

-- a fault that is handed on
pub says-err : {X : Type 0} (r : Result X SeqFault) (fault : SeqFault) (fits : Type 0) → IsErrAnd r (λ y. y ≡ fault) → seq_says fault fits → IfErr r (λ y. seq_says y fits)
says-err (Ok x) fault fits e says = absurd e
says-err (Err y) fault fits e says = subst (λ z. seq_says z fits) (sym e) says

-- ---- what is taken

cond_true : {A : Type 0} (b : Bool) (x y : A) → b ≡ true → cond b x y ≡ x
cond_true true x y e = refl
cond_true false x y e = absurd cc

module _ (operations : List Operation) (first : ℕ) (m : State) (c o : ℕ) (choice : Choice) where
  pub is-taken : {X : Type 0} (view : X → Option (List Write × List ℤ)) (e : Env) (bs : List Branch) (r : Result X SeqFault) →
      FitsSigned w64 (m (pend first) (pos c)) → int_eq (m (pend first) (pos c)) (pos 1) ≡ true →
      CellsFit m (take (arity operations o) (arg_columns first)) (pos c) → e ≡ call_env c (arguments_in operations first m c o ++ given_in choice) → bs ≡ chosen choice (op_branches operations o) →
      IsComputed seq_says view (RunFits m e bs) (run m e bs) r → IsComputed seq_says view (TakenFits operations first m c o choice) (taken operations first m c o choice) r
  is-taken view e bs (Ok x) fits equal cells env-is branches-are known = (
    (fits, λ _. (cells, subst (λ z. RunFits m z (chosen choice (op_branches operations o))) env-is (subst (λ z. RunFits m e z) branches-are known.0))),
    known.1 ∙ ((λ i. run m (env-is i) (branches-are i)) ∙ sym (cond_true (int_eq (m (pend first) (pos c)) (pos 1)) _ None equal)),
  )
  is-taken view e bs (Err Overflow) fits equal cells env-is branches-are known =
      λ t. known (subst (λ z. RunFits m z bs) (sym env-is) (subst (λ z. RunFits m (call_env c (arguments_in operations first m c o ++ given_in choice)) z) (sym branches-are)
      (t.1 ((Decides-int_eq (m (pend first) (pos c)) (pos 1)).0 equal)).1))
  is-taken view e bs (Err OutOfMemory) fits equal cells env-is branches-are known = tt
