-- What a development's specification and object agree on.
use Rattle.std.proofs.Common.{◌≡◌, ℕ, zero, suc, ◌+◌, ◌≤◌, true, ◌&&◌, ◌==◌, if◌then◌else◌, List, [], ◌∷◌, ◌++◌, ℤ, Some, None, Option, length, take, refl, sym, ap, ◌∙◌, subst, arith}
use Rattle.std.specs.Prelude.{slice_get, nat_le, option_map}
use Rattle.std.specs.List.{list_all}
use Rattle.std.proofs.lemmas.Bool.Decides.{nat_tests}
use Rattle.std.proofs.lemmas.Option.{same_Some}
use Rattle.lc_base.specs.Limits.{argument_limit, local_limit, reply_limit}
use Rattle.lc_lemmas.proofs.Booleans.{left_true, right_true}
use Rattle.lc_lemmas.proofs.Lists.{at_all}
use Rattle.lc_lemmas.proofs.Numbers.{equal_to_itself}
use Rattle.lc_term.specs.Updates.{Write, stored_all}
use Rattle.lc_term.specs.Meaning.{State}
use Rattle.lc_seq.specs.Sequential.{Call, Choice, Chosen, given_in}
use Rattle.lc_seq.specs.Specification.{Branch, Operation, branch_is_resolved, operation_is_resolved, branches_for, chosen}
use Rattle.lc_seq.specs.Specification as Q
use Rattle.lc_seq.proofs.Choosing.{resolved_behind, chosen-resolved, chosen-all}
use Rattle.lc_seq.specs.TextStep.{run, call_env, text_step, outcome}
use Rattle.lc_object.specs.Syntax as O
use Rattle.lc_object.specs.WellFormed.{is_first, are_operations, has_limits}
use Rattle.lc_object.proofs.ObjectParts.{operations_pass}
use Rattle.lc_seq.specs.Branches.{op_branches, branches_in, arity, arity_in, op_replies, replies_in}
use Rattle.lc_rider.specs.Rider.{argument}
use Rattle.lc_outline.specs.Development.{Development}
use Rattle.lc_outline.specs.Resolved.{AreMatched, IsResolved}
use Rattle.lc_rider.proofs.Riding.{ground_from}
use Rattle.lc_rider.specs.PathLaws.{AreGround}
use Rattle.lc_term.proofs.Stores.{if_true}

-- ---- branches

branches_all : (columns : ℕ) (found : Option Operation) → ((o : Operation) → found ≡ Some o → operation_is_resolved columns o ≡ true) →
    list_all (resolved_behind columns (2 + arity_in found)) (branches_in found) ≡ true
branches_all columns None h = refl
branches_all columns (Some o) h = left_true _ _ (h o refl)

replies_all : (columns : ℕ) (found : Option Operation) → ((o : Operation) → found ≡ Some o → operation_is_resolved columns o ≡ true) →
    list_all (λ (b : Branch). length b.replies == replies_in found) (branches_in found) ≡ true
replies_all columns None h = refl
replies_all columns (Some o) h = right_true _ _ (h o refl)

pub all_resolved : (D : Development) → IsResolved D → (o : ℕ) →
    list_all (resolved_behind (length D.specification.columns) (2 + arity D.specification.operations o)) (op_branches D.specification.operations o) ≡ true
all_resolved D R o = branches_all (length D.specification.columns) (slice_get D.specification.operations o)
    (λ x e. at_all (operation_is_resolved (length D.specification.columns)) D.specification.operations o x R.specification e)

pub branches_resolved : {A : Type 0} (D : Development) → IsResolved D → (o : ℕ) (by : Chosen A) →
    list_all (branch_is_resolved (length D.specification.columns) (2 + arity D.specification.operations o + length (given_in by))) (chosen by (op_branches D.specification.operations o)) ≡ true
branches_resolved D R o by = chosen-resolved (length D.specification.columns) (2 + arity D.specification.operations o) by (op_branches D.specification.operations o) (all_resolved D R o)

pub replies_resolved : {A : Type 0} (D : Development) → IsResolved D → (o : ℕ) (by : Chosen A) →
    list_all (λ (b : Branch). length b.replies == op_replies D.specification.operations o) (chosen by (op_branches D.specification.operations o)) ≡ true
replies_resolved D R o by =
    chosen-all (λ (b : Branch). length b.replies == op_replies D.specification.operations o) by (op_branches D.specification.operations o)
    (replies_all (length D.specification.columns) (slice_get D.specification.operations o)
    (λ x e. at_all (operation_is_resolved (length D.specification.columns)) D.specification.operations o x R.specification e))

-- ---- the operation of the object and that of the specification

pub record IsMatch (operations : List Operation) (k : ℕ) (o : O.Operation) : Type 0 where
  pub arguments : length o.arguments ≡ arity operations k
  pub replies : o.replies ≡ op_replies operations k

matched_at : (os : List O.Operation) (qs all : List Operation) (k : ℕ) (o : O.Operation) → AreMatched os qs → slice_get os k ≡ Some o → (o.replies ≡ replies_in (slice_get qs k)) × (length o.arguments ≡ arity_in (slice_get qs k))
matched_at [] qs all k o m e = absurd cc
matched_at (x ∷ os) [] all k o m e = absurd m
matched_at (x ∷ os) (q ∷ qs) all zero o m e = let same = same_Some x o e in (ap (λ (y : O.Operation). y.replies) (sym same) ∙ m.1, ap (λ (y : O.Operation). length y.arguments) (sym same) ∙ m.0)
matched_at (x ∷ os) (q ∷ qs) all (suc k) o m e = matched_at os qs all k o m.3 e

pub match_at : (D : Development) → IsResolved D → (k : ℕ) (o : O.Operation) → slice_get D.object.operations k ≡ Some o → IsMatch D.specification.operations k o
match_at D R k o e = let m = matched_at D.object.operations D.specification.operations D.specification.operations k o R.operations e in record { arguments = m.1; replies = m.0 }

few_at : (object : O.Object) (n : ℕ) (os : List O.Operation) (qs : List Operation) (k : ℕ) → are_operations object n os ≡ true → AreMatched os qs → (arity_in (slice_get qs k) ≤ 3) × (replies_in (slice_get qs k) ≤ 3)
few_at object n os [] k h m = (omega arith, omega arith)
few_at object n [] (q ∷ qs) k h m = absurd m
few_at object n (x ∷ os) (q ∷ qs) zero h m =
    let limits = left_true (has_limits x) (is_first object.points n x.entry) (left_true (has_limits x && is_first object.points n x.entry) (are_operations object (suc n) os) h) in
    let two = left_true (nat_le (length x.arguments) argument_limit && nat_le x.replies reply_limit) (nat_le (length x.locals) local_limit) limits in
    let a = left_true (nat_le (length x.arguments) argument_limit) (nat_le x.replies reply_limit) two in
    let b = right_true (nat_le (length x.arguments) argument_limit) (nat_le x.replies reply_limit) two in
    let a' : length x.arguments ≤ argument_limit = grind (arith, nat_tests) in
    let b' : x.replies ≤ reply_limit = grind (arith, nat_tests) in
    (subst (λ j. j ≤ argument_limit) m.0 a', subst (λ j. j ≤ reply_limit) m.1 b')
few_at object n (x ∷ os) (q ∷ qs) (suc k) h m = few_at object (suc n) os qs k (right_true (has_limits x && is_first object.points n x.entry) (are_operations object (suc n) os) h) m.3

pub arity_and_replies_few : (D : Development) → IsResolved D → (o : ℕ) → (arity D.specification.operations o ≤ argument_limit) × (op_replies D.specification.operations o ≤ reply_limit)
arity_and_replies_few D R o = few_at D.object 0 D.object.operations D.specification.operations o (operations_pass D.object R.object) R.operations

-- ---- the step of a call

branches_with : (found : Option Operation) (n : ℕ) → n ≡ arity_in found → Q.branches_in found n ≡ branches_in found
branches_with None n e = refl
branches_with (Some o) n e = subst (λ k. (if length o.arguments == k then o.branches else []) ≡ o.branches) (sym e) (if_true (length o.arguments == length o.arguments) o.branches [] (equal_to_itself (length o.arguments)))

pub text_step_run : (operations : List Operation) (s : State) (c : ℕ) (call : Call) (choice : Choice) (o : ℕ) (numbers : List ℤ) (ws : List Write) (vs : List ℤ) → call.op ≡ o → call.numbers ≡ numbers →
    length call.numbers ≡ arity operations call.op → run s (call_env c (numbers ++ given_in choice)) (chosen choice (op_branches operations o)) ≡ Some (ws, vs) → text_step operations s c call choice ≡ Some (stored_all s ws, vs)
text_step_run operations s c call choice o numbers ws vs is same whole e =
    let there : branches_for operations call ≡ op_branches operations o = branches_with (slice_get operations call.op) (length call.numbers) whole ∙ ap (op_branches operations) is in
    ap (option_map (outcome s)) ((λ i. run s (call_env c (same i ++ given_in choice)) (chosen choice (there i))) ∙ e)

-- ---- arguments are read back

pub padded_back : (numbers : List ℤ) → length numbers ≤ 3 → take (length numbers) (argument numbers 0 ∷ argument numbers 1 ∷ argument numbers 2 ∷ []) ≡ numbers
padded_back [] le = refl
padded_back (a ∷ []) le = refl
padded_back (a ∷ b ∷ []) le = refl
padded_back (a ∷ b ∷ c ∷ []) le = refl
padded_back (a ∷ b ∷ c ∷ d ∷ rest) le = absurd (omega arith)

-- no guard of a specification has a quantifier
pub op_branches_ground : (D : Development) → IsResolved D → (p : ℕ) → AreGround (op_branches D.specification.operations p)
op_branches_ground D R p = ground_from (length D.specification.columns) (2 + arity D.specification.operations p) (op_branches D.specification.operations p) (all_resolved D R p)
