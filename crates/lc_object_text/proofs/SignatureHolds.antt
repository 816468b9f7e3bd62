-- What is read of the operations of a specification, and of its columns.
use Rattle.std.proofs.Common.{◌≡◌, ℕ, ◌+◌, ◌≤◌, ◌<◌, Bool, true, false, cond, List, [], take, length, Some, None, refl, ap, ◌∙◌, arith}
use Rattle.std.proofs.lemmas.Bool.Decides.{nat_tests}
use Rattle.std.specs.Prelude.{ℤ, pos, negsuc, codes, slice_get, nat_lt, nat_le}
use Rattle.std.specs.List.{list_any}
use Rattle.lc_base.specs.Limits.{operation_limit, argument_limit, reply_limit}
use Rattle.lc_sexp.specs.Parts.{Fit, fits, misshapen, beyond, form_fit, integer_fit}
use Rattle.lc_sexp.specs.TreeCode.{tree_count}
use Rattle.lc_sexp.specs.Trees.{Tree, Trees, atom, list, none, ◌▸◌, item_count}
use Rattle.lc_text.specs.Terms.{pair}
use Rattle.lc_reading.proofs.Holding.{Holds, both_holds, if_holds, holds_unit, holds_weaker, and_holds}
use Rattle.lc_reading.specs.Listed.{names_among}
use Rattle.lc_reading.specs.Naming.{name_reading}
use Rattle.lc_reading.specs.Readings.{Reading, fine, flawed, wrong, limited}
use Rattle.lc_reading.specs.Words.{is}
use Rattle.lc_reading.specs.declared.pass.Pass.TheVariants.{Shape, Bound}
use Rattle.lc_object_text.proofs.Holding.{limited_below, Each, placed_holds, form_holds, IsName, text_of, kth_name_holds, names_hold, section_holds}
use Rattle.lc_object_text.specs.Declaring.{kth_name_reading, names_reading, section_reading}
use Rattle.lc_object_text.specs.ObjectNames.{Declared, text_in, first_text, items_within, later, count_of_fit, call_of, call_or}
use Rattle.lc_object_text.specs.Objects.{Signature, signature_of, has_minus, few_replies, replies_reading, call_reading, operation_name_reading, signature_parts, signature_reading, SpecificationText, specification_of, behind_own_name, abstracts_reading, signatures_reading, specification_parts, specification_reading}
use Rattle.lc_object_text.specs.Sections.{parts_in}

-- how many numbers are returned
small : (k : ℕ) → nat_lt reply_limit k ≡ false → k ≤ reply_limit
small k e = grind (arith, nat_tests)

few_hold : (n : ℕ) (f : Fit ℤ) → Holds (λ k. (count_of_fit f ≡ Some k) × (k ≤ reply_limit)) (few_replies n f)
few_hold n misshapen = tt
few_hold n beyond = tt
few_hold n (fits (negsuc k)) = tt
few_hold n (fits (pos k)) = by_test (nat_lt reply_limit k) refl where
  by_test : (b : Bool) → nat_lt reply_limit k ≡ b → Holds (λ j. (Some k ≡ Some j) × (j ≤ reply_limit)) (cond b (wrong Bound n) (fine k))
  by_test true e = tt
  by_test false e = (refl, small k e)

replies_hold : (n : ℕ) (t : Tree) → Holds (λ k. (count_of_fit (integer_fit t) ≡ Some k) × (k ≤ reply_limit)) (replies_reading n t)
replies_hold n (list ts) = tt
replies_hold n (atom w) =
    if_holds (λ k. (count_of_fit (integer_fit (atom w)) ≡ Some k) × (k ≤ reply_limit)) (has_minus w) (wrong Shape n) (few_replies n (integer_fit (atom w))) tt (few_hold n (integer_fit (atom w)))

-- the i-th of operations
pub record IsSignature (d : Declared) (i : ℕ) (us : Trees) (s : Signature) : Type 0 where
  pub below : i < operation_limit
  pub new : list_any (is (first_text us)) (take i d.operations) ≡ false
  pub arguments : length s.arguments ≡ length (call_of us).arguments
  pub few : length s.arguments ≤ argument_limit
  pub replies : (call_of us).replies ≡ Some s.replies
  pub at_most : s.replies ≤ reply_limit

abbrev IsNew : Declared → ℕ → Tree → List ℕ → Type 0
IsNew d i t w = (i < operation_limit) × (list_any (is (text_in t)) (take i d.operations) ≡ false)

new_text : (before : List (List ℕ)) (t : Tree) (w : List ℕ) → IsName before t w → list_any (is (text_in t)) before ≡ false
new_text before t w h = ap (λ v. list_any (is v) before) (text_of t w h.0) ∙ h.1

new_holds : (d : Declared) (i n m : ℕ) (t : Tree) → Holds (IsNew d i t) (operation_name_reading d i n m t)
new_holds d i n m t =
    let before = take i d.operations in
    and_holds (λ w. i < operation_limit) (λ w. list_any (is (text_in t)) before ≡ false) (operation_name_reading d i n m t) (limited_below operation_limit i n (kth_name_reading d.operations i m t)) (only (nat_le operation_limit i) (kth_name_reading d.operations i m t) (kth_name_holds d.operations i m t)) where
      only : (b : Bool) (r : Reading (List ℕ)) → Holds (IsName (take i d.operations) t) r → Holds (λ w. list_any (is (text_in t)) (take i d.operations) ≡ false) (limited b n r)
      only true (fine w) h = tt
      only true (flawed f) h = tt
      only false (fine w) h = new_text (take i d.operations) t w h
      only false (flawed f) h = tt

abbrev IsCall : Tree → Tree → List (List ℕ) × ℕ → Type 0
IsCall u v call = ((length call.0 ≡ length (names_among (items_within u))) × (length call.0 ≤ argument_limit)) × ((count_of_fit (integer_fit v) ≡ Some call.1) × (call.1 ≤ 3))

signature_parts_hold : (d : Declared) (i n m : ℕ) (us : Trees) → Holds (IsSignature d i us) (signature_parts d i n m us)
signature_parts_hold d i n m none = tt
signature_parts_hold d i n m (t ▸ none) = tt
signature_parts_hold d i n m (t ▸ u ▸ none) = tt
signature_parts_hold d i n m (t ▸ u ▸ v ▸ ts) =
    let arguments = (call_or (slice_get d.calls i)).arguments in
    let p = m + item_count t in
    let q = p + item_count u in
    both_holds (IsNew d i t) (IsCall u v) (IsSignature d i (t ▸ u ▸ v ▸ ts)) signature_of (operation_name_reading d i n m t) (call_reading arguments p u q v) (new_holds d i n m t)
    (both_holds (λ ws. (length ws ≡ length (names_among (items_within u))) × (length ws ≤ argument_limit)) (λ k. (count_of_fit (integer_fit v) ≡ Some k) × (k ≤ reply_limit)) (IsCall u v) pair (names_reading 3 arguments 0 p u) (replies_reading q v)
    (names_hold 3 arguments 0 p u) (replies_hold q v) (λ ws k h g. (h, g)))
    (λ w call h g. record { below = h.0; new = h.1; arguments = g.0.0; few = g.0.1; replies = g.1.0; at_most = g.1.1 })

abbrev pub IsOperation : Declared → ℕ → Tree → Signature → Type 0
IsOperation d i t s = (form_fit (codes "op") t ≡ fits (parts_in (codes "op") t)) × IsSignature d i (parts_in (codes "op") t) s

signature_holds : (d : Declared) (i n : ℕ) (t : Tree) → Holds (IsOperation d i t) (signature_reading d i n t)
signature_holds d i n t = form_holds (IsSignature d i) (codes "op") (signature_parts d i) n t (signature_parts_hold d i)

-- what is read of a specification: its operations, one at least
abbrev pub AreOperations : Declared → Trees → List Signature → Type 0
AreOperations d ts ss = (1 ≤ tree_count ts) × Each (IsOperation d) 0 ts ss

signatures_hold : (d : Declared) (n m : ℕ) (ts : Trees) → Holds (AreOperations d ts) (signatures_reading d n m ts)
signatures_hold d n m none = tt
signatures_hold d n m (t ▸ ts) =
    holds_weaker (Each (IsOperation d) 0 (t ▸ ts)) (AreOperations d (t ▸ ts)) (signatures_reading d n m (t ▸ ts)) (λ ss h. (omega arith, h)) (placed_holds (IsOperation d) (signature_reading d) (signature_holds d) 0 m (t ▸ ts))

-- and its abstract columns
abbrev pub columns_behind : Trees → ℕ
columns_behind none = 0
columns_behind (t ▸ ts) = tree_count (parts_in (codes "abstract") t)

pub record IsSpecification (d : Declared) (us : Trees) (text : SpecificationText) : Type 0 where
  pub abstracts : length text.abstracts ≡ columns_behind (later us)
  pub operations : AreOperations d (later (later us)) text.signatures

specification_parts_hold : (d : Declared) (n m : ℕ) (us : Trees) → Holds (IsSpecification d us) (specification_parts d n m us)
specification_parts_hold d n m none = tt
specification_parts_hold d n m (t ▸ none) = tt
specification_parts_hold d n m (t ▸ u ▸ ts) =
    let p = m + item_count t in
    both_holds (λ ws. length ws ≡ tree_count (parts_in (codes "abstract") u)) (AreOperations d ts) (IsSpecification d (t ▸ u ▸ ts)) specification_of (abstracts_reading d m t p u) (signatures_reading d n (p + item_count u) ts)
    (both_holds (λ w. Unit {0}) (λ ws. length ws ≡ tree_count (parts_in (codes "abstract") u)) (λ ws. length ws ≡ tree_count (parts_in (codes "abstract") u)) behind_own_name (name_reading None [] m t)
    (section_reading (codes "abstract") d.columns 0 p u) (holds_unit (name_reading None [] m t)) (section_holds (codes "abstract") d.columns 0 p u) (λ w ws h g. g))
    (signatures_hold d n (p + item_count u) ts) (λ ws ss h g. record { abstracts = h; operations = g })

pub specification_holds : (d : Declared) (n : ℕ) (t : Tree) → Holds (λ text. (form_fit (codes "spec") t ≡ fits (parts_in (codes "spec") t)) × IsSpecification d (parts_in (codes "spec") t) text) (specification_reading d n t)
specification_holds d n t = form_holds (IsSpecification d) (codes "spec") (specification_parts d) n t (specification_parts_hold d)
