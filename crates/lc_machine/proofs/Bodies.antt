-- What an object's code keeps to: labels and entries of its bodies, the count of replies, and concrete columns.
use Rattle.std.proofs.Common.{◌≡◌, ℕ, zero, suc, ◌+◌, ◌-◌, ◌<◌, ◌≤◌, ◌⊎◌, true, ◌&&◌, ◌==◌, nat_lt, List, [], ◌∷◌, ℤ, Some, None, Option, length, refl, sym, ap, ◌∙◌, arith, add-zero, inl, inr}
use Rattle.std.specs.Prelude.{slice_get, nat_le}
use Rattle.std.specs.List.{list_all}
use Rattle.std.proofs.lemmas.Bool.{eqb-true}
use Rattle.std.proofs.lemmas.Bool.Decides.{nat_tests}
use Rattle.std.proofs.lemmas.List.{length-map}
use Rattle.std.proofs.lemmas.Option.{same_Some}
use Rattle.lc_lemmas.proofs.Booleans.{left_true, right_true}
use Rattle.lc_lemmas.proofs.Lists.{at_all}
use Rattle.lc_term.specs.Meaning.{State}
use Rattle.lc_term.specs.State.{with_cell}
use Rattle.lc_object.specs.Syntax.{Instr, Load, Store, Cas, Set, Faa, If, Return, Array, Operation, Point, Object}
use Rattle.lc_object.specs.Edges.{array_columns, columns_in}
use Rattle.lc_object.specs.WellFormed.{is_object, is_array, is_point, is_instruction, is_label, is_first, are_operations, has_limits, passes_at}
use Rattle.lc_object.specs.declared.instr.EdgeKind.{EdgeKind}
use Rattle.lc_object.specs.declared.instr.EdgeKind.TheVariants.{Next}
use Rattle.lc_machine.specs.Step.{with_row, number, numbers, Does, Goes, Answers, row, sums}
use Rattle.lc_machine.proofs.ArrayColumns.{arrays_pass, points_pass}
use Rattle.lc_term.specs.Lists.{Every}
use Rattle.lc_object.proofs.ObjectParts.{operations_pass, first_stands}
use Rattle.lc_object.specs.Places.{operation_in, operation_at}
use Rattle.lc_term.proofs.Stores.{cell_other}

-- ---- labels and entries

label_in : (op : ℕ) (found : Option Point) → passes_at (λ (point : Point). point.operation == op) found ≡ true → operation_in found ≡ op
label_in op None h = absurd cc
label_in op (Some point) h = eqb-true point.operation op h

pub label_is : (object : Object) (op l : ℕ) → is_label object op l ≡ true → operation_at object l ≡ op
label_is object op l h = label_in op (slice_get object.points l) h

entry_from : (object : Object) (n : ℕ) (os : List Operation) (k : ℕ) (o : Operation) → are_operations object n os ≡ true → slice_get os k ≡ Some o → operation_at object o.entry ≡ n + k
entry_from object n [] k o h e = absurd cc
entry_from object n (x ∷ os) zero o h e =
    let mine = first_stands object.points n x.entry (right_true (has_limits x) (is_first object.points n x.entry) (left_true (has_limits x && is_first object.points n x.entry) (are_operations object (suc n) os) h)) in
    ap (λ (y : Operation). operation_at object y.entry) (sym (same_Some x o e)) ∙ (label_is object n x.entry mine ∙ sym (add-zero n))
entry_from object n (x ∷ os) (suc k) o h e =
    entry_from object (suc n) os k o (right_true (has_limits x && is_first object.points n x.entry) (are_operations object (suc n) os) h) e ∙ omega arith

pub entry_is : (object : Object) → is_object object ≡ true → (k : ℕ) (o : Operation) → slice_get object.operations k ≡ Some o → operation_at object o.entry ≡ k
entry_is object well k o e = entry_from object 0 object.operations k o (operations_pass object well) e ∙ omega arith

-- ---- a point's operation

pub record IsPlaced (object : Object) (point : Point) : Type 0 where
  pub operation : Operation
  pub is : slice_get object.operations point.operation ≡ Some operation
  pub limits : has_limits operation ≡ true
  pub instruction : is_instruction object point.operation operation point.instruction ≡ true

placed_in : (object : Object) (point : Point) (found : Option Operation) → slice_get object.operations point.operation ≡ found →
    passes_at (λ o. has_limits o && is_instruction object point.operation o point.instruction) found ≡ true → IsPlaced object point
placed_in object point None e h = absurd cc
placed_in object point (Some o) e h = record { operation = o; is = e; limits = left_true _ _ h; instruction = right_true _ _ h }

pub point_is_placed : (object : Object) → is_object object ≡ true → (p : ℕ) (point : Point) → slice_get object.points p ≡ Some point → IsPlaced object point
point_is_placed object well p point at = placed_in object point (slice_get object.operations point.operation) refl (at_all (is_point object) object.points p point (points_pass object well) at)

-- ---- where an instruction goes, and what it answers

module _ (object : Object) (op : ℕ) (o : Operation) (s : State) (vs : List ℤ) (k : EdgeKind) (s' : State) where
  pub goes_to : (i : Instr) (q : ℕ) (new : List ℤ) → is_instruction object op o i ≡ true → Does object s vs i k s' (Goes q new) → operation_at object q ≡ op
  goes_to (Load a t rs l) q new h (_, _, out) = let e : q ≡ l = cc out in ap (operation_at object) e ∙ label_is object op l (right_true _ _ h)
  goes_to (Store a t us l) q new h (_, _, out) = let e : q ≡ l = cc out in ap (operation_at object) e ∙ label_is object op l (right_true _ _ h)
  goes_to (Cas a t old us l m) q new h (inl (_, _, _, out)) = let e : q ≡ l = cc out in ap (operation_at object) e ∙ label_is object op l (right_true _ _ (left_true _ _ h))
  goes_to (Cas a t old us l m) q new h (inr (_, _, _, out)) = let e : q ≡ m = cc out in ap (operation_at object) e ∙ label_is object op m (right_true _ _ h)
  goes_to (Set rs us l) q new h (_, _, out) = let e : q ≡ l = cc out in ap (operation_at object) e ∙ label_is object op l (right_true _ _ h)
  goes_to (Faa a t rs ds l) q new h (_, _, out) = let e : q ≡ l = cc out in ap (operation_at object) e ∙ label_is object op l (right_true _ _ h)
  goes_to (If f l m) q new h (inl (_, _, _, out)) = let e : q ≡ l = cc out in ap (operation_at object) e ∙ label_is object op l (right_true _ _ (left_true _ _ h))
  goes_to (If f l m) q new h (inr (_, _, _, out)) = let e : q ≡ m = cc out in ap (operation_at object) e ∙ label_is object op m (right_true _ _ h)
  goes_to (Return us) q new h (_, _, out) = absurd (cc out)

  pub answers_count : (i : Instr) (ns : List ℤ) → is_instruction object op o i ≡ true → Does object s vs i k s' (Answers ns) → length ns ≡ o.replies
  answers_count (Load a t rs l) ns h (_, _, out) = absurd (cc out)
  answers_count (Store a t us l) ns h (_, _, out) = absurd (cc out)
  answers_count (Cas a t old us l m) ns h (inl (_, _, _, out)) = absurd (cc out)
  answers_count (Cas a t old us l m) ns h (inr (_, _, _, out)) = absurd (cc out)
  answers_count (Set rs us l) ns h (_, _, out) = absurd (cc out)
  answers_count (Faa a t rs ds l) ns h (_, _, out) = absurd (cc out)
  answers_count (If f l m) ns h (inl (_, _, _, out)) = absurd (cc out)
  answers_count (If f l m) ns h (inr (_, _, _, out)) = absurd (cc out)
  answers_count (Return us) ns h (_, _, out) =
      let e : ns ≡ numbers s vs us = cc out in
      ap length e ∙ (length-map us (number s vs) ∙ eqb-true (length us) o.replies (left_true _ _ h))

  -- a return has one edge
  pub answers_next : (i : Instr) (ns : List ℤ) → Does object s vs i k s' (Answers ns) → k ≡ Next
  answers_next (Load a t rs l) ns (_, _, out) = absurd (cc out)
  answers_next (Store a t us l) ns (_, _, out) = absurd (cc out)
  answers_next (Cas a t old us l m) ns (inl (_, _, _, out)) = absurd (cc out)
  answers_next (Cas a t old us l m) ns (inr (_, _, _, out)) = absurd (cc out)
  answers_next (Set rs us l) ns (_, _, out) = absurd (cc out)
  answers_next (Faa a t rs ds l) ns (_, _, out) = absurd (cc out)
  answers_next (If f l m) ns (inl (_, _, _, out)) = absurd (cc out)
  answers_next (If f l m) ns (inr (_, _, _, out)) = absurd (cc out)
  answers_next (Return us) ns (e, _, _) = e

-- ---- concrete columns alone are written

-- a column of the specification, or one after the object's
abbrev pub IsOutside : Object → ℕ → Type 0
IsOutside object d = (d < length object.abstracts) ⊎ (length object.abstracts + length object.concretes ≤ d)

apart : (first count d : ℕ) (cs : List ℕ) → (d < first) ⊎ (first + count ≤ d) → list_all (λ c. nat_le first c && nat_lt (c - first) count) cs ≡ true → Every (λ c. c ≡ d → ⊥) cs
apart first count d [] out e = tt
apart first count d (c ∷ cs) out e =
    let here = left_true (nat_le first c && nat_lt (c - first) count) (list_all (λ c. nat_le first c && nat_lt (c - first) count) cs) e in
    let low = left_true (nat_le first c) (nat_lt (c - first) count) here in
    let high = right_true (nat_le first c) (nat_lt (c - first) count) here in
    let le : first ≤ c = grind (arith, nat_tests) in
    let lt : c < first + count = grind (arith, nat_tests) in (
      (λ is. elim out [ inl a ↦ omega arith | inr b ↦ omega arith ]),
      apart first count d cs out (right_true (nat_le first c && nat_lt (c - first) count) _ e),
    )

pub columns_apart : (object : Object) → is_object object ≡ true → (a d : ℕ) → IsOutside object d → Every (λ c. c ≡ d → ⊥) (array_columns object a)
columns_apart object well a d out = by (slice_get object.arrays a) refl
  where
    by : (found : Option Array) → slice_get object.arrays a ≡ found → Every (λ c. c ≡ d → ⊥) (columns_in found)
    by None e = tt
    by (Some array) e = apart (length object.abstracts) (length object.concretes) d array.columns out (right_true _ _ (at_all (is_array object) object.arrays a array (arrays_pass object well) e))

pub row_other : (s : State) (cs : List ℕ) (i : ℤ) (ns : List ℤ) (d : ℕ) → Every (λ c. c ≡ d → ⊥) cs → with_row s cs i ns d ≡ s d
row_other s [] i ns d h = refl
row_other s (c ∷ cs) i [] d h = refl
row_other s (c ∷ cs) i (n ∷ ns) d h = row_other (with_cell s c i n) cs i ns d h.1 ∙ cell_other s c d i n h.0

module _ (object : Object) (well : is_object object ≡ true) (s : State) (vs : List ℤ) (k : EdgeKind) (s' : State) where
  same_at : (t : State) (d : ℕ) → s' ≡ t → t d ≡ s d → s' d ≡ s d
  same_at t d e h = (λ i. e i d) ∙ h

  pub does_outside : (i : Instr) (out : Rattle.lc_machine.specs.Step.Outcome) (d : ℕ) → IsOutside object d → Does object s vs i k s' out → s' d ≡ s d
  does_outside (Load a t rs l) out d away (_, e, _) = same_at s d e refl
  does_outside (Store a t us l) out d away (_, e, _) = same_at _ d e (row_other s (array_columns object a) (number s vs t) (numbers s vs us) d (columns_apart object well a d away))
  does_outside (Cas a t old us l m) out d away (inl (_, _, e, _)) = same_at _ d e (row_other s (array_columns object a) (number s vs t) (numbers s vs us) d (columns_apart object well a d away))
  does_outside (Cas a t old us l m) out d away (inr (_, _, e, _)) = same_at s d e refl
  does_outside (Set rs us l) out d away (_, e, _) = same_at s d e refl
  does_outside (Faa a t rs ds l) out d away (_, e, _) = same_at _ d e (row_other s (array_columns object a) (number s vs t) (sums (row s (array_columns object a) (number s vs t)) (numbers s vs ds)) d (columns_apart object well a d away))
  does_outside (If f l m) out d away (inl (_, _, e, _)) = same_at s d e refl
  does_outside (If f l m) out d away (inr (_, _, e, _)) = same_at s d e refl
  does_outside (Return us) out d away (_, e, _) = same_at s d e refl
