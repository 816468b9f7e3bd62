-- What makes an object well-formed: its arrays have their spans, and what its points name is declared.
use Rattle.std.proofs.Common.{◌≡◌, ℕ, zero, suc, ◌+◌, ◌-◌, ◌≤◌, ◌<◌, Bool, true, false, ◌&&◌, not, List, [], ◌∷◌, ◌++◌, length, length-append, append_assoc, Option, Some, None, refl, sym, ap, ◌∙◌, subst, arith}
use Rattle.std.proofs.lemmas.Bool.Decides.{nat_tests}
use Rattle.std.proofs.lemmas.List.Folds.{list_all-append}
use Rattle.std.specs.Prelude.{option_map, slice_get, ◌==◌, nat_lt, nat_le}
use Rattle.std.specs.List.{list_all, list_any}
use Rattle.std.proofs.lemmas.Bool.{and_from, not_from_false, eq-eqb, le-leb, or_from}
use Rattle.lc_lemmas.proofs.Booleans.{left_true, right_true, and_six}
use Rattle.lc_lemmas.proofs.Lists.{get_in_front}
use Rattle.lc_base.specs.Limits.{local_limit, point_limit, width_limit, argument_limit, reply_limit}
use Rattle.lc_sexp.specs.TreeCode.{tree_count}
use Rattle.lc_sexp.specs.Trees.{Trees}
use Rattle.lc_reading.specs.Listed.{place_of}
use Rattle.lc_object_text.proofs.ArrayHolds.{HaveSpans, columns_count}
use Rattle.lc_object_text.proofs.BodiesHold.{at_seam, IsOperationOf, AreOperationsOf, ArePointsOf, BodyPoints, ArePoints}
use Rattle.lc_object_text.proofs.BodyHolds.{first_local, variables_in, shifted_target}
use Rattle.lc_object_text.proofs.CodeHolds.{AreTargets, Fits, IsLabel, IsRow}
use Rattle.lc_object_text.proofs.Holding.{Counted}
use Rattle.lc_object_text.proofs.Distinct.{is_between, few_between, as_many, not_among, one_after_other}
use Rattle.lc_reading.proofs.Places.{place_below}
use Rattle.lc_object_text.specs.CodeNames.{CodeNames}
use Rattle.lc_object_text.specs.ObjectNames.{Span, Declared, Body, later, spans_from, row_at, body_names}
use Rattle.lc_object.specs.Syntax.{Instr, Load, Store, Cas, Set, Faa, If, Return, Array, Operation, Point, Object}
use Rattle.lc_object.specs.WellFormed.{variable_count, has_limits, are_code_terms, is_code_term, is_code_formula, are_distinct, are_targets, passes_at, has_width, is_label, is_instruction, is_point, is_first, numbers_from, are_operations, is_width, is_array, stands_in, are_apart}

and_three : (a b c : Bool) → a ≡ true → b ≡ true → c ≡ true → (a && b && c) ≡ true
and_three a b c h g k = cc

and_four : (a b c d : Bool) → a ≡ true → b ≡ true → c ≡ true → d ≡ true → (a && b && c && d) ≡ true
and_four a b c d h g k i = cc

and_seven : (a b c d e f g : Bool) → a ≡ true → b ≡ true → c ≡ true → d ≡ true → e ≡ true → f ≡ true → g ≡ true → (a && b && c && d && e && f && g) ≡ true
and_seven a b c d e f g p q r s t u v = cc

-- targets of an operation, whose locals are few
targets_are : (o : Operation) (rs : List ℕ) → length o.locals ≤ local_limit → AreTargets (2 + length o.arguments) (variable_count o) rs → are_targets o rs ≡ true
targets_are o rs few h =
    let many : length rs ≤ length o.locals = few_between (length o.locals) (2 + length o.arguments) rs h.0 h.1 in
    and_three (nat_le (length rs) local_limit) (list_all (is_between (2 + length o.arguments) (variable_count o)) rs) (are_distinct rs) (le-leb (length rs) local_limit (omega (arith, many, few))) h.0 h.1

counted_of : (o : Option ℕ) (m n : ℕ) → Counted o n → o ≡ Some m → n ≡ m
counted_of None m n h e = cc
counted_of (Some k) m n h e = let same : k ≡ m = cc in h ∙ same

-- an instruction whose names are declared, if arrays and points are as declared
instruction_is : (object : Object) (op : ℕ) (o : Operation) (code : CodeNames) → ((a width : ℕ) → IsRow code a width → has_width object a width ≡ true) → ((l : ℕ) → IsLabel code l → is_label object op l ≡ true)
    → code.replies ≡ Some o.replies → length o.locals ≤ local_limit → (i : Instr) → Fits code (2 + length o.arguments) (variable_count o) i → is_instruction object op o i ≡ true
instruction_is object op o code rows labels replies few (Load a t rs l) h =
    and_four (has_width object a (length rs)) (is_code_term (variable_count o) t) (are_targets o rs) (is_label object op l) (rows a (length rs) h.0) h.1 (targets_are o rs few h.2) (labels l h.3)
instruction_is object op o code rows labels replies few (Store a t vs l) h =
    and_four (has_width object a (length vs)) (is_code_term (variable_count o) t) (are_code_terms (variable_count o) vs) (is_label object op l) (rows a (length vs) h.0) h.1 h.2 (labels l h.3)
instruction_is object op o code rows labels replies few (Cas a t old new l m) h =
    and_seven (has_width object a (length old)) (has_width object a (length new)) (is_code_term (variable_count o) t) (are_code_terms (variable_count o) old) (are_code_terms (variable_count o) new) (is_label object op l) (is_label object op m)
    (rows a (length old) h.0.0) (rows a (length new) h.0.1) h.1 h.2.0 h.2.1 (labels l h.3.0) (labels m h.3.1)
instruction_is object op o code rows labels replies few (Set rs vs l) h =
    and_four (length vs == length rs) (are_targets o rs) (are_code_terms (variable_count o) vs) (is_label object op l) (eq-eqb (length vs) (length rs) h.0) (targets_are o rs few h.1) h.2 (labels l h.3)
instruction_is object op o code rows labels replies few (Faa a t rs ds l) h =
    and_six (has_width object a (length rs)) (has_width object a (length ds)) (is_code_term (variable_count o) t) (are_targets o rs) (are_code_terms (variable_count o) ds) (is_label object op l)
    (rows a (length rs) h.0.0) (rows a (length ds) h.0.1) h.1 (targets_are o rs few h.2) h.3 (labels l h.4)
instruction_is object op o code rows labels replies few (If f l m) h =
    and_three (is_code_formula (variable_count o) f) (is_label object op l) (is_label object op m) h.0 (labels l h.1.0) (labels m h.1.1)
instruction_is object op o code rows labels replies few (Return vs) h =
    and_from (length vs == o.replies) (are_code_terms (variable_count o) vs) (eq-eqb (length vs) o.replies (counted_of code.replies o.replies (length vs) h.0 replies)) h.1

-- arrays
same_pair : (x y : ℕ × ℕ) → Some x ≡ Some y → x ≡ y
same_pair x y e = cc

span_at : (spans : List Span) (o : Option ℕ) (a width : ℕ) → row_at spans o ≡ Some (a, width) → (span : Span) × (slice_get spans a ≡ Some span) × (span.width ≡ width)
span_at spans None a width e = cc
span_at spans (Some k) a width e = by_span (slice_get spans k) refl e where
  by_span : (p : Option Span) → slice_get spans k ≡ p → option_map {U = ℕ × ℕ} (λ (span : Span). (k, span.width)) p ≡ Some (a, width) → (span : Span) × (slice_get spans a ≡ Some span) × (span.width ≡ width)
  by_span None f e = cc
  by_span (Some span) f e =
      let row = same_pair (k, span.width) (a, width) e in
      let same : k ≡ a = ap (λ (r : ℕ × ℕ). r.0) row in (span, ap (slice_get spans) (sym same) ∙ f, ap (λ (r : ℕ × ℕ). r.1) row)

array_at : (spans : List Span) (arrays : List Array) (k : ℕ) (span : Span) → HaveSpans spans arrays → slice_get spans k ≡ Some span → passes_at (λ (array : Array). length array.columns == span.width) (slice_get arrays k) ≡ true
array_at [] arrays k span h e = cc
array_at (x ∷ spans) [] k span h e = absurd h
array_at (x ∷ spans) (array ∷ arrays) zero span h e =
    let same : x ≡ span = cc in
    eq-eqb (length array.columns) span.width (ap length h.0 ∙ as_many x.first x.width ∙ ap (λ (y : Span). y.width) same)
array_at (x ∷ spans) (array ∷ arrays) (suc k) span h e = array_at spans arrays k span h.2 e

pub rows_are : (object : Object) (d : Declared) (b : Body) → HaveSpans d.spans object.arrays → (a width : ℕ) → IsRow (body_names d b) a width → has_width object a width ≡ true
rows_are object d b h a width row =
    let c = span_at d.spans (place_of d.arrays row.0) a width row.1 in
    subst (λ n. has_width object a n ≡ true) c.2 (array_at d.spans object.arrays a c.0 h c.1)

concrete : (a c n : ℕ) → a ≤ n → n < a + c → (nat_le a n && nat_lt (n - a) c) ≡ true
concrete a c n h g = grind (arith, nat_tests)

columns_are : (a c n k : ℕ) → a ≤ n → n + k ≤ a + c → list_all (λ m. nat_le a m && nat_lt (m - a) c) (numbers_from n k) ≡ true
columns_are a c n zero h g = refl
columns_are a c n (suc k) h g =
    and_from (nat_le a n && nat_lt (n - a) c) (list_all (λ m. nat_le a m && nat_lt (m - a) c) (numbers_from (suc n) k)) (concrete a c n h (omega (arith, g))) (columns_are a c (suc n) k (omega (arith, h)) (omega (arith, g)))

width_is : (n : ℕ) → 1 ≤ n → n ≤ width_limit → is_width n ≡ true
width_is n low high = grind (arith, nat_tests)

-- arrays that have their spans, if there are as many concrete columns as they have
pub arrays_are : (object : Object) (k : ℕ) (forms : List Trees) (arrays : List Array) → HaveSpans (spans_from k forms) arrays → length object.abstracts ≤ k
    → k + columns_count forms ≤ length object.abstracts + length object.concretes → list_all (is_array object) arrays ≡ true
arrays_are object k [] [] h low high = refl
arrays_are object k [] (array ∷ arrays) h low high = absurd h
arrays_are object k (ts ∷ forms) [] h low high = absurd h
arrays_are object k (ts ∷ forms) (array ∷ arrays) h low high =
    let width = tree_count (later ts) in
    let a = length object.abstracts in
    let c = length object.concretes in
    let test = λ (m : ℕ). nat_le a m && nat_lt (m - a) c in
    and_from (is_array object array) (list_all (is_array object) arrays)
    (subst (λ columns. (is_width (length columns) && are_distinct columns && list_all test columns) ≡ true) (sym h.0)
    (and_three (is_width (length (numbers_from k width))) (are_distinct (numbers_from k width)) (list_all test (numbers_from k width))
    (width_is (length (numbers_from k width)) (omega (arith, as_many k width, h.1.0)) (omega (arith, as_many k width, h.1.1))) (one_after_other k width) (columns_are a c k width low (omega (arith, high)))))
    (arrays_are object (k + width) forms arrays h.2 (omega (arith, low)) (omega (arith, high)))

-- no column before those of arrays in a row is in them
before_spans : (k j : ℕ) (forms : List Trees) (arrays : List Array) → HaveSpans (spans_from k forms) arrays → j < k → stands_in arrays j ≡ false
before_spans k j [] [] h low = refl
before_spans k j [] (array ∷ arrays) h low = absurd h
before_spans k j (ts ∷ forms) [] h low = absurd h
before_spans k j (ts ∷ forms) (array ∷ arrays) h low =
    let width = tree_count (later ts) in
    or_from (list_any (λ d. d == j) array.columns) (stands_in arrays j) (ap (list_any (λ d. d == j)) h.0 ∙ not_among j k width low) (before_spans (k + width) j forms arrays h.2 (omega (arith, low)))

none_before : (n width k : ℕ) (forms : List Trees) (arrays : List Array) → HaveSpans (spans_from k forms) arrays → n + width ≤ k → list_any (stands_in arrays) (numbers_from n width) ≡ false
none_before n zero k forms arrays h low = refl
none_before n (suc width) k forms arrays h low =
    or_from (stands_in arrays n) (list_any (stands_in arrays) (numbers_from (suc n) width)) (before_spans k n forms arrays h (omega (arith, low))) (none_before (suc n) width k forms arrays h (omega (arith, low)))

-- arrays in a row share no column
pub spans_are_apart : (k : ℕ) (forms : List Trees) (arrays : List Array) → HaveSpans (spans_from k forms) arrays → are_apart arrays ≡ true
spans_are_apart k [] [] h = refl
spans_are_apart k [] (array ∷ arrays) h = absurd h
spans_are_apart k (ts ∷ forms) [] h = absurd h
spans_are_apart k (ts ∷ forms) (array ∷ arrays) h =
    let width = tree_count (later ts) in
    and_from (not (list_any (stands_in arrays) array.columns)) (are_apart arrays)
    (not_from_false (list_any (stands_in arrays) array.columns) (ap (list_any (stands_in arrays)) h.0 ∙ none_before k width (k + width) forms arrays h.2 (omega arith)))
    (spans_are_apart (k + width) forms arrays h.2)

in_middle : {X : Type 0} (before xs ys : List X) (i j : ℕ) → i ≡ length before + j → j < length xs → slice_get (before ++ (xs ++ ys)) i ≡ slice_get xs j
in_middle [] xs ys i j e h =
    let same : i ≡ j = omega (arith, e) in ap (slice_get (xs ++ ys)) same ∙ get_in_front xs ys j h
in_middle (x ∷ before) xs ys zero j e h = absurd (omega (arith, e))
in_middle (x ∷ before) xs ys (suc i) j e h = in_middle before xs ys i j (omega (arith, e)) h

point_at : (d : Declared) (b : Body) (k : ℕ) (own : List Point) (j : ℕ) → ArePointsOf d b k own → j < length own → passes_at (λ (point : Point). point.operation == k) (slice_get own j) ≡ true
point_at d b k [] j h below = absurd (omega (arith, below))
point_at d b k (q ∷ own) zero h below = eq-eqb q.operation k h.0.0
point_at d b k (q ∷ own) (suc j) h below = point_at d b k own j h.1 (omega (arith, below))

label_at : (object : Object) (d : Declared) (b : Body) (k : ℕ) (before own others : List Point) (i j : ℕ) → object.points ≡ before ++ (own ++ others) → ArePointsOf d b k own → i ≡ length before + j → j < length own
    → is_label object k i ≡ true
label_at object d b k before own others i j e h at below =
    ap (λ points. passes_at (λ (point : Point). point.operation == k) (slice_get points i)) e ∙ ap (passes_at (λ (point : Point). point.operation == k)) (in_middle before own others i j at below) ∙ point_at d b k own j h below

-- points of the bodies before a number
abbrev pub AreEarly : ℕ → List Point → Type 0
AreEarly k qs = list_all (λ (q : Point). nat_lt q.operation k) qs ≡ true

earlier : (n k : ℕ) → nat_lt n k ≡ true → not (n == k) ≡ true
earlier n k h = grind (arith, nat_tests)

one_later : (n k : ℕ) → nat_lt n k ≡ true → nat_lt n (k + 1) ≡ true
one_later n k h = grind (arith, nat_tests)

its_own : (n k : ℕ) → n ≡ k → nat_lt n (k + 1) ≡ true
its_own n k e = grind (arith, nat_tests)

still_early : (k : ℕ) (qs : List Point) → AreEarly k qs → AreEarly (k + 1) qs
still_early k [] h = refl
still_early k (q ∷ qs) h =
    and_from (nat_lt q.operation (k + 1)) (list_all (λ (q : Point). nat_lt q.operation (k + 1)) qs) (one_later q.operation k (left_true (nat_lt q.operation k) _ h)) (still_early k qs (right_true (nat_lt q.operation k) _ h))

own_early : (d : Declared) (b : Body) (k : ℕ) (own : List Point) → ArePointsOf d b k own → AreEarly (k + 1) own
own_early d b k [] h = refl
own_early d b k (q ∷ own) h = and_from (nat_lt q.operation (k + 1)) (list_all (λ (q : Point). nat_lt q.operation (k + 1)) own) (its_own q.operation k h.0.0) (own_early d b k own h.1)

both_early : (d : Declared) (b : Body) (k : ℕ) (before own : List Point) → AreEarly k before → ArePointsOf d b k own → AreEarly (k + 1) (before ++ own)
both_early d b k before own h g =
    list_all-append (λ (q : Point). nat_lt q.operation (k + 1)) before own
    ∙ and_from (list_all (λ (q : Point). nat_lt q.operation (k + 1)) before) (list_all (λ (q : Point). nat_lt q.operation (k + 1)) own) (still_early k before h) (own_early d b k own g)

-- the first point after those of earlier bodies is the first of its own
first_behind : (k : ℕ) (before rest : List Point) (q : Point) → AreEarly k before → q.operation ≡ k → is_first (before ++ q ∷ rest) k (length before) ≡ true
first_behind k [] rest q h e = eq-eqb q.operation k e
first_behind k (p ∷ before) rest q h e =
    and_from (not (p.operation == k)) (is_first (before ++ q ∷ rest) k (length before)) (earlier p.operation k (left_true (nat_lt p.operation k) _ h)) (first_behind k before rest q (right_true (nat_lt p.operation k) _ h) e)

entry_first : (object : Object) (d : Declared) (b : Body) (k : ℕ) (before own others : List Point) (i : ℕ) → object.points ≡ before ++ (own ++ others) → ArePointsOf d b k own → i ≡ length before → 1 ≤ length own → AreEarly k before
    → is_first object.points k i ≡ true
entry_first object d b k before [] others i e h at some early = absurd (omega (arith, some))
entry_first object d b k before (q ∷ own) others i e h at some early =
    ap (λ points. is_first points k i) e ∙ ap (is_first (before ++ q ∷ (own ++ others)) k) at ∙ first_behind k before (own ++ others) q early h.0.0

point_is : (object : Object) (k : ℕ) (o : Operation) (q : Point) → q.operation ≡ k → slice_get object.operations k ≡ Some o → has_limits o ≡ true → is_instruction object k o q.instruction ≡ true → is_point object q ≡ true
point_is object k o q e at limits h =
    ap (λ n. passes_at (λ (x : Operation). has_limits x && is_instruction object n x q.instruction) (slice_get object.operations n)) e
    ∙ ap (passes_at (λ (x : Operation). has_limits x && is_instruction object k x q.instruction)) at ∙ and_from (has_limits o) (is_instruction object k o q.instruction) limits h

few_locals : (o : Operation) → has_limits o ≡ true → length o.locals ≤ local_limit
few_locals o h = third (length o.arguments) o.replies (length o.locals) h where
  third : (a r l : ℕ) → (nat_le a argument_limit && nat_le r reply_limit && nat_le l local_limit) ≡ true → l ≤ local_limit
  third a r l h = grind (arith, nat_tests)

points_are : (object : Object) (d : Declared) (b : Body) (k : ℕ) (o : Operation) → HaveSpans d.spans object.arrays → slice_get object.operations k ≡ Some o → IsOperationOf b o
    → ((l : ℕ) → IsLabel (body_names d b) l → is_label object k l ≡ true) → (own : List Point) → ArePointsOf d b k own → list_all (is_point object) own ≡ true
points_are object d b k o spans at of_b labels [] h = refl
points_are object d b k o spans at of_b labels (q ∷ own) h =
    let low : first_local b ≡ 2 + length o.arguments = ap (λ n. 2 + n) (sym of_b.arguments) in
    let count : variables_in b ≡ variable_count o = omega (arith, of_b.arguments, of_b.locals) in
    let fit : Fits (body_names d b) (2 + length o.arguments) (variable_count o) q.instruction =
    subst (λ n. Fits (body_names d b) n (variable_count o) q.instruction) low (subst (λ n. Fits (body_names d b) (first_local b) n q.instruction) count h.0.1) in
    and_from (is_point object q) (list_all (is_point object) own)
    (point_is object k o q h.0.0 at of_b.limits
    (instruction_is object k o (body_names d b) (rows_are object d b spans) labels of_b.replies (few_locals o of_b.limits) q.instruction fit))
    (points_are object d b k o spans at of_b labels own h.1)

-- what the operations and points of these bodies promise
pub record BodiesAre (object : Object) (k p : ℕ) (os : List Operation) (qs : List Point) : Type 0 where
  pub operations : are_operations object k os ≡ true
  pub points : list_all (is_point object) qs ≡ true
  pub few : p + length qs ≤ point_limit

pub bodies_are : (object : Object) (d : Declared) → HaveSpans d.spans object.arrays → (k p : ℕ) (bs : List Body) (os : List Operation) (qs : List Point) (before : List Operation) (points_before : List Point)
    → object.operations ≡ before ++ os → length before ≡ k → object.points ≡ points_before ++ qs → length points_before ≡ p → AreEarly k points_before → AreOperationsOf bs os → ArePoints d k p bs qs → BodiesAre object k p os qs
bodies_are object d spans k p [] [] qs before points_before e long f far early g h =
    record { operations = refl; points = ap (list_all (is_point object)) h.0; few = omega (arith, ap length h.0, h.1) }
bodies_are object d spans k p [] (o ∷ os) qs before points_before e long f far early g h = absurd g
bodies_are object d spans k p (b ∷ bs) [] qs before points_before e long f far early g h = absurd g
bodies_are object d spans k p (b ∷ bs) (o ∷ os) qs before points_before e long f far early g h =
    let own = h.0 in
    let others = h.1 in
    let c : BodyPoints d b k p qs own others = h.2 in
    let there : object.points ≡ points_before ++ (own ++ others) = f ∙ ap (λ rest. points_before ++ rest) c.split in
    let at : slice_get object.operations k ≡ Some o = ap (slice_get object.operations) (sym long) ∙ ap (λ all. slice_get all (length before)) e ∙ at_seam before os o in
    let label : (i j : ℕ) → i ≡ length points_before + j → j < length own → is_label object k i ≡ true = λ i j place below. label_at object d b k points_before own others i j there c.fit place below in
    let labels : (l : ℕ) → IsLabel (body_names d b) l → is_label object k l ≡ true = λ l is.
    let s = shifted_target b.first l (place_of b.labels is.0) is.1 in
    let below : s.0 < length b.labels = place_below b.labels is.0 s.0 s.1 in
    label l s.0 (omega (arith, s.2, c.first, far)) (omega (arith, below, c.counted)) in
    let entry : is_first object.points k o.entry ≡ true = entry_first object d b k points_before own others o.entry there c.fit (omega (arith, g.0.entry, c.first, far)) c.some early in
    let rest = bodies_are object d spans (k + 1) (p + length own) bs os others (before ++ o ∷ []) (points_before ++ own) (e ∙ sym (append_assoc before (o ∷ []) os))
    (omega (arith, long, length-append before (o ∷ []))) (there ∙ sym (append_assoc points_before own others)) (omega (arith, far, length-append points_before own)) (both_early d b k points_before own early c.fit) g.1 h.3 in
    let next : are_operations object (suc k) os ≡ true = subst (λ n. are_operations object n os ≡ true) (let same : k + 1 ≡ suc k = omega arith in same) rest.operations in
    record {
      operations = and_three (has_limits o) (is_first object.points k o.entry) (are_operations object (suc k) os) g.0.limits entry next;
      points = ap (list_all (is_point object)) c.split ∙ list_all-append (is_point object) own others ∙ and_from (list_all (is_point object) own) (list_all (is_point object) others)
          (points_are object d b k o spans at g.0 labels own c.fit) rest.points;
      few = omega (arith, ap length c.split, length-append own others, rest.few);
    }
