-- A specification that is read says of its operations what its object sees of them.
use Rattle.std.proofs.Common.{◌≡◌, ℕ, zero, suc, ◌+◌, ◌≤◌, ◌<◌, Bool, true, false, ◌&&◌, ◌||◌, ◌==◌, cond, List, [], ◌∷◌, ◌++◌, append_assoc, map, take, length, length-append, Option, Some, None, refl, sym, ap, ap₂, ◌∙◌, subst, arith}
use Rattle.std.specs.Prelude.{ℤ, pos, negsuc, codes, nat_lt, nat_le, slice_get}
use Rattle.std.specs.List.{list_any}
use Rattle.std.proofs.lemmas.Bool.{and_from, eq-eqb, leb-false, ltb-false, lt-ltb}
use Rattle.std.proofs.lemmas.List.{take-append-le, take_all}
use Rattle.lc_base.specs.Limits.{argument_limit, column_limit, operation_limit, reply_limit}
use Rattle.lc_base.specs.NameText.{is_name}
use Rattle.lc_sexp.specs.Numerals.{integer_of}
use Rattle.lc_sexp.specs.Parts.{fits, misshapen, beyond, form_fit, integer_fit, integer_within}
use Rattle.lc_sexp.specs.TreeCode.{tree_count}
use Rattle.lc_sexp.specs.Trees.{Tree, Trees, atom, list, none, ◌▸◌, item_count}
use Rattle.lc_reading.proofs.Holding.{Holds, holds_unit, mapped_holds, both_holds, three_holds, limited_holds, if_holds, holds_weaker, and_holds}
use Rattle.lc_reading.specs.Listed.{declared_by, names_among}
use Rattle.lc_reading.specs.Naming.{is_full, within, declaration_reading, name_reading}
use Rattle.lc_reading.specs.Readings.{Reading, fine, wrong}
use Rattle.lc_reading.specs.Reserved.{is_reserved}
use Rattle.lc_reading.specs.Rows.{first_name, second_name, declared_reading}
use Rattle.lc_reading.specs.Words.{is}
use Rattle.lc_reading.specs.declared.pass.Pass.TheVariants.{Shape, Repeated, Bound}
use Rattle.lc_text.specs.Terms.{pair, triple}
use Rattle.lc_object.specs.Syntax.{Point}
use Rattle.lc_object_text.proofs.Holding.{limited_below, Each, form_holds, each_form, parts_of_all, some_forms}
use Rattle.lc_object_text.proofs.SignatureHolds.{IsOperation, columns_behind}
use Rattle.lc_object_text.specs.ObjectNames.{Declared, first_text, items_within, within_first, later, count_of_fit, reply_count}
use Rattle.lc_object_text.specs.Objects.{operations_from}
use Rattle.lc_object_text.specs.Points.{BodyText}
use Rattle.lc_object_text.specs.Sections.{parts_of_fit, parts_in, some_forms_in}
use Rattle.lc_outline.specs.Resolved.{has_some, are_matched}
use Rattle.lc_seq.specs.Branches.{op_branches}
use Rattle.lc_seq.specs.Specification.{Column, Operation, Specification}
use Rattle.lc_spec_text.specs.Operations.{natural, few, count_reading, arguments_reading, signature_reading, variables_in, operation_parts_reading, the_operation, operation_reading, count_in}
use Rattle.lc_spec_text.specs.Scopes.{Columns, client}
use Rattle.lc_spec_text.specs.Specifications.{the_column, column_reading, columns_reading, columns_in, operations_reading, specification_parts_reading, the_specification, specification_reading}
use Rattle.lc_rider_text.specs.Counted.{Goes}
use Rattle.lc_outline_text.proofs.Going.{AreWaysOf, goes_so, ways_said}
use Rattle.lc_outline_text.specs.Declarations.{branches_in, ways_in}
use Rattle.lc_outline_text.specs.Developments.{signature_seen}
use Rattle.lc_spec_text.proofs.Named.{operation_names}
use Rattle.lc_spec_text.proofs.Resolved.{column_holds}
use Rattle.lc_spec_text.proofs.Ways.{declared_counted}

-- ---- what the specification says

-- each of a row, after the names that are declared before it
abbrev pub EachAfter : {X : Type 0} → (List (List ℕ) → Tree → X → Type 0) → (Tree → List (List ℕ)) → List (List ℕ) → Trees → List X → Type 0
EachAfter P declares before none [] = Unit {0}
EachAfter P declares before none (x ∷ xs) = ⊥
EachAfter P declares before (t ▸ ts) [] = ⊥
EachAfter P declares before (t ▸ ts) (x ∷ xs) = P before t x × EachAfter P declares (before ++ declares t) ts xs

each_declared : {X : Type 0} (P : List (List ℕ) → Tree → X → Type 0) (read : List (List ℕ) → ℕ → Tree → Reading X) (declares : Tree → List (List ℕ)) → ((before : List (List ℕ)) (n : ℕ) (t : Tree) → Holds (P before t) (read before n t))
    → (before : List (List ℕ)) (m : ℕ) (ts : Trees) → Holds (EachAfter P declares before ts) (declared_reading read declares before m ts)
each_declared P read declares h before m none = tt
each_declared P read declares h before m (t ▸ ts) =
    both_holds (P before t) (EachAfter P declares (before ++ declares t) ts) (EachAfter P declares before (t ▸ ts)) (λ x xs. x ∷ xs) (read before m t) _ (h before m t)
    (each_declared P read declares h (before ++ declares t) (m + item_count t) ts) (λ x xs p q. (p, q))

-- one name more, within the limit of all
abbrev DeclaresOne : ℕ → (Tree → List (List ℕ)) → List (List ℕ) → Tree → Type 0
DeclaresOne limit declares before t = (length before < limit) × (length (declares t) ≡ 1)

-- so all of a row are within it
row_few : {X : Type 0} (limit : ℕ) (read : List (List ℕ) → ℕ → Tree → Reading X) (declares : Tree → List (List ℕ)) → ((before : List (List ℕ)) (n : ℕ) (t : Tree) → Holds (λ x. DeclaresOne limit declares before t) (read before n t))
    → (before : List (List ℕ)) (m : ℕ) (ts : Trees) → Holds (λ xs. length before ≤ limit → length before + length xs ≤ limit) (declared_reading read declares before m ts)
row_few limit read declares h before m none = λ few. omega (arith, few)
row_few limit read declares h before m (t ▸ ts) =
    let after = before ++ declares t in
    both_holds (λ x. DeclaresOne limit declares before t) (λ xs. length after ≤ limit → length after + length xs ≤ limit) (λ xs. length before ≤ limit → length before + length xs ≤ limit) (λ x xs. x ∷ xs) (read before m t) _
    (h before m t) (row_few limit read declares h after (m + item_count t) ts)
    (λ x xs p q few. (let more = length-append before (declares t) in let all = q (omega (arith, more, p.0, p.1)) in omega (arith, more, p.1, all)))

full_below : (limit k n : ℕ) (r : Reading (Unit {0})) → Holds (λ u. k < limit) (cond (nat_le limit k) (wrong Bound n) r)
full_below limit k n r = by_test (nat_le limit k) refl where
  by_test : (b : Bool) → nat_le limit k ≡ b → Holds (λ u. k < limit) (cond b (wrong Bound n) r)
  by_test true e = tt
  by_test false e = holds_weaker (λ u. Unit {0}) (λ u. k < limit) r (λ u v. leb-false limit k e) (holds_unit r)

name_below : (limit : ℕ) (before : List (List ℕ)) (n : ℕ) (t : Tree) → Holds (λ w. DeclaresOne limit declared_by before t) (name_reading (Some limit) before n t)
name_below limit before n (list ts) = tt
name_below limit before n (atom w) =
    let below = λ (u : Unit {0}). length before < limit in
    mapped_holds below (λ v. DeclaresOne limit declared_by before (atom w)) (λ u. w) (declaration_reading (Some limit) before n (atom w))
    (if_holds below (is_name w) _ (wrong Shape n)
    (if_holds below (is_reserved w || list_any (is w) before) (wrong Repeated n) _ tt (full_below limit (length before) n (within n w tt))) tt)
    (λ u h. (h, refl))

arguments_few : (n : ℕ) (t : Tree) → Holds (λ ws. length ws ≤ argument_limit) (arguments_reading n t)
arguments_few n (atom w) = tt
arguments_few n (list ts) =
    let limit = 1 + argument_limit in
    let row = declared_reading (name_reading (Some limit)) declared_by client (n + 1) ts in
    holds_weaker (λ ws. length client ≤ limit → length client + length ws ≤ limit) (λ ws. length ws ≤ argument_limit) row (λ ws h. let all = h (omega arith) in omega (arith, all))
    (row_few limit (name_reading (Some limit)) declared_by (name_below limit) client (n + 1) ts)

-- as many names as are declared
names_read : (before : List (List ℕ)) (m : ℕ) (ts : Trees) → Holds (λ ws. length ws ≡ length (names_among ts)) (declared_reading (name_reading (Some (1 + argument_limit))) declared_by before m ts)
names_read before m none = refl
names_read before m (list us ▸ ts) =
    both_holds (λ w. ⊥) (λ ws. Unit {0}) (λ ws. length ws ≡ length (names_among (list us ▸ ts))) (λ x xs. x ∷ xs) (name_reading (Some (1 + argument_limit)) before m (list us)) _ tt
    (holds_unit (declared_reading (name_reading (Some (1 + argument_limit))) declared_by (before ++ []) (m + item_count (list us)) ts)) (λ w ws h g. absurd h)
names_read before m (atom w ▸ ts) =
    both_holds (λ w. Unit {0}) (λ ws. length ws ≡ length (names_among ts)) (λ ws. length ws ≡ length (names_among (atom w ▸ ts))) (λ x xs. x ∷ xs) (name_reading (Some (1 + argument_limit)) before m (atom w)) _
    (holds_unit (name_reading (Some (1 + argument_limit)) before m (atom w))) (names_read (before ++ declared_by (atom w)) (m + item_count (atom w)) ts) (λ w ws h g. ap suc g)

arguments_read : (n : ℕ) (t : Tree) → Holds (λ ws. length ws ≡ length (names_among (items_within t))) (arguments_reading n t)
arguments_read n (atom w) = tt
arguments_read n (list ts) = names_read client (n + 1) ts

-- a number of replies within its limit is the one that code sees
count_fits : (k : ℕ) → k ≤ reply_limit → count_of_fit (integer_within (Some (pos k))) ≡ Some k
count_fits k few = ap (λ b. count_of_fit (cond b (fits (pos k)) beyond)) (lt-ltb k 9223372036854775808 (omega (arith, few)))

few_is : (n : ℕ) (o : Option ℤ) → Holds (λ k. (count_of_fit (integer_within o) ≡ Some k) × (k ≤ reply_limit)) (few n (natural o))
few_is n None = tt
few_is n (Some (negsuc k)) = tt
few_is n (Some (pos k)) = by_test (nat_lt reply_limit k) refl where
  by_test : (b : Bool) → nat_lt reply_limit k ≡ b → Holds (λ j. (count_of_fit (integer_within (Some (pos k))) ≡ Some j) × (j ≤ reply_limit)) (cond b (wrong Bound n) (fine k))
  by_test true e = tt
  by_test false e = let most = ltb-false reply_limit k e in (count_fits k most, most)

replies_read : (n : ℕ) (t : Tree) → Holds (λ k. (count_of_fit (integer_fit t) ≡ Some k) × (k ≤ reply_limit)) (count_reading n t)
replies_read n (atom w) = few_is n (integer_of w)
replies_read n (list ts) = tt

-- the arguments, replies and ways of an operation, NAME (ARG ..) REPLIES, then BRANCH .. or CHOICE ..
pub record IsSaid (us : Trees) (q : Operation) : Type 0 where
  pub arguments : length q.arguments ≡ length (names_among (within_first (later us)))
  pub few : length q.arguments ≤ argument_limit
  pub replies : reply_count (later (later us)) ≡ Some q.replies
  pub at_most : q.replies ≤ reply_limit
  pub ways : AreWaysOf (branches_in us) q.branches

abbrev AreArguments : Tree → List (List ℕ) → Type 0
AreArguments u ws = (length ws ≡ length (names_among (items_within u))) × (length ws ≤ argument_limit)

abbrev AreReplies : Tree → ℕ → Type 0
AreReplies v k = (count_of_fit (integer_fit v) ≡ Some k) × (k ≤ reply_limit)

abbrev IsHead : Tree → Tree → (List ℕ × List (List ℕ)) × ℕ → Type 0
IsHead u v p = AreArguments u p.0.1 × AreReplies v p.1

operation_parts_said : (columns : Columns) (before : List (List ℕ)) (n m : ℕ) (us : Trees) → Holds (λ p. IsSaid us (the_operation p)) (operation_parts_reading columns before n m us)
operation_parts_said columns before n m none = tt
operation_parts_said columns before n m (t ▸ none) = tt
operation_parts_said columns before n m (t ▸ u ▸ none) = tt
operation_parts_said columns before n m (t ▸ u ▸ v ▸ none) = tt
operation_parts_said columns before n m (t ▸ u ▸ v ▸ b ▸ bs) =
    let k = m + item_count t in
    both_holds (IsHead u v) (AreWaysOf (b ▸ bs)) (λ p. IsSaid (t ▸ u ▸ v ▸ b ▸ bs) (the_operation p)) pair (signature_reading before m t u v) _
    (three_holds (λ w. Unit {0}) (AreArguments u) (AreReplies v) (IsHead u v) triple (name_reading None before m t) (arguments_reading k u) (count_reading (k + item_count u) v)
    (holds_unit (name_reading None before m t)) (and_holds _ _ (arguments_reading k u) (arguments_read k u) (arguments_few k u)) (replies_read (k + item_count u) v) (λ w ws j a h g. (h, g)))
    (ways_said columns (variables_in u) (count_in v) (k + item_count u + item_count v) b bs)
    (λ p xs h g. record { arguments = h.0.0; few = h.0.1; replies = h.1.0; at_most = h.1.1; ways = g })

abbrev pub IsOperationSaid : ℕ → Tree → Operation → Type 0
IsOperationSaid i t q = (form_fit (codes "op") t ≡ fits (parts_in (codes "op") t)) × IsSaid (parts_in (codes "op") t) q

operation_said : (columns : Columns) (before : List (List ℕ)) (n : ℕ) (t : Tree) → Holds (IsOperationSaid 0 t) (operation_reading columns before n t)
operation_said columns before n t =
    limited_holds (IsOperationSaid 0 t) (is_full (Some operation_limit) (length before)) n _
    (mapped_holds _ (IsOperationSaid 0 t) the_operation _ (form_holds (λ us p. IsSaid us (the_operation p)) (codes "op") (operation_parts_reading columns before) n t (operation_parts_said columns before)) (λ p h. h))

-- an operation after these
pub record IsOperationRead (before : List (List ℕ)) (t : Tree) (q : Operation) : Type 0 where
  pub said : IsOperationSaid 0 t q
  pub below : length before < operation_limit
  pub new : list_any (is q.name) before ≡ false
  pub name : second_name t ≡ q.name ∷ []

operation_read : (columns : Columns) (before : List (List ℕ)) (n : ℕ) (t : Tree) → Holds (IsOperationRead before t) (operation_reading columns before n t)
operation_read columns before n t =
    let r = operation_reading columns before n t in
    let named = λ (q : Operation). (list_any (is q.name) before ≡ false) × (second_name t ≡ q.name ∷ []) in
    let rest = λ (q : Operation). (length before < operation_limit) × named q in
    holds_weaker (λ q. IsOperationSaid 0 t q × rest q) (IsOperationRead before t) r (λ q h. record { said = h.0; below = h.1.0; new = h.1.1.0; name = h.1.1.1 })
    (and_holds (IsOperationSaid 0 t) rest r (operation_said columns before n t)
    (and_holds (λ q. length before < operation_limit) named r (limited_below operation_limit (length before) n _) (operation_names columns before n t)))

pub operations_are_said : (before : List (List ℕ)) (i : ℕ) (ts : Trees) (qs : List Operation) → EachAfter IsOperationRead second_name before ts qs → Each IsOperationSaid i ts qs
operations_are_said before i none [] h = tt
operations_are_said before i none (q ∷ qs) h = absurd h
operations_are_said before i (t ▸ ts) [] h = absurd h
operations_are_said before i (t ▸ ts) (q ∷ qs) h = (h.0.said, operations_are_said (before ++ second_name t) (i + 1) ts qs h.1)

-- NAME (abstract COL ..) OP ..
pub record IsSpecificationSaid (us : Trees) (q : Specification) : Type 0 where
  pub columns : length q.columns ≡ columns_behind (later us)
  pub few : length q.columns ≤ column_limit
  pub some : 1 ≤ tree_count (later (later us))
  pub operations : EachAfter IsOperationRead second_name [] (later (later us)) q.operations

columns_said : (n : ℕ) (t : Tree) → Holds (λ cs. (length cs ≡ tree_count (parts_in (codes "abstract") t)) × (length cs ≤ column_limit)) (columns_reading n t)
columns_said n t =
    let P = λ (ts : Trees) (cs : List Column). (length cs ≡ tree_count ts) × (length cs ≤ column_limit) in
    holds_weaker _ (P (parts_in (codes "abstract") t)) (columns_reading n t) (λ cs h. h.1)
    (form_holds P (codes "abstract") (λ n. declared_reading column_reading first_name []) n t
    (λ n m ts. and_holds (λ cs. length cs ≡ tree_count ts) (λ cs. length cs ≤ column_limit) _ (declared_counted column_reading first_name [] m ts)
    (holds_weaker (λ cs. 0 ≤ column_limit → 0 + length cs ≤ column_limit) (λ cs. length cs ≤ column_limit) _ (λ cs h. let all = h (omega arith) in omega (arith, all))
    (row_few column_limit column_reading first_name one_column [] m ts)))) where
      one_column : (before : List (List ℕ)) (n : ℕ) (t : Tree) → Holds (λ c. DeclaresOne column_limit first_name before t) (column_reading before n t)
      one_column before n t =
          and_holds (λ c. length before < column_limit) (λ c. length (first_name t) ≡ 1) (column_reading before n t)
          (mapped_holds (λ p. length before < column_limit) (λ c. length before < column_limit) the_column _ (limited_below column_limit (length before) n _) (λ p h. h)) (column_holds before n t)

specification_parts_said : (others : List (List ℕ)) (n m : ℕ) (us : Trees) → Holds (λ p. IsSpecificationSaid us (the_specification p)) (specification_parts_reading others n m us)
specification_parts_said others n m none = tt
specification_parts_said others n m (t ▸ none) = tt
specification_parts_said others n m (t ▸ u ▸ none) = tt
specification_parts_said others n m (t ▸ u ▸ o ▸ os) =
    let columns : Columns = record { own = columns_in u; others = others } in
    let k = m + item_count t in
    three_holds (λ w. Unit {0}) (λ cs. (length cs ≡ tree_count (parts_in (codes "abstract") u)) × (length cs ≤ column_limit)) (EachAfter IsOperationRead second_name [] (o ▸ os))
    (λ p. IsSpecificationSaid (t ▸ u ▸ o ▸ os) (the_specification p)) triple
    (name_reading None [] m t) (columns_reading k u) (operations_reading columns (k + item_count u) (o ▸ os))
    (holds_unit (name_reading None [] m t)) (columns_said k u) (each_declared IsOperationRead (operation_reading columns) second_name (operation_read columns) [] (k + item_count u) (o ▸ os))
    (λ w cs qs a h g. record { columns = h.0; few = h.1; some = omega arith; operations = g })

pub specification_said : (others : List (List ℕ)) (n : ℕ) (t : Tree) → Holds (λ q. (form_fit (codes "spec") t ≡ fits (parts_in (codes "spec") t)) × IsSpecificationSaid (parts_in (codes "spec") t) q) (specification_reading others n t)
specification_said others n t =
    mapped_holds _ (λ q. (form_fit (codes "spec") t ≡ fits (parts_in (codes "spec") t)) × IsSpecificationSaid (parts_in (codes "spec") t) q) the_specification _
    (form_holds (λ us p. IsSpecificationSaid us (the_specification p)) (codes "spec") (specification_parts_reading others) n t (specification_parts_said others)) (λ p h. h)

-- ---- as its object sees it

parts_there : (b : Bool) (ts : Trees) → cond b (fits ts) misshapen ≡ fits (parts_of_fit (cond b (fits ts) misshapen)) → parts_of_fit (cond b (fits ts) misshapen) ≡ ts
parts_there true ts fit = refl
parts_there false ts fit = absurd (cc)

-- the name of an operation
named_first : (t : Tree) (v : List ℕ) → form_fit (codes "op") t ≡ fits (parts_in (codes "op") t) → second_name t ≡ v ∷ [] → first_text (parts_in (codes "op") t) ≡ v
named_first (atom w) v fit named = absurd (cc)
named_first (list none) v fit named = absurd (cc)
named_first (list (x ▸ none)) v fit named = absurd (cc)
named_first (list (list us ▸ t ▸ ts)) v fit named = absurd (cc)
named_first (list (atom w ▸ list us ▸ ts)) v fit named = absurd (cc)
named_first (list (atom w ▸ atom x ▸ ts)) v fit named =
    let same : x ≡ v = cc in
    ap first_text (parts_there (is w (codes "op")) (atom x ▸ ts) fit) ∙ same

pub names_taken : (before others : List (List ℕ)) (i : ℕ) → length before ≡ i → take i (before ++ others) ≡ before
names_taken before others i count = take-append-le i before others (omega (arith, count)) ∙ take_all i before (omega (arith, count))

-- operations after these, where all are declared
pub operations_seen : (d : Declared) (before : List (List ℕ)) (i : ℕ) (ts : Trees) (qs : List Operation) → length before ≡ i → d.operations ≡ before ++ map first_text (parts_of_all (codes "op") ts)
    → EachAfter IsOperationRead second_name before ts qs → Each (IsOperation d) i ts (map signature_seen qs)
operations_seen d before i none [] count all h = tt
operations_seen d before i none (q ∷ qs) count all h = absurd h
operations_seen d before i (t ▸ ts) [] count all h = absurd h
operations_seen d before i (t ▸ ts) (q ∷ qs) count all h =
    let us = parts_in (codes "op") t in
    let rest = map first_text (parts_of_all (codes "op") ts) in
    let x : IsOperationRead before t q = h.0 in
    let first : first_text us ≡ q.name = named_first t q.name x.said.0 x.name in
    let taken : take i d.operations ≡ before = ap (take i) all ∙ names_taken before (first_text us ∷ rest) i count in
    let one : second_name t ≡ first_text us ∷ [] = x.name ∙ ap (λ w. w ∷ []) (sym first) in
    let more = ap length one in (
      (
        x.said.0,
        record {
          below = subst (λ k. k < operation_limit) count x.below;
          new = ap₂ (λ w ws. list_any (is w) ws) first taken ∙ x.new;
          arguments = x.said.1.arguments;
          few = x.said.1.few;
          replies = x.said.1.replies;
          at_most = x.said.1.at_most;
        },
      ),
      operations_seen d (before ++ second_name t) (i + 1) ts qs (omega (arith, length-append before (second_name t), more, count))
          (all ∙ sym (append_assoc before (first_text us ∷ []) rest) ∙ ap (λ ws. (before ++ ws) ++ rest) (sym one)) h.1,
    )

-- each has a branch
abbrev pub AllBranch : List Operation → Type 0
AllBranch [] = Unit {0}
AllBranch (q ∷ qs) = (has_some q.branches ≡ true) × AllBranch qs

pub all_branch : (i : ℕ) (ts : Trees) (qs : List Operation) → Each IsOperationSaid i ts qs → AllBranch qs
all_branch i none [] h = tt
all_branch i none (q ∷ qs) h = absurd h
all_branch i (t ▸ ts) [] h = absurd h
all_branch i (t ▸ ts) (q ∷ qs) h = (h.0.1.ways.some, all_branch (i + 1) ts qs h.1)

pub operations_are_matched : (e : ℕ) (bs : List (BodyText Point)) (qs : List Operation) → length qs ≤ length bs → AllBranch qs → are_matched (operations_from e (map signature_seen qs) bs) qs ≡ true
operations_are_matched e bs [] room h = refl
operations_are_matched e [] (q ∷ qs) room h = absurd (omega (arith, room))
operations_are_matched e (b ∷ bs) (q ∷ qs) room h =
    and_from _ (are_matched (operations_from (e + length b.points) (map signature_seen qs) bs) qs)
    (and_from (length q.arguments == length q.arguments) ((q.replies == q.replies) && has_some q.branches) (eq-eqb (length q.arguments) (length q.arguments) refl)
    (and_from (q.replies == q.replies) (has_some q.branches) (eq-eqb q.replies q.replies refl) h.0))
    (operations_are_matched (e + length b.points) bs qs (omega (arith, room)) h.1)

pub has_some_branches : (qs : List Operation) (k : ℕ) → AllBranch qs → k < length qs → has_some (op_branches qs k) ≡ true
has_some_branches [] k h room = absurd (omega (arith, room))
has_some_branches (q ∷ qs) zero h room = h.0
has_some_branches (q ∷ qs) (suc k) h room = has_some_branches qs k h.1 (omega (arith, room))

-- ---- how operations go

-- each of these goes as its text says
abbrev pub AllGo : List Trees → List Operation → Type 0
AllGo [] [] = Unit {0}
AllGo [] (q ∷ qs) = ⊥
AllGo (f ∷ fs) [] = ⊥
AllGo (f ∷ fs) (q ∷ qs) = AreWaysOf (branches_in f) q.branches × AllGo fs qs

each_goes : (i : ℕ) (ts : Trees) (qs : List Operation) → Each IsOperationSaid i ts qs → AllGo (parts_of_all (codes "op") ts) qs
each_goes i none [] h = tt
each_goes i none (q ∷ qs) h = absurd h
each_goes i (t ▸ ts) [] h = absurd h
each_goes i (t ▸ ts) (q ∷ qs) h = (h.0.1.ways, each_goes (i + 1) ts qs h.1)

pub all_go : (ts : Trees) (qs : List Operation) → Each IsOperationSaid 0 ts qs → AllGo (some_forms_in (codes "op") ts) qs
all_go ts qs h =
    let forms = each_form IsOperationSaid (codes "op") (λ i t q p. p.0) 0 ts qs h in
    subst (λ fs. AllGo fs qs) (sym (some_forms (codes "op") ts forms)) (each_goes 0 ts qs h)

-- there are as many
pub go_counted : (fs : List Trees) (qs : List Operation) → AllGo fs qs → length qs ≡ length fs
go_counted [] [] h = refl
go_counted [] (q ∷ qs) h = absurd h
go_counted (f ∷ fs) [] h = absurd h
go_counted (f ∷ fs) (q ∷ qs) h = ap suc (go_counted fs qs h.1)

pub goes_at : (fs : List Trees) (qs : List Operation) (k : ℕ) → AllGo fs qs → k < length fs → Goes (slice_get (map ways_in fs) k) (op_branches qs k)
goes_at [] qs k h few = absurd (omega (arith, few))
goes_at (f ∷ fs) [] k h few = absurd h
goes_at (f ∷ fs) (q ∷ qs) zero h few = (ways_in f, refl, goes_so (branches_in f) q.branches h.0)
goes_at (f ∷ fs) (q ∷ qs) (suc k) h few = goes_at fs qs k h.1 (omega (arith, few))
