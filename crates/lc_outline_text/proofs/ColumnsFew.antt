-- There are few columns and few actions in a development that is read.
use Rattle.std.proofs.Common.{◌≡◌, ℕ, suc, ◌+◌, ◌≤◌, ◌<◌, Bool, true, false, cond, List, [], ◌∷◌, length, length-append, ap, ◌∙◌, subst, arith}
use Rattle.std.specs.Prelude.{codes, slice_get, nat_le}
use Rattle.lc_base.specs.Limits.{action_limit, column_limit, width_limit}
use Rattle.lc_sexp.specs.Parts.{fits, misshapen}
use Rattle.lc_sexp.specs.TreeCode.{tree_count}
use Rattle.lc_sexp.specs.Trees.{Tree, Trees, atom, list, none, ◌▸◌, item_count}
use Rattle.lc_reading.proofs.Holding.{Holds, holds_unit, holds_weaker, both_holds, behind_holds, limited_holds}
use Rattle.lc_reading.specs.Readings.{Reading, fine, wrong, limited, both, listed_reading}
use Rattle.lc_reading.specs.Words.{is}
use Rattle.lc_reading.specs.declared.pass.Pass.TheVariants.{Shape}
use Rattle.lc_text.specs.Terms.{numbers_reading}
use Rattle.lc_action.specs.Action.{Action}
use Rattle.lc_object.specs.Syntax as C
use Rattle.lc_object_text.proofs.Holding.{limited_below, Each, placed_holds, each_counted}
use Rattle.lc_object_text.specs.Declaring.{kth_name_reading}
use Rattle.lc_object_text.specs.ObjectNames.{Span, Declared, later, spans_from}
use Rattle.lc_object_text.specs.Objects.{own_name_reading, column_of, column_reading, ArrayText, array_of, first_column, columns_reading, array_parts, array_reading, concretes_of, first_reading}
use Rattle.lc_object_text.specs.Rows.{cons, placed_reading, lists_reading}
use Rattle.lc_object_text.specs.Sections.{before_others, forms_in}
use Rattle.lc_rider_text.specs.Actions.{headed_action_reading, action_reading}
use Rattle.lc_rider_text.specs.Columns as R
use Rattle.lc_rider_text.specs.Known.{Known}
use Rattle.lc_seq.specs.Specification.{Column}
use Rattle.lc_outline_text.specs.Declarations.{Declarations}
use Rattle.lc_outline_text.specs.Sides.{auxiliaries_reading}

-- items in a row, each read within the limit, after `base` + i others
each_within : {X : Type 0} (P : ℕ → Tree → X → Type 0) (limit base : ℕ) → ((i : ℕ) (t : Tree) (x : X) → P i t x → base + i < limit) → (i : ℕ) (ts : Trees) (xs : List X) → base + i ≤ limit → Each P i ts xs
    → base + i + length xs ≤ limit
each_within P limit base f i none [] few h = omega (arith, few)
each_within P limit base f i none (x ∷ xs) few h = absurd h
each_within P limit base f i (t ▸ ts) [] few h = absurd h
each_within P limit base f i (t ▸ ts) (x ∷ xs) few h =
    let below : base + i < limit = f i t x h.0 in
    let rest = each_within P limit base f (i + 1) ts xs (omega (arith, below)) h.1 in
    omega (arith, rest)

-- ---- columns of arrays

abbrev IsColumn : ℕ → ℕ → Tree → C.Column → Type 0
IsColumn base i t column = base + i < column_limit

own_name_few : (names : List (List ℕ)) (base i n m : ℕ) (t : Tree) → Holds (λ w. base + i < column_limit) (own_name_reading names base i n m t)
own_name_few names base i n m t =
    limited_holds (λ w. base + i < column_limit) (nat_le width_limit i) n (limited (nat_le column_limit (base + i)) n (kth_name_reading names (base + i) m t)) (limited_below column_limit (base + i) n (kth_name_reading names (base + i) m t))

column_few : (names : List (List ℕ)) (base i n : ℕ) (t : Tree) → Holds (IsColumn base i t) (column_reading names base i n t)
column_few names base i n (atom w) = tt
column_few names base i n (list none) = tt
column_few names base i n (list (t ▸ ts)) =
    both_holds (λ w. base + i < column_limit) (λ z. Unit {0}) (λ column. base + i < column_limit) column_of (own_name_reading names base i n (n + 1) t) (numbers_reading n (n + 1 + item_count t) ts)
    (own_name_few names base i n (n + 1) t) (holds_unit (numbers_reading n (n + 1 + item_count t) ts)) (λ w z h u. h)

-- as many columns as the text has, which are within the limit after `base` others
abbrev AreWithin : ℕ → Trees → List C.Column → Type 0
AreWithin base ts columns = (length columns ≡ tree_count ts) × (base ≤ column_limit → base + length columns ≤ column_limit)

columns_few : (d : Declared) (i n m : ℕ) (ts : Trees) → Holds (AreWithin (first_column (slice_get d.spans i)) ts) (columns_reading d i n m ts)
columns_few d i n m none = tt
columns_few d i n m (t ▸ ts) =
    let base = first_column (slice_get d.spans i) in
    let P = IsColumn base in
    holds_weaker (Each P 0 (t ▸ ts)) (AreWithin base (t ▸ ts)) (columns_reading d i n m (t ▸ ts))
    (λ columns h. (each_counted P 0 (t ▸ ts) columns h, λ few. (let all = each_within P column_limit base (λ i t x below. below) 0 (t ▸ ts) columns (omega (arith, few)) h in omega (arith, all))))
    (placed_holds P (column_reading d.columns base) (column_few d.columns base) 0 m (t ▸ ts))

abbrev IsArrayWithin : ℕ → Trees → ArrayText → Type 0
IsArrayWithin base us a = AreWithin base (later us) a.columns

array_few : (d : Declared) (i n m : ℕ) (us : Trees) → Holds (IsArrayWithin (first_column (slice_get d.spans i)) us) (array_parts d i n m us)
array_few d i n m none = tt
array_few d i n m (t ▸ ts) =
    let base = first_column (slice_get d.spans i) in
    both_holds (λ w. Unit {0}) (AreWithin base ts) (IsArrayWithin base (t ▸ ts)) array_of (kth_name_reading d.arrays i m t) (columns_reading d i n (m + item_count t) ts)
    (holds_unit (kth_name_reading d.arrays i m t)) (columns_few d i n (m + item_count t) ts) (λ w columns u h. h)

-- the columns of all arrays, the first one beginning here
abbrev pub HaveFew : ℕ → List ArrayText → Type 0
HaveFew k arrays = k ≤ column_limit → k + length (concretes_of arrays) ≤ column_limit

-- these are the spans from the i-th on
abbrev pub AreSpans : Declared → ℕ → List Span → Type 0
AreSpans d i spans = (j : ℕ) → slice_get d.spans (i + j) ≡ slice_get spans j

none_few : (k : ℕ) → HaveFew k []
none_few k few = omega (arith, few)

pub arrays_few : (d : Declared) (k i m : ℕ) (ts : Trees) → AreSpans d i (spans_from k (forms_in (codes "array") ts)) → Holds (HaveFew k) (lists_reading (codes "array") (array_reading d) i m ts)
arrays_few d k i m none spans = none_few k
arrays_few d k i m (atom w ▸ ts) spans = none_few k
arrays_few d k i m (list none ▸ ts) spans = none_few k
arrays_few d k i m (list (list us ▸ vs) ▸ ts) spans = none_few k
arrays_few d k i m (list (atom w ▸ us) ▸ ts) spans =
    let n = m + item_count (list (atom w ▸ us)) in
    by_test (is w (codes "array")) spans (lists_reading (codes "array") (array_reading d) (i + 1) n ts) (λ next behind. arrays_few d next (i + 1) n ts behind) where
      by_test : (b : Bool) → AreSpans d i (spans_from k (before_others (cond b (fits us) misshapen) (forms_in (codes "array") ts))) → (rest : Reading (List ArrayText))
          → ((next : ℕ) → AreSpans d (i + 1) (spans_from next (forms_in (codes "array") ts)) → Holds (HaveFew next) rest)
          → Holds (HaveFew k) (cond b (both cons (cond b (array_parts d i m (m + 2) us) (wrong Shape m)) rest) (fine []))
      by_test true spans rest others =
          let next = k + tree_count (later us) in
          let first : first_column (slice_get d.spans i) ≡ k = ap (λ j. first_column (slice_get d.spans j)) (omega arith) ∙ ap first_column (spans 0) in
          let behind : AreSpans d (i + 1) (spans_from next (forms_in (codes "array") ts)) = λ j. ap (slice_get d.spans) (omega arith) ∙ spans (suc j) in
          both_holds (IsArrayWithin k us) (HaveFew next) (HaveFew k) cons (array_parts d i m (m + 2) us) rest
          (subst (λ base. Holds (IsArrayWithin base us) (array_parts d i m (m + 2) us)) first (array_few d i m (m + 2) us)) (others next behind)
          (λ a arrays h g few.
          let here = h.1 few in
          let all = g (omega (arith, here, h.0)) in
          omega (arith, all, h.0, length-append a.columns (concretes_of arrays)))
      by_test false spans rest others = none_few k

-- ---- auxiliary columns

abbrev IsAuxiliary : ℕ → ℕ → Tree → Column → Type 0
IsAuxiliary base i t column = base + i < column_limit

abbrev pub AreFewBehind : ℕ → List Column → Type 0
AreFewBehind base columns = base ≤ column_limit → base + length columns ≤ column_limit

section_within : (d : Declarations) (n : ℕ) (t : Tree) → Holds (AreFewBehind d.declared.auxiliaries) (auxiliaries_reading d n t)
section_within d n t =
    let base = d.declared.auxiliaries in
    let P = IsAuxiliary base in
    let read = R.column_reading d.declared.columns base in
    behind_holds (AreFewBehind base) (codes "aux") (λ n. placed_reading read 0) n t
    (λ n m ts. holds_weaker (Each P 0 ts) (AreFewBehind base) (placed_reading read 0 m ts)
    (λ columns h few. let all = each_within P column_limit base (λ i t x below. below) 0 ts columns (omega (arith, few)) h in omega (arith, all))
    (placed_holds P read (λ i n t. limited_below column_limit (base + i) n (listed_reading (R.column_parts_reading d.declared.columns (base + i)) n t)) 0 m ts))

pub auxiliaries_few : (d : Declarations) (n m : ℕ) (ts : Trees) → Holds (AreFewBehind d.declared.auxiliaries) (first_reading (auxiliaries_reading d) n m ts)
auxiliaries_few d n m none = tt
auxiliaries_few d n m (t ▸ ts) = section_within d m t

-- ---- actions

abbrev pub AreFewFrom : ℕ → List Action → Type 0
AreFewFrom i actions = i ≤ action_limit → i + length actions ≤ action_limit

no_action : (i : ℕ) → AreFewFrom i []
no_action i few = omega (arith, few)

pub actions_few : (known : Known) (i m : ℕ) (ts : Trees) → Holds (AreFewFrom i) (lists_reading (codes "action") (action_reading known) i m ts)
actions_few known i m none = no_action i
actions_few known i m (atom w ▸ ts) = no_action i
actions_few known i m (list none ▸ ts) = no_action i
actions_few known i m (list (list us ▸ vs) ▸ ts) = no_action i
actions_few known i m (list (atom w ▸ us) ▸ ts) =
    by_test (is w (codes "action")) (action_reading known i m (list (atom w ▸ us))) (lists_reading (codes "action") (action_reading known) (i + 1) (m + item_count (list (atom w ▸ us))) ts)
    (limited_below action_limit i m (headed_action_reading known i m (list (atom w ▸ us)))) (actions_few known (i + 1) (m + item_count (list (atom w ▸ us))) ts) where
      by_test : (b : Bool) (r : Reading Action) (rest : Reading (List Action)) → Holds (λ a. i < action_limit) r → Holds (AreFewFrom (i + 1)) rest → Holds (AreFewFrom i) (cond b (both cons r rest) (fine []))
      by_test true r rest h g =
          both_holds (λ a. i < action_limit) (AreFewFrom (i + 1)) (AreFewFrom i) cons r rest h g (λ a actions below f few. let all = f (omega (arith, below)) in omega (arith, all))
      by_test false r rest h g = no_action i
