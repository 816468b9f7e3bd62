-- What an instruction that is read names is declared.
use Rattle.std.proofs.Common.{◌≡◌, ℕ, suc, ◌+◌, ◌≤◌, ◌<◌, Bool, true, false, ◌||◌, List, [], ◌∷◌, ◌++◌, length, map, Option, Some, None, refl, sym, ap, ◌∙◌, subst, arith}
use Rattle.std.proofs.lemmas.Bool.{true≢false, or_parts, and_from, or_right, eqb-true}
use Rattle.std.proofs.lemmas.Bool.Decides.{nat_tests}
use Rattle.std.proofs.lemmas.List.Folds.{list_any-append}
use Rattle.std.specs.Prelude.{nat_lt, nat_le, not, ◌==◌, codes, option_map}
use Rattle.std.specs.List.{list_all, list_any}
use Rattle.lc_base.specs.NameText.{is_name}
use Rattle.lc_sexp.specs.TreeCode.{tree_count}
use Rattle.lc_sexp.specs.Trees.{Tree, Trees, atom, list, none, ◌▸◌, item_count}
use Rattle.lc_term.specs.Syntax.{Term, Column, Formula, Formulas}
use Rattle.lc_text.proofs.ReadHolds.{Kept, term_holds, formula_holds}
use Rattle.lc_text.specs.Formulas.{formula_reading}
use Rattle.lc_text.specs.Names.{Names}
use Rattle.lc_text.specs.Terms.{pair, term_reading}
use Rattle.lc_reading.proofs.Holding.{Holds, holds_weaker, and_holds, both_holds, ended_holds, if_holds}
use Rattle.lc_reading.specs.Listed.{declared_by}
use Rattle.lc_reading.specs.Naming.{known}
use Rattle.lc_reading.specs.Readings.{Reading, fine, wrong}
use Rattle.lc_reading.specs.Rows.{each_reading, declared_reading, first_name}
use Rattle.lc_reading.specs.Words.{is, is_long}
use Rattle.lc_reading.specs.declared.pass.Pass.TheVariants.{Shape, Bound}
use Rattle.lc_object.specs.Syntax.{Instr, Load, Store, Cas, Set, Faa, If, Return}
use Rattle.lc_object.specs.WellFormed.{is_code_term, are_code_terms, is_code_formula, are_code_formulas, are_distinct}
use Rattle.lc_object_text.proofs.Distinct.{is_between}
use Rattle.lc_object_text.proofs.Holding.{Counted, counted_holds, row_holds, behind_holds}
use Rattle.lc_object_text.specs.Cells.{array_reading, label_reading, row_width, written, target_reading, targets_reading, values_reading, assignment_reading, assignments_reading}
use Rattle.lc_object_text.specs.CodeNames.{CodeNames}
use Rattle.lc_object_text.specs.Counts.{count_reading}
use Rattle.lc_object_text.specs.Heads.{head_of, own_parts}
use Rattle.lc_object_text.specs.Instructions.{place_reading, labels_reading, load_of, load_reading, store_of, store_reading, cas_of, cas_reading, set_of, set_reading, faa_of, faa_reading, if_of, if_reading, own_reading, code_reading, return_of, return_reading, instruction_reading}
use Rattle.lc_object_text.specs.declared.words.Head.{Head}
use Rattle.lc_object_text.specs.declared.words.Head.TheVariants as H
use Rattle.lc_text.proofs.Printed.{same_refl}

-- terms and formulas over `count` variables
abbrev pub IsTerm : ℕ → Term → Type 0
IsTerm count t = is_code_term count t ≡ true

abbrev pub AreTerms : ℕ → List Term → Type 0
AreTerms count ts = are_code_terms count ts ≡ true

abbrev pub IsFormula : ℕ → Formula → Type 0
IsFormula count f = is_code_formula count f ≡ true

abbrev pub AreFormulas : ℕ → Formulas → Type 0
AreFormulas count fs = are_code_formulas count fs ≡ true

abbrev pub NoColumn : Column → Type 0
NoColumn c = ⊥

-- The names of code: its variables are below a count, and no two names are of one target, which are not below `low`
pub record Scope (names : Names) (code : CodeNames) (low count : ℕ) : Type 0 where
  pub terms : Kept names (IsTerm count) NoColumn (IsFormula count) (AreFormulas count)
  pub targets : (w : List ℕ) (r : ℕ) → code.target w ≡ Some r → (low ≤ r) × (r < count)
  pub one : (v w : List ℕ) (r : ℕ) → code.target v ≡ Some r → code.target w ≡ Some r → v ≡ w

-- an array of this number and width is declared
abbrev pub IsRow : CodeNames → ℕ → ℕ → Type 0
IsRow code a width = (w : List ℕ) × (code.array w ≡ Some (a, width))

-- and a point of this number
abbrev pub IsLabel : CodeNames → ℕ → Type 0
IsLabel code l = (w : List ℕ) × (code.label w ≡ Some l)

-- targets from `low` on, below the count, and each once
abbrev pub AreTargets : ℕ → ℕ → List ℕ → Type 0
AreTargets low count rs = (list_all (is_between low count) rs ≡ true) × (are_distinct rs ≡ true)

-- what an instruction names is declared
abbrev pub Fits : CodeNames → ℕ → ℕ → Instr → Type 0
Fits code low count (Load a t rs l) = IsRow code a (length rs) × IsTerm count t × AreTargets low count rs × IsLabel code l
Fits code low count (Store a t vs l) = IsRow code a (length vs) × IsTerm count t × AreTerms count vs × IsLabel code l
Fits code low count (Cas a t old new l m) =
    (IsRow code a (length old) × IsRow code a (length new)) × IsTerm count t × (AreTerms count old × AreTerms count new) × (IsLabel code l × IsLabel code m)
Fits code low count (Set rs vs l) = (length vs ≡ length rs) × AreTargets low count rs × AreTerms count vs × IsLabel code l
Fits code low count (Faa a t rs ds l) = (IsRow code a (length rs) × IsRow code a (length ds)) × IsTerm count t × AreTargets low count rs × AreTerms count ds × IsLabel code l
Fits code low count (If f l m) = IsFormula count f × (IsLabel code l × IsLabel code m)
Fits code low count (Return vs) = Counted code.replies (length vs) × AreTerms count vs

-- terms and formulas
term_has : (names : Names) (code : CodeNames) (low count : ℕ) → Scope names code low count → (n : ℕ) (t : Tree) → Holds (IsTerm count) (term_reading names [] n t)
term_has names code low count scope n t = term_holds names (IsTerm count) NoColumn (IsFormula count) (AreFormulas count) scope.terms n t

formula_has : (names : Names) (code : CodeNames) (low count : ℕ) → Scope names code low count → (n : ℕ) (t : Tree) → Holds (IsFormula count) (formula_reading names [] n t)
formula_has names code low count scope n t = formula_holds names (IsTerm count) NoColumn (IsFormula count) (AreFormulas count) scope.terms n t

-- names that are used
pub found_holds : {X : Type 0} (P : X → Type 0) (n : ℕ) (w : List ℕ) (o : Option X) → ((x : X) → o ≡ Some x → P x) → Holds P (known n w o)
found_holds P n w None h = tt
found_holds P n w (Some x) h = if_holds P (is_long w) (wrong Bound n) (fine x) tt (h x refl)

label_holds : (code : CodeNames) (n : ℕ) (t : Tree) → Holds (IsLabel code) (label_reading code n t)
label_holds code n (list ts) = tt
label_holds code n (atom w) = if_holds (IsLabel code) (is_name w) (known n w (code.label w)) (wrong Shape n) (found_holds (IsLabel code) n w (code.label w) (λ l e. (w, e))) tt

-- an array, and its width
abbrev IsArray : CodeNames → Tree → ℕ → Type 0
IsArray code t a = (width : ℕ) × (row_width code t ≡ Some width) × IsRow code a width

array_holds : (code : CodeNames) (n : ℕ) (t : Tree) → Holds (IsArray code t) (array_reading code n t)
array_holds code n (list ts) = tt
array_holds code n (atom w) =
    if_holds (IsArray code (atom w)) (is_name w) (known n w (option_map (λ (row : ℕ × ℕ). row.0) (code.array w))) (wrong Shape n)
    (found_holds (IsArray code (atom w)) n w (option_map (λ (row : ℕ × ℕ). row.0) (code.array w)) (λ a e. of_row (code.array w) refl a e)) tt where
      of_row : (o : Option (ℕ × ℕ)) → code.array w ≡ o → (a : ℕ) → option_map (λ (row : ℕ × ℕ). row.0) o ≡ Some a → IsArray code (atom w) a
      of_row None e a h = absurd (cc)
      of_row (Some row) e a h =
          let same : row.0 ≡ a = cc in (row.1, ap (λ o. option_map (λ (r : ℕ × ℕ). r.1) o) e, (w, e ∙ ap (λ b. Some (b, row.1)) same))

-- as wide as a row of n parts
row_of : (code : CodeNames) (t : Tree) (a n : ℕ) → IsArray code t a → Counted (row_width code t) n → IsRow code a n
row_of code t a n (width, wide, row) h =
    let same : n ≡ width = subst (λ o. Counted o n) wide h in subst (IsRow code a) (sym same) row

-- values
terms_hold : (names : Names) (code : CodeNames) (low count : ℕ) → Scope names code low count → (m : ℕ) (ts : Trees) → Holds (λ vs. AreTerms count vs × (length vs ≡ tree_count ts)) (each_reading (term_reading names []) m ts)
terms_hold names code low count scope m none = (refl, refl)
terms_hold names code low count scope m (t ▸ ts) =
    both_holds (IsTerm count) (λ vs. AreTerms count vs × (length vs ≡ tree_count ts)) (λ vs. AreTerms count vs × (length vs ≡ suc (tree_count ts))) (λ v vs. v ∷ vs)
    (term_reading names [] m t) (each_reading (term_reading names []) (m + item_count t) ts) (term_has names code low count scope m t) (terms_hold names code low count scope (m + item_count t) ts)
    (λ v vs h g. (and_from (is_code_term count v) (are_code_terms count vs) h g.0, ap suc g.1))

abbrev ValuesOf : ℕ → Option ℕ → List Term → Type 0
ValuesOf count width vs = AreTerms count vs × Counted width (length vs)

values_hold : (names : Names) (code : CodeNames) (low count : ℕ) → Scope names code low count → (width : Option ℕ) (n : ℕ) (t : Tree) → Holds (ValuesOf count width) (values_reading names width n t)
values_hold names code low count scope width n t =
    row_holds (λ ts vs. AreTerms count vs × (length vs ≡ tree_count ts)) width (ValuesOf count width) (each_reading (term_reading names [])) n t (terms_hold names code low count scope)
    (λ ts vs c h. (h.0, subst (Counted width) (sym h.1) c))

-- targets
abbrev IsTarget : CodeNames → List (List ℕ) → List (List ℕ) → ℕ → Type 0
IsTarget code before declared r = (w : List ℕ) × (declared ≡ w ∷ []) × (code.target w ≡ Some r) × (list_any (is w) before ≡ false)

target_holds : (code : CodeNames) (before : List (List ℕ)) (n : ℕ) (t : Tree) → Holds (IsTarget code before (declared_by t)) (target_reading code before n t)
target_holds code before n (list ts) = tt
target_holds code before n (atom w) =
    if_holds (IsTarget code before (w ∷ [])) (is_name w) (written n w (list_any (is w) before) (code.target w)) (wrong Shape n) (at_test (list_any (is w) before) (code.target w) refl refl) tt where
      at_test : (b : Bool) (o : Option ℕ) → list_any (is w) before ≡ b → code.target w ≡ o → Holds (IsTarget code before (w ∷ [])) (written n w b o)
      at_test b None e f = tt
      at_test true (Some r) e f = tt
      at_test false (Some r) e f = if_holds (IsTarget code before (w ∷ [])) (is_long w) (wrong Bound n) (fine r) tt (w, refl, f, e)

-- no name before it is of this target
abbrev Fresh : CodeNames → List (List ℕ) → ℕ → Type 0
Fresh code before r = (v : List ℕ) → code.target v ≡ Some r → list_any (is v) before ≡ false

abbrev stands_in : ℕ → List ℕ → Bool
stands_in r rs = list_any (λ m. m == r) rs

record NewTargets (code : CodeNames) (low count : ℕ) (before : List (List ℕ)) (size : ℕ) (rs : List ℕ) : Type 0 where
  between : list_all (is_between low count) rs ≡ true
  distinct : are_distinct rs ≡ true
  fresh : (r : ℕ) → stands_in r rs ≡ true → Fresh code before r
  counted : length rs ≡ size

listed_last : (before : List (List ℕ)) (w : List ℕ) → list_any (is w) (before ++ w ∷ []) ≡ true
listed_last before w =
    list_any-append (is w) before (w ∷ []) ∙ or_right (list_any (is w) before) (list_any (is w) (w ∷ [])) (ap (λ b. b || false) (same_refl w))

not_before : (before : List (List ℕ)) (v w : List ℕ) → list_any (is v) (before ++ w ∷ []) ≡ false → list_any (is v) before ≡ false
not_before before v w h = (or_parts (list_any (is v) before) (list_any (is v) (w ∷ [])) (sym (list_any-append (is v) before (w ∷ [])) ∙ h)).0

between : (low count r : ℕ) → low ≤ r → r < count → is_between low count r ≡ true
between low count r h g = and_from (nat_le low r) (nat_lt r count) (grind (arith, nat_tests)) (grind (arith, nat_tests))

new_target : (names : Names) (code : CodeNames) (low count : ℕ) → Scope names code low count → (before : List (List ℕ)) (size : ℕ) (w : List ℕ) (r : ℕ) (rs : List ℕ)
    → code.target w ≡ Some r → list_any (is w) before ≡ false → NewTargets code low count (before ++ w ∷ []) size rs → NewTargets code low count before (suc size) (r ∷ rs)
new_target names code low count scope before size w r rs declared new h =
    record {
      between = and_from (is_between low count r) (list_all (is_between low count) rs) (between low count r (scope.targets w r declared).0 (scope.targets w r declared).1) h.between;
      distinct = and_from (not (stands_in r rs)) (are_distinct rs) (alone (stands_in r rs) refl) h.distinct;
      fresh = λ m e. by_first m (r == m) (stands_in m rs) refl refl e;
      counted = ap suc h.counted;
    } where
      alone : (b : Bool) → b ≡ stands_in r rs → not b ≡ true
      alone true e = absurd (true≢false (sym (listed_last before w) ∙ h.fresh r (sym e) w declared))
      alone false e = refl

      by_first : (m : ℕ) (a b : Bool) → a ≡ (r == m) → b ≡ stands_in m rs → (a || b) ≡ true → Fresh code before m
      by_first m true b e f g = λ v of_v. subst (λ x. list_any (is x) before ≡ false) (scope.one w v m (declared ∙ ap Some (eqb-true r m (sym e))) of_v) new
      by_first m false true e f g = λ v of_v. not_before before v w (h.fresh m (sym f) v of_v)
      by_first m false false e f g = cc

targets_hold : {X : Type 0} (names : Names) (code : CodeNames) (low count : ℕ) → Scope names code low count → (target : X → ℕ) (read : List (List ℕ) → ℕ → Tree → Reading X) (declares : Tree → List (List ℕ))
    → ((before : List (List ℕ)) (n : ℕ) (t : Tree) → Holds (λ x. IsTarget code before (declares t) (target x)) (read before n t))
    → (before : List (List ℕ)) (m : ℕ) (ts : Trees) → Holds (λ xs. NewTargets code low count before (tree_count ts) (map target xs)) (declared_reading read declares before m ts)
targets_hold names code low count scope target read declares f before m none = record { between = refl; distinct = refl; fresh = λ r e. absurd (true≢false (sym e)); counted = refl }
targets_hold names code low count scope target read declares f before m (t ▸ ts) =
    both_holds (λ x. IsTarget code before (declares t) (target x)) (λ xs. NewTargets code low count (before ++ declares t) (tree_count ts) (map target xs)) (λ xs. NewTargets code low count before (suc (tree_count ts)) (map target xs))
    (λ x xs. x ∷ xs) (read before m t) (declared_reading read declares (before ++ declares t) (m + item_count t) ts)
    (f before m t) (targets_hold names code low count scope target read declares f (before ++ declares t) (m + item_count t) ts)
    (λ x xs h g. one_more (target x) (map target xs) h g) where
      one_more : (r : ℕ) (rs : List ℕ) → IsTarget code before (declares t) r → NewTargets code low count (before ++ declares t) (tree_count ts) rs → NewTargets code low count before (suc (tree_count ts)) (r ∷ rs)
      one_more r rs (w, named, declared, new) g =
          new_target names code low count scope before (tree_count ts) w r rs declared new (subst (λ ws. NewTargets code low count (before ++ ws) (tree_count ts) rs) named g)

same_all : (rs : List ℕ) → map (λ r. r) rs ≡ rs
same_all [] = refl
same_all (r ∷ rs) = ap (λ x. r ∷ x) (same_all rs)

abbrev TargetsOf : ℕ → ℕ → Option ℕ → List ℕ → Type 0
TargetsOf low count width rs = AreTargets low count rs × Counted width (length rs)

row_of_targets : (names : Names) (code : CodeNames) (low count : ℕ) → Scope names code low count → (width : Option ℕ) (n : ℕ) (t : Tree) → Holds (TargetsOf low count width) (targets_reading code width n t)
row_of_targets names code low count scope width n t =
    row_holds (λ ts rs. NewTargets code low count [] (tree_count ts) (map (λ r. r) rs)) width (TargetsOf low count width) (declared_reading (target_reading code) declared_by []) n t
    (targets_hold names code low count scope (λ r. r) (target_reading code) declared_by (target_holds code) [])
    (λ ts rs c h. let g = subst (NewTargets code low count [] (tree_count ts)) (same_all rs) h in ((g.between, g.distinct), subst (Counted width) (sym g.counted) c))

-- assignments
abbrev IsAssignment : CodeNames → ℕ → List (List ℕ) → List (List ℕ) → ℕ × Term → Type 0
IsAssignment code count before declared cell = IsTarget code before declared cell.0 × IsTerm count cell.1

assignment_holds : (names : Names) (code : CodeNames) (low count : ℕ) → Scope names code low count → (before : List (List ℕ)) (n : ℕ) (t : Tree) → Holds (IsAssignment code count before (first_name t)) (assignment_reading names code before n t)
assignment_holds names code low count scope before n (atom w) = tt
assignment_holds names code low count scope before n (list none) = tt
assignment_holds names code low count scope before n (list (r ▸ none)) = tt
assignment_holds names code low count scope before n (list (r ▸ v ▸ ts)) =
    ended_holds (IsAssignment code count before (declared_by r)) (n + 1 + item_count r + item_count v) ts _
    (both_holds (IsTarget code before (declared_by r)) (IsTerm count) (IsAssignment code count before (declared_by r)) pair (target_reading code before (n + 1) r) (term_reading names [] (n + 1 + item_count r) v)
    (target_holds code before (n + 1) r) (term_has names code low count scope (n + 1 + item_count r) v) (λ x y h g. (h, g)))

assigned_hold : (names : Names) (code : CodeNames) (low count : ℕ) → Scope names code low count → (before : List (List ℕ)) (m : ℕ) (ts : Trees)
    → Holds (λ cells. (AreTerms count (map (λ cell. cell.1) cells)) × (length (map (λ cell. cell.1) cells) ≡ tree_count ts)) (declared_reading (assignment_reading names code) first_name before m ts)
assigned_hold names code low count scope before m none = (refl, refl)
assigned_hold names code low count scope before m (t ▸ ts) =
    both_holds (IsAssignment code count before (first_name t)) (λ cells. (AreTerms count (map (λ cell. cell.1) cells)) × (length (map (λ cell. cell.1) cells) ≡ tree_count ts))
    (λ cells. (AreTerms count (map (λ cell. cell.1) cells)) × (length (map (λ cell. cell.1) cells) ≡ suc (tree_count ts))) (λ x xs. x ∷ xs)
    (assignment_reading names code before m t) (declared_reading (assignment_reading names code) first_name (before ++ first_name t) (m + item_count t) ts)
    (assignment_holds names code low count scope before m t) (assigned_hold names code low count scope (before ++ first_name t) (m + item_count t) ts)
    (λ x xs h g. (and_from (is_code_term count x.1) (are_code_terms count (map (λ cell. cell.1) xs)) h.1 g.0, ap suc g.1))

abbrev AreAssigned : ℕ → ℕ → List (ℕ × Term) → Type 0
AreAssigned low count cells =
    (length (map (λ cell. cell.1) cells) ≡ length (map (λ cell. cell.0) cells)) × AreTargets low count (map (λ cell. cell.0) cells) × AreTerms count (map (λ cell. cell.1) cells)

assignments_hold : (names : Names) (code : CodeNames) (low count : ℕ) → Scope names code low count → (n : ℕ) (t : Tree) → Holds (AreAssigned low count) (assignments_reading names code n t)
assignments_hold names code low count scope n (atom w) = tt
assignments_hold names code low count scope n (list ts) =
    let R = declared_reading (assignment_reading names code) first_name [] (n + 1) ts in
    let P = λ (cells : List (ℕ × Term)). NewTargets code low count [] (tree_count ts) (map (λ cell. cell.0) cells) in
    let Q = λ (cells : List (ℕ × Term)). (AreTerms count (map (λ cell. cell.1) cells)) × (length (map (λ cell. cell.1) cells) ≡ tree_count ts) in
    holds_weaker (λ cells. P cells × Q cells) (AreAssigned low count) R (λ cells h. (h.1.1 ∙ sym h.0.counted, (h.0.between, h.0.distinct), h.1.0))
    (and_holds P Q R
    (targets_hold names code low count scope (λ (cell : ℕ × Term). cell.0) (assignment_reading names code) first_name
    (λ before n t. holds_weaker (IsAssignment code count before (first_name t)) (λ cell. IsTarget code before (first_name t) cell.0) (assignment_reading names code before n t) (λ cell h. h.0) (assignment_holds names code low count scope before n t)) [] (n + 1) ts)
    (assigned_hold names code low count scope [] (n + 1) ts))

-- parts of instructions that are read together
abbrev IsPlace : CodeNames → ℕ → Tree → ℕ × Term → Type 0
IsPlace code count a place = IsArray code a place.0 × IsTerm count place.1

abbrev AreLabels : CodeNames → ℕ × ℕ → Type 0
AreLabels code labels = IsLabel code labels.0 × IsLabel code labels.1

place_holds : (names : Names) (code : CodeNames) (low count : ℕ) → Scope names code low count → (i : ℕ) (t : Tree) (j : ℕ) (u : Tree) → Holds (IsPlace code count t) (place_reading names code i t j u)
place_holds names code low count scope i t j u =
    both_holds (IsArray code t) (IsTerm count) (IsPlace code count t) pair (array_reading code i t) (term_reading names [] j u) (array_holds code i t) (term_has names code low count scope j u) (λ a x h g. (h, g))

labels_hold : (code : CodeNames) (i : ℕ) (t : Tree) (j : ℕ) (u : Tree) → Holds (AreLabels code) (labels_reading code i t j u)
labels_hold code i t j u = both_holds (IsLabel code) (IsLabel code) (AreLabels code) pair (label_reading code i t) (label_reading code j u) (label_holds code i t) (label_holds code j u) (λ l k h g. (h, g))

-- each instruction
load_holds : (names : Names) (code : CodeNames) (low count : ℕ) → Scope names code low count → (n m : ℕ) (ts : Trees) → Holds (Fits code low count) (load_reading names code n m ts)
load_holds names code low count scope n m none = tt
load_holds names code low count scope n m (a ▸ none) = tt
load_holds names code low count scope n m (a ▸ t ▸ none) = tt
load_holds names code low count scope n m (a ▸ t ▸ row ▸ none) = tt
load_holds names code low count scope n m (a ▸ t ▸ row ▸ l ▸ ts) =
    let width = row_width code a in
    both_holds (IsPlace code count a) (λ (q : List ℕ × ℕ). TargetsOf low count width q.0 × IsLabel code q.1) (Fits code low count) load_of _ _
    (place_holds names code low count scope m a (m + item_count a) t)
    (both_holds (TargetsOf low count width) (IsLabel code) (λ (q : List ℕ × ℕ). TargetsOf low count width q.0 × IsLabel code q.1) pair _ _
    (row_of_targets names code low count scope width (m + item_count a + item_count t) row) (label_holds code (m + item_count a + item_count t + item_count row) l) (λ rs k h g. (h, g)))
    (λ p q h g. (row_of code a p.0 (length q.0) h.0 g.0.1, h.1, g.0.0, g.1))

store_holds : (names : Names) (code : CodeNames) (low count : ℕ) → Scope names code low count → (n m : ℕ) (ts : Trees) → Holds (Fits code low count) (store_reading names code n m ts)
store_holds names code low count scope n m none = tt
store_holds names code low count scope n m (a ▸ none) = tt
store_holds names code low count scope n m (a ▸ t ▸ none) = tt
store_holds names code low count scope n m (a ▸ t ▸ row ▸ none) = tt
store_holds names code low count scope n m (a ▸ t ▸ row ▸ l ▸ ts) =
    let width = row_width code a in
    both_holds (IsPlace code count a) (λ (q : List Term × ℕ). ValuesOf count width q.0 × IsLabel code q.1) (Fits code low count) store_of _ _
    (place_holds names code low count scope m a (m + item_count a) t)
    (both_holds (ValuesOf count width) (IsLabel code) (λ (q : List Term × ℕ). ValuesOf count width q.0 × IsLabel code q.1) pair _ _
    (values_hold names code low count scope width (m + item_count a + item_count t) row) (label_holds code (m + item_count a + item_count t + item_count row) l) (λ vs k h g. (h, g)))
    (λ p q h g. (row_of code a p.0 (length q.0) h.0 g.0.1, h.1, g.0.0, g.1))

cas_holds : (names : Names) (code : CodeNames) (low count : ℕ) → Scope names code low count → (n m : ℕ) (ts : Trees) → Holds (Fits code low count) (cas_reading names code n m ts)
cas_holds names code low count scope n m none = tt
cas_holds names code low count scope n m (a ▸ none) = tt
cas_holds names code low count scope n m (a ▸ t ▸ none) = tt
cas_holds names code low count scope n m (a ▸ t ▸ old ▸ none) = tt
cas_holds names code low count scope n m (a ▸ t ▸ old ▸ new ▸ none) = tt
cas_holds names code low count scope n m (a ▸ t ▸ old ▸ new ▸ l ▸ none) = tt
cas_holds names code low count scope n m (a ▸ t ▸ old ▸ new ▸ l ▸ k ▸ ts) =
    let width = row_width code a in
    let Rows = λ (rows : List Term × List Term). ValuesOf count width rows.0 × ValuesOf count width rows.1 in
    let Exchange = λ (q : (List Term × List Term) × (ℕ × ℕ)). Rows q.0 × AreLabels code q.1 in
    let i = m + item_count a + item_count t in
    let j = i + item_count old + item_count new in
    both_holds (IsPlace code count a) Exchange (Fits code low count) cas_of _ _
    (place_holds names code low count scope m a (m + item_count a) t)
    (both_holds Rows (AreLabels code) Exchange pair _ _
    (both_holds (ValuesOf count width) (ValuesOf count width) Rows pair _ _ (values_hold names code low count scope width i old) (values_hold names code low count scope width (i + item_count old) new) (λ x y h g. (h, g)))
    (labels_hold code j l (j + item_count l) k) (λ x y h g. (h, g)))
    (λ p q h g. ((row_of code a p.0 (length q.0.0) h.0 g.0.0.1, row_of code a p.0 (length q.0.1) h.0 g.0.1.1), h.1, (g.0.0.0, g.0.1.0), g.1))

set_holds : (names : Names) (code : CodeNames) (low count : ℕ) → Scope names code low count → (n m : ℕ) (ts : Trees) → Holds (Fits code low count) (set_reading names code n m ts)
set_holds names code low count scope n m none = tt
set_holds names code low count scope n m (cells ▸ none) = tt
set_holds names code low count scope n m (cells ▸ l ▸ ts) =
    both_holds (AreAssigned low count) (IsLabel code) (Fits code low count) set_of (assignments_reading names code m cells) (label_reading code (m + item_count cells) l)
    (assignments_hold names code low count scope m cells) (label_holds code (m + item_count cells) l) (λ cells k h g. (h.0, h.1, h.2, g))

faa_holds : (names : Names) (code : CodeNames) (low count : ℕ) → Scope names code low count → (n m : ℕ) (ts : Trees) → Holds (Fits code low count) (faa_reading names code n m ts)
faa_holds names code low count scope n m none = tt
faa_holds names code low count scope n m (a ▸ none) = tt
faa_holds names code low count scope n m (a ▸ t ▸ none) = tt
faa_holds names code low count scope n m (a ▸ t ▸ row ▸ none) = tt
faa_holds names code low count scope n m (a ▸ t ▸ row ▸ added ▸ none) = tt
faa_holds names code low count scope n m (a ▸ t ▸ row ▸ added ▸ l ▸ ts) =
    let width = row_width code a in
    let Stored = λ (q : List Term × ℕ). ValuesOf count width q.0 × IsLabel code q.1 in
    let Adding = λ (q : List ℕ × (List Term × ℕ)). TargetsOf low count width q.0 × Stored q.1 in
    let i = m + item_count a + item_count t in
    let j = i + item_count row in
    both_holds (IsPlace code count a) Adding (Fits code low count) faa_of _ _
    (place_holds names code low count scope m a (m + item_count a) t)
    (both_holds (TargetsOf low count width) Stored Adding pair _ _ (row_of_targets names code low count scope width i row)
    (both_holds (ValuesOf count width) (IsLabel code) Stored pair _ _ (values_hold names code low count scope width j added) (label_holds code (j + item_count added) l) (λ vs k h g. (h, g))) (λ x y h g. (h, g)))
    (λ p q h g. ((row_of code a p.0 (length q.0) h.0 g.0.1, row_of code a p.0 (length q.1.0) h.0 g.1.0.1), h.1, g.0.0, g.1.0.0, g.1.1))

if_parts_hold : (names : Names) (code : CodeNames) (low count : ℕ) → Scope names code low count → (n m : ℕ) (ts : Trees) → Holds (Fits code low count) (if_reading names code n m ts)
if_parts_hold names code low count scope n m none = tt
if_parts_hold names code low count scope n m (f ▸ none) = tt
if_parts_hold names code low count scope n m (f ▸ l ▸ none) = tt
if_parts_hold names code low count scope n m (f ▸ l ▸ k ▸ ts) =
    both_holds (IsFormula count) (AreLabels code) (Fits code low count) if_of _ _
    (formula_has names code low count scope m f) (labels_hold code (m + item_count f) l (m + item_count f + item_count l) k) (λ f labels h g. (h, g))

own_holds : (names : Names) (code : CodeNames) (low count : ℕ) → Scope names code low count → (h : Head) (n m : ℕ) (ts : Trees) → Holds (Fits code low count) (own_reading names code h n m ts)
own_holds names code low count scope H.Load n m ts = load_holds names code low count scope n m ts
own_holds names code low count scope H.Store n m ts = store_holds names code low count scope n m ts
own_holds names code low count scope H.Cas n m ts = cas_holds names code low count scope n m ts
own_holds names code low count scope H.Set n m ts = set_holds names code low count scope n m ts
own_holds names code low count scope H.Faa n m ts = faa_holds names code low count scope n m ts
own_holds names code low count scope H.If n m ts = if_parts_hold names code low count scope n m ts

code_holds : (names : Names) (code : CodeNames) (low count : ℕ) → Scope names code low count → (n m : ℕ) (ts : Trees) (o : Option Head) → Holds (Fits code low count) (code_reading names code n m ts o)
code_holds names code low count scope n m ts None = tt
code_holds names code low count scope n m ts (Some h) = behind_holds (Fits code low count) (own_parts h) m ts (own_reading names code h n m ts) (own_holds names code low count scope h n m ts)

return_holds : (names : Names) (code : CodeNames) (low count : ℕ) → Scope names code low count → (n m : ℕ) (ts : Trees) → Holds (Fits code low count) (return_reading names code n m ts)
return_holds names code low count scope n m ts =
    both_holds (λ (u : Unit {0}). Counted code.replies (tree_count ts)) (λ vs. AreTerms count vs × (length vs ≡ tree_count ts)) (Fits code low count) return_of
    (count_reading code.replies n m ts) (each_reading (term_reading names []) m ts) (counted_holds code.replies n m ts) (terms_hold names code low count scope m ts)
    (λ u vs c h. (subst (Counted code.replies) (sym h.1) c, h.0))

pub instruction_holds : (names : Names) (code : CodeNames) (low count : ℕ) → Scope names code low count → (n : ℕ) (t : Tree) → Holds (Fits code low count) (instruction_reading names code n t)
instruction_holds names code low count scope n (atom w) = tt
instruction_holds names code low count scope n (list none) = tt
instruction_holds names code low count scope n (list (list us ▸ ts)) = tt
instruction_holds names code low count scope n (list (atom w ▸ ts)) =
    if_holds (Fits code low count) (is w (codes "return")) (return_reading names code n (n + 2) ts) (code_reading names code n (n + 2) ts (head_of w))
    (return_holds names code low count scope n (n + 2) ts) (code_holds names code low count scope n (n + 2) ts (head_of w))
