-- How the operations go that are read: by branches without names, or by choices, each with a name of its own.
use Rattle.std.proofs.Common.{◌≡◌, ℕ, zero, suc, ◌+◌, Bool, true, false, ◌==◌, cond, List, [], ◌∷◌, ◌++◌, map, length, Option, Some, None, refl, sym, ap, ◌∙◌, subst}
use Rattle.std.specs.Prelude.{codes, bytes_eq, option_map, slice_get}
use Rattle.std.specs.List.{list_any}
use Rattle.std.proofs.lemmas.Bool.{eq-eqb, or_parts, and_from, and_left, false_from_ne_true}
use Rattle.std.proofs.lemmas.Slice.Eq.{bytes_eq-Decides}
use Rattle.lc_base.specs.Limits.{parameter_limit}
use Rattle.lc_sexp.specs.Parts.{fits, misshapen, form_fit}
use Rattle.lc_sexp.specs.TreeCode.{tree_count}
use Rattle.lc_sexp.specs.Trees.{Tree, Trees, atom, list, none, ◌▸◌, item_count}
use Rattle.lc_term.specs.Lists.{Every}
use Rattle.lc_term.specs.Syntax.{Term, Formula}
use Rattle.lc_term.specs.Updates.{Update}
use Rattle.lc_text.specs.Names.{Names}
use Rattle.lc_text.specs.Terms.{pair}
use Rattle.lc_seq.proofs.Choosing.{left_in}
use Rattle.lc_seq.specs.Sequential.{Chosen, InOrder, ByName, given_in}
use Rattle.lc_seq.specs.Specification.{Branch, is_in_order, agree, chosen}
use Rattle.lc_reading.proofs.Holding.{Holds, holds_unit, holds_weaker, and_holds, mapped_holds, both_holds}
use Rattle.lc_reading.specs.Listed.{declared_by, place_of}
use Rattle.lc_reading.specs.Naming.{name_reading, declaration_reading}
use Rattle.lc_reading.specs.Readings.{Reading, wrong, behind_reading}
use Rattle.lc_reading.specs.Rows.{second_name, all_declared, declared_reading, each_reading}
use Rattle.lc_reading.specs.Words.{is}
use Rattle.lc_reading.specs.declared.pass.Pass.TheVariants.{Shape}
use Rattle.lc_spec_text.proofs.Apart.{IsNew, name_declares, AreNew, AreApart, apart, declared_new}
use Rattle.lc_spec_text.specs.Branches.{branch_parts_reading, the_branch, branch_reading}
use Rattle.lc_spec_text.specs.Choices.{parameters_reading, parameters_in, label_reading, choice_parts_reading, the_choice, choice_reading, begin_with_choice, ways_reading}
use Rattle.lc_spec_text.specs.Scopes.{Columns, branch_names}

-- ---- branches

-- none of them has a name
abbrev pub AreInOrder : List Branch → Type 0
AreInOrder bs = Every (λ (b : Branch). b.label ≡ InOrder) bs

pub branches_in_order : (columns : Columns) (names : Names) (count : Option ℕ) (m : ℕ) (ts : Trees) → Holds AreInOrder (each_reading (branch_reading columns names count) m ts)
branches_in_order columns names count m none = tt
branches_in_order columns names count m (t ▸ ts) =
    both_holds (λ (b : Branch). b.label ≡ InOrder) AreInOrder AreInOrder (λ b bs. b ∷ bs) (branch_reading columns names count m t) (each_reading (branch_reading columns names count) (m + item_count t) ts)
    (mapped_holds (λ p. Unit {0}) (λ (b : Branch). b.label ≡ InOrder) the_branch (behind_reading (codes "branch") (branch_parts_reading columns names count) m t)
    (holds_unit (behind_reading (codes "branch") (branch_parts_reading columns names count) m t)) (λ p u. refl))
    (branches_in_order columns names count (m + item_count t) ts) (λ b bs h g. (h, g))

-- if no choice is named all of them are left
pub all_left : (A : Type 0) (bs : List Branch) → AreInOrder bs → chosen {A = A} InOrder bs ≡ bs
all_left A [] h = refl
all_left A (b ∷ bs) h = left_in {A = A} InOrder b bs (ap is_in_order h.0) ∙ ap (λ cs. b ∷ cs) (all_left A bs h.1)

-- ---- choices

-- the name of a branch, and how many parameters it has
abbrev pub name_in : {A : Type 0} → Chosen A → List ℕ
name_in InOrder = []
name_in (ByName name xs) = name

abbrev pub name_of : Branch → List ℕ
name_of b = name_in b.label

abbrev pub parameter_count : Branch → ℕ
parameter_count b = length (given_in b.label)

-- NAME (PARAM ..) F (UPDATE ..) (T ..), as which a choice is read
abbrev pub IsChoiceOf : Trees → Branch → Type 0
IsChoiceOf (atom w ▸ list ps ▸ ts) b = (b.label ≡ ByName w (all_declared declared_by ps)) × (length (all_declared declared_by ps) ≡ tree_count ps)
IsChoiceOf _ b = ⊥

-- the same, after the word
abbrev pub IsChoice : Tree → Branch → Type 0
IsChoice t b = (ts : Trees) × (form_fit (codes "choice") t ≡ fits ts) × IsChoiceOf ts b

abbrev pub EachIsChoice : Trees → List Branch → Type 0
EachIsChoice none [] = Unit {0}
EachIsChoice none (b ∷ bs) = ⊥
EachIsChoice (t ▸ ts) [] = ⊥
EachIsChoice (t ▸ ts) (b ∷ bs) = IsChoice t b × EachIsChoice ts bs

-- these forms are choices, with names of their own
pub record AreChoices (ts : Trees) (bs : List Branch) : Type 0 where
  pub each : EachIsChoice ts bs
  pub apart : AreApart name_of bs

-- names in a row
name_said : (limit : Option ℕ) (before : List (List ℕ)) (n : ℕ) (t : Tree) → Holds (λ v. declared_by t ≡ v ∷ []) (name_reading limit before n t)
name_said limit before n (list ts) = tt
name_said limit before n (atom w) =
    mapped_holds (λ u. Unit {0}) (λ v. w ∷ [] ≡ v ∷ []) (λ u. w) (declaration_reading limit before n (atom w)) (holds_unit (declaration_reading limit before n (atom w))) (λ u h. refl)

abbrev AreNames : Trees → List (List ℕ) → Type 0
AreNames ps ws = (ws ≡ all_declared declared_by ps) × (length ws ≡ tree_count ps)

names_said : (limit : Option ℕ) (before : List (List ℕ)) (m : ℕ) (ps : Trees) → Holds (AreNames ps) (declared_reading (name_reading limit) declared_by before m ps)
names_said limit before m none = (refl, refl)
names_said limit before m (t ▸ ps) =
    both_holds (λ v. declared_by t ≡ v ∷ []) (AreNames ps) (AreNames (t ▸ ps)) (λ v ws. v ∷ ws) (name_reading limit before m t) (declared_reading (name_reading limit) declared_by (before ++ declared_by t) (m + item_count t) ps)
    (name_said limit before m t) (names_said limit (before ++ declared_by t) (m + item_count t) ps)
    (λ v ws h g. (ap (λ us. v ∷ us) g.0 ∙ sym (ap (λ us. us ++ all_declared declared_by ps) h), ap suc g.1))

-- NAME (PARAM ..), after these names
abbrev IsLabelOf : List (List ℕ) → Tree → Tree → List ℕ × List (List ℕ) → Type 0
IsLabelOf before (atom w) (list ps) p = (p.0 ≡ w) × AreNames ps p.1 × IsNew before w
IsLabelOf before _ _ p = ⊥

same_name : (w v : List ℕ) → w ∷ [] ≡ v ∷ [] → v ≡ w
same_name w v e = cc

label_said : (variables before : List (List ℕ)) (m : ℕ) (a b : Tree) → Holds (IsLabelOf before a b) (label_reading variables before m a b)
label_said variables before m (list us) b =
    both_holds (λ w. ⊥) (λ ws. Unit {0}) (IsLabelOf before (list us) b) pair (name_reading None before m (list us)) (parameters_reading variables (m + item_count (list us)) b)
    tt (holds_unit (parameters_reading variables (m + item_count (list us)) b)) (λ w ws h g. absurd h)
label_said variables before m (atom w) (atom v) =
    both_holds (λ w. Unit {0}) (λ ws. ⊥) (IsLabelOf before (atom w) (atom v)) pair (name_reading None before m (atom w)) (parameters_reading variables (m + item_count (atom w)) (atom v))
    (holds_unit (name_reading None before m (atom w))) tt (λ w ws h g. absurd g)
label_said variables before m (atom w) (list ps) =
    both_holds (λ v. IsNew before v × (w ∷ [] ≡ v ∷ [])) (AreNames ps) (IsLabelOf before (atom w) (list ps)) pair (name_reading None before m (atom w)) (parameters_reading variables (m + item_count (atom w)) (list ps))
    (name_declares before m (atom w)) (names_said (Some (parameter_limit + length variables)) variables (m + item_count (atom w) + 1) ps)
    (λ v ws h g. let same : v ≡ w = same_name w v h.1 in (same, g, subst (IsNew before) same h.0))

-- what a choice says about its label, after these names
abbrev IsSaid : List (List ℕ) → Trees → Branch → Type 0
IsSaid before ts b = IsChoiceOf ts b × IsNew before (name_of b)

said : (before : List (List ℕ)) (a b : Tree) (ts : Trees) (p : (List ℕ × List (List ℕ)) × ((Formula × List Update) × List Term)) → IsLabelOf before a b p.0 → IsSaid before (a ▸ b ▸ ts) (the_choice p)
said before (list us) b ts p h = absurd h
said before (atom w) (atom v) ts p h = absurd h
said before (atom w) (list ps) ts p h =
    ((ap (λ n. ByName n p.0.1) h.0 ∙ ap (ByName w) h.1.0, sym (ap length h.1.0) ∙ h.1.1), subst (IsNew before) (sym h.0) h.2)

choice_parts_said : (columns : Columns) (variables : List (List ℕ)) (count : Option ℕ) (before : List (List ℕ)) (n m : ℕ) (ts : Trees)
    → Holds (λ p. IsSaid before ts (the_choice p)) (choice_parts_reading columns variables count before n m ts)
choice_parts_said columns variables count before n m none = tt
choice_parts_said columns variables count before n m (a ▸ none) = tt
choice_parts_said columns variables count before n m (a ▸ b ▸ none) = tt
choice_parts_said columns variables count before n m (a ▸ b ▸ t ▸ none) = tt
choice_parts_said columns variables count before n m (a ▸ b ▸ t ▸ u ▸ none) = tt
choice_parts_said columns variables count before n m (a ▸ b ▸ t ▸ u ▸ v ▸ ts) =
    let parts = branch_parts_reading columns (branch_names columns.own (variables ++ parameters_in b)) count n (m + item_count a + item_count b) (t ▸ u ▸ v ▸ ts) in
    both_holds (IsLabelOf before a b) (λ q. Unit {0}) (λ p. IsSaid before (a ▸ b ▸ t ▸ u ▸ v ▸ ts) (the_choice p)) pair (label_reading variables before m a b) parts
    (label_said variables before m a b) (holds_unit parts) (λ l q h g. said before a b (t ▸ u ▸ v ▸ ts) (pair l q) h)

choice_said : (columns : Columns) (variables : List (List ℕ)) (count : Option ℕ) (before : List (List ℕ)) (n : ℕ) (t : Tree)
    → Holds (λ b. IsChoice t b × (IsNew before (name_of b) × (second_name t ≡ name_of b ∷ []))) (choice_reading columns variables count before n t)
choice_said columns variables count before n (atom w) = tt
choice_said columns variables count before n (list none) = tt
choice_said columns variables count before n (list (list us ▸ ts)) = tt
choice_said columns variables count before n (list (atom c ▸ ts)) =
    mapped_holds (λ p. Q (the_choice p)) Q the_choice (behind_reading (codes "choice") read n (list (atom c ▸ ts))) (by_test (is c (codes "choice")) refl) (λ p h. h)
  where
    Q : Branch → Type 0
    Q b = IsChoice (list (atom c ▸ ts)) b × (IsNew before (name_of b) × (second_name (list (atom c ▸ ts)) ≡ name_of b ∷ []))

    read : ℕ → ℕ → Trees → Reading ((List ℕ × List (List ℕ)) × ((Formula × List Update) × List Term))
    read = choice_parts_reading columns variables count before

    names : (us : Trees) (b : Branch) → form_fit (codes "choice") (list (atom c ▸ us)) ≡ fits us → IsSaid before us b
        → IsChoice (list (atom c ▸ us)) b × (IsNew before (name_of b) × (second_name (list (atom c ▸ us)) ≡ name_of b ∷ []))
    names none b e h = absurd h.0
    names (list us ▸ vs) b e h = absurd h.0
    names (atom w ▸ none) b e h = absurd h.0
    names (atom w ▸ atom v ▸ vs) b e h = absurd h.0
    names (atom w ▸ list ps ▸ vs) b e h = ((atom w ▸ list ps ▸ vs, e, h.0), (h.1, ap (λ (l : Chosen (List ℕ)). name_in l ∷ []) (sym h.0.0)))

    by_test : (b : Bool) → is c (codes "choice") ≡ b → Holds (λ p. Q (the_choice p)) (cond b (read n (n + 2) ts) (wrong Shape n))
    by_test true e =
        holds_weaker (λ p. IsSaid before ts (the_choice p)) (λ p. Q (the_choice p)) (read n (n + 2) ts) (λ p h. names ts (the_choice p) (ap (λ b. cond b (fits ts) misshapen) e) h)
        (choice_parts_said columns variables count before n (n + 2) ts)
    by_test false e = tt

each_said : (columns : Columns) (variables : List (List ℕ)) (count : Option ℕ) (before : List (List ℕ)) (m : ℕ) (ts : Trees)
    → Holds (EachIsChoice ts) (declared_reading (choice_reading columns variables count) second_name before m ts)
each_said columns variables count before m none = tt
each_said columns variables count before m (t ▸ ts) =
    let read = choice_reading columns variables count in
    both_holds (IsChoice t) (EachIsChoice ts) (EachIsChoice (t ▸ ts)) (λ b bs. b ∷ bs) (read before m t) (declared_reading read second_name (before ++ second_name t) (m + item_count t) ts)
    (holds_weaker (λ b. IsChoice t b × (IsNew before (name_of b) × (second_name t ≡ name_of b ∷ []))) (IsChoice t) (read before m t) (λ b h. h.0) (choice_said columns variables count before m t))
    (each_said columns variables count (before ++ second_name t) (m + item_count t) ts) (λ b bs h g. (h, g))

pub choices_said : (columns : Columns) (variables : List (List ℕ)) (count : Option ℕ) (m : ℕ) (ts : Trees) → Holds (AreChoices ts) (declared_reading (choice_reading columns variables count) second_name [] m ts)
choices_said columns variables count m ts =
    let read = choice_reading columns variables count in
    let r = declared_reading read second_name [] m ts in
    holds_weaker (λ bs. EachIsChoice ts bs × AreNew name_of [] bs) (AreChoices ts) r (λ bs h. record { each = h.0; apart = apart name_of [] bs h.1 })
    (and_holds (EachIsChoice ts) (AreNew name_of []) r (each_said columns variables count [] m ts)
    (declared_new name_of read second_name
    (λ before n t. holds_weaker (λ b. IsChoice t b × (IsNew before (name_of b) × (second_name t ≡ name_of b ∷ []))) (λ b. IsNew before (name_of b) × (second_name t ≡ name_of b ∷ [])) (read before n t) (λ b h. h.1)
    (choice_said columns variables count before n t))
    [] m ts))

-- ---- the ways of an operation

-- what these forms are read as: branches without names, or choices
pub record AreWays (ts : Trees) (bs : List Branch) : Type 0 where
  pub branches : begin_with_choice ts ≡ false → AreInOrder bs
  pub choices : begin_with_choice ts ≡ true → AreChoices ts bs

pub ways_said : (columns : Columns) (variables : List (List ℕ)) (count : Option ℕ) (m : ℕ) (ts : Trees) → Holds (AreWays ts) (ways_reading columns variables count m ts)
ways_said columns variables count m ts = by_test (begin_with_choice ts) refl where
  by_test : (b : Bool) → begin_with_choice ts ≡ b
      → Holds (AreWays ts) (cond b (declared_reading (choice_reading columns variables count) second_name [] m ts) (each_reading (branch_reading columns (branch_names columns.own variables) count) m ts))
  by_test true e =
      holds_weaker (AreChoices ts) (AreWays ts) (declared_reading (choice_reading columns variables count) second_name [] m ts)
      (λ bs h. record { branches = λ f. absurd (let no : true ≡ false = sym e ∙ f in cc); choices = λ f. h }) (choices_said columns variables count m ts)
  by_test false e =
      holds_weaker AreInOrder (AreWays ts) (each_reading (branch_reading columns (branch_names columns.own variables) count) m ts)
      (λ bs h. record { branches = λ f. h; choices = λ f. absurd (let no : true ≡ false = sym f ∙ e in cc) }) (branches_in_order columns (branch_names columns.own variables) count m ts)

-- there is one for each form
pub each_counted : {X : Type 0} (read : ℕ → Tree → Reading X) (m : ℕ) (ts : Trees) → Holds (λ xs. length xs ≡ tree_count ts) (each_reading read m ts)
each_counted read m none = refl
each_counted read m (t ▸ ts) =
    both_holds (λ x. Unit {0}) (λ xs. length xs ≡ tree_count ts) (λ xs. length xs ≡ tree_count (t ▸ ts)) (λ x xs. x ∷ xs) (read m t) (each_reading read (m + item_count t) ts)
    (holds_unit (read m t)) (each_counted read (m + item_count t) ts) (λ x xs h g. ap suc g)

pub declared_counted : {X : Type 0} (read : List (List ℕ) → ℕ → Tree → Reading X) (declares : Tree → List (List ℕ)) (before : List (List ℕ)) (m : ℕ) (ts : Trees)
    → Holds (λ xs. length xs ≡ tree_count ts) (declared_reading read declares before m ts)
declared_counted read declares before m none = refl
declared_counted read declares before m (t ▸ ts) =
    both_holds (λ x. Unit {0}) (λ xs. length xs ≡ tree_count ts) (λ xs. length xs ≡ tree_count (t ▸ ts)) (λ x xs. x ∷ xs) (read before m t)
    (declared_reading read declares (before ++ declares t) (m + item_count t) ts) (holds_unit (read before m t)) (declared_counted read declares (before ++ declares t) (m + item_count t) ts) (λ x xs h g. ap suc g)

pub ways_counted : (columns : Columns) (variables : List (List ℕ)) (count : Option ℕ) (m : ℕ) (ts : Trees) → Holds (λ bs. length bs ≡ tree_count ts) (ways_reading columns variables count m ts)
ways_counted columns variables count m ts = by_test (begin_with_choice ts) where
  by_test : (b : Bool) → Holds (λ bs. length bs ≡ tree_count ts)
      (cond b (declared_reading (choice_reading columns variables count) second_name [] m ts) (each_reading (branch_reading columns (branch_names columns.own variables) count) m ts))
  by_test true = declared_counted (choice_reading columns variables count) second_name [] m ts
  by_test false = each_counted (branch_reading columns (branch_names columns.own variables) count) m ts

-- ---- the choice of a name

-- each has a name
abbrev pub AreNamed : List Branch → Type 0
AreNamed bs = Every (λ (b : Branch). is_in_order b.label ≡ false) bs

has_label : (ts : Trees) (b : Branch) → IsChoiceOf ts b → is_in_order b.label ≡ false
has_label none b h = absurd h
has_label (list us ▸ vs) b h = absurd h
has_label (atom w ▸ none) b h = absurd h
has_label (atom w ▸ atom v ▸ vs) b h = absurd h
has_label (atom w ▸ list ps ▸ vs) b h = ap is_in_order h.0

pub choices_named : (ts : Trees) (bs : List Branch) → EachIsChoice ts bs → AreNamed bs
choices_named none [] h = tt
choices_named none (b ∷ bs) h = absurd h
choices_named (t ▸ ts) [] h = absurd h
choices_named (t ▸ ts) (b ∷ bs) ((us, e, h), g) = (has_label us b h, choices_named ts bs g)

-- the two names are distinguished in whichever order they come
other_name : (v w : List ℕ) → is w v ≡ false → bytes_eq v w ≡ false
other_name v w e = false_from_ne_true (bytes_eq v w) (λ same. let there : is w v ≡ true = (bytes_eq-Decides w v).1 (sym ((bytes_eq-Decides v w).0 same)) in let no : true ≡ false = sym there ∙ e in cc)

not_agreed : {A : Type 0} (l : Chosen (List ℕ)) (w : List ℕ) (xs : List A) → is w (name_in l) ≡ false → agree l (ByName w xs) ≡ false
not_agreed InOrder w xs e = refl
not_agreed (ByName v ps) w xs e = and_left (bytes_eq v w) (length ps == length xs) (other_name v w e)

agreed : {A : Type 0} (l : Chosen (List ℕ)) (w : List ℕ) (xs : List A) → is_in_order l ≡ false → is w (name_in l) ≡ true → length (given_in l) ≡ length xs → agree l (ByName w xs) ≡ true
agreed InOrder w xs named e g = absurd (cc)
agreed (ByName v ps) w xs named e g =
    and_from (bytes_eq v w) (length ps == length xs) ((bytes_eq-Decides v w).1 (sym ((bytes_eq-Decides w v).0 e))) (eq-eqb (length ps) (length xs) g)

left_out : {A : Type 0} (by : Chosen A) (b : Branch) (bs : List Branch) → agree b.label by ≡ false → chosen by (b ∷ bs) ≡ chosen by bs
left_out by b bs e = ap (λ t. cond t (b ∷ chosen by bs) (chosen by bs)) e

none_left : {A : Type 0} (w : List ℕ) (xs : List A) (bs : List Branch) → list_any (λ c. is w (name_of c)) bs ≡ false → chosen (ByName w xs) bs ≡ []
none_left w xs [] e = refl
none_left w xs (b ∷ bs) e =
    let apart = or_parts (is w (name_of b)) (list_any (λ c. is w (name_of c)) bs) e in
    left_out (ByName w xs) b bs (not_agreed b.label w xs apart.0) ∙ none_left w xs bs apart.1

-- the choice of this name is the one that is left
pub record IsLeft {A : Type 0} (bs : List Branch) (by : Chosen A) (k : ℕ) : Type 0 where
  pub branch : Branch
  pub there : slice_get bs k ≡ Some branch
  pub alone : chosen by bs ≡ branch ∷ []

pub one_left : {A : Type 0} (bs : List Branch) (w : List ℕ) (xs : List A) (k n : ℕ) → AreNamed bs → AreApart name_of bs
    → place_of (map name_of bs) w ≡ Some k → slice_get (map parameter_count bs) k ≡ Some n → length xs ≡ n → IsLeft bs (ByName w xs) k
one_left [] w xs k n named apart e g h = absurd (cc)
one_left {A} (b ∷ bs) w xs k n named apart e g h = by_test (λ j f i. one_left bs w xs j n named.1 apart.1 f i h) (is w (name_of b)) refl e
  where
    Among : Type 0
    Among = (j : ℕ) → place_of (map name_of bs) w ≡ Some j → slice_get (map parameter_count bs) j ≡ Some n → IsLeft bs (ByName w xs) j

    first : (k : ℕ) → is w (name_of b) ≡ true → 0 ≡ k → slice_get (map parameter_count (b ∷ bs)) k ≡ Some n → IsLeft (b ∷ bs) (ByName w xs) k
    first (suc k) same z g = absurd (cc)
    first zero same z g = record {
      branch = b;
      there = refl;
      alone =
          let count : parameter_count b ≡ n = cc in
          let rest : list_any (λ c. is w (name_of c)) bs ≡ false = subst (λ v. list_any (λ c. is v (name_of c)) bs ≡ false) (sym ((bytes_eq-Decides w (name_of b)).0 same)) apart.0 in
          left_in (ByName w xs) b bs (agreed b.label w xs named.0 same (count ∙ sym h)) ∙ ap (λ cs. b ∷ cs) (none_left w xs bs rest);
    }

    later : Among → (o : Option ℕ) → place_of (map name_of bs) w ≡ o → is w (name_of b) ≡ false → (k : ℕ) → option_map suc o ≡ Some k → slice_get (map parameter_count (b ∷ bs)) k ≡ Some n → IsLeft (b ∷ bs) (ByName w xs) k
    later among None at other k e g = absurd (cc)
    later among (Some j) at other zero e g = absurd (cc)
    later among (Some j) at other (suc k) e g =
        let same : j ≡ k = cc in
        let r = among k (at ∙ ap Some same) g in
        record { branch = r.branch; there = r.there; alone = left_out (ByName w xs) b bs (not_agreed b.label w xs other) ∙ r.alone }

    by_test : Among → (t : Bool) → is w (name_of b) ≡ t → cond t (Some 0) (option_map suc (place_of (map name_of bs) w)) ≡ Some k → IsLeft (b ∷ bs) (ByName w xs) k
    by_test among true same e = let z : 0 ≡ k = cc in first k same z g
    by_test among false other e = later among (place_of (map name_of bs) w) refl other k e g
