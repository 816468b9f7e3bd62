-- What holds of the choices that are read, and what branches they leave.
use Rattle.std.proofs.Common.{◌≡◌, ℕ, ◌+◌, ◌<◌, Bool, true, false, ◌==◌, cond, not, List, [], ◌∷◌, Option, Some, None, length, get_or, refl, sym, ap, ◌∙◌, subst, arith}
use Rattle.std.proofs.lemmas.Bool.{eq-eqb, eqb-true}
use Rattle.std.proofs.lemmas.Option.{slice_get-get_or}
use Rattle.std.specs.List.{list_all}
use Rattle.std.specs.Prelude.{slice_get}
use Rattle.lc_lemmas.proofs.Booleans.{not_true}
use Rattle.lc_base.specs.NameText.{is_name}
use Rattle.lc_sexp.specs.Trees.{Trees, atom, list, none, ◌▸◌, item_count}
use Rattle.lc_outline.specs.Resolved.{has_some}
use Rattle.lc_reading.proofs.Holding.{Holds, holds_unit, holds_weaker, mapped_holds, both_holds, if_holds, counted_holds}
use Rattle.lc_reading.proofs.Places.{place_below}
use Rattle.lc_reading.specs.Listed.{place_of}
use Rattle.lc_reading.specs.Naming.{known, use_reading}
use Rattle.lc_reading.specs.Readings.{Reading, fine, flawed, wrong}
use Rattle.lc_reading.specs.Words.{is_long}
use Rattle.lc_reading.specs.declared.pass.Pass.TheVariants.{Shape, Bound}
use Rattle.lc_seq.specs.Sequential.{Chosen, InOrder, ByName}
use Rattle.lc_seq.specs.Specification.{Branch, is_in_order, chosen}
use Rattle.lc_term.specs.Syntax.{Term}
use Rattle.lc_text.specs.Names.{Names}
use Rattle.lc_text.specs.Terms.{term_reading}
use Rattle.lc_rider_text.specs.Choices.{may_go_in_order, in_order_reading, choice_use, choice_reading, by_reading}
use Rattle.lc_rider_text.specs.Counted.{GoesSo, Goes}
use Rattle.lc_rider_text.specs.Known.{Ways, has_choices, entry_at}
use Rattle.lc_rider_text.specs.Paths.{mark_ways}
use Rattle.lc_rider_text.specs.Terms.{arguments_reading}

pub all_hold : {X : Type 0} (P : X → Type 0) (r : Reading X) → ((x : X) → P x) → Holds P r
all_hold P (fine x) h = h x
all_hold P (flawed f) h = tt

-- ---- names and terms

-- the place of a name that is used is its place among these
placed_use : (ws : List (List ℕ)) (n : ℕ) (w : List ℕ) (o : Option ℕ) → place_of ws w ≡ o → Holds (λ a. place_of ws w ≡ Some a) (known n w o)
placed_use ws n w None e = tt
placed_use ws n w (Some a) e = if_holds (λ a. place_of ws w ≡ Some a) (is_long w) (wrong Bound n) (fine a) tt e

pub use_placed : (ws : List (List ℕ)) (n : ℕ) (w : List ℕ) → Holds (λ a. place_of ws w ≡ Some a) (use_reading ws n (atom w))
use_placed ws n w = if_holds (λ a. place_of ws w ≡ Some a) (is_name w) _ (wrong Shape n) (placed_use ws n w (place_of ws w) refl) tt

-- if the expected number of terms is known, there are that many
pub arguments_counted : (names : Names) (due : Option ℕ) (n m : ℕ) (ts : Trees) → Holds (λ (args : List Term). (k : ℕ) → due ≡ Some k → length args ≡ k) (arguments_reading names due n m ts)
arguments_counted names None n m ts = all_hold (λ (args : List Term). (k : ℕ) → None ≡ Some k → length args ≡ k) _ (λ args k e. absurd (cc))
arguments_counted names (Some c) n m ts =
    holds_weaker (λ (args : List Term). (list_all (λ t. true) args ≡ true) × (length args ≡ c)) (λ (args : List Term). (k : ℕ) → Some c ≡ Some k → length args ≡ k) _
    (λ args h k e. let same : c ≡ k = cc in let counted : length args ≡ c = h.1 in cc)
    (counted_holds (λ t. true) (term_reading names []) (λ n t. all_hold (λ x. true ≡ true) _ (λ x. refl)) n c m ts)

-- ---- choices

-- n terms are as many as are expected, if that number is known
abbrev pub is_due : Option ℕ → ℕ → Bool
is_due None n = true
is_due (Some k) n = n == k

-- n terms go with the choice at this place, if there is one
abbrev pub is_choice_at : Ways → ℕ → Option ℕ → Bool
is_choice_at ways n None = false
is_choice_at ways n (Some j) = is_due (slice_get ways.parameters j) n

-- a branch may be chosen so, if it is known how the operation goes
abbrev pub is_choosing : Option Ways → Chosen Term → Bool
is_choosing None by = true
is_choosing (Some ways) InOrder = not (has_choices ways)
is_choosing (Some ways) (ByName name terms) = is_choice_at ways (length terms) (place_of ways.choices name)

-- it may, and it is said by no name; or by one
abbrev pub IsInOrder : Option Ways → Chosen Term → Type 0
IsInOrder ways by = (is_in_order by ≡ true) × (is_choosing ways by ≡ true)

abbrev pub IsByName : Option Ways → Chosen Term → Type 0
IsByName ways by = (is_in_order by ≡ false) × (is_choosing ways by ≡ true)

pub in_order_known : (ways : Option Ways) (n : ℕ) → Holds (IsInOrder ways) (in_order_reading ways n)
in_order_known None n = (refl, refl)
in_order_known (Some ways) n = by_test (has_choices ways) refl where
  by_test : (b : Bool) → has_choices ways ≡ b → Holds (IsInOrder (Some ways)) (cond b (wrong Shape n) (fine InOrder))
  by_test true e = tt
  by_test false e = (refl, ap not e)

met : (due : Option ℕ) (n : ℕ) → ((k : ℕ) → due ≡ Some k → n ≡ k) → is_due due n ≡ true
met None n f = refl
met (Some k) n f = eq-eqb n k (f k refl)

-- the name is one of a choice
abbrev IsNamed : Ways → List ℕ → List ℕ → Type 0
IsNamed ways w v = (v ≡ w) × ((j : ℕ) × (place_of ways.choices w ≡ Some j))

choice_known : (names : Names) (ways : Option Ways) (n m : ℕ) (ts : Trees) → Holds (IsByName ways) (choice_reading names ways n m ts)
choice_known names ways n m none = tt
choice_known names None n m (t ▸ ts) =
    both_holds (λ w. Unit {0}) (λ args. Unit {0}) (IsByName None) ByName (choice_use None m t) _ (holds_unit (choice_use None m t))
    (holds_unit (arguments_reading names None n (m + item_count t) ts)) (λ w args h g. (refl, refl))
choice_known names (Some ways) n m (atom w ▸ ts) =
    both_holds (IsNamed ways w) (λ (args : List Term). (k : ℕ) → entry_at ways.parameters (place_of ways.choices w) ≡ Some k → length args ≡ k) (IsByName (Some ways)) ByName
    (choice_use (Some ways) m (atom w)) _
    (mapped_holds (λ j. place_of ways.choices w ≡ Some j) (IsNamed ways w) (λ k. w) _ (use_placed ways.choices m w) (λ j e. (refl, (j, e))))
    (arguments_counted names (entry_at ways.parameters (place_of ways.choices w)) n (m + 1) ts)
    (λ v args (e, (j, at)) g.
    (refl, ap (is_choice_at ways (length args)) (ap (place_of ways.choices) e ∙ at) ∙ met (slice_get ways.parameters j) (length args) (λ k due. g k (ap (entry_at ways.parameters) at ∙ due))))
choice_known names (Some ways) n m (list us ▸ ts) =
    both_holds (λ v. ⊥) (λ args. Unit {0}) (IsByName (Some ways)) ByName (wrong Shape m) _ tt (holds_unit (arguments_reading names None n (m + item_count (list us)) ts)) (λ v args h g. absurd h)

pub by_known : (names : Names) (ways : Option Ways) (n m : ℕ) (ts : Trees) → Holds (IsByName ways) (by_reading names ways n m ts)
by_known names ways n m ts = if_holds (IsByName ways) (may_go_in_order ways) (wrong Shape n) _ tt (choice_known names ways n m ts)

-- ---- the branches that are left

-- all of them if no choice is named
all_left : (w : Ways) (bs : List Branch) → GoesSo w bs → (by : Chosen Term) → IsInOrder (Some w) by → chosen by bs ≡ bs
all_left w bs h InOrder (e, g) = h.in_order (not_true (has_choices w) g)
all_left w bs h (ByName name terms) (e, g) = absurd (cc)

-- one if one is
one_left : (w : Ways) (bs : List Branch) → GoesSo w bs → (by : Chosen Term) → IsByName (Some w) by → length (chosen by bs) ≡ 1
one_left w bs h InOrder (e, g) = absurd (cc)
one_left w bs h (ByName name terms) (e, g) = by_place (place_of w.choices name) refl g where
  by_place : (o : Option ℕ) → place_of w.choices name ≡ o → is_choice_at w (length terms) o ≡ true → length (chosen (ByName name terms) bs) ≡ 1
  by_place None at due = absurd (cc)
  by_place (Some j) at due =
      let below : j < length w.choices = place_below w.choices name j at in
      let counted : length w.parameters ≡ length w.choices = h.parameters in
      let there : slice_get w.parameters j ≡ Some (get_or w.parameters j 0) = slice_get-get_or w.parameters j 0 (omega arith) in
      h.by_name name j (get_or w.parameters j 0) terms at there (eqb-true (length terms) (get_or w.parameters j 0) (sym (ap (λ o. is_due o (length terms)) there) ∙ due))

-- as many as the operation has
pub in_order_counted : (ways : Option Ways) (bs : List Branch) → Goes ways bs → (by : Chosen Term) → IsInOrder ways by → length (chosen by bs) ≡ mark_ways ways
in_order_counted ways bs (w, same, h) by g =
    ap length (all_left w bs h by (subst (λ o. IsInOrder o by) same g)) ∙ sym h.count ∙ ap mark_ways (sym same)

pub by_name_counted : (ways : Option Ways) (bs : List Branch) → Goes ways bs → (by : Chosen Term) → IsByName ways by → length (chosen by bs) ≡ 1
by_name_counted ways bs (w, same, h) by g = one_left w bs h by (subst (λ o. IsByName o by) same g)

some_of_one : {A : Type 0} (xs : List A) → length xs ≡ 1 → has_some xs ≡ true
some_of_one [] e = absurd (cc)
some_of_one (x ∷ xs) e = refl

-- If an operation has a branch, a way to choose that is read leaves one
pub some_left : (ways : Option Ways) (bs : List Branch) → Goes ways bs → has_some bs ≡ true → (by : Chosen Term) → is_choosing ways by ≡ true → has_some (chosen by bs) ≡ true
some_left ways bs (w, same, h) some by g = by_kind (is_in_order by) refl where
  left : is_choosing (Some w) by ≡ true
  left = subst (λ o. is_choosing o by ≡ true) same g

  by_kind : (b : Bool) → is_in_order by ≡ b → has_some (chosen by bs) ≡ true
  by_kind true e = ap has_some (all_left w bs h by (e, left)) ∙ some
  by_kind false e = some_of_one (chosen by bs) (one_left w bs h by (e, left))
