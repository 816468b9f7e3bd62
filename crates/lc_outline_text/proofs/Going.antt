-- An operation that is read goes as its text says: by branches, or by choices.
use Rattle.std.proofs.Common.{◌≡◌, ℕ, ◌<◌, Bool, true, false, cond, List, [], ◌∷◌, map, length, Option, Some, None, refl, sym, ap, ap₂, ◌∙◌, arith}
use Rattle.std.proofs.lemmas.Bool.Decides.{nat_tests}
use Rattle.std.proofs.lemmas.List.{length-map}
use Rattle.std.specs.Prelude.{codes, nat_lt, slice_get}
use Rattle.lc_sexp.specs.Parts.{fits, misshapen}
use Rattle.lc_sexp.specs.TreeCode.{tree_count}
use Rattle.lc_sexp.specs.Trees.{Tree, Trees, atom, list, none, ◌▸◌}
use Rattle.lc_reading.proofs.Holding.{Holds, holds_weaker, and_holds}
use Rattle.lc_reading.specs.Listed.{place_of}
use Rattle.lc_term.specs.Syntax.{Term}
use Rattle.lc_object_text.specs.ObjectNames.{first_text}
use Rattle.lc_object_text.specs.Sections.{before_others, forms_in}
use Rattle.lc_outline.specs.Resolved.{has_some}
use Rattle.lc_rider_text.specs.Counted.{GoesSo}
use Rattle.lc_rider_text.specs.Known.{Ways, has_choices}
use Rattle.lc_seq.specs.Sequential.{ByName, given_in}
use Rattle.lc_seq.specs.Specification.{Branch}
use Rattle.lc_spec_text.proofs.Ways as Q
use Rattle.lc_spec_text.proofs.Ways.{name_in, name_of, IsChoiceOf, EachIsChoice, AreWays, all_left, choices_named, IsLeft, one_left}
use Rattle.lc_spec_text.specs.Choices.{begin_with_choice, ways_reading}
use Rattle.lc_spec_text.specs.Scopes.{Columns}
use Rattle.lc_outline_text.specs.Declarations.{parameter_count}

-- the branches or choices of this text, at least one
pub record AreWaysOf (ts : Trees) (bs : List Branch) : Type 0 where
  pub count : length bs ≡ tree_count ts
  pub some : has_some bs ≡ true
  pub ways : AreWays ts bs

some_read : (t : Tree) (ts : Trees) (bs : List Branch) → length bs ≡ tree_count (t ▸ ts) → has_some bs ≡ true
some_read t ts [] e = absurd (cc)
some_read t ts (b ∷ bs) e = refl

pub ways_said : (columns : Columns) (variables : List (List ℕ)) (count : Option ℕ) (m : ℕ) (t : Tree) (ts : Trees) → Holds (AreWaysOf (t ▸ ts)) (ways_reading columns variables count m (t ▸ ts))
ways_said columns variables count m t ts =
    let r = ways_reading columns variables count m (t ▸ ts) in
    holds_weaker (λ bs. AreWays (t ▸ ts) bs × (length bs ≡ tree_count (t ▸ ts))) (AreWaysOf (t ▸ ts)) r (λ bs h. record { count = h.1; some = some_read t ts bs h.1; ways = h.0 })
    (and_holds (AreWays (t ▸ ts)) (λ bs. length bs ≡ tree_count (t ▸ ts)) r (Q.ways_said columns variables count m (t ▸ ts)) (Q.ways_counted columns variables count m (t ▸ ts)))

-- ---- the choices of a text

-- what comes after the word in each choice
abbrev choices_of : Trees → List Trees
choices_of ts = forms_in (codes "choice") ts

abbrev ways_of : Trees → Ways
ways_of ts = record { count = tree_count ts; choices = map first_text (choices_of ts); parameters = map parameter_count (choices_of ts) }

-- if the first form is none, there are none
pub no_choices : (ts : Trees) → begin_with_choice ts ≡ false → forms_in (codes "choice") ts ≡ []
no_choices none e = refl
no_choices (atom w ▸ ts) e = refl
no_choices (list none ▸ ts) e = refl
no_choices (list (list us ▸ vs) ▸ ts) e = refl
no_choices (list (atom w ▸ us) ▸ ts) e = ap (λ b. before_others (cond b (fits us) misshapen) (choices_of ts)) e

-- a choice is read with its name, and with as many parameters
abbrev HasLabel : Trees → Branch → Type 0
HasLabel us b = (first_text us ≡ name_of b) × (parameter_count us ≡ Q.parameter_count b)

label_same : (us : Trees) (b : Branch) → IsChoiceOf us b → HasLabel us b
label_same none b h = absurd h
label_same (list us ▸ vs) b h = absurd h
label_same (atom w ▸ none) b h = absurd h
label_same (atom w ▸ atom v ▸ vs) b h = absurd h
label_same (atom w ▸ list ps ▸ vs) b h = (sym (ap name_in h.0), sym h.1 ∙ sym (ap (λ l. length (given_in l)) h.0))

abbrev HaveLabels : List Trees → List Branch → Type 0
HaveLabels fs bs = (map first_text fs ≡ map name_of bs) × (map parameter_count fs ≡ map Q.parameter_count bs)

labels_same : (ts : Trees) (bs : List Branch) → EachIsChoice ts bs → HaveLabels (choices_of ts) bs
labels_same none [] h = (refl, refl)
labels_same none (b ∷ bs) h = absurd h
labels_same (t ▸ ts) [] h = absurd h
labels_same (t ▸ ts) (b ∷ bs) ((us, e, h), g) =
    let label = label_same us b h in
    let others = labels_same ts bs g in
    let forms : choices_of (t ▸ ts) ≡ us ∷ choices_of ts = ap (λ f. before_others f (choices_of ts)) e in (
      ap (map first_text) forms ∙ ap₂ (λ w ws. w ∷ ws) label.0 others.0,
      ap (map parameter_count) forms ∙ ap₂ (λ n ns. n ∷ ns) label.1 others.1,
    )

-- ---- how the operation goes

above : (n : ℕ) → 0 < n → nat_lt 0 n ≡ true
above n h = grind (arith, nat_tests)

some_named : (ts : Trees) (bs : List Branch) → HaveLabels (choices_of ts) bs → has_some bs ≡ true → has_choices (ways_of ts) ≡ true
some_named ts [] h some = absurd (cc)
some_named ts (b ∷ bs) h some = let e = ap length h.0 in above (length (map first_text (choices_of ts))) (omega (arith, e))

-- if it goes by no choices, the first form is none
pub none_first : (ts : Trees) (bs : List Branch) → AreWaysOf ts bs → has_choices (ways_of ts) ≡ false → begin_with_choice ts ≡ false
none_first ts bs h e = by_test (begin_with_choice ts) refl where
  by_test : (b : Bool) → begin_with_choice ts ≡ b → begin_with_choice ts ≡ false
  by_test true g = absurd (let no : true ≡ false = sym (some_named ts bs (labels_same ts bs (h.ways.choices g).each) h.some) ∙ e in cc)
  by_test false g = g

-- the choice of a name, at its place, is the one that is left
pub left_at : (ts : Trees) (bs : List Branch) → AreWaysOf ts bs → (name : List ℕ) (terms : List Term) (j n : ℕ) → place_of (map first_text (forms_in (codes "choice") ts)) name ≡ Some j
    → slice_get (map parameter_count (forms_in (codes "choice") ts)) j ≡ Some n → length terms ≡ n → IsLeft bs (ByName name terms) j
left_at ts bs h name terms j n e g l = by_test (begin_with_choice ts) refl where
  by_test : (b : Bool) → begin_with_choice ts ≡ b → IsLeft bs (ByName name terms) j
  by_test true f =
      let choices = h.ways.choices f in
      let labels = labels_same ts bs choices.each in
      one_left bs name terms j n (choices_named ts bs choices.each) choices.apart (sym (ap (λ ws. place_of ws name) labels.0) ∙ e) (sym (ap (λ ns. slice_get ns j) labels.1) ∙ g) l
  by_test false f = absurd (let no : None ≡ Some j = sym (ap (λ fs. place_of (map first_text fs) name) (no_choices ts f)) ∙ e in cc)

pub goes_so : (ts : Trees) (bs : List Branch) → AreWaysOf ts bs → GoesSo (ways_of ts) bs
goes_so ts bs h = record {
  count = sym h.count;
  in_order = λ e. all_left Term bs (h.ways.branches (none_first ts bs h e));
  parameters = length-map (choices_of ts) parameter_count ∙ sym (length-map (choices_of ts) first_text);
  by_name = λ name j n terms e g l. ap length (left_at ts bs h name terms j n e g l).alone;
}
