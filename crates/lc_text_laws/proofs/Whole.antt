-- The two forms of a development file, by their parts: its sections, what it declares, and what it reads as.
use Rattle.std.proofs.Common.{◌≡◌, ℕ, ◌+◌, false, List, [], Some, None, refl, sym, ap, ap₂, ◌∙◌, subst}
use Rattle.std.specs.Prelude.{codes, nat_lt}
use Rattle.lc_base.specs.Limits.{condition_limit}
use Rattle.lc_sexp.specs.Trees.{Tree, Trees, atom, list, none, ◌▸◌, item_count, item_count_of_all}
use Rattle.lc_reading.specs.Naming.{name_reading}
use Rattle.lc_reading.specs.Readings.{Reading, both, limited}
use Rattle.lc_reading.specs.Words.{is}
use Rattle.lc_term.specs.Syntax.{Formula}
use Rattle.lc_text.specs.Terms.{pair}
use Rattle.lc_seq.specs.Specification.{Column}
use Rattle.lc_action.specs.Action.{Action}
use Rattle.lc_tie.specs.Tie.{Conjunct}
use Rattle.lc_object.specs.Syntax.{Point}
use Rattle.lc_outline.specs.Development.{Outline, Development}
use Rattle.lc_object_text.specs.Counts.{second}
use Rattle.lc_object_text.specs.Declaring.{section_reading}
use Rattle.lc_object_text.specs.Headed.{headed_reading}
use Rattle.lc_object_text.specs.Objects as O
use Rattle.lc_object_text.specs.Objects.{ArrayText, array_reading, neither}
use Rattle.lc_object_text.specs.Points.{BodyText}
use Rattle.lc_object_text.specs.Rows.{placed_reading}
use Rattle.lc_object_text.specs.Sections.{Items, Sections, behind_first, behind_forms, items_in, sections_of}
use Rattle.lc_rider_text.specs.Actions.{action_reading}
use Rattle.lc_rider_text.specs.Scopes.{beside_names}
use Rattle.lc_outline_text.specs.Bodies.{bodies_reading}
use Rattle.lc_outline_text.specs.Declarations.{Declarations, declarations_in, known_of}
use Rattle.lc_outline_text.specs.Developments.{Parts, specification_reading, development_of, forms_reading, file_reading}
use Rattle.lc_outline_text.specs.Points.{formulas_in_reading}
use Rattle.lc_outline_text.specs.Sides.{sides_of, auxiliaries_reading, invariant_reading}
use Rattle.lc_outline_text.specs.Sizes.{condition_count}
use Rattle.lc_outline_print.specs.Developments.{followed}
use Rattle.lc_text_laws.proofs.Splits.{IsForm, AreForms, IsStop, lists_behind, lists_placed}

-- a specification, and the parts of an object
pub record File : Type 0 where
  pub spec : Tree
  pub name : Tree
  pub arrays : Trees
  pub auxiliaries : Tree
  pub actions : Trees
  pub invariant : Tree
  pub idle : Tree
  pub bodies : Trees

-- ACTION* (invariant ..) (idle ..) BODY+
abbrev pub behind_auxiliaries : File → Trees
behind_auxiliaries x = followed x.actions (x.invariant ▸ x.idle ▸ x.bodies)

-- NAME ARRAY* (aux ..) ..
abbrev pub object_parts : File → Trees
object_parts x = x.name ▸ followed x.arrays (x.auxiliaries ▸ behind_auxiliaries x)

abbrev pub forms_of_file : File → Trees
forms_of_file x = x.spec ▸ list (atom (codes "object") ▸ object_parts x) ▸ none

-- its lists begin with the expected words
pub record IsFormed (x : File) : Type 0 where
  pub arrays : AreForms (codes "array") x.arrays
  pub auxiliaries : IsForm (codes "aux") x.auxiliaries
  pub actions : AreForms (codes "action") x.actions
  pub invariant : IsForm (codes "invariant") x.invariant

-- ---- the numbers of its parts

abbrev pub object_at : File → ℕ
object_at x = 0 + item_count x.spec

abbrev pub arrays_at : File → ℕ
arrays_at x = object_at x + 2 + item_count x.name

abbrev pub auxiliaries_at : File → ℕ
auxiliaries_at x = arrays_at x + item_count_of_all x.arrays

abbrev pub actions_at : File → ℕ
actions_at x = auxiliaries_at x + item_count x.auxiliaries

abbrev pub invariant_at : File → ℕ
invariant_at x = actions_at x + item_count_of_all x.actions

abbrev pub idle_at : File → ℕ
idle_at x = invariant_at x + item_count x.invariant

abbrev pub bodies_at : File → ℕ
bodies_at x = idle_at x + item_count x.idle

-- ---- its sections

abbrev pub items : ℕ → Trees → Items
items n ts = record { number = n; trees = ts }

abbrev pub sections_by : File → Items → Items → Sections
sections_by x auxiliaries invariant = record {
  abstracts = behind_first (items_in (codes "spec") 0 x.spec);
  operations = behind_first (behind_first (items_in (codes "spec") 0 x.spec));
  object = items (object_at x + 2) (object_parts x);
  arrays = items (arrays_at x) (followed x.arrays (x.auxiliaries ▸ behind_auxiliaries x));
  auxiliaries = auxiliaries;
  invariant = invariant;
  bodies = behind_first (behind_first invariant);
}

abbrev pub sections_in_file : File → Sections
sections_in_file x = sections_by x (items (auxiliaries_at x) (x.auxiliaries ▸ behind_auxiliaries x)) (items (invariant_at x) (x.invariant ▸ x.idle ▸ x.bodies))

abbrev pub declared_in_file : File → Declarations
declared_in_file x = declarations_in (sections_in_file x)

stops : (word other : List ℕ) (t : Tree) (ts : Trees) → is other word ≡ false → IsForm other t → IsStop word (t ▸ ts)
stops word other t ts e (us, same) = subst (λ t. IsStop word (t ▸ ts)) (sym same) e

module _ (x : File) (formed : IsFormed x) where
  pub stops_arrays : IsStop (codes "array") (x.auxiliaries ▸ behind_auxiliaries x)
  stops_arrays = stops (codes "array") (codes "aux") x.auxiliaries (behind_auxiliaries x) refl formed.auxiliaries

  pub stops_actions : IsStop (codes "action") (x.invariant ▸ x.idle ▸ x.bodies)
  stops_actions = stops (codes "action") (codes "invariant") x.invariant (x.idle ▸ x.bodies) refl formed.invariant

  pub sections_are : sections_of (forms_of_file x) ≡ sections_in_file x
  sections_are =
      let auxiliaries = lists_behind (codes "array") (arrays_at x) x.arrays (x.auxiliaries ▸ behind_auxiliaries x) formed.arrays stops_arrays in
      let invariant = lists_behind (codes "action") (actions_at x) x.actions (x.invariant ▸ x.idle ▸ x.bodies) formed.actions stops_actions in
      ap (λ (a : Items). sections_by x a (behind_forms (codes "action") (behind_first a))) auxiliaries
      ∙ ap (λ (b : Items). sections_by x (items (auxiliaries_at x) (x.auxiliaries ▸ behind_auxiliaries x)) b) invariant

-- ---- what it reads as

-- the name and the arrays
abbrev pub named_reading : Declarations → File → Reading (List ℕ × List ArrayText)
named_reading d x = both pair (name_reading None [] (object_at x + 2) x.name) (placed_reading (array_reading d.declared) 0 (arrays_at x) x.arrays)

-- the words of the invariant and of what holds of idle clients, and the names of the auxiliary columns
abbrev pub words_reading : Declarations → File → Reading (List (List ℕ))
words_reading d x =
    both second (both neither (headed_reading (codes "invariant") (invariant_at x) x.invariant) (headed_reading (codes "idle") (idle_at x) x.idle))
    (section_reading (codes "aux") d.declared.columns d.declared.auxiliaries (auxiliaries_at x) x.auxiliaries)

abbrev pub acting_reading : Declarations → File → Reading (List Column × List Action)
acting_reading d x = both pair (auxiliaries_reading d (auxiliaries_at x) x.auxiliaries) (placed_reading (action_reading (known_of d)) 0 (actions_at x) x.actions)

abbrev pub holding_reading : Declarations → File → Reading (List Conjunct × List Formula)
holding_reading d x = both pair (invariant_reading d (invariant_at x) x.invariant) (formulas_in_reading (codes "idle") (beside_names d.declared.columns (Some [])) (idle_at x) x.idle)

abbrev pub bodies_read : Declarations → File → Reading (List (BodyText (Point × Outline)))
bodies_read d x = bodies_reading d (object_at x) (bodies_at x) x.bodies

-- the object of these readings
abbrev pub object_by : Reading (List ℕ × List ArrayText) → Reading (List (List ℕ)) → Reading (List Column × List Action) → Reading (List Conjunct × List Formula) → Reading (List (BodyText (Point × Outline))) → Reading Parts
object_by named words acting holding bodies = both pair (both pair (both O.tables_of named words) (both sides_of acting holding)) bodies

abbrev pub parts_reading : Declarations → File → Reading Development
parts_reading d x =
    both development_of (specification_reading d 0 x.spec) (object_by (named_reading d x) (words_reading d x) (acting_reading d x) (holding_reading d x) (bodies_read d x))

module _ (x : File) (formed : IsFormed x) (d : Declarations) where
  pub reads_by_parts : forms_reading d (sections_in_file x) 0 (forms_of_file x) ≡ parts_reading d x
  reads_by_parts =
      let arrays = lists_placed (codes "array") (array_reading d.declared) 0 (arrays_at x) x.arrays (x.auxiliaries ▸ behind_auxiliaries x) formed.arrays (stops_arrays x formed) in
      let actions = lists_placed (codes "action") (action_reading (known_of d)) 0 (actions_at x) x.actions (x.invariant ▸ x.idle ▸ x.bodies) formed.actions (stops_actions x formed) in
      ap₂ (λ (a : Reading (List ArrayText)) (b : Reading (List Action)).
      both development_of (specification_reading d 0 x.spec)
      (object_by (both pair (name_reading None [] (object_at x + 2) x.name) a) (words_reading d x) (both pair (auxiliaries_reading d (auxiliaries_at x) x.auxiliaries) b) (holding_reading d x) (bodies_read d x)))
      arrays actions

-- within the limit
abbrev pub limited_file : File → Reading Development
limited_file x = limited (nat_lt condition_limit (condition_count (declared_in_file x) (sections_in_file x))) 0 (parts_reading (declared_in_file x) x)

pub file_reads : (x : File) → IsFormed x → file_reading (forms_of_file x) ≡ limited_file x
file_reads x formed =
    ap (λ s. limited (nat_lt condition_limit (condition_count (declarations_in s) s)) 0 (forms_reading (declarations_in s) s 0 (forms_of_file x))) (sections_are x formed)
    ∙ ap (limited (nat_lt condition_limit (condition_count (declared_in_file x) (sections_in_file x))) 0) (reads_by_parts x formed (declared_in_file x))
