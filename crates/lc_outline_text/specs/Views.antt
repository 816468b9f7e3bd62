-- What clauses see of the parts of a development file that are read, and of counts.
use Rattle.std.specs.Prelude.{◌≡◌, ℕ, ℤ, ◌+◌, ◌++◌, Bool, true, false, not, List, map, min, Vec, Option, Some, None, Result, Ok, Err}
use Rattle.std.specs.declared.alloc.Global.{Global}
use Rattle.lc_base.specs.Limits.{condition_limit}
use Rattle.lc_sexp.specs.Shown.{rest_of}
use Rattle.lc_sexp.specs.Trees.{Trees}
use Rattle.lc_sexp.specs.declared.cursor.Cursor.{Cursor}
use Rattle.lc_term.specs.Syntax as T
use Rattle.lc_term.specs.View.{formula_of}
use Rattle.lc_term.specs.declared.formula.Formula.{Formula}
use Rattle.lc_seq.specs.Specification as Q
use Rattle.lc_seq.specs.SpecView.{column_of}
use Rattle.lc_seq.specs.declared.specification.Column.{Column}
use Rattle.lc_action.specs.Action as A
use Rattle.lc_action.specs.ActionView.{action_of}
use Rattle.lc_action.specs.declared.action.Action.{Action}
use Rattle.lc_tie.specs.Tie as I
use Rattle.lc_tie.specs.TieView.{conjunct_of}
use Rattle.lc_tie.specs.declared.tie.Conjunct.{Conjunct}
use Rattle.lc_object.specs.Syntax as O
use Rattle.lc_object.specs.View.{point_of}
use Rattle.lc_object.specs.declared.parts.Point.{Point}
use Rattle.lc_object_text.specs.Objects as OT
use Rattle.lc_object_text.specs.Points as PT
use Rattle.lc_object_text.specs.Texts.{body_text_view, tables_view}
use Rattle.lc_object_text.specs.declared.body.BodyText.{BodyText}
use Rattle.lc_object_text.specs.declared.tables.Tables.{Tables}
use Rattle.lc_outline.specs.Development as D
use Rattle.lc_outline.specs.PartsView.{outline_of, parts_view}
use Rattle.lc_outline.specs.declared.parts.Outline.{Outline}
use Rattle.lc_outline.specs.declared.parts.Parts.{Parts}
use Rattle.lc_reading.specs.Flaws.{refusal_of}
use Rattle.lc_reading.specs.Readings.{fine, flawed}
use Rattle.lc_reading.specs.declared.flaw.Flaw.{Flaw}
use Rattle.lc_reading.specs.declared.flaw.ReadFault.{ReadFault}
use Rattle.lc_reading.specs.declared.flaw.ReadFault.TheVariants.{Flawed, OutOfMemory}
use Rattle.lc_reading.specs.declared.pass.Pass.{Pass}
use Rattle.lc_reading.specs.declared.pass.Pass.TheVariants.{Bound}
use Rattle.lc_outline_text.specs.Developments as S
use Rattle.lc_outline_text.specs.Developments.{file_reading}
use Rattle.lc_outline_text.specs.Sizes as Z
use Rattle.lc_outline_text.specs.Sides as B
use Rattle.lc_outline_text.specs.declared.instruction.Totals.{Totals}
use Rattle.lc_outline_text.specs.declared.sides.Sides.{Sides}

-- a point, and what is beside its code
abbrev pub outlined_of : Point × Outline → O.Point × D.Outline
outlined_of p = (point_of p.0, outline_of p.1)

abbrev pub body_outlined : BodyText (Point × Outline) → PT.BodyText (O.Point × D.Outline)
body_outlined b = body_text_view outlined_of b

abbrev pub actions_view : Vec Column Global × Vec Action Global → List Q.Column × List A.Action
actions_view p = (map column_of p.0.items, map action_of p.1.items)

abbrev pub conditions_view : Vec Conjunct Global × Vec Formula Global → List I.Conjunct × List T.Formula
conditions_view p = (map conjunct_of p.0.items, map formula_of p.1.items)

abbrev pub sides_view : Sides → B.Sides
sides_view s = record {
  auxiliaries = map column_of s.auxiliaries.items;
  actions = map action_of s.actions.items;
  conjuncts = map conjunct_of s.conjuncts.items;
  idle = map formula_of s.idle.items;
}

abbrev pub tables_and_sides : Tables × Sides → OT.Tables × B.Sides
tables_and_sides p = (tables_view p.0, sides_view p.1)

abbrev pub bodies_outlined : List (BodyText (Point × Outline)) → List (PT.BodyText (O.Point × D.Outline))
bodies_outlined bodies = map body_outlined bodies

abbrev pub object_parts_view : (Tables × Sides) × Vec (BodyText (Point × Outline)) Global → S.Parts
object_parts_view p = (tables_and_sides p.0, bodies_outlined p.1.items)

-- the two numbers of each column: those of the specification, of the arrays, and the auxiliary ones
abbrev pub declared_numbers : List Q.Column → List O.Column → List Q.Column → List (ℤ × ℤ)
declared_numbers abstracts concretes auxiliaries =
    map (λ (c : Q.Column). (c.slope, c.start)) abstracts
    ++ (map (λ (c : O.Column). (c.slope, c.start)) concretes ++ map (λ (c : Q.Column). (c.slope, c.start)) auxiliaries)

-- ---- counts

-- the least count that is beyond the limit
abbrev pub count_cap : ℕ
count_cap = 1 + condition_limit

-- this count, or the cap if it is more
abbrev pub capped : ℕ → ℕ
capped n = min count_cap n

-- the columns in which is stored by a branch F (UPDATE ..) (T ..) that notes replies, or settles a call
abbrev pub columns_marked : Bool → List (List ℕ) → Trees → List ℕ
columns_marked true = Z.columns_noted
columns_marked false = Z.columns_settled

abbrev pub totals_view : Totals → Z.Totals
totals_view n = record { invariant = n.invariant; idle = n.idle; actions = n.actions }

-- what is left, if something is found
abbrev pub rest_found : Option Cursor → Option Trees
rest_found None = None
rest_found (Some c) = Some (rest_of c)

-- ---- the file

abbrev pub is_bound : Pass → Bool
is_bound Bound = true
is_bound _ = false

-- whether what is reported about them is reported before any item beyond a limit
abbrev pub is_told_before_limits : Result Parts ReadFault → Bool
is_told_before_limits (Ok parts) = false
is_told_before_limits (Err (Flawed f)) = not (is_bound f.pass)
is_told_before_limits (Err OutOfMemory) = false

-- what the forms of a file say, else what is reported first about them
abbrev pub IsFileRead : Trees → Result Parts ReadFault → Type 0
IsFileRead ts (Ok parts) = file_reading ts ≡ fine (parts_view parts)
IsFileRead ts (Err (Flawed f)) = (g : Flaw) × (file_reading ts ≡ flawed g) × (refusal_of f ≡ refusal_of g)
IsFileRead ts (Err OutOfMemory) = Unit {0}
