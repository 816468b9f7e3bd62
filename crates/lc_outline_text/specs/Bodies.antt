-- What a text reads as where the bodies of a development's object are expected.
use Rattle.std.specs.Prelude.{ℕ, nat_lt, if◌then◌else◌, List, ◌++◌, length, slice_get, Option, Some, None}
use Rattle.lc_sexp.specs.TreeCode.{tree_count}
use Rattle.lc_sexp.specs.Trees.{Tree, Trees}
use Rattle.lc_reading.specs.Readings.{Reading, wrong}
use Rattle.lc_reading.specs.declared.pass.Pass.TheVariants.{Shape}
use Rattle.lc_text.specs.Names.{Names}
use Rattle.lc_object.specs.Syntax.{Point}
use Rattle.lc_object_text.specs.ObjectNames.{Body, bodies_due}
use Rattle.lc_object_text.specs.Points.{BodyText, body_reading}
use Rattle.lc_object_text.specs.Rows.{placed_reading}
use Rattle.lc_outline.specs.Development.{Outline}
use Rattle.lc_rider_text.specs.Scopes.{beside_names}
use Rattle.lc_outline_text.specs.Declarations.{Declarations, known_of, own_ways}
use Rattle.lc_outline_text.specs.Points.{beside}

-- beside the code of a body its arguments and its locals are variables
abbrev pub names_in : Declarations → Body → Names
names_in d b = beside_names d.declared.columns (Some (b.call.arguments ++ b.locals))

-- the item n, where this body is expected, of the operation of this number, if one is
abbrev pub due_reading : Declarations → Option Body → ℕ → ℕ → Tree → Reading (BodyText (Point × Outline))
due_reading d None o n t = wrong Shape n
due_reading d (Some b) o n t = body_reading d.declared b (beside (known_of d) (names_in d b) (own_ways d o)) o n t

abbrev pub ith_reading : Declarations → ℕ → ℕ → Tree → Reading (BodyText (Point × Outline))
ith_reading d i n t = due_reading d (slice_get d.declared.bodies i) i n t

-- BODY ..: one for each operation, in the object n
abbrev pub bodies_reading : Declarations → ℕ → ℕ → Trees → Reading (List (BodyText (Point × Outline)))
bodies_reading d n m ts =
    if nat_lt (tree_count ts) (bodies_due (length d.declared.operations)) then wrong Shape n else placed_reading (ith_reading d) 0 m ts
