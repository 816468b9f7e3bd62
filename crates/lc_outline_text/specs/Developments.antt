-- What a file reads as where a development is expected.
use Rattle.std.specs.Prelude.{ℕ, ◌+◌, nat_lt, List, [], ◌∷◌, ◌++◌, map}
use Rattle.lc_base.specs.Limits.{condition_limit}
use Rattle.lc_sexp.specs.Trees.{Tree, Trees, none, ◌▸◌, item_count}
use Rattle.lc_reading.specs.Readings.{Reading, wrong, limited, both, ended}
use Rattle.lc_reading.specs.declared.pass.Pass.TheVariants.{Shape}
use Rattle.lc_text.specs.Terms.{pair}
use Rattle.lc_seq.specs.Specification.{Operation, Specification}
use Rattle.lc_spec_text.specs.Specifications as Q
use Rattle.lc_object.specs.Syntax.{Point}
use Rattle.lc_object_text.specs.Objects as O
use Rattle.lc_object_text.specs.Objects.{Signature, SpecificationText}
use Rattle.lc_object_text.specs.Points.{BodyText, body_of}
use Rattle.lc_object_text.specs.Sections.{Sections, sections_of}
use Rattle.lc_outline.specs.Development.{Outline, Development}
use Rattle.lc_outline_text.specs.Bodies.{bodies_reading}
use Rattle.lc_outline_text.specs.Declarations.{Declarations, declarations_of}
use Rattle.lc_outline_text.specs.Sizes.{condition_count}
use Rattle.lc_outline_text.specs.Sides.{Sides, sides_reading}

-- the specification. Its branches see the abstract columns alone, and the others of the file may not be stored in
abbrev pub specification_reading : Declarations → ℕ → Tree → Reading Specification
specification_reading d n t = Q.specification_reading d.declared.columns n t

-- what its object's code sees of an operation
abbrev pub signature_seen : Operation → Signature
signature_seen q = record { name = q.name; arguments = q.arguments; replies = q.replies }

-- and of the whole
abbrev pub text_seen : Specification → SpecificationText
text_seen s = record { abstracts = map (λ c. c.name) s.columns; signatures = map signature_seen s.operations }

-- an object's own tables, what is beside its code, and its bodies with their outlines
abbrev pub Parts : Type 0
Parts = (O.Tables × Sides) × List (BodyText (Point × Outline))

-- what the object n has before its bodies
abbrev pub tables_reading : Declarations → Sections → ℕ → Reading (O.Tables × Sides)
tables_reading d s n = both pair (O.tables_reading d.declared s n) (sides_reading d s n)

-- the object n
abbrev pub object_reading : Declarations → Sections → ℕ → Reading Parts
object_reading d s n = both pair (tables_reading d s n) (bodies_reading d n s.bodies.number s.bodies.trees)

-- the code of bodies, and the outlines of all their points
abbrev pub code_of : BodyText (Point × Outline) → BodyText Point
code_of b = body_of b.locals (map (λ p. p.0) b.points)

abbrev pub outlines_of : List (BodyText (Point × Outline)) → List Outline
outlines_of [] = []
outlines_of (b ∷ bs) = map (λ p. p.1) b.points ++ outlines_of bs

abbrev pub development_of : Specification → Parts → Development
development_of s o = record {
  specification = s;
  object = O.object_of (text_seen s) (o.0.0, map code_of o.1);
  auxiliaries = o.0.1.auxiliaries;
  actions = o.0.1.actions;
  conjuncts = o.0.1.conjuncts;
  idle = o.0.1.idle;
  outlines = outlines_of o.1;
}

-- the second form, which is the last one
abbrev pub second_form_reading : Declarations → Sections → ℕ → Trees → Reading Parts
second_form_reading d s n none = wrong Shape n
second_form_reading d s n (t ▸ ts) = ended (n + item_count t) ts (object_reading d s n)

-- SPEC OBJECT: the forms from n on. A missing form is reported at the number of items
abbrev pub forms_reading : Declarations → Sections → ℕ → Trees → Reading Development
forms_reading d s n none = wrong Shape n
forms_reading d s n (t ▸ ts) = both development_of (specification_reading d n t) (second_form_reading d s (n + item_count t) ts)

-- What a file with these forms reads as. Too many conditions are reported at item 0
abbrev pub file_reading : Trees → Reading Development
file_reading ts = limited (nat_lt condition_limit (condition_count (declarations_of ts) (sections_of ts))) 0 (forms_reading (declarations_of ts) (sections_of ts) 0 ts)
