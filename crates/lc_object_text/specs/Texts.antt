-- What clauses see of the parts of a development file that are read.
use Rattle.std.specs.Prelude.{ℕ, List, map, Vec}
use Rattle.std.specs.declared.alloc.Global.{Global}
use Rattle.lc_base.specs.Name.{bytes_of}
use Rattle.lc_base.specs.declared.name.Name.{Name}
use Rattle.lc_object.specs.View.{names_of, column_view, point_of}
use Rattle.lc_object.specs.declared.parts.Point.{Point}
use Rattle.lc_object.specs.Syntax as S
use Rattle.lc_object_text.specs.Objects as O
use Rattle.lc_object_text.specs.Points as P
use Rattle.lc_object_text.specs.declared.arrays.ArrayText.{ArrayText}
use Rattle.lc_object_text.specs.declared.body.BodyText.{BodyText}
use Rattle.lc_object_text.specs.declared.signatures.Signature.{Signature}
use Rattle.lc_object_text.specs.declared.signatures.SpecificationText.{SpecificationText}
use Rattle.lc_object_text.specs.declared.tables.Tables.{Tables}

abbrev pub array_view : ArrayText → O.ArrayText
array_view a = record { name = bytes_of a.name; columns = map column_view a.columns.items }

abbrev pub call_names_view : Vec Name Global × ℕ → List (List ℕ) × ℕ
call_names_view call = (names_of call.0.items, call.1)

abbrev pub signature_view : Signature → O.Signature
signature_view s = record { name = bytes_of s.name; arguments = names_of s.arguments.items; replies = s.replies }

abbrev pub specification_view : SpecificationText → O.SpecificationText
specification_view s = record { abstracts = names_of s.abstracts.items; signatures = map signature_view s.signatures.items }

abbrev pub body_text_view : {T X : Type 0} → (T → X) → BodyText T → P.BodyText X
body_text_view view b = record { locals = names_of b.locals.items; points = map view b.points.items }

abbrev pub arrays_view : Name × Vec ArrayText Global → List ℕ × List O.ArrayText
arrays_view p = (bytes_of p.0, map array_view p.1.items)

abbrev pub tables_view : Tables → O.Tables
tables_view t = record { name = bytes_of t.name; arrays = map array_view t.arrays.items; auxiliaries = names_of t.auxiliaries.items }

abbrev pub body_texts_view : Vec (BodyText Point) Global → List (P.BodyText S.Point)
body_texts_view bodies = map (body_text_view point_of) bodies.items

-- the tables and the bodies of an object
abbrev pub object_parts : Tables × Vec (BodyText Point) Global → O.Tables × List (P.BodyText S.Point)
object_parts p = (tables_view p.0, body_texts_view p.1)
