-- What the values of the code stand for.
use Rattle.std.specs.Prelude.{ℕ, List, map}
use Rattle.std.specs.Arc.{arc_value}
use Rattle.lc_base.specs.Name.{bytes_of}
use Rattle.lc_base.specs.declared.name.Name.{Name}
use Rattle.lc_base.specs.declared.ids.ColId.{ColId}
use Rattle.lc_term.specs.View.{term_of, formula_of}
use Rattle.lc_term.specs.Syntax as T
use Rattle.lc_term.specs.declared.term.Term.{Term}
use Rattle.lc_object.specs.Syntax as S
use Rattle.lc_object.specs.declared.instr.LocalId.{LocalId}
use Rattle.lc_object.specs.declared.instr.Instr.{Instr}
use Rattle.lc_object.specs.declared.instr.Instr.TheVariants.{Load, Store, Cas, Set, Faa, If, Return}
use Rattle.lc_object.specs.declared.parts.Column.{Column}
use Rattle.lc_object.specs.declared.parts.Array.{Array}
use Rattle.lc_object.specs.declared.parts.Operation.{Operation}
use Rattle.lc_object.specs.declared.parts.Point.{Point}
use Rattle.lc_object.specs.declared.parts.Parts.{Parts}

abbrev pub names_of : List Name → List (List ℕ)
names_of names = map bytes_of names

abbrev pub locals_of : List LocalId → List ℕ
locals_of locals = map (λ l. l.0) locals

abbrev pub columns_of : List ColId → List ℕ
columns_of columns = map (λ c. c.0) columns

abbrev pub terms_of : List Term → List T.Term
terms_of terms = map term_of terms

abbrev pub instruction_of : Instr → S.Instr
instruction_of (Load a t rs l) = S.Load a.0 (term_of t) (locals_of rs.items) l.0
instruction_of (Store a t vs l) = S.Store a.0 (term_of t) (terms_of vs.items) l.0
instruction_of (Cas a t old new l m) = S.Cas a.0 (term_of t) (terms_of old.items) (terms_of new.items) l.0 m.0
instruction_of (Set rs vs l) = S.Set (locals_of rs.items) (terms_of vs.items) l.0
instruction_of (Faa a t rs ds l) = S.Faa a.0 (term_of t) (locals_of rs.items) (terms_of ds.items) l.0
instruction_of (If f l m) = S.If (formula_of (arc_value f)) l.0 m.0
instruction_of (Return vs) = S.Return (terms_of vs.items)

abbrev pub column_view : Column → S.Column
column_view c = record { name = bytes_of c.name; slope = c.slope; start = c.start }

abbrev pub array_of : Array → S.Array
array_of a = record { name = bytes_of a.name; columns = columns_of a.columns.items }

abbrev pub operation_of : Operation → S.Operation
operation_of o = record { name = bytes_of o.name; arguments = names_of o.arguments.items; replies = o.replies; locals = names_of o.locals.items; entry = o.entry.0 }

abbrev pub point_of : Point → S.Point
point_of p = record { name = bytes_of p.name; operation = p.operation.0; instruction = instruction_of p.instruction }

-- the object of these parts
abbrev pub parts_of : Parts → S.Object
parts_of p = record {
  name = bytes_of p.name;
  abstracts = names_of p.abstracts.items;
  concretes = map column_view p.concretes.items;
  auxiliaries = names_of p.auxiliaries.items;
  arrays = map array_of p.arrays.items;
  operations = map operation_of p.operations.items;
  points = map point_of p.points.items;
}
