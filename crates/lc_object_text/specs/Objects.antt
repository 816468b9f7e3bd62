-- What a text reads as where the arrays, the operations and the bodies of an object are expected, and as a whole file.
use Rattle.std.specs.Prelude.{ℕ, ◌+◌, ℤ, pos, negsuc, Bool, false, ◌==◌, nat_lt, nat_le, if◌then◌else◌, codes, List, [], ◌∷◌, ◌++◌, length, slice_get, Option, Some, None}
use Rattle.lc_base.specs.Limits.{argument_limit, column_limit, operation_limit, reply_limit, width_limit}
use Rattle.lc_sexp.specs.Trees.{Tree, Trees, atom, list, none, ◌▸◌, item_count}
use Rattle.lc_sexp.specs.TreeCode.{tree_count}
use Rattle.lc_sexp.specs.Parts.{Fit, fits, misshapen, beyond, integer_fit}
use Rattle.lc_object.specs.Syntax.{Column, Array, Operation, Point, Object}
use Rattle.lc_object.specs.WellFormed.{numbers_from}
use Rattle.lc_reading.specs.Naming.{name_reading}
use Rattle.lc_reading.specs.Readings.{Reading, fine, wrong, limited, both, ended, behind_reading}
use Rattle.lc_reading.specs.declared.pass.Pass.TheVariants.{Shape, Bound}
use Rattle.lc_text.specs.Terms.{pair, numbers_reading}
use Rattle.lc_object_text.specs.Counts.{second}
use Rattle.lc_object_text.specs.Declaring.{kth_name_reading, names_reading, section_reading}
use Rattle.lc_object_text.specs.Headed.{headed_reading}
use Rattle.lc_object_text.specs.ObjectNames.{Declared, Body, Span, call_or, bodies_due, declared_in}
use Rattle.lc_object_text.specs.Points.{Beside, BodyText, body_reading, code_alone}
use Rattle.lc_object_text.specs.Rows.{placed_reading, lists_reading}
use Rattle.lc_object_text.specs.Sections.{Sections, sections_of}

-- the name of the i-th column of an array, after `base` + i others, in the item n
abbrev pub own_name_reading : List (List ℕ) → ℕ → ℕ → ℕ → ℕ → Tree → Reading (List ℕ)
own_name_reading names base i n m t = limited (nat_le width_limit i) n (limited (nat_le column_limit (base + i)) n (kth_name_reading names (base + i) m t))

abbrev pub column_of : List ℕ → ℤ × ℤ → Column
column_of name numbers = record { name = name; slope = numbers.0; start = numbers.1 }

-- NAME a b: the parts of the list n, numbered from m on
abbrev pub column_parts : List (List ℕ) → ℕ → ℕ → ℕ → ℕ → Trees → Reading Column
column_parts names base i n m none = wrong Shape n
column_parts names base i n m (t ▸ ts) = both column_of (own_name_reading names base i n m t) (numbers_reading n (m + item_count t) ts)

-- (NAME a b)
abbrev pub column_reading : List (List ℕ) → ℕ → ℕ → ℕ → Tree → Reading Column
column_reading names base i n (atom w) = wrong Shape n
column_reading names base i n (list ts) = column_parts names base i n (n + 1) ts

-- an array's name, and its columns
pub record ArrayText : Type 0 where
  pub name : List ℕ
  pub columns : List Column

abbrev pub array_of : List ℕ → List Column → ArrayText
array_of name columns = record { name = name; columns = columns }

-- the place of the first column of an array, if it is one
abbrev pub first_column : Option Span → ℕ
first_column (Some span) = span.first
first_column None = 0

-- COL ..: the columns of the i-th array, which is the list n, one at least
abbrev pub columns_reading : Declared → ℕ → ℕ → ℕ → Trees → Reading (List Column)
columns_reading d i n m none = wrong Shape n
columns_reading d i n m (t ▸ ts) = placed_reading (column_reading d.columns (first_column (slice_get d.spans i))) 0 m (t ▸ ts)

-- NAME COL ..
abbrev pub array_parts : Declared → ℕ → ℕ → ℕ → Trees → Reading ArrayText
array_parts d i n m none = wrong Shape n
array_parts d i n m (t ▸ ts) = both array_of (kth_name_reading d.arrays i m t) (columns_reading d i n (m + item_count t) ts)

-- (array NAME COL ..)
abbrev pub array_reading : Declared → ℕ → ℕ → Tree → Reading ArrayText
array_reading d i n t = behind_reading (codes "array") (array_parts d i) n t

-- an operation's name, those of its arguments, and how many numbers it returns
pub record Signature : Type 0 where
  pub name : List ℕ
  pub arguments : List (List ℕ)
  pub replies : ℕ

abbrev pub signature_of : List ℕ → List (List ℕ) × ℕ → Signature
signature_of name call = record { name = name; arguments = call.0; replies = call.1 }

-- a minus comes before the number
abbrev pub has_minus : List ℕ → Bool
has_minus [] = false
has_minus (b ∷ w) = b == 45

-- a number of replies, within the limit
abbrev pub few_replies : ℕ → Fit ℤ → Reading ℕ
few_replies n (fits (pos k)) = if nat_lt reply_limit k then wrong Bound n else fine k
few_replies n (fits (negsuc k)) = wrong Shape n
few_replies n misshapen = wrong Shape n
few_replies n beyond = wrong Bound n

abbrev pub replies_reading : ℕ → Tree → Reading ℕ
replies_reading n (atom w) = if has_minus w then wrong Shape n else few_replies n (integer_fit (atom w))
replies_reading n (list ts) = wrong Shape n

-- (ARG ..) REPLIES: arguments, with these names
abbrev pub call_reading : List (List ℕ) → ℕ → Tree → ℕ → Tree → Reading (List (List ℕ) × ℕ)
call_reading arguments i t j u = both pair (names_reading argument_limit arguments 0 i t) (replies_reading j u)

-- the name of the i-th operation, which is the item n
abbrev pub operation_name_reading : Declared → ℕ → ℕ → ℕ → Tree → Reading (List ℕ)
operation_name_reading d i n m t = limited (nat_le operation_limit i) n (kth_name_reading d.operations i m t)

-- NAME (ARG ..) REPLIES ..: the parts of the list n, numbered from m on
abbrev pub signature_parts : Declared → ℕ → ℕ → ℕ → Trees → Reading Signature
signature_parts d i n m (t ▸ u ▸ v ▸ ts) =
    both signature_of (operation_name_reading d i n m t)
    (call_reading (call_or (slice_get d.calls i)).arguments (m + item_count t) u (m + item_count t + item_count u) v)
signature_parts d i n m _ = wrong Shape n

-- (op NAME (ARG ..) REPLIES ..)
abbrev pub signature_reading : Declared → ℕ → ℕ → Tree → Reading Signature
signature_reading d i n t = behind_reading (codes "op") (signature_parts d i) n t

-- the abstract columns' names of a specification, and its operations
pub record SpecificationText : Type 0 where
  pub abstracts : List (List ℕ)
  pub signatures : List Signature

abbrev pub specification_of : List (List ℕ) → List Signature → SpecificationText
specification_of abstracts signatures = record { abstracts = abstracts; signatures = signatures }

abbrev pub behind_own_name : List ℕ → List (List ℕ) → List (List ℕ)
behind_own_name name others = others

-- NAME (abstract (NAME ..) ..)
abbrev pub abstracts_reading : Declared → ℕ → Tree → ℕ → Tree → Reading (List (List ℕ))
abstracts_reading d i t j u = both behind_own_name (name_reading None [] i t) (section_reading (codes "abstract") d.columns 0 j u)

-- (op ..) ..: one at least
abbrev pub signatures_reading : Declared → ℕ → ℕ → Trees → Reading (List Signature)
signatures_reading d n m none = wrong Shape n
signatures_reading d n m (t ▸ ts) = placed_reading (signature_reading d) 0 m (t ▸ ts)

-- NAME (abstract (NAME ..) ..) (op ..) ..: the parts of the list n, numbered from m on
abbrev pub specification_parts : Declared → ℕ → ℕ → Trees → Reading SpecificationText
specification_parts d n m (t ▸ u ▸ ts) =
    both specification_of (abstracts_reading d m t (m + item_count t) u) (signatures_reading d n (m + item_count t + item_count u) ts)
specification_parts d n m _ = wrong Shape n

-- (spec NAME (abstract (NAME ..) ..) (op ..) ..)
abbrev pub specification_reading : Declared → ℕ → Tree → Reading SpecificationText
specification_reading d n t = behind_reading (codes "spec") (specification_parts d) n t

-- the first of the items from m on; without one the list n is wrong
abbrev pub first_reading : {X : Type 0} → (ℕ → Tree → Reading X) → ℕ → ℕ → Trees → Reading X
first_reading read n m none = wrong Shape n
first_reading read n m (t ▸ ts) = read m t

-- an object's name, its arrays, and the names of its auxiliary columns
pub record Tables : Type 0 where
  pub name : List ℕ
  pub arrays : List ArrayText
  pub auxiliaries : List (List ℕ)

abbrev pub tables_of : List ℕ × List ArrayText → List (List ℕ) → Tables
tables_of named auxiliaries = record { name = named.0; arrays = named.1; auxiliaries = auxiliaries }

-- NAME (array ..) ..: the object is the item n
abbrev pub arrays_reading : Declared → Sections → ℕ → Reading (List ℕ × List ArrayText)
arrays_reading d s n =
    both pair (first_reading (name_reading None []) n s.object.number s.object.trees) (lists_reading (codes "array") (array_reading d) 0 s.arrays.number s.arrays.trees)

abbrev pub neither : Unit {0} → Unit {0} → Unit {0}
neither u v = tt

-- (invariant ..) (idle ..) ..: lists with only the first words looked at
abbrev pub conditions_reading : ℕ → ℕ → Trees → Reading (Unit {0})
conditions_reading n m (t ▸ u ▸ ts) = both neither (headed_reading (codes "invariant") m t) (headed_reading (codes "idle") (m + item_count t) u)
conditions_reading n m _ = wrong Shape n

-- (aux (NAME ..) ..), and what is between it and the bodies
abbrev pub auxiliaries_reading : Declared → Sections → ℕ → Reading (List (List ℕ))
auxiliaries_reading d s n =
    both second (conditions_reading n s.invariant.number s.invariant.trees)
    (first_reading (section_reading (codes "aux") d.columns d.auxiliaries) n s.auxiliaries.number s.auxiliaries.trees)

abbrev pub tables_reading : Declared → Sections → ℕ → Reading Tables
tables_reading d s n = both tables_of (arrays_reading d s n) (auxiliaries_reading d s n)

-- the item n where this body is expected, of the operation of this number, if one is
abbrev pub due_body_reading : {X : Type 0} → Declared → Beside X → Option Body → ℕ → ℕ → Tree → Reading (BodyText X)
due_body_reading d beside None operation n t = wrong Shape n
due_body_reading d beside (Some b) operation n t = body_reading d b beside operation n t

abbrev pub ith_body_reading : {X : Type 0} → Declared → Beside X → ℕ → ℕ → Tree → Reading (BodyText X)
ith_body_reading d beside i n t = due_body_reading d beside (slice_get d.bodies i) i n t

-- BODY ..: one for each operation, in the object n
abbrev pub bodies_reading : {X : Type 0} → Declared → Beside X → ℕ → ℕ → Trees → Reading (List (BodyText X))
bodies_reading d beside n m ts =
    if nat_lt (tree_count ts) (bodies_due (length d.operations)) then wrong Shape n else placed_reading (ith_body_reading d beside) 0 m ts

-- an object's tables, and its bodies
abbrev pub object_reading : {X : Type 0} → Declared → Sections → Beside X → ℕ → Reading (Tables × List (BodyText X))
object_reading d s beside n = both pair (tables_reading d s n) (bodies_reading d beside n s.bodies.number s.bodies.trees)

-- all concrete columns
abbrev pub concretes_of : List ArrayText → List Column
concretes_of [] = []
concretes_of (a ∷ others) = a.columns ++ concretes_of others

-- arrays, the first one beginning at this column
abbrev pub arrays_from : ℕ → List ArrayText → List Array
arrays_from k [] = []
arrays_from k (a ∷ others) = record { name = a.name; columns = numbers_from k (length a.columns) } ∷ arrays_from (k + length a.columns) others

-- operations with their bodies, the first one beginning at this point
abbrev pub operations_from : ℕ → List Signature → List (BodyText Point) → List Operation
operations_from e (s ∷ ss) (b ∷ bs) =
    record { name = s.name; arguments = s.arguments; replies = s.replies; locals = b.locals; entry = e } ∷ operations_from (e + length b.points) ss bs
operations_from e _ _ = []

-- the points of all bodies
abbrev pub points_of : List (BodyText Point) → List Point
points_of [] = []
points_of (b ∷ bs) = b.points ++ points_of bs

abbrev pub object_of : SpecificationText → Tables × List (BodyText Point) → Object
object_of s object = record {
  name = object.0.name;
  abstracts = s.abstracts;
  concretes = concretes_of object.0.arrays;
  auxiliaries = object.0.auxiliaries;
  arrays = arrays_from (length s.abstracts) object.0.arrays;
  operations = operations_from 0 s.signatures object.1;
  points = points_of object.1;
}

-- the second form, which is the last one
abbrev pub second_form_reading : Declared → Sections → ℕ → Trees → Reading (Tables × List (BodyText Point))
second_form_reading d s n none = wrong Shape n
second_form_reading d s n (t ▸ ts) = ended (n + item_count t) ts (object_reading d s code_alone n)

-- SPEC OBJECT: the forms from n on. A missing form is reported at the number of items
abbrev pub forms_reading : Declared → Sections → ℕ → Trees → Reading Object
forms_reading d s n none = wrong Shape n
forms_reading d s n (t ▸ ts) = both object_of (specification_reading d n t) (second_form_reading d s (n + item_count t) ts)

-- what the file of these forms reads as, as far as its object's code goes
abbrev pub file_reading : Trees → Reading Object
file_reading ts = forms_reading (declared_in ts) (sections_of ts) 0 ts
