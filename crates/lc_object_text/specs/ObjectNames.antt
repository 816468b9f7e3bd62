-- The names that a development file declares, as the code of its object sees them.
use Rattle.std.specs.Prelude.{ℕ, zero, suc, ◌+◌, ℤ, pos, negsuc, Bool, false, ◌&&◌, nat_le, nat_lt, codes, List, [], ◌∷◌, ◌++◌, map, length, slice_get, Option, Some, None, option_map, if◌then◌else◌}
use Rattle.lc_sexp.specs.Trees.{Tree, Trees, atom, list, none, ◌▸◌}
use Rattle.lc_sexp.specs.TreeCode.{tree_count}
use Rattle.lc_sexp.specs.Parts.{Fit, fits, misshapen, beyond, integer_fit}
use Rattle.lc_reading.specs.Words.{is}
use Rattle.lc_text.specs.Names.{Names}
use Rattle.lc_text.specs.declared.scope.ColumnUse.{ColumnUse}
use Rattle.lc_text.specs.declared.scope.ColumnUse.TheVariants.{Misplaced, Hidden, Undeclared}
use Rattle.lc_reading.specs.Listed.{place_of, names_among}
pub use Rattle.lc_reading.specs.Naming.{text_in}
use Rattle.lc_reading.specs.Reserved.{is_system_column}
use Rattle.lc_object_text.specs.CodeNames.{CodeNames}
use Rattle.lc_object_text.specs.Sections.{Sections, sections_of, parts_in, forms_in, some_forms_in}

abbrev pub first_text : Trees → List ℕ
first_text none = []
first_text (t ▸ ts) = text_in t

-- the items of a list
abbrev pub items_within : Tree → Trees
items_within (atom w) = none
items_within (list ts) = ts

-- the items of the list that is the first of these
abbrev pub within_first : Trees → Trees
within_first none = none
within_first (t ▸ ts) = items_within t

-- the items after the first
abbrev pub later : Trees → Trees
later none = none
later (t ▸ ts) = ts

-- what comes after the word in the first of these, if it begins with this word
abbrev pub parts_in_first : List ℕ → Trees → Trees
parts_in_first word none = none
parts_in_first word (t ▸ ts) = parts_in word t

-- the names in (NAME ..) (NAME ..) ..
abbrev pub names_of_columns : Trees → List (List ℕ)
names_of_columns none = []
names_of_columns (t ▸ ts) = first_text (items_within t) ∷ names_of_columns ts

-- the columns of arrays, each of the form NAME (NAME ..) (NAME ..) ..
abbrev pub columns_of_arrays : List Trees → List (List ℕ)
columns_of_arrays [] = []
columns_of_arrays (ts ∷ arrays) = names_of_columns (later ts) ++ columns_of_arrays arrays

-- the place of an array's first column among all, and how many columns it has
pub record Span : Type 0 where
  pub first : ℕ
  pub width : ℕ

-- those of NAME COL .., where the first column is at this place
abbrev pub span_of : ℕ → Trees → Span
span_of k ts = record { first = k; width = tree_count (later ts) }

-- those of arrays, the first one beginning at this column
abbrev pub spans_from : ℕ → List Trees → List Span
spans_from k [] = []
spans_from k (ts ∷ arrays) = span_of k ts ∷ spans_from (k + tree_count (later ts)) arrays

-- A number of replies. One that leaves 64 bits is more than any list has
abbrev pub count_of_fit : Fit ℤ → Option ℕ
count_of_fit (fits (pos n)) = Some n
count_of_fit (fits (negsuc n)) = None
count_of_fit beyond = Some 9223372036854775808
count_of_fit misshapen = None

abbrev pub reply_count : Trees → Option ℕ
reply_count none = None
reply_count (t ▸ ts) = count_of_fit (integer_fit t)

-- the arguments of an operation, and how many numbers it returns
pub record Call : Type 0 where
  pub arguments : List (List ℕ)
  pub replies : Option ℕ

-- the operation of NAME (ARG ..) REPLIES ..
abbrev pub call_of : Trees → Call
call_of ts = record { arguments = names_among (within_first (later ts)); replies = reply_count (later (later ts)) }

-- What a body declares and is given: the name of the expected operation, the number of its first point, the arguments
-- and replies of the operation that it names, and the names of its locals and points
pub record Body : Type 0 where
  pub operation : List ℕ
  pub first : ℕ
  pub call : Call
  pub locals : List (List ℕ)
  pub labels : List (List ℕ)

-- no arguments, and no number of replies
abbrev pub no_call : Call
no_call = record { arguments = []; replies = None }

abbrev pub call_or : Option Call → Call
call_or (Some call) = call
call_or None = no_call

abbrev pub call_at : List Call → Option ℕ → Call
call_at calls (Some k) = call_or (slice_get calls k)
call_at calls None = no_call

-- the operation of this name
abbrev pub call_named : List (List ℕ) → List Call → List ℕ → Call
call_named names calls w = call_at calls (place_of names w)

-- the points of NAME (LOCAL ..) (point ..) (point ..) ..
abbrev pub points_in : Trees → List Trees
points_in ts = some_forms_in (codes "point") (later (later ts))

-- the name of the k-th operation, if there is one; else no text
abbrev pub name_or : Option (List ℕ) → List ℕ
name_or (Some w) = w
name_or None = []

abbrev pub name_at : List (List ℕ) → ℕ → List ℕ
name_at names k = name_or (slice_get names k)

-- the k-th body, of these parts, whose first point has the number p
abbrev pub body_of : List (List ℕ) → List Call → ℕ → ℕ → Trees → Body
body_of names calls k p ts =
    record { operation = name_at names k; first = p; call = call_named names calls (first_text ts); locals = names_among (within_first (later ts)); labels = map first_text (points_in ts) }

-- n bodies, from the k-th on, with the first point of number p
abbrev pub bodies_from : List (List ℕ) → List Call → ℕ → ℕ → ℕ → Trees → List Body
bodies_from names calls k p zero ts = []
bodies_from names calls k p (suc n) none = []
bodies_from names calls k p (suc n) (t ▸ ts) =
    body_of names calls k p (parts_in (codes "body") t) ∷ bodies_from names calls (k + 1) (p + length (points_in (parts_in (codes "body") t))) n ts

-- how many bodies are expected: one for each operation, and at least one
abbrev pub bodies_due : ℕ → ℕ
bodies_due zero = 1
bodies_due (suc n) = suc n

-- The names of a file: its columns (abstract, then concrete, then auxiliary), how many are abstract, and the place of the
-- first that is auxiliary;
-- its arrays and their columns; its operations; and its bodies
pub record Declared : Type 0 where
  pub columns : List (List ℕ)
  pub abstracts : ℕ
  pub auxiliaries : ℕ
  pub arrays : List (List ℕ)
  pub spans : List Span
  pub operations : List (List ℕ)
  pub calls : List Call
  pub points : List (List ℕ)
  pub bodies : List Body

abbrev pub labels_of_bodies : List Body → List (List ℕ)
labels_of_bodies [] = []
labels_of_bodies (b ∷ bs) = b.labels ++ labels_of_bodies bs

abbrev pub abstracts_in : Sections → List (List ℕ)
abstracts_in s = names_of_columns (parts_in_first (codes "abstract") s.abstracts.trees)

abbrev pub arrays_in : Sections → List Trees
arrays_in s = forms_in (codes "array") s.arrays.trees

abbrev pub auxiliaries_in : Sections → List (List ℕ)
auxiliaries_in s = names_of_columns (parts_in_first (codes "aux") s.auxiliaries.trees)

abbrev pub operations_in : Sections → List Trees
operations_in s = some_forms_in (codes "op") s.operations.trees

-- the bodies of these operations
abbrev pub bodies_in : Sections → List Trees → List Body
bodies_in s ops = bodies_from (map first_text ops) (map call_of ops) 0 0 (bodies_due (length ops)) s.bodies.trees

abbrev pub declared_in_sections : Sections → Declared
declared_in_sections s = record {
  columns = (abstracts_in s ++ columns_of_arrays (arrays_in s)) ++ auxiliaries_in s;
  abstracts = length (abstracts_in s);
  auxiliaries = length (abstracts_in s ++ columns_of_arrays (arrays_in s));
  arrays = map first_text (arrays_in s);
  spans = spans_from (length (abstracts_in s)) (arrays_in s);
  operations = map first_text (operations_in s);
  calls = map call_of (operations_in s);
  points = labels_of_bodies (bodies_in s (operations_in s));
  bodies = bodies_in s (operations_in s);
}

-- The names that the file of these forms declares
abbrev pub declared_in : Trees → Declared
declared_in ts = declared_in_sections (sections_of ts)

-- what the column at this place, or of no place, is to code, where those from a to c are concrete
abbrev pub column_use : ℕ → ℕ → Bool → Option ℕ → ColumnUse
column_use a c system (Some k) = if nat_le a k && nat_lt k c then Misplaced else Hidden
column_use a c system None = if system then Hidden else Undeclared

-- the variable of a name: the client is 1, then come the arguments, and then the locals
abbrev pub variable_of : Body → List ℕ → Option ℕ
variable_of b w = if is w (codes "self") then Some 1 else option_map (λ k. 2 + k) (place_of (b.call.arguments ++ b.locals) w)

-- In instructions terms use the client, arguments and locals, and read no column; there is no quantifier
abbrev pub code_names : Declared → Body → Names
code_names d b = record {
  variable = variable_of b;
  column = λ w. column_use d.abstracts d.auxiliaries (is_system_column w) (place_of d.columns w);
  allows = λ extra. false;
}

-- the array at this place, with its width
abbrev pub row_at : List Span → Option ℕ → Option (ℕ × ℕ)
row_at spans None = None
row_at spans (Some k) = option_map (λ span. (k, span.width)) (slice_get spans k)

-- Targets are locals, and labels the points of the same body
abbrev pub body_names : Declared → Body → CodeNames
body_names d b = record {
  array = λ w. row_at d.spans (place_of d.arrays w);
  target = λ w. option_map (λ k. 2 + length b.call.arguments + k) (place_of b.locals w);
  label = λ w. option_map (λ k. b.first + k) (place_of b.labels w);
  replies = b.call.replies;
}
