-- What a text reads as where a point or a body is expected.
use Rattle.std.specs.Prelude.{◌≡◌, Result, Ok, Err, ℕ, ◌+◌, nat_le, ◌&&◌, Bool, true, false, not, if◌then◌else◌, codes, List, ◌++◌, length}
use Rattle.std.specs.List.{list_any}
use Rattle.lc_base.specs.Limits.{local_limit, point_limit}
use Rattle.lc_sexp.specs.Trees.{Tree, Trees, atom, list, none, ◌▸◌, item_count}
use Rattle.lc_object.specs.Syntax.{Instr, Point}
use Rattle.lc_reading.specs.Naming.{use_reading}
use Rattle.lc_reading.specs.Readings.{Reading, fine, flawed, wrong, limited, both, behind_reading}
use Rattle.lc_reading.specs.Rows.{each_reading}
use Rattle.lc_reading.specs.Words.{is}
use Rattle.lc_reading.specs.declared.flaw.ReadFault.{ReadFault}
use Rattle.lc_reading.specs.declared.flaw.ReadFault.TheVariants.{OutOfMemory}
use Rattle.lc_reading.specs.declared.pass.Pass.{Pass}
use Rattle.lc_reading.specs.declared.pass.Pass.TheVariants.{Shape}
use Rattle.lc_object_text.specs.Declaring.{kth_name_reading, names_reading}
use Rattle.lc_object_text.specs.Headed.{headed_reading}
use Rattle.lc_object_text.specs.Instructions.{instruction_reading}
use Rattle.lc_object_text.specs.ObjectNames.{Declared, Body, code_names, body_names}
use Rattle.lc_object_text.specs.Rows.{placed_reading}

abbrev pub is_shape : Pass → Bool
is_shape Shape = true
is_shape _ = false

-- nothing is misshapen in it
abbrev pub is_shaped : {X : Type 0} → Reading X → Bool
is_shaped (fine x) = true
is_shaped (flawed f) = not (is_shape f.pass)

-- what is returned for it
abbrev pub IsShape : Reading Instr → Result Bool ReadFault → Type 0
IsShape r (Ok b) = b ≡ is_shaped r
IsShape r (Err fault) = fault ≡ OutOfMemory

-- how a point n reads with what is beside its code, given its instruction and whether that is shaped, by what the point itself
-- reads as and by the rest after its instruction
abbrev pub Beside : Type 0 → Type 0
Beside X = ℕ → Tree → Bool → Reading Point → ℕ → Trees → Reading X

-- a name and an instruction, in the body of this operation
abbrev pub point_of : ℕ → List ℕ → Instr → Point
point_of operation name instruction = record { name = name; operation = operation; instruction = instruction }

-- the name of the p-th point, which is the item n
abbrev pub point_name_reading : Declared → ℕ → ℕ → ℕ → Tree → Reading (List ℕ)
point_name_reading d p n m t = limited (nat_le point_limit p) n (kth_name_reading d.points p m t)

-- NAME INSTR ..: the parts of the point n, numbered from m on, the i-th in the body of the operation of this number
abbrev pub point_parts : {X : Type 0} → Declared → Body → Beside X → ℕ → ℕ → ℕ → ℕ → Trees → Reading X
point_parts d b beside operation i n m (name ▸ code ▸ ts) =
    let instruction = instruction_reading (code_names d b) (body_names d b) (m + item_count name) code in
    beside n code (is_shaped instruction) (both (point_of operation) (point_name_reading d (b.first + i) n m name) instruction)
    (m + item_count name + item_count code) ts
point_parts d b beside operation i n m _ = wrong Shape n

-- (point NAME INSTR ..)
abbrev pub point_reading : {X : Type 0} → Declared → Body → Beside X → ℕ → ℕ → ℕ → Tree → Reading X
point_reading d b beside operation i n t = behind_reading (codes "point") (point_parts d b beside operation i) n t

-- POINT ..: the parts of the body n, one at least
abbrev pub points_reading : {X : Type 0} → Declared → Body → Beside X → ℕ → ℕ → ℕ → Trees → Reading (List X)
points_reading d b beside operation n m none = wrong Shape n
points_reading d b beside operation n m (t ▸ ts) = placed_reading (point_reading d b beside operation) 0 m (t ▸ ts)

-- the names of a body's locals, and its points
pub record BodyText (X : Type 0) : Type 0 where
  pub locals : List (List ℕ)
  pub points : List X

abbrev pub body_of : {X : Type 0} → List (List ℕ) → List X → BodyText X
body_of locals points = record { locals = locals; points = points }

-- of two parts the second
abbrev pub behind_name : ℕ → List (List ℕ) → List (List ℕ)
behind_name k locals = locals

-- OP (LOCAL ..): the name of an operation, and locals, which differ from its arguments too
abbrev pub locals_reading : Declared → Body → ℕ → Tree → ℕ → Tree → Reading (List (List ℕ))
locals_reading d b i t j u =
    both behind_name (use_reading d.operations i t) (names_reading local_limit (b.call.arguments ++ b.locals) (length b.call.arguments) j u)

-- the name of an operation, but not of the expected one
abbrev pub is_of_another : List (List ℕ) → List ℕ → Tree → Bool
is_of_another names due (atom w) = list_any (is w) names && not (is w due)
is_of_another names due (list ts) = false

-- OP (LOCAL ..) POINT ..: the parts of the body n, which is wrong as a whole if it is of another operation than the expected one
abbrev pub body_parts : {X : Type 0} → Declared → Body → Beside X → ℕ → ℕ → ℕ → Trees → Reading (BodyText X)
body_parts d b beside operation n m (op ▸ locals ▸ ts) =
    if is_of_another d.operations b.operation op then wrong Shape n
    else both body_of (locals_reading d b m op (m + item_count op) locals) (points_reading d b beside operation n (m + item_count op + item_count locals) ts)
body_parts d b beside operation n m _ = wrong Shape n

-- (body OP (LOCAL ..) POINT ..)
abbrev pub body_reading : {X : Type 0} → Declared → Body → Beside X → ℕ → ℕ → Tree → Reading (BodyText X)
body_reading d b beside operation n t = behind_reading (codes "body") (body_parts d b beside operation) n t

-- of a point and what is beside its code, the point
abbrev pub point_alone : Point → Unit {0} → Point
point_alone point u = point

abbrev pub nothing_of : Unit {0} → List (Unit {0}) → Unit {0}
nothing_of u us = tt

-- (assert ..) (on ..) ..: lists with only the first words looked at
abbrev pub sides_reading : ℕ → ℕ → Trees → Reading (Unit {0})
sides_reading n m none = wrong Shape n
sides_reading n m (t ▸ ts) = both nothing_of (headed_reading (codes "assert") m t) (each_reading (headed_reading (codes "on")) (m + item_count t) ts)

-- the code alone
abbrev pub code_alone : ℕ → Tree → Bool → Reading Point → ℕ → Trees → Reading Point
code_alone n code shaped point m ts = both point_alone point (sides_reading n m ts)
