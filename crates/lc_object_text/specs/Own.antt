-- What an instruction has after its word.
use Rattle.std.specs.Prelude.{◌≡◌, ℕ, zero, suc, ◌+◌, List, map, Vec, Result, Ok, Err}
use Rattle.std.specs.declared.alloc.Global.{Global}
use Rattle.lc_base.specs.declared.ids.PointId.{PointId}
use Rattle.lc_sexp.specs.Trees.{Trees, none, ◌▸◌, item_count}
use Rattle.lc_sexp.specs.Shown.{rest_of, number_of, owner_of}
use Rattle.lc_sexp.specs.declared.cursor.Cursor.{Cursor}
use Rattle.lc_sexp.specs.declared.misfit.Misfit.{Misfit}
use Rattle.lc_sexp.specs.declared.misfit.Misfit.TheVariants.{Shape as Misshapen}
use Rattle.lc_term.specs.Syntax as T
use Rattle.lc_term.specs.View.{term_of}
use Rattle.lc_term.specs.declared.term.Term.{Term}
use Rattle.lc_object.specs.Syntax as S
use Rattle.lc_object.specs.View.{instruction_of, locals_of, terms_of}
use Rattle.lc_object.specs.declared.instr.ArrayId.{ArrayId}
use Rattle.lc_object.specs.declared.instr.LocalId.{LocalId}
use Rattle.lc_object.specs.declared.instr.Instr.{Instr}
use Rattle.lc_reading.specs.Readings.{Reading, wrong}
use Rattle.lc_reading.specs.Results.{IsReading}
use Rattle.lc_reading.specs.declared.flaw.ReadFault.{ReadFault}
use Rattle.lc_reading.specs.declared.pass.Pass.TheVariants.{Shape}

-- this is the rest after k parts
abbrev pub IsLeft : ℕ → ℕ → Trees → Cursor → Type 0
IsLeft zero m ts rest = (number_of rest ≡ m) × (rest_of rest ≡ ts)
IsLeft (suc k) m none rest = ⊥
IsLeft (suc k) m (t ▸ ts) rest = IsLeft k (m + item_count t) ts rest

-- fewer parts than these
abbrev pub IsShort : ℕ → Trees → Type 0
IsShort zero ts = ⊥
IsShort (suc k) none = Unit {0}
IsShort (suc k) (t ▸ ts) = IsShort k ts

-- the instruction that k parts read as, and the rest after them
abbrev pub IsOwn : Reading S.Instr → ℕ → Cursor → Result (Result Instr ReadFault × Cursor) Misfit → Type 0
IsOwn read k l (Ok r) = IsReading instruction_of read r.0 × IsLeft k (number_of l) (rest_of l) r.1
IsOwn read k l (Err misfit) = (misfit ≡ Misshapen (owner_of l)) × (read ≡ wrong Shape (owner_of l)) × IsShort k (rest_of l)

-- what parts that are read together stand for
abbrev pub place_view : ArrayId × Term → ℕ × T.Term
place_view p = (p.0.0, term_of p.1)

abbrev pub labels_view : PointId × PointId → ℕ × ℕ
labels_view p = (p.0.0, p.1.0)

abbrev pub moved_view : Vec LocalId Global × PointId → List ℕ × ℕ
moved_view p = (locals_of p.0.items, p.1.0)

abbrev pub stored_view : Vec Term Global × PointId → List T.Term × ℕ
stored_view p = (terms_of p.0.items, p.1.0)

abbrev pub rows_view : Vec Term Global × Vec Term Global → List T.Term × List T.Term
rows_view p = (terms_of p.0.items, terms_of p.1.items)

abbrev pub exchange_view : (Vec Term Global × Vec Term Global) × (PointId × PointId) → (List T.Term × List T.Term) × (ℕ × ℕ)
exchange_view p = (rows_view p.0, labels_view p.1)

abbrev pub adding_view : Vec LocalId Global × (Vec Term Global × PointId) → List ℕ × (List T.Term × ℕ)
adding_view p = (locals_of p.0.items, stored_view p.1)

abbrev pub assigned_view : LocalId × Term → ℕ × T.Term
assigned_view p = (p.0.0, term_of p.1)

abbrev pub assignments_view : Vec (LocalId × Term) Global → List (ℕ × T.Term)
assignments_view cells = map assigned_view cells.items
