-- The code of an object: arrays, operations, points and their instructions.
use Rattle.std.specs.Prelude.{ℕ, ℤ, List}
use Rattle.lc_term.specs.Syntax.{Term, Formula}

-- An instruction, with the numbers of arrays, of locals, which are variables, and of points
pub data Instr : Type 0 where
  Load : (array : ℕ) (index : Term) (targets : List ℕ) (next : ℕ) → Instr
  Store : (array : ℕ) (index : Term) (values : List Term) (next : ℕ) → Instr
  Cas : (array : ℕ) (index : Term) (old new : List Term) (equal different : ℕ) → Instr
  Set : (targets : List ℕ) (values : List Term) (next : ℕ) → Instr
  Faa : (array : ℕ) (index : Term) (targets : List ℕ) (added : List Term) (next : ℕ) → Instr
  If : (condition : Formula) (holds fails : ℕ) → Instr
  Return : (values : List Term) → Instr

-- a concrete column: its name, and its two numbers a and b, with a * i + b in cell i at first
pub record Column : Type 0 where
  pub name : List ℕ
  pub slope : ℤ
  pub start : ℤ

-- an array's name, and the numbers of its columns
pub record Array : Type 0 where
  pub name : List ℕ
  pub columns : List ℕ

-- an operation's name, those of its arguments, how many numbers it returns, the names of its body's locals,
-- and the number of its body's first point
pub record Operation : Type 0 where
  pub name : List ℕ
  pub arguments : List (List ℕ)
  pub replies : ℕ
  pub locals : List (List ℕ)
  pub entry : ℕ

-- a point's name, the number of the operation whose body it is in, and its instruction
pub record Point : Type 0 where
  pub name : List ℕ
  pub operation : ℕ
  pub instruction : Instr

-- Columns are numbered: abstract, concrete, auxiliary
pub record Object : Type 0 where
  pub name : List ℕ
  pub abstracts : List (List ℕ)
  pub concretes : List Column
  pub auxiliaries : List (List ℕ)
  pub arrays : List Array
  pub operations : List Operation
  pub points : List Point
