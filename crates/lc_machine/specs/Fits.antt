-- The numbers that an instruction reaches, in the order in which it computes them. Each definition says that each
-- of them fits 64 bits.
use Rattle.std.specs.Prelude.{◌≡◌, ℕ, ℤ, List, [], ◌∷◌, FitsSigned}
use Rattle.std.specs.Int.{w64}
use Rattle.lc_term.specs.Meaning.{State}
use Rattle.lc_term.specs.Reached.{TermFits, TermsFit, FormulaFits}
use Rattle.lc_object.specs.Syntax.{Instr, Load, Store, Cas, Set, Faa, If, Return, Object}
use Rattle.lc_machine.specs.World.{variable}
use Rattle.lc_machine.specs.Step.{number, numbers, row, sums}
use Rattle.lc_object.specs.Edges.{array_columns}

-- cell i of each column
abbrev pub RowFits : State → List ℕ → ℤ → Type 0
RowFits s [] i = Unit {0}
RowFits s (c ∷ cs) i = FitsSigned w64 (s c i) × RowFits s cs i

-- cell i of the columns up to the first that differs from the old number there
abbrev pub ComparisonFits : State → List ℕ → ℤ → List ℤ → Type 0
ComparisonFits s [] i ns = Unit {0}
ComparisonFits s (c ∷ cs) i [] = Unit {0}
ComparisonFits s (c ∷ cs) i (n ∷ ns) = FitsSigned w64 (s c i) × (s c i ≡ n → ComparisonFits s cs i ns)

-- each number
abbrev pub NumbersFit : List ℤ → Type 0
NumbersFit [] = Unit {0}
NumbersFit (n ∷ ns) = FitsSigned w64 n × NumbersFit ns

-- the index, and what is read or written there; of `cas` the new row only if the row is the old one
abbrev pub InstructionFits : Object → State → List ℤ → Instr → Type 0
InstructionFits object s variables (Load a t rs l) =
    TermFits s (variable variables) t × RowFits s (array_columns object a) (number s variables t)
InstructionFits object s variables (Store a t vs l) = TermFits s (variable variables) t × TermsFit s (variable variables) vs
InstructionFits object s variables (Cas a t old new l m) =
    TermFits s (variable variables) t × TermsFit s (variable variables) old
    × ComparisonFits s (array_columns object a) (number s variables t) (numbers s variables old)
    × (row s (array_columns object a) (number s variables t) ≡ numbers s variables old → TermsFit s (variable variables) new)
InstructionFits object s variables (Set rs vs l) = TermsFit s (variable variables) vs
InstructionFits object s variables (Faa a t rs ds l) =
    TermFits s (variable variables) t × TermsFit s (variable variables) ds × RowFits s (array_columns object a) (number s variables t)
    × NumbersFit (sums (row s (array_columns object a) (number s variables t)) (numbers s variables ds))
InstructionFits object s variables (If f l m) = FormulaFits s (variable variables) f
InstructionFits object s variables (Return vs) = TermsFit s (variable variables) vs
