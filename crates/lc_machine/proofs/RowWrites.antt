-- Rows: what is written to them, and the numbers that do not fit.
use Rattle.std.proofs.Common.{◌≡◌, ℕ, ℤ, List, [], ◌∷◌, refl}
use Rattle.std.specs.Prelude.{Result, Ok, Err, IsErr}
use Rattle.lc_term.specs.Computed.{IsComputed, overflow_says}
use Rattle.lc_term.specs.Meaning.{State}
use Rattle.lc_term.specs.State.{with_cell}
use Rattle.lc_term.specs.Updates.{AreWithin, cell_writes, stored_all}
use Rattle.lc_term.specs.declared.state.EvalFault.{EvalFault}
use Rattle.lc_machine.specs.Step.{with_row}
use Rattle.lc_machine.specs.Below.{AreBelow}
use Rattle.arrayvec.specs.ArrayVec.{ArrayVec}

-- a fault says that a number does not fit
pub computed_err : (fits : Type 0) (ns : List ℤ) (r : Result (ArrayVec ℤ) EvalFault) → IsErr r → (fits → ⊥) → IsComputed overflow_says (λ numbers. numbers.items) fits ns r
computed_err fits ns (Ok x) e h = cc
computed_err fits ns (Err x) e h = h

-- the writes of a row are within the columns
pub row_within : (count : ℕ) (cs : List ℕ) (i : ℤ) (ns : List ℤ) → AreBelow count cs → AreWithin count (cell_writes cs i ns)
row_within count [] i ns h = tt
row_within count (c ∷ cs) i [] h = tt
row_within count (c ∷ cs) i (n ∷ ns) h = (h.0, row_within count cs i ns h.1)

-- the writes of a row write the row
pub row_stored : (s : State) (cs : List ℕ) (i : ℤ) (ns : List ℤ) → stored_all s (cell_writes cs i ns) ≡ with_row s cs i ns
row_stored s [] i ns = refl
row_stored s (c ∷ cs) i [] = refl
row_stored s (c ∷ cs) i (n ∷ ns) = row_stored (with_cell s c i n) cs i ns
