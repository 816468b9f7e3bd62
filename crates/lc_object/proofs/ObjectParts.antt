-- The parts of the test of an object.
use Rattle.std.proofs.Common.{◌≡◌, ℕ, zero, suc, List, [], ◌∷◌, true, not}
use Rattle.std.specs.Prelude.{slice_get, ◌==◌}
use Rattle.lc_lemmas.proofs.Booleans.{left_true, right_true}
use Rattle.lc_object.specs.Syntax.{Point, Object}
use Rattle.lc_object.specs.WellFormed.{is_object, are_operations, is_first, passes_at}

pub operations_pass : (object : Object) → is_object object ≡ true → are_operations object 0 object.operations ≡ true
operations_pass object e = right_true _ _ (left_true _ _ e)

-- the first point of an operation's body is one of its points
pub first_stands : (ps : List Point) (op l : ℕ) → is_first ps op l ≡ true → passes_at (λ (p : Point). p.operation == op) (slice_get ps l) ≡ true
first_stands [] op l e = cc
first_stands (p ∷ ps) op zero e = e
first_stands (p ∷ ps) op (suc l) e = first_stands ps op l (right_true (not (p.operation == op)) (is_first ps op l) e)
