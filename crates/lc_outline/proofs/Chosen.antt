-- What holds of all that is done at the edges of a point holds of what is done at one of them.
use Rattle.std.proofs.Common.{◌≡◌, Bool, true, false, cond, List, [], ◌∷◌, Some, subst}
use Rattle.std.proofs.lemmas.Option.{same_Some}
use Rattle.lc_term.specs.Lists.{Every}
use Rattle.lc_object.specs.declared.instr.EdgeKind.{EdgeKind}
use Rattle.lc_outline.specs.Development.{On, same_kind, on_for}

pub every_on_for : (P : On → Type 0) (xs : List On) (kind : EdgeKind) → Every P xs → (x : On) → on_for xs kind ≡ Some x → P x
every_on_for P [] kind h x e = absurd cc
every_on_for P (y ∷ ys) kind h x e = by_kind (same_kind y.edge kind) (every_on_for P ys kind h.1 x) e where
  by_kind : (b : Bool) → (on_for ys kind ≡ Some x → P x) → cond b (Some y) (on_for ys kind) ≡ Some x → P x
  by_kind true next f = subst P (same_Some y x f) h.0
  by_kind false next f = next f
