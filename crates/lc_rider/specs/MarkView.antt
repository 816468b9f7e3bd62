-- What the marks of the code stand for.
use Rattle.std.specs.Prelude.{ℕ, List, [], ◌∷◌, ◌++◌, map}
use Rattle.std.specs.Borrow.{Bor}
use Rattle.lc_seq.specs.SpecView.{branch_of}
use Rattle.lc_seq.specs.declared.specification.Branch as Y
use Rattle.lc_term.specs.Syntax.{Term, Formula}
use Rattle.lc_term.specs.Said.{after}
use Rattle.lc_seq.specs.Specification.{Branch, Operation}
use Rattle.lc_rider.specs.Rider as S
use Rattle.lc_rider.specs.Paths.{Path, Duty, mark_updates, observing_duty}
use Rattle.lc_rider.specs.declared.marking.Marking.{Marking}
use Rattle.lc_rider.specs.declared.marking.Marking.TheVariants.{Own, Other, Note}

-- branches that are pointed at
abbrev pub branches_at : List (Bor Y.Branch) → List Branch
branches_at bs = map (λ b. branch_of b.now) bs

-- which call is marked, of this client
abbrev pub marking_of : Marking → Term → S.Marking
marking_of Own c = S.Own
marking_of (Other o) c = S.Other c o.0
marking_of Note c = S.Note

-- the same path with more duties
abbrev pub with_duties : Path → List Duty → Path
with_duties p ds = record p { duties = p.duties ++ ds }

-- the path that takes this branch, whose variables are τ, and whose guard is said by g
abbrev pub branch_path : List Operation → ℕ → ℕ → S.Marking → List Term → Branch → Formula → Path → Path
branch_path operations first n k τ b g p = record {
  columns = after p.columns τ (mark_updates first k b);
  facts = p.facts ++ g ∷ [];
  duties = p.duties ++ observing_duty operations first n k (p.facts ++ g ∷ []) b;
}
