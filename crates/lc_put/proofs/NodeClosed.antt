-- A node has no bound variable if none of its parts has one, and what has none is the same below quantifiers.
use Rattle.std.proofs.Common.{◌≡◌, ℕ, true, Some, subst, sym, ap, ◌∙◌}
use Rattle.lc_table.specs.declared.node.TermId.{TermId}
use Rattle.lc_table.specs.declared.node.ColExprId.{ColExprId}
use Rattle.lc_table.specs.declared.node.TermNode.{TermNode}
use Rattle.lc_table.specs.declared.node.TermNode.TheVariants.{Number, Variable, Bound, Add, Subtract, Multiply, Read, Base, Store, Affine}
use Rattle.lc_table.specs.Nodes.{term, column}
use Rattle.lc_table.specs.NodeTables.{Table}
use Rattle.lc_put.specs.NodeClosed.{is_closed_part}
use Rattle.lc_put.specs.NodeReplacement.{as_part, part_in}
use Rattle.lc_term.specs.Places.{is_closed, column_passes, no_bounds}
use Rattle.lc_term.specs.Replacement.{replace_column}
use Rattle.lc_term.specs.Substitution.{shifting, shifted_term}
use Rattle.lc_table.specs.Tables.{parts, term_in, column_in, IsTerm, IsColumn, HasTerm, HasColumn}
use Rattle.lc_term.proofs.Closed.{shifted_closed, shifted_closed_column}
use Rattle.lc_table.proofs.TermNodes.{term-there, column-there}
use Rattle.lc_term.proofs.Under.{shifted_none, shifted_column_none}

-- at this number is a part without bound variables
abbrev pub IsClosedAt : Table → ℕ → Type 0
IsClosedAt ts k = is_closed_part (part_in ts k) ≡ true

-- none of a node's parts has a bound variable, nor is it one
abbrev pub AreClosedParts : Table → TermNode → Type 0
AreClosedParts ts (Number n) = Unit {0}
AreClosedParts ts (Variable k) = Unit {0}
AreClosedParts ts (Bound k) = ⊥
AreClosedParts ts (Add a b) = IsClosedAt ts a.0 × IsClosedAt ts b.0
AreClosedParts ts (Subtract a b) = IsClosedAt ts a.0 × IsClosedAt ts b.0
AreClosedParts ts (Multiply n a) = IsClosedAt ts a.0
AreClosedParts ts (Read c i) = IsClosedAt ts c.0 × IsClosedAt ts i.0
AreClosedParts ts (Base c) = Unit {0}
AreClosedParts ts (Store c i v) = IsClosedAt ts c.0 × IsClosedAt ts i.0 × IsClosedAt ts v.0
AreClosedParts ts (Affine a b) = Unit {0}

closed_term : (ts : Table) (k : TermId) → IsTerm ts k → IsClosedAt ts k.0 → is_closed (term_in ts k) ≡ true
closed_term ts k is h = subst (λ o. is_closed_part (as_part o) ≡ true) (term-there (parts ts) k is) h

closed_column : (ts : Table) (k : ColExprId) → IsColumn ts k → IsClosedAt ts k.0 → column_passes no_bounds (column_in ts k) ≡ true
closed_column ts k is h = subst (λ o. is_closed_part (as_part o) ≡ true) (column-there (parts ts) k is) h

-- what has no bound variable stays below quantifiers
pub closed_term_stays : (ts : Table) (k : TermId) (d : ℕ) → IsTerm ts k → IsClosedAt ts k.0 → HasTerm ts k (shifted_term d 0 (term_in ts k))
closed_term_stays ts k d is h = term-there (parts ts) k is ∙ ap (λ x. Some (term x)) (sym (shifted_closed d 0 (term_in ts k) (closed_term ts k is h)))

pub closed_column_stays : (ts : Table) (k : ColExprId) (d : ℕ) → IsColumn ts k → IsClosedAt ts k.0 → HasColumn ts k (replace_column (shifting d 0) (column_in ts k))
closed_column_stays ts k d is h = column-there (parts ts) k is ∙ ap (λ x. Some (column x)) (sym (shifted_closed_column d 0 (column_in ts k) (closed_column ts k is h)))

-- below no quantifier all stays
pub term_raised_nowhere : (ts : Table) (k : TermId) (d : ℕ) → d ≡ 0 → IsTerm ts k → HasTerm ts k (shifted_term d 0 (term_in ts k))
term_raised_nowhere ts k d none is =
    term-there (parts ts) k is ∙ ap (λ x. Some (term x)) (sym (ap (λ n. shifted_term n 0 (term_in ts k)) none ∙ shifted_none (term_in ts k)))

pub column_raised_nowhere : (ts : Table) (k : ColExprId) (d : ℕ) → d ≡ 0 → IsColumn ts k → HasColumn ts k (replace_column (shifting d 0) (column_in ts k))
column_raised_nowhere ts k d none is =
    column-there (parts ts) k is ∙ ap (λ x. Some (column x)) (sym (ap (λ n. replace_column (shifting n 0) (column_in ts k)) none ∙ shifted_column_none (column_in ts k)))
