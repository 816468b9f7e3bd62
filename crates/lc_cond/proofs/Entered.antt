-- The conditions that are asked when a call begins.
use Rattle.std.proofs.Common.{◌≡◌, ℕ, ◌+◌, Some, None, length, ap}
use Rattle.lc_object.specs.View.{operation_of}
use Rattle.lc_object.specs.declared.parts.Operation.{Operation}
use Rattle.lc_cond.specs.Conditions.{at_entry}
use Rattle.lc_cond.specs.ConditionView.{kind_of}
use Rattle.lc_cond.specs.Heads.{head_of}
use Rattle.lc_cond.specs.declared.condition.Kind.{Kind}
use Rattle.lc_cond.specs.declared.condition.Passage.TheVariants.{Nothing}

-- what the conditions share
pub entry_head : (kind : Kind) (body : Operation) (n : ℕ) → n ≡ 2 + length (operation_of body).arguments →
    head_of (record { kind = kind; variables = n; point = Some body.entry; passage = Nothing; path = None }) ≡ at_entry (kind_of kind) (operation_of body)
entry_head kind body n count =
    ap (λ m. head_of (record { kind = kind; variables = m; point = Some body.entry; passage = Nothing; path = None })) count
