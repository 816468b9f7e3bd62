-- Which developments read back from the text that is printed of them.
use Rattle.std.specs.Prelude.{ℕ, ◌≤◌, List, ◌++◌, length}
use Rattle.lc_base.specs.Limits.{file_limit}
use Rattle.lc_term.specs.Lists.{Every, IsIn}
use Rattle.lc_text.specs.Spelled.{binder}
use Rattle.lc_object.specs.Syntax.{Operation}
use Rattle.lc_action.specs.Action.{Action}
use Rattle.lc_outline.specs.Development.{Development}
use Rattle.lc_outline_print.specs.Developments.{development_printed}

-- none of these names is one that is printed of the variable of a quantifier
abbrev pub HaveNoBinder : List (List ℕ) → Type 0
HaveNoBinder names = (d : ℕ) → IsIn (binder d) names → ⊥

-- no argument, local or parameter is named as the variable of a quantifier is printed, and the text is within the limit of size
pub record IsPrintable (D : Development) : Type 0 where
  pub variables : Every (λ (o : Operation). HaveNoBinder (o.arguments ++ o.locals)) D.object.operations
  pub parameters : Every (λ (a : Action). HaveNoBinder a.parameters) D.actions
  pub size : length (development_printed D) ≤ file_limit
