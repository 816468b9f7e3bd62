use Rattle.std.proofs.Common.{ℕ, IfOk, map, ap, ap₂, subst, ◌∙◌}
use Rattle.lc_term.specs.Said.{after}
use Rattle.lc_term.specs.Syntax.{Column, Base}
use Rattle.lc_term.specs.UpdateView.{updates_of}
use Rattle.lc_term.specs.View.{term_of}
use Rattle.lc_cond.specs.Adding.{HasColumns}
use Rattle.lc_cond.proofs.matching.entered_post.Goals as goal

pub returns-clause-list : goal.returns-clause-list
returns-clause-list c =
    subst (λ (σ : ℕ → Column). IfOk c.entered_after.result (λ ps. HasColumns c.entered_after.new.terms ps.items σ))
    (ap₂ (after Base) (ap (map term_of) c.deref.ensures.value ∙ c.in_ok-variables.ensures) (ap updates_of c.deref-2.ensures.value)) c.entered_after.ensures.list
