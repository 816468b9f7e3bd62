use Rattle.std.proofs.Common.{Bool}
use Rattle.lc_outline.specs.DevelopmentView.{development_view}
use Rattle.lc_cond_text.specs.LinesView.{GoesOn, Passes}
use Rattle.lc_cond_text.proofs.lines.ConditionLines.next_piece.Goals as goal
use Rattle.lc_cond_text.proofs.lines.ConditionLines.next_piece.Goals.{then-more, else-more}
use Rattle.std.proofs.Common.{subst}

pub fill-requires : goal.fill-requires
fill-requires c = c.self.invariant c.in-Going.is

pub invariant_of-self-2 : goal.invariant_of-self-2
invariant_of-self-2 c =
    let d = development_view c.self.inside.development.now in
    let old = c.new-piece.result.items in
    let new = c.fill.new.piece.items in
    elim c.if-more.branch [
      | then-more w ↦ λ going.
          let goes : GoesOn d old c.self.inside.left new c.fill.new.left =
          subst (λ (b : Bool). Passes d old c.self.inside.left new c.fill.new.left b) w.if-more.true c.in_ok-more.ensures in
          goes.left
      | else-more w ↦ λ going. absurd (cc)
    ]
