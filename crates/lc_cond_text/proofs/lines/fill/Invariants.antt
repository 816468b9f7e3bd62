use Rattle.std.proofs.Common.{◌≡◌, ◌++◌, ◌≤◌}
use Rattle.lc_outline.specs.DevelopmentView.{development_view}
use Rattle.lc_cond_text.specs.LinesView.{text_unwritten, steps_left, IsLeft}
use Rattle.lc_cond_text.proofs.lines.fill.Given as goal

-- what is written so far, with what is left, is all that was left
abbrev pub invariant-loop-piece : goal.invariant-loop-piece
invariant-loop-piece l =
    let d = development_view l.development in
    record {
      text : l.fn.piece.items ++ text_unwritten d l.fn.left ≡ l.piece.items ++ text_unwritten d l.left;
      fewer : steps_left d l.left ≤ steps_left d l.fn.left;
      left : IsLeft d l.left;
    }

abbrev pub decreases-loop-piece : goal.decreases-loop-piece
decreases-loop-piece l = steps_left (development_view l.development) l.left
