use Rattle.std.proofs.Common.{ℕ, List, map, ap, ◌∙◌}
use Rattle.std.specs.Borrow.{Bor}
use Rattle.lc_carry.proofs.Keys.{found_more, none_more}
use Rattle.lc_carry.specs.Pieces.{pieces}
use Rattle.lc_carry.proofs.pieces.known.Goals as goal

pub returns-in_default : goal.returns-in_default
returns-in_default c =
    none_more c.args.kept.now.keys c.deref-piece-items.result.now c.loop-piece.piece-index _ (pieces c.args.text.now) c.loop-piece-test.true
    (ap (map (λ (p : Bor (List ℕ)). p.now)) c.deref-piece-items.ensures.value ∙ c.in_ok-pieces.ensures) c.in_default.ensures.index

pub loop-piece-preserved : goal.loop-piece-preserved
loop-piece-preserved c =
    found_more c.args.kept.now.keys c.deref-piece-items.result.now c.loop-piece.piece-index _ c.loop-piece.key.items c.push.new.self.items c.in_ok-number_at.field-0 c.in-Some.place c.loop-piece-test.true
    c.loop-piece.invariant c.in-Some.ensures.index c.in_ok-number_at.ensures c.in_ok-push.ensures.items
