use Rattle.lc_carry.proofs.Keys.{key_later, key_more, keeps_on}
use Rattle.lc_carry.specs.Pieces.{kept_in}
use Rattle.lc_carry.proofs.pieces.enter.Goals as goal

pub loop-piece-preserved : goal.loop-piece-preserved
loop-piece-preserved c =
    let before = kept_in c.loop-piece.kept.keys in
    let after = kept_in c.enter_piece.new.kept.keys in
    record {
      keeps = keeps_on (kept_in c.args.kept.now.keys) before after c.loop-piece.invariant.keeps c.in_ok-enter_piece.ensures.kept;
      key = key_more after c.deref-piece-items.result.now c.loop-piece.piece-index _ c.loop-piece.key.items c.push.new.self.items c.in_ok-enter_piece.field-0 c.loop-piece-test.true
          (key_later before after _ c.loop-piece.key.items c.in_ok-enter_piece.ensures.kept c.loop-piece.invariant.key) c.in_ok-enter_piece.ensures.number c.in_ok-push.ensures.items;
    }
