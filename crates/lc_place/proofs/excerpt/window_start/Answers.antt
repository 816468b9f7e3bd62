use Rattle.std.proofs.Common.{◌≡◌, ◌-◌, false, cond, get_or, sym, ap, ◌∙◌, subst, arith}
use Rattle.lc_place.specs.Excerpt.{is_break}
use Rattle.lc_place.proofs.Windows.{IsShown, room_of, room_small, shown_front}
use Rattle.lc_place.proofs.excerpt.window_start.Goals as goal

pub loop-from-preserved : goal.loop-from-preserved
loop-from-preserved c =
    let v = c.loop-from.invariant in
    let bytes = c.args.bytes.now in
    let from = c.loop-from.from in
    let b = get_or bytes (from - 1) 0 in
    let some = c.loop-from-test.true in
    let left = c.if-left-gt0.true in
    let taken : c.counted-left.result ≡ room_of b = c.counted-left.ensures ∙ ap (λ x. cond x 1 0) c.begins_character.ensures in
    let other : is_break b ≡ false = sym c.is_break.ensures ∙ c.if-not-is_break.true in
    let little = room_small b in
    record {
      before = omega arith;
      shown =
          subst (λ n. IsShown bytes (from - 1) c.args.offset (c.loop-from.left - n) 100) (sym taken)
          (shown_front bytes from c.args.offset c.loop-from.left 100 (omega arith) v.before (omega arith) other (omega (arith, little, left)) v.shown);
    }
