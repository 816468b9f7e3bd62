use Rattle.std.proofs.Common.{◌≡◌, ◌+◌, ◌-◌, false, cond, get_or, sym, ap, ◌∙◌, subst, arith}
use Rattle.lc_place.specs.Excerpt.{is_break}
use Rattle.lc_place.proofs.Windows.{IsShown, room_of, shown_back}
use Rattle.lc_place.proofs.excerpt.window_end.Goals as goal

pub loop-to-preserved : goal.loop-to-preserved
loop-to-preserved c =
    let v = c.loop-to.invariant in
    let bytes = c.args.bytes.now in
    let to = c.loop-to.to in
    let b = get_or bytes to 0 in
    let lt = c.loop-to-test.true in
    let fits = c.if-left-taken.false in
    let taken : c.counted-taken.result ≡ room_of b = c.counted-taken.ensures ∙ ap (λ x. cond x 1 0) c.begins_character.ensures in
    let other : is_break b ≡ false = sym c.is_break.ensures ∙ c.if-not-is_break.true in
    record {
      behind = omega arith;
      within = omega arith;
      shown =
          subst (λ n. IsShown bytes c.args.offset (to + 1) (c.loop-to.left - n) c.args.room) (sym taken)
          (shown_back bytes c.args.offset to c.loop-to.left c.args.room v.behind (omega arith) other (omega (arith, taken, fits)) v.shown);
    }
