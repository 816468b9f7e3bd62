use Rattle.std.proofs.Common.{◌++◌, ◌∷◌, [], ℕ, refl, sym, append-nil, string_bytes}
use Rattle.lc_draw.proofs.Written.{points_more}
use Rattle.lc_draw.proofs.svg.push_points.Goals as goal

pub loop-mark-init : goal.loop-mark-init
loop-mark-init c = ([], sym (append-nil (string_bytes c.args.out.now)), refl)

pub loop-mark-preserved : goal.loop-mark-preserved
loop-mark-preserved c =
    let old = c.loop-mark.invariant in
    let p : ℕ × ℕ = (c.across_of.result, c.bar_top_of.result) in
    let more = points_more old.0 p (string_bytes c.args.out.now) (string_bytes c.loop-mark.out) (string_bytes c.write_point.new.out) old.1 old.2 c.in_ok-write_point.ensures.text c.in_ok-write_point.ensures.plain in
    (old.0 ++ p ∷ [], more.0, more.1)
