use Rattle.std.proofs.Common.{◌≡◌, ◌<◌, ◌+ℤ◌, ℤ, pos, sym, ap, ◌∙◌, subst, arith, FitsSigned, to_z, of_z, w64}
use Rattle.std.proofs.lemmas.Int.{to_z-of_z}
use Rattle.lc_look.proofs.Ranging.{from_more, few, each_fits}
use Rattle.lc_look.proofs.range.numbers_between.Goals as goal

pub loop-i-preserved : goal.loop-i-preserved
loop-i-preserved c =
    let i = c.loop-i.i in
    let low : ℤ = to_z w64 (of_z w64 c.args.low) in
    let high : ℤ = to_z w64 (of_z w64 c.args.high) in
    let lt : i < c.in-Some.count = omega (arith, c.loop-i-test.true) in
    let low_fits : FitsSigned w64 low = subst (FitsSigned w64) (sym (to_z-of_z w64 c.args.low c.ranges.low)) c.ranges.low in
    let high_fits : FitsSigned w64 high = subst (FitsSigned w64) (sym (to_z-of_z w64 c.args.high c.ranges.high)) c.ranges.high in
    let further : to_z w64 (of_z w64 c.from-in-loop-i.result) ≡ pos i =
    ap (λ (z : ℤ). to_z w64 (of_z w64 z)) c.from-in-loop-i.ensures ∙ to_z-of_z w64 (pos i) (few low high c.count_between.result c.in-Some.count i c.in-Some.is c.count_between.ensures lt) in
    let next : to_z w64 (of_z w64 (low +ℤ to_z w64 (of_z w64 c.from-in-loop-i.result))) ≡ low +ℤ pos i =
    ap (λ (z : ℤ). to_z w64 (of_z w64 (low +ℤ z))) further ∙
    to_z-of_z w64 (low +ℤ pos i) (each_fits low high c.count_between.result c.in-Some.count i c.in-Some.is c.count_between.ensures lt low_fits high_fits) in
    c.in_ok-push.ensures.items ∙ from_more low i c.loop-i.numbers.items (to_z w64 (of_z w64 (low +ℤ to_z w64 (of_z w64 c.from-in-loop-i.result)))) c.loop-i.invariant next
