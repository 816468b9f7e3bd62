use Rattle.std.proofs.Common.{◌≡◌, ◌+◌, ◌*◌, drop, sym, ap, ◌∙◌, arith}
use Rattle.lc_outline_text.specs.Paths.{path_number}
use Rattle.lc_outline_text.specs.StoredView.{ways_of_riders}
use Rattle.lc_outline_text.proofs.RidersPassed.{next_rider, number_next}
use Rattle.lc_outline_text.proofs.riders.path_number.Goals as goal

pub loop-rider-preserved : goal.loop-rider-preserved
loop-rider-preserved c =
    let rs = c.args.riders.now in
    let i = c.loop-rider.rider-index in
    let r = c.rider-item.result in
    let rest = path_number (ways_of_riders (drop (i + 1) rs)) in
    let split : path_number (ways_of_riders (drop i rs)) ≡ c.way_count.result * rest = ap path_number (next_rider rs i r c.loop-rider-test.true c.rider-item.is) ∙ ap (λ n. n * rest) (sym c.way_count.ensures) in
    let new = c.capped_product-number.ensures in
    record {
      few = omega (arith, new);
      whole = number_next c.loop-rider.number c.capped_product-number.result c.way_count.result (path_number (ways_of_riders (drop i rs))) rest (path_number (ways_of_riders rs)) new split c.loop-rider.invariant.whole;
    }
