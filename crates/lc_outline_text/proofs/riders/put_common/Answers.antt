use Rattle.std.proofs.Common.{◌≡◌, ◌+◌, ◌++◌, drop, ap, sym, ◌∙◌, arith}
use Rattle.lc_outline_text.specs.Paths.{stands, only_way, then_way, common_way}
use Rattle.lc_outline_text.specs.StoredView.{listed_in, ways_of_rider, ways_of_riders}
use Rattle.lc_outline_text.proofs.RidersPassed.{next_rider}
use Rattle.lc_outline_text.proofs.Sets.{put_on}
use Rattle.lc_outline_text.proofs.riders.put_common.Goals as goal

pub loop-rider-preserved : goal.loop-rider-preserved
loop-rider-preserved c =
    let rs = c.args.riders.now in
    let i = c.loop-rider.rider-index in
    let r = c.rider-item.result in
    let one = only_way (ways_of_rider r) in
    let rest = common_way (ways_of_riders (drop (i + 1) rs)) in
    let next : common_way (ways_of_riders (drop i rs)) ≡ then_way one rest = ap common_way (next_rider rs i r c.loop-rider-test.true c.rider-item.is) in
    let before : c.loop-rider.asked + (one.asked + rest.asked) ≡ c.args.before + (common_way (ways_of_riders rs)).asked = ap (λ w. c.loop-rider.asked + w.asked) (sym next) ∙ c.loop-rider.invariant.asked in
    let now = c.in_ok-asked.ensures in
    let own = c.in_ok-put_only.ensures.asked in
    record {
      set = c.in_ok-put_only.ensures.set;
      asked = omega (arith, before, now, own);
      stored = put_on (listed_in c.loop-rider.set) (listed_in c.put_only.new.set) one.columns rest.columns (listed_in c.args.set.now ++ (common_way (ways_of_riders rs)).columns) c.in_ok-put_only.ensures.stored
          (ap (λ w. stands (listed_in c.loop-rider.set ++ w.columns)) (sym next) ∙ c.loop-rider.invariant.stored);
    }
