use Rattle.std.proofs.Common.{◌≡◌, ◌+◌, ◌/◌, ◌%◌, ◌≤◌, ◌++◌, drop, get_or, length, ap, sym, subst, ◌∙◌, arith}
use Rattle.lc_outline.specs.Sizes.{no_way}
use Rattle.lc_outline_text.specs.Paths.{stands, path_number, path_at, then_way}
use Rattle.lc_outline_text.specs.StoredView.{listed_in, ways_of_rider, ways_of_riders}
use Rattle.lc_outline_text.proofs.RidersPassed.{next_rider, some_left}
use Rattle.lc_outline_text.proofs.Sets.{put_on}
use Rattle.lc_outline_text.proofs.path_counts.put_path.Goals as goal

pub loop-rider-preserved : goal.loop-rider-preserved
loop-rider-preserved c =
    let rs = c.args.riders.now in
    let i = c.loop-rider.rider-index in
    let r = c.rider-item.result in
    let n = c.loop-rider.left in
    let ways = c.way_count-ways.result in
    let now = get_or (ways_of_rider r) (n % ways) no_way in
    let rest = path_at (ways_of_riders (drop (i + 1) rs)) (n / ways) in
    let whole = path_at (ways_of_riders rs) c.args.number in
    let here = next_rider rs i r c.loop-rider-test.true c.rider-item.is in
    let next : path_at (ways_of_riders (drop i rs)) n ≡ then_way now rest =
    ap (λ l. path_at l n) here ∙ ap (λ k. then_way (get_or (ways_of_rider r) (n % k) no_way) (path_at (ways_of_riders (drop (i + 1) rs)) (n / k))) (sym c.way_count-ways.ensures) in
    let before : c.loop-rider.asked + (now.asked + rest.asked) ≡ c.args.before + whole.asked = ap (λ w. c.loop-rider.asked + w.asked) (sym next) ∙ c.loop-rider.invariant.asked in
    let all = c.in_ok-asked.ensures in
    let own = c.in_ok-put_way.ensures.asked in
    record {
      set = c.in_ok-put_way.ensures.set;
      some = some_left (length (ways_of_rider r)) (path_number (ways_of_riders (drop (i + 1) rs))) (subst (λ l. 1 ≤ path_number l) here c.loop-rider.invariant.some);
      asked = omega (arith, before, all, own);
      stored = put_on (listed_in c.loop-rider.set) (listed_in c.put_way.new.set) now.columns rest.columns (listed_in c.args.set.now ++ whole.columns) c.in_ok-put_way.ensures.stored
          (ap (λ w. stands (listed_in c.loop-rider.set ++ w.columns)) (sym next) ∙ c.loop-rider.invariant.stored);
    }
