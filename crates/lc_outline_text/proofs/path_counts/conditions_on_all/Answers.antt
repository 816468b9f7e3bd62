use Rattle.std.proofs.Common.{◌+◌, [], ap, sym, ◌∙◌, arith}
use Rattle.lc_object.specs.View.{columns_of}
use Rattle.lc_outline_text.specs.Paths.{path_number}
use Rattle.lc_outline_text.specs.StoredView.{ways_of_riders}
use Rattle.lc_outline_text.specs.Views.{capped}
use Rattle.lc_outline_text.proofs.Paths.{sum_below, on_path, path_by_path, below_more, below_next}
use Rattle.lc_outline_text.proofs.RidersPassed.{next_path, past_cap}
use Rattle.lc_outline_text.proofs.path_counts.conditions_on_all.Goals as goal

pub loop-number-preserved : goal.loop-number-preserved
loop-number-preserved c =
    let f = on_path [] (ways_of_riders c.args.riders.now) c.args.asked (columns_of c.args.columns.now) in
    let n = c.loop-number.number in
    record {
      set = c.in_ok-more.ensures.set;
      count = next_path c.loop-number.count (sum_below f n) (f n) c.capped_sum-count.result c.loop-number.invariant.count (c.capped_sum-count.ensures ∙ ap (λ m. capped (c.loop-number.count + m)) c.in_ok-more.ensures.count)
          ∙ ap capped (sym (below_next f n));
    }

pub returns-then-count-ge-COUNT_CAP-clause-count : goal.returns-then-count-ge-COUNT_CAP-clause-count
returns-then-count-ge-COUNT_CAP-clause-count c =
    let rs = ways_of_riders c.args.riders.now in
    let columns = columns_of c.args.columns.now in
    let f = on_path [] rs c.args.asked columns in
    let all = c.requires.all in
    past_cap c.loop-number.count (sum_below f c.loop-number.number) (sum_below f (path_number rs)) c.if-count-ge-COUNT_CAP.true c.loop-number.invariant.count
    (below_more f c.loop-number.number (path_number rs) (let few = c.loop-number-test.true in omega (arith, few, all)))
    ∙ ap capped (sym (path_by_path [] rs c.args.asked columns))

pub returns-clause-count : goal.returns-clause-count
returns-clause-count c =
    let rs = ways_of_riders c.args.riders.now in
    let columns = columns_of c.args.columns.now in
    let f = on_path [] rs c.args.asked columns in
    let all = c.requires.all in
    let past = c.loop-number-test.false in
    c.loop-number.invariant.count
    ∙ ap (λ n. capped (sum_below f n)) (let end = c.loop-number.auto in omega (arith, all, past, end))
    ∙ ap capped (sym (path_by_path [] rs c.args.asked columns))
