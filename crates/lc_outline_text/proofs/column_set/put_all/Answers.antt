use Rattle.std.proofs.Common.{rules, ◌≡◌, ◌++◌, [], ◌∷◌, get_or}
use Rattle.lc_base.specs.declared.ids.ColId.{ColId}
use Rattle.lc_outline_text.specs.Paths.{stands}
use Rattle.lc_outline_text.specs.StoredView.{listed_in}
use Rattle.lc_outline_text.proofs.Sets.{put_next}
use Rattle.lc_outline_text.proofs.column_set.put_all.Goals as goal

pub loop-column-preserved : goal.loop-column-preserved
loop-column-preserved c =
    let x : ColId = get_or c.args.columns.now c.loop-column.column-index (record { 0 = 0 }) in
    let step : stands (listed_in c.put.new.set) ≡ stands (listed_in c.loop-column.set ++ x.0 ∷ []) = search rules in
    record {
      set = c.in_ok-put.ensures.set;
      more = put_next (listed_in c.args.set.now) (listed_in c.loop-column.set) (listed_in c.put.new.set) c.args.columns.now c.loop-column.column-index (record { 0 = 0 }) c.loop-column-test.true
          c.loop-column.invariant.more step;
    }
