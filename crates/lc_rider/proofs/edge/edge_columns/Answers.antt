use Rattle.std.proofs.Common.{◌+◌, map, drop, sym, ap, ◌∙◌}
use Rattle.lc_put.specs.PutNumbers.{columns_at}
use Rattle.lc_term.specs.Said.{put, puts}
use Rattle.lc_term.specs.UpdateView.{update_of}
use Rattle.lc_put.proofs.ByNumber.{are_columns_later, columns_still}
use Rattle.lc_table.proofs.Later.{kept_on, term_later, term_is, is_term_later, keeps_itself}
use Rattle.lc_rider.proofs.Assigned.{stored_more}
use Rattle.lc_rider.proofs.edge.edge_columns.Goals as goal

pub store_in-requires : goal.store_in-requires
store_in-requires c =
    let t0 = c.loop-update.terms in
    let t1 = c.enter_term.new.self in
    let t2 = c.enter_term-in-loop-update.new.self in
    record {
      columns = are_columns_later t0 t2 c.loop-update.columns.items c.loop-update.invariant.are (kept_on t0 t1 t2 c.in_ok-index.ensures.kept c.in_ok-value.ensures.kept);
      index = is_term_later t1 t2 c.in_ok-index.index _ c.in_ok-index.ensures.id c.in_ok-value.ensures.kept;
      value = is_term_later t2 t2 c.in_ok-value.value _ c.in_ok-value.ensures.id (keeps_itself t2);
    }

pub loop-update-preserved : goal.loop-update-preserved
loop-update-preserved c =
    let us = c.deref-update-items.result.now in
    let i = c.loop-update.update-index in
    let u = c.update-item.result in
    let cs = c.loop-update.columns.items in
    let t0 = c.loop-update.terms in
    let t1 = c.enter_term.new.self in
    let t2 = c.enter_term-in-loop-update.new.self in
    let t3 = c.store_in.new.terms in
    let kept = kept_on t0 t1 t2 c.in_ok-index.ensures.kept c.in_ok-value.ensures.kept in
    let index = term_is t2 c.in_ok-index.index _ (term_later t1 t2 c.in_ok-index.index _ c.in_ok-index.ensures.id c.in_ok-value.ensures.kept) in
    let value = term_is t2 c.in_ok-value.value _ c.in_ok-value.ensures.id in
    let still = columns_still t0 t2 cs c.loop-update.invariant.are kept in
    record {
      kept = kept_on c.args.terms.now t0 t3 c.loop-update.invariant.kept (kept_on t0 t2 t3 kept c.in_ok-store_in.ensures.kept);
      are = c.in_ok-store_in.ensures.are;
      left = ap (λ ρ. puts ρ (map update_of (drop (i + 1) us)))
          (c.in_ok-store_in.ensures.stored ∙ (λ j. put (still j) (record { column = u.column.0; index = index j; value = value j })))
          ∙ (sym (stored_more us i u (columns_at t0 cs) c.loop-update-test.true c.update-item.is) ∙ c.loop-update.invariant.left);
    }
