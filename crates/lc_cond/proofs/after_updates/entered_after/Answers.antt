use Rattle.std.proofs.Common.{◌+◌, map, drop, sym, ap, ◌∙◌}
use Rattle.std.proofs.Math.ListN.{drop_of_length-le}
use Rattle.lc_put.specs.PutNumbers.{columns_at}
use Rattle.lc_table.proofs.Later.{kept_on}
use Rattle.lc_term.specs.Said.{puts, said}
use Rattle.lc_term.specs.Syntax.{Base}
use Rattle.lc_term.specs.UpdateView.{updates_of}
use Rattle.lc_term.specs.View.{term_of}
use Rattle.lc_cond.proofs.Updated.{puts_more}
use Rattle.lc_cond.proofs.after_updates.entered_after.Goals as goal

pub loop-update-preserved : goal.loop-update-preserved
loop-update-preserved c =
    let us = c.args.updates.now in
    let i = c.loop-update.update-index in
    let τ = map term_of c.args.variables.now in
    let t0 = c.loop-update.terms in
    record {
      kept = kept_on c.args.terms.now t0 c.store_update.new.terms c.loop-update.invariant.kept c.in_ok-store_update.ensures.kept;
      are = c.in_ok-store_update.ensures.are;
      left = ap (λ ρ. puts ρ (map (said Base τ) (updates_of (drop (i + 1) us)))) c.in_ok-store_update.ensures.stored
          ∙ (sym (puts_more τ us i c.update-item.result (columns_at t0 c.loop-update.columns.items) c.loop-update-test.true c.update-item.is) ∙ c.loop-update.invariant.left);
    }

pub returns-clause-list : goal.returns-clause-list
returns-clause-list c =
    let us = c.args.updates.now in
    let τ = map term_of c.args.variables.now in
    record {
      are = c.loop-update.invariant.are;
      columns = ap (λ vs. puts (columns_at c.loop-update.terms c.loop-update.columns.items) (map (said Base τ) (updates_of vs))) (sym (drop_of_length-le us c.loop-update-test.false)) ∙ c.loop-update.invariant.left;
    }
