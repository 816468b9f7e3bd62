use Rattle.std.proofs.Common.{◌∙◌}
use Rattle.lc_put.specs.PutNumbers.{columns_at, terms_in, replacement_at}
use Rattle.lc_term.specs.Replacement.{replace_term}
use Rattle.lc_table.specs.Tables.{HasTerm}
use Rattle.lc_term.specs.View.{term_of}
use Rattle.lc_put.proofs.ByNumber.{are_columns_later, are_terms_later}
use Rattle.lc_table.proofs.Later.{kept_on}
use Rattle.lc_rider.proofs.MarkStores.{index_said, said_stored, updates_more}
use Rattle.lc_rider.proofs.marked_columns.store_updates.Goals as goal

pub store_value-requires-clause-before : goal.store_value-requires-clause-before
store_value-requires-clause-before c =
    are_columns_later c.args.terms.now c.put_in_term.new.table c.args.before.columns.now c.requires.before
    (kept_on c.args.terms.now c.loop-update.terms c.put_in_term.new.table c.loop-update.invariant.kept
    (kept_on c.loop-update.terms c.enter_term.new.self c.put_in_term.new.table c.enter_term.ensures.kept c.put_in_term.ensures.kept))

pub store_value-requires-clause-variables : goal.store_value-requires-clause-variables
store_value-requires-clause-variables c =
    are_terms_later c.args.terms.now c.put_in_term.new.table c.args.before.variables.now c.requires.variables
    (kept_on c.args.terms.now c.loop-update.terms c.put_in_term.new.table c.loop-update.invariant.kept
    (kept_on c.loop-update.terms c.enter_term.new.self c.put_in_term.new.table c.enter_term.ensures.kept c.put_in_term.ensures.kept))

pub store_value-requires-clause-columns : goal.store_value-requires-clause-columns
store_value-requires-clause-columns c =
    are_columns_later c.loop-update.terms c.put_in_term.new.table c.loop-update.columns.items c.loop-update.invariant.are
    (kept_on c.loop-update.terms c.enter_term.new.self c.put_in_term.new.table c.enter_term.ensures.kept c.put_in_term.ensures.kept)

pub loop-update-preserved : goal.loop-update-preserved
loop-update-preserved c =
    let old = c.args.terms.now in
    let now = c.loop-update.terms in
    let mid = c.put_in_term.new.table in
    let new = c.store_value.new.terms in
    let ps = c.args.before.columns.now in
    let ks = c.args.before.variables.now in
    let u = c.update-item.result in
    let σ = columns_at old ps in
    let τ = terms_in old ks in
    let entered = c.enter_term.ensures.kept in
    let more = kept_on now c.enter_term.new.self mid entered c.put_in_term.ensures.kept in
    let index : HasTerm mid c.in_ok-index-2.index (replace_term (replacement_at old ps ks) (term_of u.index)) =
    index_said old c.enter_term.new.self mid ps ks c.in_ok-index.index c.in_ok-index-2.index (term_of u.index) c.requires.before c.requires.variables
    (kept_on old now c.enter_term.new.self c.loop-update.invariant.kept entered) c.in_ok-index.ensures.id c.in_ok-index-2.ensures.id in
    record {
      kept = kept_on old now new c.loop-update.invariant.kept (kept_on now mid new more c.in_ok-store_value.ensures.kept);
      are = c.in_ok-store_value.ensures.are;
      left = updates_more σ τ c.args.updates.now c.loop-update.update-index u (columns_at now c.loop-update.columns.items) (columns_at new c.store_value.new.columns.items) _
          c.loop-update-test.true c.update-item.is
          (c.in_ok-store_value.ensures.stored ∙ said_stored old now mid ps ks c.loop-update.columns.items u.column.0 c.in_ok-index-2.index (term_of u.index) (term_of u.value) c.requires.before c.requires.variables c.loop-update.invariant.are
          c.loop-update.invariant.kept more index)
          c.loop-update.invariant.left;
    }
