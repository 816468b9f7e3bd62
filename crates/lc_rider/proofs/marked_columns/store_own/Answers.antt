use Rattle.std.proofs.Common.{◌∙◌, ◌<◌, ◌≤◌, length, map, ap, get_or, arith}
use Rattle.std.proofs.lemmas.Bool.Decides.{nat_tests}
use Rattle.lc_base.specs.declared.ids.ColId.{ColId}
use Rattle.lc_put.specs.PutNumbers.{columns_at, terms_in, replacement_at}
use Rattle.lc_term.specs.Replacement.{replace_term}
use Rattle.lc_term.specs.Said.{puts, said, at_client}
use Rattle.lc_term.specs.Syntax.{Variable}
use Rattle.lc_table.specs.Tables.{HasTerm}
use Rattle.lc_term.specs.View.{term_of}
use Rattle.lc_put.proofs.ByNumber.{are_columns_later, are_terms_later, columns_still}
use Rattle.lc_table.proofs.Later.{kept_on, keeps_itself, is_term_later, term_later}
use Rattle.lc_rider.proofs.MarkStores.{index_said, said_stored, cells_more, no_values}
use Rattle.lc_rider.proofs.marked_columns.store_own.Goals as goal

pub loop-i-init : goal.loop-i-init
loop-i-init c =
    let old = c.args.terms.now in
    let mid = c.put_in_term.new.table in
    let kept = kept_on old c.variable.new.self mid c.variable.ensures.kept c.put_in_term.ensures.kept in
    record {
      kept = keeps_itself mid;
      are = are_columns_later old mid c.args.columns.now.items c.requires.columns kept;
      left = ap (λ σ. puts σ (map (said (columns_at old c.args.before.columns.now) (terms_in old c.args.before.variables.now)) (at_client (map (λ (x : ColId). x.0) c.args.cells.now) (map term_of c.args.values.now))))
          (columns_still old mid c.args.columns.now.items c.requires.columns kept);
    }

pub returns-in_default-clause-stored : goal.returns-in_default-clause-stored
returns-in_default-clause-stored c =
    let test = c.in_default.ensures.lookup.0 in
    let past : length c.args.values.now ≤ c.loop-i.i = grind (arith, nat_tests) in
    no_values (columns_at c.args.terms.now c.args.before.columns.now) (terms_in c.args.terms.now c.args.before.variables.now) c.args.cells.now c.args.values.now c.loop-i.i _ _ past c.loop-i.invariant.left

pub store_value-requires-clause-before : goal.store_value-requires-clause-before
store_value-requires-clause-before c =
    are_columns_later c.args.terms.now c.loop-i.terms c.args.before.columns.now c.requires.before
    (kept_on c.args.terms.now c.put_in_term.new.table c.loop-i.terms (kept_on c.args.terms.now c.variable.new.self c.put_in_term.new.table c.variable.ensures.kept c.put_in_term.ensures.kept) c.loop-i.invariant.kept)

pub store_value-requires-clause-variables : goal.store_value-requires-clause-variables
store_value-requires-clause-variables c =
    are_terms_later c.args.terms.now c.loop-i.terms c.args.before.variables.now c.requires.variables
    (kept_on c.args.terms.now c.put_in_term.new.table c.loop-i.terms (kept_on c.args.terms.now c.variable.new.self c.put_in_term.new.table c.variable.ensures.kept c.put_in_term.ensures.kept) c.loop-i.invariant.kept)

pub store_value-requires-clause-index : goal.store_value-requires-clause-index
store_value-requires-clause-index c = is_term_later c.put_in_term.new.table c.loop-i.terms c.in_ok-client-2.client _ c.in_ok-client-2.ensures.id c.loop-i.invariant.kept

pub loop-i-preserved : goal.loop-i-preserved
loop-i-preserved c =
    let old = c.args.terms.now in
    let mid = c.put_in_term.new.table in
    let now = c.loop-i.terms in
    let new = c.store_value.new.terms in
    let ps = c.args.before.columns.now in
    let ks = c.args.before.variables.now in
    let k = c.in_ok-client-2.client in
    let σ = columns_at old ps in
    let τ = terms_in old ks in
    let kept = kept_on old mid now (kept_on old c.variable.new.self mid c.variable.ensures.kept c.put_in_term.ensures.kept) c.loop-i.invariant.kept in
    let test = c.in-Some.ensures.lookup.0 in
    let there : c.loop-i.i < length c.args.values.now = grind (arith, nat_tests) in
    let index : HasTerm mid k (replace_term (replacement_at old ps ks) (Variable 1)) =
    index_said old c.variable.new.self mid ps ks c.in_ok-client.client k (Variable 1) c.requires.before c.requires.variables c.variable.ensures.kept c.in_ok-client.ensures.id c.in_ok-client-2.ensures.id in
    record {
      kept = kept_on mid now new c.loop-i.invariant.kept c.in_ok-store_value.ensures.kept;
      are = c.in_ok-store_value.ensures.are;
      left = cells_more σ τ c.args.cells.now c.args.values.now c.loop-i.i (record { 0 = 0 }) c.in-Some.value.now (columns_at now c.loop-i.columns.items) (columns_at new c.store_value.new.columns.items) _
          c.loop-i-test.true there c.in-Some.ensures.lookup.1
          (c.in_ok-store_value.ensures.stored ∙ said_stored old now now ps ks c.loop-i.columns.items (get_or c.args.cells.now c.loop-i.i (record { 0 = 0 })).0 k (Variable 1) (term_of c.in-Some.value.now) c.requires.before c.requires.variables
          c.loop-i.invariant.are kept (keeps_itself now) (term_later mid now k _ index c.loop-i.invariant.kept))
          c.loop-i.invariant.left;
    }
