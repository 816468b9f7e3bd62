use Rattle.std.proofs.Common.{◌≡◌, get_or}
use Rattle.lc_base.specs.declared.ids.ColId.{ColId}
use Rattle.lc_put.specs.PutNumbers.{columns_at, terms_in}
use Rattle.lc_term.specs.Syntax.{Read}
use Rattle.lc_table.specs.Tables.{term_in, HasTerm}
use Rattle.lc_table.proofs.Later.{kept_on, term_is}
use Rattle.lc_rider.proofs.Reading.{has_is_term, are_terms_pushed, terms_pushed, read_is, reads_more}
use Rattle.lc_rider.proofs.marking.push_reads.Goals as goal

pub loop-cell-preserved : goal.loop-cell-preserved
loop-cell-preserved c =
    let old = c.args.terms.now in
    let now = c.loop-cell.terms in
    let mid = c.stored_column.new.table in
    let new = c.read.new.self in
    let k = c.in_ok-cell.cell in
    let cell : ColId = get_or c.args.cells.now c.loop-cell.cell-index (record { 0 = 0 }) in
    let client = term_in old c.args.client in
    let column = columns_at old c.args.columns.now cell.0 in
    let more = kept_on now mid new c.stored_column.ensures.kept c.read.ensures.kept in
    let has : HasTerm new k (Read column client) = read_is old now mid new c.args.columns.now cell.0 c.in_ok-column.column c.args.client k c.requires.columns c.requires.client c.loop-cell.invariant.kept
    c.stored_column.ensures.kept c.in_ok-column.ensures.id c.in_ok-cell.ensures.id in
    let pushed : terms_in new c.push.new.self.items ≡ _ = terms_pushed now new c.loop-cell.read.items c.push.new.self.items k (Read column client) c.in_ok-push.ensures.items c.loop-cell.invariant.are more (term_is new k (Read column client) has) in
    record {
      kept = kept_on old now new c.loop-cell.invariant.kept more;
      are = are_terms_pushed now new c.loop-cell.read.items c.push.new.self.items k c.in_ok-push.ensures.items c.loop-cell.invariant.are more (has_is_term new k (Read column client) has);
      left = reads_more (columns_at old c.args.columns.now) client c.args.cells.now c.loop-cell.cell-index (record { 0 = 0 }) (terms_in now c.loop-cell.read.items) (terms_in new c.push.new.self.items) _
          c.loop-cell-test.true pushed c.loop-cell.invariant.left;
    }
