use Rattle.lc_term.specs.UpdateView.{writes_view}
use Rattle.lc_term.proofs.Written.{written-ok, written-err, written-count}
use Rattle.lc_term.proofs.state.State.write_all.Goals as goal

pub returns-clause-ok : goal.returns-clause-ok
returns-clause-ok c = written-ok c.args.self.now c.write_all_or_none.new.self (writes_view c.args.writes.now) c.write_all_or_none.result c.requires c.write_all_or_none.ensures.ok

pub returns-clause-err : goal.returns-clause-err
returns-clause-err c = written-err c.args.self.now c.write_all_or_none.new.self c.write_all_or_none.result c.write_all_or_none.ensures.err

pub returns-clause-columns : goal.returns-clause-columns
returns-clause-columns c =
    written-count c.args.self.now c.write_all_or_none.new.self (writes_view c.args.writes.now) c.write_all_or_none.result c.write_all_or_none.ensures.ok c.write_all_or_none.ensures.err
