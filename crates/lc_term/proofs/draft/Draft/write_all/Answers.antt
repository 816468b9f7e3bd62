use Rattle.lc_term.specs.UpdateView.{writes_view}
use Rattle.lc_term.proofs.Written.{written-ok}
use Rattle.lc_term.proofs.draft.Draft.write_all.Goals as goal

pub returns-clause-ok : goal.returns-clause-ok
returns-clause-ok c =
    written-ok c.args.self.now.state c.write_each.new.self (writes_view c.args.writes.now) c.write_each.result c.requires c.write_each.ensures.ok
