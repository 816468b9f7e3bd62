use Rattle.std.proofs.Common.{rules, ◌≡◌, ◌++◌}
use Rattle.lc_term.specs.Drafts as plain
use Rattle.lc_term.specs.Updates.{stored_all}
use Rattle.lc_term.specs.UpdateView.{writes_view}
use Rattle.lc_ride.proofs.Writing.{written_more}
use Rattle.lc_ride.proofs.draft.Draft.write_all.Goals as goal

pub invariant_of-self-in_default : goal.invariant_of-self-in_default
invariant_of-self-in_default c =
    let before = c.args.self.now.columns in
    let after = c.write_noted.new.columns in
    let written : plain.written_in_draft after ≡ stored_all (plain.written_in_draft before) (writes_view c.args.writes.now) = search rules in
    let items : c.write_noted.new.noted.items ≡ c.args.self.now.writes.items ++ c.args.writes.now = search rules in
    record { written = written_more before after c.args.self.now.writes.items c.write_noted.new.noted.items c.args.writes.now c.args.self.now.written c.requires written c.write_noted.ensures.saved c.write_noted.ensures.columns items }
