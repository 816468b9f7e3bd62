use Rattle.std.proofs.Common.{rules, ◌≡◌, ◌++◌, ◌∷◌, []}
use Rattle.lc_action.specs.ActionView.{action_of}
use Rattle.lc_outline.specs.DevelopmentView.{development_view}
use Rattle.lc_cond.proofs.Crossed.{crossings_put}
use Rattle.lc_cond.proofs.stability.with_crossing.Goals as goal

pub returns-clause-crossings : goal.returns-clause-crossings
returns-clause-crossings c =
    let now = c.cross.new.terms in
    let items : c.push.new.self.items ≡ c.args.crossings.items ++ c.in_ok-next.next ∷ [] = search rules in
    λ hs fs actions kh fh before. crossings_put c.args.terms.now now (development_view c.args.development.now) c.args.given.now.client hs fs actions c.args.crossings.items c.push.new.self.items (action_of c.args.action.now) c.in_ok-next.next items before
    c.in_ok-next.ensures.kept (c.in_ok-next.ensures.crossing hs fs kh fh)
