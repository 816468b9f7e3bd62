use Rattle.std.proofs.Common.{◌≡◌, ◌++◌, map, pos, replicate, rules}
use Rattle.lc_outline.specs.DevelopmentView.{development_view}
use Rattle.lc_seq.specs.Specification as Q
use Rattle.lc_object.specs.Syntax as O
use Rattle.lc_steps.proofs.Started.{started-as}
use Rattle.lc_steps.proofs.starting.start.Goals as goal

pub returns-clause-state : goal.returns-clause-state
returns-clause-state c =
    let D = development_view c.args.development.now in
    let is : c.deref-3.result.now ≡ ((map (λ (c : Q.Column). (c.slope, c.start)) D.specification.columns ++ map (λ (c : O.Column). (c.slope, c.start)) D.object.concretes) ++ map (λ (c : Q.Column). (c.slope, c.start)) D.auxiliaries) ++ replicate 12 (pos 0, pos 0) = search rules in
    started-as D c.deref-3.result.now c.new.result is c.new.ensures.cells
