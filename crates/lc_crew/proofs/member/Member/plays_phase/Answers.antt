use Rattle.std.proofs.Common.{◌∙◌}
use Rattle.lc_crew.specs.Members.{client_of, halt_of, made_by}
use Rattle.lc_crew.proofs.Scripts.{phase-played, script-left, script-made}
use Rattle.lc_crew.proofs.member.Member.plays_phase.Goals as goal

pub loop-script-preserved-then-script-client : goal.loop-script-preserved-then-script-client
loop-script-preserved-then-script-client g c =
    let so = c.loop-script.invariant in
    let m = c.loop-script.member in (
      so.0,
      λ end after rest.
          so.1 end after
          (script-left c.args.phase.now c.loop-script.script-index c.script-item.result (client_of c.args.self) (client_of m) c.client.result (halt_of m) (made_by m) c.loop-script-test.true c.script-item.is c.if-script-client.true
          c.client.ensures so.0 end after rest),
    )

pub loop-script-preserved : goal.loop-script-preserved
loop-script-preserved g c =
    let so = c.loop-script.invariant in
    let m = c.loop-script.member in
    let next = c.in_ok-member.member in
    let told = c.in_ok-member.ensures in (
      told.same ∙ so.0,
      λ end after rest.
          so.1 end after
          (script-made c.args.phase.now c.loop-script.script-index c.script-item.result (client_of c.args.self) (client_of m) c.client.result (halt_of m) (halt_of next) (made_by m) (made_by next) c.loop-script-test.true c.script-item.is
          c.if-script-client.false c.client.ensures so.0 told.plays end after rest),
    )

pub returns-clause-plays : goal.returns-clause-plays
returns-clause-plays g c =
    let m = c.loop-script.member in
    c.loop-script.invariant.1 (halt_of m) (made_by m) (phase-played c.args.phase.now c.loop-script.script-index (halt_of m) (client_of c.args.self) (made_by m) c.loop-script-test.false)
