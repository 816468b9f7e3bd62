-- What a thread of a client takes with it may cross threads.
use denote.Param.{param}
use denote.Param.Send.{IsSend, IsSync, sendable, shr_send}
use denote.Param.SendFields.{declared_send}
use denote.RattleType.{RattleType}
use denote.Ref.{NamedLft, ShrRef}
use denote.Struct.Tuple.{TupleAt, type_at}
use denote.Builtin.{usize}
use Rattle.std.proofs.Common.{ℕ, List, [], ◌∷◌}
use Rattle.std.proofs.Crossing.{crosses}
use Rattle.std.proofs.sync.ledger.Share.TheSendSync as Share
use Rattle.std.specs.declared.sync.ledger.Ledger.{Ghosts}
use Rattle.lc_plan.specs.contracts.plan.Plan as Plan
use Rattle.lc_run.specs.contracts.label.Label as RunLabel
use Rattle.lc_run.specs.contracts.held.Seat as Seat
use Rattle.lc_run.specs.contracts.runner.Runner as Runner
use Rattle.lc_run.proofs.Crossing.{Runner-sync}
use Rattle.lc_crew.specs.contracts.member.Member as Member

Plan-sync : IsSync Plan.the_row
Plan-sync = search (crosses, sendable) depth 60 fits 20000

Label-send : IsSend RunLabel.the_row
Label-send = search (crosses, sendable) depth 60 fits 20000

-- a client may be handed on, whichever ledger its run has
module _ (J : RattleType) (l : Ghosts J.Denot) where
  Seat-send : IsSend (Seat.the_row J l)
  Seat-send = declared_send (Seat.the_type J l) (search sendable, (search (Label-send, crosses, sendable) depth 20, (search (Share.the_send, sendable) depth 20, tt)))

  Member-send : IsSend (Member.the_row J l)
  Member-send = declared_send (Member.the_type J l) (Seat-send, (search sendable depth 20, tt))

-- with it a thread takes references to the runtime, the runner and the plan, and the number of a phase
module _ (J : RattleType) (l : Ghosts J.Denot) where
  abbrev taken : RattleType → (a b c : NamedLft) → List RattleType
  taken R a b c = ShrRef a.mir a.lft (param 1 R) ∷ ShrRef b.mir b.lft (Runner.the_row (param 0 J) l) ∷ Member.the_row (param 0 J) l ∷ ShrRef c.mir c.lft Plan.the_row ∷ usize ∷ []

  pub taken-send : (R : RattleType) (name : List ℕ) (a b c : NamedLft) → IsSync (param 1 R) → IsSend (TupleAt name (taken R a b c))
  taken-send R name a b c sync =
      let client : IsSend (Member.the_row (param 0 J) l) = Member-send (param 0 J) l in
      let runtime : IsSend (ShrRef a.mir a.lft (param 1 R)) = shr_send a.mir a.lft (param 1 R) sync in
      let runner : IsSend (ShrRef b.mir b.lft (Runner.the_row (param 0 J) l)) = shr_send b.mir b.lft (Runner.the_row (param 0 J) l) (Runner-sync (param 0 J) l) in
      let plan : IsSend (ShrRef c.mir c.lft Plan.the_row) = shr_send c.mir c.lft Plan.the_row Plan-sync in
      declared_send (type_at name (taken R a b c)) (search (runtime, sendable), (search (runner, sendable), (search (client, sendable), (search (plan, sendable), (search sendable, tt)))))
