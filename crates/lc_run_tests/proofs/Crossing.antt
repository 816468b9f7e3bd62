-- What a thread of a client takes with it may cross threads.
use denote.Param.{param}
use denote.Param.Send.{IsSend, IsSync, sendable, shr_send}
use denote.Param.SendFields.{declared_send}
use denote.RattleType.{RattleType}
use denote.Ref.{NamedLft, ShrRef}
use denote.Struct.Field.{i64-field, shr_slice_field, u32-field}
use denote.Struct.Tuple.{TupleAt, type_at}
use Rattle.std.proofs.Common.{ℕ, List, [], ◌∷◌}
use Rattle.std.proofs.Crossing.{crosses}
use Rattle.std.proofs.sync.ledger.Share.TheSendSync as Share
use Rattle.std.specs.contracts.alloc.Global as Global
use Rattle.std.specs.declared.sync.ledger.Ledger.{Ghosts}
use Rattle.lc_run.specs.contracts.label.Label as RunLabel
use Rattle.lc_run.specs.contracts.held.Seat as Seat
use Rattle.lc_run.specs.contracts.runner.Runner as Runner
use Rattle.lc_run.proofs.Crossing.{Runner-sync}

Label-send : IsSend RunLabel.the_row
Label-send = search (crosses, sendable) depth 60 fits 20000

-- a seat may be handed on, whichever ledger its run has
module _ (J : RattleType) (l : Ghosts J.Denot) where
  Seat-send : IsSend (Seat.the_row J l)
  Seat-send = declared_send (Seat.the_type J l) (search sendable, (search (Label-send, crosses, sendable) depth 20, (search (Share.the_send, sendable) depth 20, tt)))

-- with it a thread takes numbers, an allocator, and references to the runtime and the runner
module _ (J : RattleType) (l : Ghosts J.Denot) where
  abbrev taken : RattleType → (a b c : NamedLft) → List RattleType
  taken R a b c =
      ShrRef a.mir a.lft (param 1 R) ∷ Global.the_row ∷ ShrRef b.mir b.lft (Runner.the_row (param 0 J) l) ∷ Seat.the_row (param 0 J) l ∷ (shr_slice_field c i64-field.row tt).row ∷ u32-field.row ∷ []

  pub taken-send : (R : RattleType) (name : List ℕ) (a b c : NamedLft) → IsSync (param 1 R) → IsSend (TupleAt name (taken R a b c))
  taken-send R name a b c sync =
      let runtime : IsSend (ShrRef a.mir a.lft (param 1 R)) = shr_send a.mir a.lft (param 1 R) sync in
      let runner : IsSend (ShrRef b.mir b.lft (Runner.the_row (param 0 J) l)) = shr_send b.mir b.lft (Runner.the_row (param 0 J) l) (Runner-sync (param 0 J) l) in
      let seat : IsSend (Seat.the_row (param 0 J) l) = Seat-send (param 0 J) l in
      declared_send (type_at name (taken R a b c))
      (search (runtime, sendable), (search sendable depth 20, (search (runner, sendable), (search (seat, sendable), (search sendable depth 20, (search sendable, tt))))))
