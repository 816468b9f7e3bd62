-- What is accepted may cross threads: each part of its development may.
use denote.RattleType.{RattleType}
use denote.Param.Send.{IsSend, IsSync, sendable}
use denote.Param.SendFields.{declared_send, declared_sync}
use Rattle.std.proofs.Crossing.{crosses}
use Rattle.std.proofs.MapsCrossing as maps
use Rattle.std.proofs.sync.ledger.Book.TheSendSync as Book
use Rattle.std.proofs.sync.ledger.Share.TheSendSync as Share
use Rattle.std.specs.declared.sync.ledger.Ledger.{Ghosts}
use Rattle.lc_outline.proofs.Crossing.{crossing, Development-send, Development-sync}
use Rattle.lc_check.specs.contracts.verdict.Accepted as Accepted
use Rattle.lc_ride.specs.contracts.draft.Draft as Draft
use Rattle.lc_machine.specs.contracts.client.Client as Client
use Rattle.lc_run.specs.contracts.label.Label as RunLabel
use Rattle.lc_run.specs.contracts.held.Shared as Shared
use Rattle.lc_run.specs.contracts.runner.Runner as Runner

pub Accepted-send : IsSend Accepted.the_row
Accepted-send = declared_send Accepted.the_type (Development-send, (search sendable, tt))

pub Accepted-sync : IsSync Accepted.the_row
Accepted-sync = declared_sync Accepted.the_type (Development-sync, (search sendable, tt))

Draft-send : IsSend Draft.the_row
Draft-send = search (crossing, maps.crosses) depth 60 fits 20000

Client-send : IsSend Client.the_row
Client-send = search crossing depth 60 fits 20000

Label-send : IsSend RunLabel.the_row
Label-send = search crossing depth 60 fits 20000

-- what a lock holds may be handed on, and a runner shared, whichever ledger they have
module _ (J : RattleType) (l : Ghosts J.Denot) where
  Shared-send : IsSend (Shared.the_row J l)
  Shared-send = declared_send (Shared.the_type J l) (
    search (crosses, sendable) depth 20,
    (
      search (Accepted-send, Accepted-sync, crosses, sendable) depth 20,
      (
        search sendable,
        (
          Draft-send,
          (
            search (Client-send, crosses, sendable) depth 20,
            (search (Label-send, crosses, sendable) depth 20, (search (Book.the_send, sendable) depth 20, (search (Share.the_send, sendable) depth 20, tt))),
          ),
        ),
      ),
    ),
  )

  pub Runner-sync : IsSync (Runner.the_row J l)
  Runner-sync = declared_sync (Runner.the_type J l) (
    search (crosses, sendable) depth 20,
    (search (Shared-send, crosses, sendable) depth 20, (search (Accepted-send, Accepted-sync, crosses, sendable) depth 20, (search sendable, tt))),
  )
