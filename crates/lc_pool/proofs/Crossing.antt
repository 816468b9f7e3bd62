-- A desk may be handed to another thread: what it refers to may be read by several threads at once, and so may each part of that.
use denote.RattleType.{RattleType}
use denote.Ref.{NamedLft}
use denote.Param.Send.{IsSend, IsSync, sendable, view_send}
use denote.Param.SendFields.{declared_send}
use Rattle.std.proofs.Crossing.{crosses}
use Rattle.lc_object.specs.contracts.edge_table.Edge as Edge
use Rattle.lc_outline.proofs.Crossing.{crossing, Development-sync}
use Rattle.lc_cert.specs.contracts.entry_reader.EntryReader as EntryReader
use Rattle.lc_cond.specs.contracts.numbering.Numbering as Numbering
use Rattle.lc_pool.specs.contracts.desk.Desk as Desk
use Rattle.lc_pool.specs.contracts.desk.Desk.TheInside as Inside
use Rattle.lc_pool.specs.contracts.desk.Files as Files
use Rattle.lc_pool.specs.contracts.laid.Laid as Laid
use Rattle.lc_pool.specs.declared.work.Work.{Ghosts}

Edge-sync : IsSync Edge.the_row
Edge-sync = search crossing depth 60 fits 20000

Numbering-sync : IsSync Numbering.the_row
Numbering-sync = search (Edge-sync, crosses, sendable) depth 60

Files-send : (a : NamedLft) → IsSend (Files.the_row a)
Files-send a = search (Development-sync, Numbering-sync, crosses, sendable) depth 60

EntryReader-send : (a : NamedLft) → IsSend (EntryReader.the_row a)
EntryReader-send a = search (crosses, sendable) depth 60 fits 20000

Laid-send : IsSend Laid.the_row
Laid-send = search (crosses, sendable) depth 60 fits 20000

pub Desk-send : (a : NamedLft) (T : RattleType) (g : Ghosts T.Denot) → IsSend (Desk.the_row a T g)
Desk-send a T g = view_send (Inside.the_row a T g) _ _ _ _ (declared_send (Inside.the_type a T g) (Files-send a, (EntryReader-send a, (Laid-send, (search sendable depth 20, tt)))))
