-- A development may cross threads: each of its parts may.
use denote.Param.Send.{IsSend, IsSync, sendable}
use denote.Param.SendFields.{declared_send, declared_sync}
use Rattle.std.proofs.Crossing.{crosses}
use Rattle.lc_base.proofs.name.Name.TheSendSync as Name
use Rattle.lc_term.proofs.formula.Formula.TheLaws.TheKnot as Formula
use Rattle.lc_term.proofs.term.ColExpr.TheLaws.TheKnot as Term
use Rattle.lc_seq.proofs.choice.Label.TheSendSync as Label
use Rattle.lc_seq.specs.contracts.specification.TextSpec as TextSpec
use Rattle.lc_object.specs.contracts.object.Object as Object
use Rattle.lc_tie.specs.contracts.tie.Tie as Tie
use Rattle.lc_action.specs.contracts.action.Action as Action
use Rattle.lc_outline.specs.contracts.parts.Outline as Outline
use Rattle.lc_outline.specs.contracts.parts.Parts as Parts
use Rattle.lc_outline.specs.contracts.development.Development as Development

-- names, terms and formulas may, and what is made of them
pub ruleset crossing = (Name.the_send, Name.the_field_send, Name.the_sync, Name.the_field_sync, Label.the_send, Label.the_field_send, Label.the_sync, Label.the_field_sync, crosses, Formula.crosses, Term.crosses, sendable)

TextSpec-send : IsSend TextSpec.the_row
TextSpec-send = search crossing depth 60 fits 20000

TextSpec-sync : IsSync TextSpec.the_row
TextSpec-sync = search crossing depth 60 fits 20000

Object-send : IsSend Object.the_row
Object-send = search crossing depth 60 fits 20000

Object-sync : IsSync Object.the_row
Object-sync = search crossing depth 60 fits 20000

Action-send : IsSend Action.the_row
Action-send = search crossing depth 60 fits 20000

Action-sync : IsSync Action.the_row
Action-sync = search crossing depth 60 fits 20000

Tie-send : IsSend Tie.the_row
Tie-send = search crossing depth 60 fits 20000

Tie-sync : IsSync Tie.the_row
Tie-sync = search crossing depth 60 fits 20000

Outline-send : IsSend Outline.the_row
Outline-send = search crossing depth 60 fits 20000

Outline-sync : IsSync Outline.the_row
Outline-sync = search crossing depth 60 fits 20000

Parts-send : IsSend Parts.the_row
Parts-send = declared_send Parts.the_type (
  TextSpec-send,
  (Object-send, (search crossing depth 60, (search (Action-send, crosses, sendable), (Tie-send, (search crossing depth 60, (search (Outline-send, crosses, sendable), tt)))))),
)

Parts-sync : IsSync Parts.the_row
Parts-sync = declared_sync Parts.the_type (
  TextSpec-sync,
  (Object-sync, (search crossing depth 60, (search (Action-sync, crosses, sendable), (Tie-sync, (search crossing depth 60, (search (Outline-sync, crosses, sendable), tt)))))),
)

pub Development-send : IsSend Development.the_row
Development-send = declared_send Development.the_type (Parts-send, tt)

pub Development-sync : IsSync Development.the_row
Development-sync = declared_sync Development.the_type (Parts-sync, tt)
