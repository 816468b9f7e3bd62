use Rattle.std.proofs.Common.{map, take}
use Rattle.lc_table.specs.Tables.{Keeps}
use Rattle.lc_action.specs.ActionView.{action_of}
use Rattle.lc_outline.specs.DevelopmentView.{development_view}
use Rattle.lc_cond.specs.Crossings.{AllCross}
use Rattle.lc_cond.proofs.stability.declared_crossings.Given as goal

-- the actions so far
abbrev pub invariant-loop-action : goal.invariant-loop-action
invariant-loop-action l =
    Keeps l.fn.terms l.terms
    × AllCross l.fn.terms l.terms (development_view l.development) l.given.client l.given.known.now l.given.asserts.now (map action_of (take l.action-index l.actions)) l.crossings.items
