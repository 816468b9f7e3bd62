use Rattle.std.proofs.Common.{Some, None, subst}
use Rattle.lc_outline.specs.DevelopmentView.{development_view}
use Rattle.lc_check.proofs.Walking.{went_on}
use Rattle.lc_find.proofs.Taken.{sought_taken}
use Rattle.lc_find.specs.FirstView.{all_of}
use Rattle.lc_find.specs.Taken.{IsHintTaken}
use Rattle.lc_find.proofs.taking.next_entry.Goals as goal

pub returns-in-Ok-Some : goal.returns-in-Ok-Some
returns-in-Ok-Some g c =
    let d = development_view c.args.development.now in
    let hs = all_of c.args.first.now in
    let old = c.args.walk.now in
    let new = c.hinted_entry.new.walk in
    let at : IsHintTaken d hs old new (Some c.in-Ok-Some.entry) = subst (IsHintTaken d hs old new) c.in-Ok-Some.field-0-is c.in-Ok-Some.ensures in
    (at.0, λ h. at.1, λ zero. at.1)

pub sought_entry-requires-clause-in_turn : goal.sought_entry-requires-clause-in_turn
sought_entry-requires-clause-in_turn g c =
    let d = development_view c.args.development.now in
    let hs = all_of c.args.first.now in
    let old = c.args.walk.now in
    let mid = c.hinted_entry.new.walk in
    let at : IsHintTaken d hs old mid None = subst (IsHintTaken d hs old mid) c.in-Ok-None.field-0-is c.in-Ok-None.ensures in
    (c.requires.in_turn.0, went_on d c.requires.in_turn.0 old mid c.requires.in_turn.1 at.0)

pub sought_entry-requires-clause-stands : goal.sought_entry-requires-clause-stands
sought_entry-requires-clause-stands g c =
    let d = development_view c.args.development.now in
    let hs = all_of c.args.first.now in
    let old = c.args.walk.now in
    let mid = c.hinted_entry.new.walk in
    let at : IsHintTaken d hs old mid None = subst (IsHintTaken d hs old mid) c.in-Ok-None.field-0-is c.in-Ok-None.ensures in
    at.1

pub returns-in-Ok-None : goal.returns-in-Ok-None
returns-in-Ok-None g c =
    let d = development_view c.args.development.now in
    let hs = all_of c.args.first.now in
    let old = c.args.walk.now in
    let mid = c.hinted_entry.new.walk in
    let at : IsHintTaken d hs old mid None = subst (IsHintTaken d hs old mid) c.in-Ok-None.field-0-is c.in-Ok-None.ensures in
    sought_taken d hs c.args.budget old mid c.sought_entry.new.walk c.sought_entry.result at c.sought_entry.ensures
