use Rattle.std.proofs.Common.{rules, ◌≡◌, suc, refl}
use Rattle.lc_carry.proofs.PartByPart.{one_carried}
use Rattle.lc_carry.proofs.Parts.{at_hand}
use Rattle.lc_carry.specs.OldProofs.{proof_for}
use Rattle.lc_cert.specs.EntryView.{entries_of}
use Rattle.lc_cond_text.specs.ConditionText.{spelled}
use Rattle.lc_outline.specs.DevelopmentView.{development_view}
use Rattle.lc_carry.proofs.entries.push_part.Goals as goal

pub loop-condition-init : goal.loop-condition-init
loop-condition-init c = record { carried = refl; recalls = c.no_texts-texts.ensures (spelled (development_view c.args.development.now)) c.args.terms.now }

pub loop-condition-preserved : goal.loop-condition-preserved
loop-condition-preserved c =
    let d = development_view c.args.development.now in
    let here = at_hand c.args.terms.now c.args.part.now c.loop-condition.condition-index c.condition-item.result c.loop-condition-test.true c.condition-item.is in
    let next : c.in_ok-number.number ≡ suc c.loop-condition.number = search rules in
    record {
      carried = one_carried d (proof_for c.args.proofs.now) (entries_of c.loop-condition.entries.items) (entries_of c.push_carried.new.entries.items) _ c.loop-condition.number c.in_ok-number.number
          _ _ _ here next c.in_ok-push_carried.ensures.entries
          c.loop-condition.invariant.carried;
      recalls = c.in_ok-push_carried.ensures.recalls;
    }
