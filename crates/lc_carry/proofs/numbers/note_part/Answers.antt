use Rattle.std.proofs.Common.{rules, ◌≡◌, suc, refl}
use Rattle.lc_carry.proofs.Least.{one_noted}
use Rattle.lc_carry.proofs.Parts.{at_hand}
use Rattle.lc_carry.specs.TextNumbers.{number_of}
use Rattle.lc_cert.specs.CertificateView.{entries_in}
use Rattle.lc_cond_text.specs.ConditionText.{spelled}
use Rattle.lc_outline.specs.DevelopmentView.{development_view}
use Rattle.lc_carry.specs.Renaming.{column_for}
use Rattle.lc_carry.proofs.numbers.note_part.Goals as goal

pub loop-condition-init : goal.loop-condition-init
loop-condition-init c = record { noted = λ t. refl; recalls = c.no_texts-texts.ensures (spelled (development_view c.args.old.now.development.now)) c.args.terms.now }

pub loop-condition-preserved : goal.loop-condition-preserved
loop-condition-preserved c =
    let d = development_view c.args.old.now.development.now in
    let es = entries_in c.args.old.now.certificate.now in
    let to = column_for c.args.old.now.columns.now in
    let here = at_hand c.args.terms.now c.args.part.now c.loop-condition.condition-index c.condition-item.result c.loop-condition-test.true c.condition-item.is in
    let next : c.in_ok-number.number ≡ suc c.loop-condition.number = search rules in
    record {
      noted = λ t.
          one_noted d es to t (number_of c.loop-condition.numbers t) (number_of c.note_condition.new.numbers t) _ c.loop-condition.number c.in_ok-number.number
          _ _ _ here next (c.in_ok-note_condition.ensures.noted t)
          (c.loop-condition.invariant.noted t);
      recalls = c.in_ok-note_condition.ensures.recalls;
    }
