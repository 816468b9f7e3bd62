use Rattle.std.proofs.Common.{◌≡◌, ℕ, List, drop, map}
use Rattle.std.specs.Option.{option_or}
use Rattle.lc_carry.specs.Carried.{least_number}
use Rattle.lc_carry.specs.TextNumbers.{number_of}
use Rattle.lc_cert.specs.CertificateView.{entries_in}
use Rattle.lc_cond.specs.ConditionView.{condition_in}
use Rattle.lc_cond_text.specs.ConditionText.{spelled}
use Rattle.lc_cond_text.specs.Recalled.{Recalls}
use Rattle.lc_outline.specs.DevelopmentView.{development_view}
use Rattle.lc_carry.specs.Renaming.{column_for}
use Rattle.lc_carry.proofs.numbers.note_part.Given as goal

-- what is noted so far, and of what is left, is noted of all
abbrev pub invariant-loop-condition : goal.invariant-loop-condition
invariant-loop-condition l = record {
  noted :
      (t : List ℕ) →
      option_or (number_of l.numbers t)
      (least_number (development_view l.old.development.now) (entries_in l.old.certificate.now) (column_for l.old.columns.now) t l.number (map (condition_in l.terms) (drop l.condition-index l.part)))
      ≡ option_or (number_of l.fn.numbers t)
      (least_number (development_view l.old.development.now) (entries_in l.old.certificate.now) (column_for l.old.columns.now) t l.first (map (condition_in l.terms) l.part));
  recalls : Recalls (spelled (development_view l.old.development.now)) l.terms l.texts;
}
