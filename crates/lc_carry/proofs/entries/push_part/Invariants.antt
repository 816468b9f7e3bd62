use Rattle.std.proofs.Common.{◌≡◌, ◌++◌, drop, map}
use Rattle.lc_carry.specs.Carried.{carried_from}
use Rattle.lc_carry.specs.OldProofs.{proof_for}
use Rattle.lc_cert.specs.EntryView.{entries_of}
use Rattle.lc_cond.specs.ConditionView.{condition_in}
use Rattle.lc_cond_text.specs.ConditionText.{spelled}
use Rattle.lc_cond_text.specs.Recalled.{Recalls}
use Rattle.lc_outline.specs.DevelopmentView.{development_view}
use Rattle.lc_carry.proofs.entries.push_part.Given as goal

-- what is carried so far, with what is left, is all
abbrev pub invariant-loop-condition : goal.invariant-loop-condition
invariant-loop-condition l = record {
  carried : entries_of l.entries.items ++ carried_from (development_view l.development) (proof_for l.proofs) l.number (map (condition_in l.terms) (drop l.condition-index l.part))
      ≡ entries_of l.fn.entries.items ++ carried_from (development_view l.development) (proof_for l.proofs) l.first (map (condition_in l.terms) l.part);
  recalls : Recalls (spelled (development_view l.development)) l.terms l.texts;
}
