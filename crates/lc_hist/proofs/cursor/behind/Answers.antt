use Rattle.std.proofs.Common.{sym, ◌∙◌}
use Rattle.lc_hist.specs.declared.cursor.Place.TheVariants.{AfterComma}
use Rattle.lc_hist.proofs.JsonLexed.{at_comma}
use Rattle.lc_hist.proofs.cursor.behind.Goals as goal

pub returns-then-text-end-eq44 : goal.returns-then-text-end-eq44
returns-then-text-end-eq44 c = c.spaces_end.ensures AfterComma ∙ sym (at_comma c.args.text.now c.args.end c.if-end-text.true c.if-text-end-eq44.true)
