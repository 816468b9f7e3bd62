use Rattle.std.proofs.Common.{rules, ◌≡◌, sym, subst}
use Rattle.lc_table.specs.Tables.{AreFormulas}
use Rattle.lc_table.proofs.Listed.{are_formulas-get}
use Rattle.lc_search.proofs.entry.entered.Goals as goal

pub entered_hypothesis-requires : goal.entered_hypothesis-requires
entered_hypothesis-requires c =
    let ts = c.args.terms.now in
    let ks = c.as_slice-hypothesis-items.result.now in
    let same : ks ≡ c.args.goal.now.hypotheses = search rules in
    let there = subst (AreFormulas ts) (sym same) c.requires.hypotheses in
    are_formulas-get ts ks c.loop-hypothesis.hypothesis-index (record { 0 = 0 }) there c.loop-hypothesis-test.true
