use Rattle.std.proofs.Common.{◌≡◌, subst, rules, to_z, of_z}
use Rattle.std.specs.Int.{w64}
use Rattle.lc_kernel.specs.Answers.{FindsIn}
use Rattle.lc_kernel.specs.Settings.{numbers_at, hypotheses_at}
use Rattle.lc_kernel.specs.Table.{hypothesis}
use Rattle.lc_kernel.specs.declared.reason.Reason.TheVariants.{NoHypothesis}
use Rattle.lc_kernel.proofs.Numbered.{found_in}
use Rattle.lc_kernel.proofs.forms.find.Goals as goal

pub returns : goal.returns
returns c =
    let e : to_z w64 (of_z w64 c.args.number) ≡ c.args.number = search rules in
    subst (λ n. FindsIn c.args.terms.now (hypothesis (hypotheses_at c.args.terms.now c.args.setting) n) NoHypothesis c.place_of.result) e
    (found_in c.args.terms.now (numbers_at c.args.setting) _ c.place_of.result c.requires c.place_of.ensures)
