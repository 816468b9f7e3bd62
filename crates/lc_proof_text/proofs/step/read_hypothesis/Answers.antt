use Rattle.std.proofs.Common.{◌≡◌, ap, ◌∙◌, rules, to_z, of_z, w64}
use Rattle.lc_proof_text.specs.Steps.{hypothesis_step}
use Rattle.lc_proof_text.proofs.Begun.{hypothesis_begun}
use Rattle.lc_proof_text.proofs.step.read_hypothesis.Goals as goal

pub returns-in-Some : goal.returns-in-Some
returns-in-Some c =
    let same : to_z w64 (of_z w64 c.in-Some.hypothesis) ≡ c.in-Some.hypothesis = search rules in
    hypothesis_begun c.args.head c.args.list c.in-Some.rest c.in-Some.hypothesis c.step_of_hypothesis.result c.in-Some.ensures
    (c.step_of_hypothesis.ensures ∙ ap (hypothesis_step c.args.head) same)
