use Rattle.std.proofs.Common.{◌≡◌, sym, ap₂, ◌∙◌, rules, to_z, of_z, w64}
use Rattle.lc_kernel.specs.Proofs as S
use Rattle.lc_reading.specs.Readings.{fine}
use Rattle.lc_proof_text.proofs.Begun.{opposite_begun}
use Rattle.lc_proof_text.proofs.step.read_opposite.Goals as goal

pub returns-in-Some : goal.returns-in-Some
returns-in-Some c =
    let first : to_z w64 (of_z w64 c.in-Some.hypothesis) ≡ c.in-Some.hypothesis = search rules in
    let second : to_z w64 (of_z w64 c.in-Some.negation) ≡ c.in-Some.negation = search rules in
    let (between, own, other) = c.in-Some.ensures in
    let begun = opposite_begun c.args.list between c.in-Some.rest c.in-Some.hypothesis c.in-Some.negation own other in
    (begun.0 ∙ ap₂ (λ x y. fine (S.Opposite x y)) (sym first) (sym second), begun.1)
