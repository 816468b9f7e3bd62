use Rattle.std.proofs.Common.{◌≡◌, ◌∙◌, refl, ap, sym}
use Rattle.std.specs.Prelude.{pos}
use Rattle.std.proofs.lemmas.Bool.{false≢true}
use lib.Signed.{lt_z}
use Rattle.lc_linear.specs.Closing.{combined, entries_in}
use Rattle.lc_linear.specs.Form.{form_of}
use Rattle.lc_linear.specs.LinForm.{numbers}
use Rattle.lc_linear.proofs.InTables.{each_atom_of_trees, each_atom_kept}
use Rattle.lc_linear.proofs.Numbers.{wide_number_kept}
use Rattle.lc_linear.proofs.Sums.{closes_answer, open_answer}
use Rattle.lc_linear.proofs.closing.closes.Goals as goal
use Rattle.lc_linear.proofs.closing.closes.Goals.{then-is_constant, else-is_constant}

pub returns-clause-closes : goal.returns-clause-closes
returns-clause-closes c =
    let es = entries_in c.args.terms.now c.args.entries.now in
    let s = c.in_ok-sum.ensures in
    let ts = c.args.terms.now in
    let n = numbers c.in_ok-sum.sum in
    let f = form_of (combined es) in
    elim c.if-is_constant.branch [
      | then-is_constant w ↦
          closes_answer es f (λ p. refl) c.if-is_constant.result (sym c.are_allowed.ensures ∙ c.if-not-are_allowed.false) s.0
          (each_atom_of_trees ts n n f f s.1 s.1 (λ a b. a ≡ pos 0) refl (c.is_constant.ensures.0 w.if-is_constant.true))
          (w.result-is ∙ ap (lt_z (pos 0)) (wide_number_kept w.constant.result (record { sfits = w.constant.type_inv }) ∙ w.constant.ensures ∙ s.1.constant))
      | else-is_constant w ↦
          open_answer es f (λ p. refl) c.if-is_constant.result (w.result-is ∙ w.if-is_constant.false)
          (λ zero. false≢true (sym w.if-is_constant.false ∙ c.is_constant.ensures.1 (each_atom_kept ts n n f f s.1 s.1 (λ a b. a ≡ pos 0) refl zero)))
    ]
