use Rattle.std.proofs.Common.{option_map, sym, ap, ◌∙◌}
use Rattle.std.specs.Borrow.{Bor}
use Rattle.std.specs.Option.{option_or}
use Rattle.lc_cert.specs.Certificates.{proof_at}
use Rattle.lc_find.proofs.Places.{proof_at-append}
use Rattle.lc_find.specs.FirstView.{placed_in}
use Rattle.lc_kernel.specs.View.{proof_of}
use Rattle.lc_kernel.specs.declared.proof.Proof.{Proof}
use Rattle.lc_find.proofs.candidates.Candidates.first.Goals as goal

pub returns-in-Some : goal.returns-in-Some
returns-in-Some c =
    let first = c.args.self.now in
    let n = c.args.number in
    let at = sym (ap (option_map (λ (p : Bor Proof). proof_of p.now)) c.in-Some.is) ∙ c.first.ensures in
    sym (proof_at-append (placed_in first.given) (placed_in first.hinted) n ∙ ap (λ o. option_or o (proof_at (placed_in first.hinted) n)) (sym at))

pub returns-in-None : goal.returns-in-None
returns-in-None c =
    let first = c.args.self.now in
    let n = c.args.number in
    let at = sym (ap (option_map (λ (p : Bor Proof). proof_of p.now)) c.in-None.is) ∙ c.first.ensures in
    c.first-in-None.ensures ∙ sym (proof_at-append (placed_in first.given) (placed_in first.hinted) n ∙ ap (λ o. option_or o (proof_at (placed_in first.hinted) n)) (sym at))
