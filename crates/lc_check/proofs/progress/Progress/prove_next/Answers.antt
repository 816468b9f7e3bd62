use Rattle.std.proofs.Common.{[], ◌∷◌, ◌++◌, Err, refl, sym, ap, ◌∙◌, subst}
use Rattle.lc_kernel.specs.View.{proof_of}
use Rattle.lc_outline.specs.DevelopmentView.{development_view}
use Rattle.lc_cert.specs.Certificates.{Entry}
use Rattle.lc_check.proofs.Stepping.{refused_certain}
use Rattle.lc_check.specs.Progress.{IsProgressTelling}
use Rattle.lc_check.specs.Walking.{IsProvenOn}
use Rattle.lc_check.proofs.progress.Progress.prove_next.Goals as goal

pub returns-in-Ok : goal.returns-in-Ok
returns-in-Ok g c = λ taken h.
    let d = development_view c.args.development.now in
    let old = c.args.self.now.walk in
    let new = c.prove_next_by.new.self in
    let e : Entry = record { number = old.next; proof = proof_of c.args.proof.now } in
    subst (λ o. IsProgressTelling d (taken ++ e ∷ []) new o) (sym c.requires.untold) (c.in-Ok.ensures.taken taken h)

pub returns-in-Err-Refused : goal.returns-in-Err-Refused
returns-in-Err-Refused g c = λ taken h.
    let d = development_view c.args.development.now in
    let old = c.args.self.now.walk in
    let new = c.prove_next_by.new.self in
    let proof = proof_of c.args.proof.now in
    let on = subst (IsProvenOn d proof old new) (c.in-Err-Refused.is ∙ ap Err c.in-Err-Refused.field-0-is) c.prove_next_by.ensures in
    let (x, rest, due, u) = on.2 in
    refused_certain d taken old x rest (record { number = old.next; proof = proof }) c.in-Err-Refused.refusal h due refl u
