use Rattle.std.proofs.Common.{◌++◌, Err, sym, ap, ◌∙◌, subst}
use Rattle.std.proofs.lemmas.Result.{err_from_is_err_and, IfOk-weaker}
use Rattle.lc_carry.specs.Carried.{carried}
use Rattle.lc_cert.specs.Certificates.{HaveFewSteps}
use Rattle.lc_cert.specs.CertificateView.{entries_in}
use Rattle.lc_cert.specs.EntryView.{entries_of}
use Rattle.lc_cert.specs.declared.certificate.Certificate.{Certificate}
use Rattle.lc_check.specs.VerdictView.{development_in}
use Rattle.lc_hints.specs.HintView.{proofs_in}
use Rattle.lc_outline.specs.DevelopmentView.{development_view}
use Rattle.lc_find.proofs.CarriedHold.{gets-carried}
use Rattle.lc_find.proofs.Ending.{unfound_finds_fault}
use Rattle.lc_find.specs.Found.{Finds, TakesFirst}
use Rattle.lc_find.specs.GetsCarried.{GetsCarried}
use Rattle.lc_find.specs.declared.fault.FindFault.TheVariants.{OutOfMemory}
use Rattle.lc_find.proofs.carrying.carry_with.Goals as goal

pub returns-in_err-carried-clause-finds : goal.returns-in_err-carried-clause-finds
returns-in_err-carried-clause-finds g c =
    let E = development_view c.args.development.now in
    let hs = carried (development_in c.args.accepted.now) (entries_in c.args.certificate.now) E ++ proofs_in c.args.hints.now in
    let p = err_from_is_err_and c.from_residual.result c.from_residual.ensures.1 in
    subst (Finds E hs c.args.budget) (sym (p.1 ∙ ap Err p.2)) (unfound_finds_fault E hs c.args.budget OutOfMemory tt)

pub find_beside-requires : goal.find_beside-requires
find_beside-requires g c =
    let D = development_in c.args.accepted.now in
    let es = entries_in c.args.certificate.now in
    let few = c.a_certificate_is_read_or_refused.ensures.few_steps D c.requires.0 es c.requires.1 in
    subst (λ l. HaveFewSteps (entries_of l)) (sym c.deref-2.ensures.value) (c.in_ok-carried.ensures.few few)

pub returns-clause-finds : goal.returns-clause-finds
returns-clause-finds g c =
    let E = development_view c.args.development.now in
    let es = entries_in c.args.certificate.now in
    let given = ap entries_of c.deref-2.ensures.value ∙ c.in_ok-carried.ensures.exactly ∙ ap (λ d. carried d es E) c.development.ensures.shown in
    subst (λ l. Finds E (l ++ proofs_in c.args.hints.now) c.args.budget c.find_beside.result) given c.find_beside.ensures

pub returns-clause-gets : goal.returns-clause-gets
returns-clause-gets g c =
    let D = development_in c.args.accepted.now in
    let E = development_view c.args.development.now in
    let es = entries_in c.args.certificate.now in
    let hs = proofs_in c.args.hints.now in
    let given = ap entries_of c.deref-2.ensures.value ∙ c.in_ok-carried.ensures.exactly ∙ ap (λ d. carried d es E) c.development.ensures.shown in
    let finds = subst (λ l. Finds E (l ++ hs) c.args.budget c.find_beside.result) given c.find_beside.ensures in
    IfOk-weaker c.find_beside.result (λ (x : Certificate). TakesFirst E (carried D es E ++ hs) (entries_in x)) (λ (x : Certificate). GetsCarried D es E (entries_in x))
    (λ x first. gets-carried D es E hs (entries_in x) c.the_least_is_carried.ensures.least c.carried_proofs_derive.ensures c.requires first) finds.first
