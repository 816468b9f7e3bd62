use Rattle.std.proofs.Common.{◌<◌, length, rules}
use Rattle.lc_cert.specs.CertificateView.{entries_in}
use Rattle.lc_explain_cert.proofs.Bounds.{few_found, one_bounded, one_known}
use Rattle.lc_explain_cert.proofs.unproved.push_part.Goals as goal

pub refusal_of-requires-clause-known : goal.refusal_of-requires-clause-known
refusal_of-requires-clause-known c =
    let within : c.loop-place.place < length c.args.part.now.conditions.items = search rules in
    one_known c.args.terms.now c.loop-place.terms c.args.part.now.conditions.items c.loop-place.place c.index-condition.result.now c.requires.known c.loop-place.invariant within
    c.index-condition.ensures

pub refusal_of-requires-clause-bounded : goal.refusal_of-requires-clause-bounded
refusal_of-requires-clause-bounded c =
    let within : c.loop-place.place < length c.args.part.now.conditions.items = search rules in
    one_bounded c.args.terms.now c.loop-place.terms c.args.part.now.conditions.items c.loop-place.place c.index-condition.result.now c.requires.known c.loop-place.invariant c.requires.bounded within
    c.index-condition.ensures

pub refusal_of-requires-clause-steps : goal.refusal_of-requires-clause-steps
refusal_of-requires-clause-steps c =
    few_found (entries_in c.args.certificate.now) c.saturating_add-number.result c.proof-proof.result c.requires.steps c.proof-proof.ensures
