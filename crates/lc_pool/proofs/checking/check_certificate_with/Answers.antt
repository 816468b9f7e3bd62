use Rattle.std.proofs.Common.{◌≡◌, ℕ, Option, length, sym, subst}
use Rattle.std.specs.Prelude.{IfSome}
use Rattle.lc_outline.specs.Development.{Development}
use Rattle.lc_outline.specs.DevelopmentView.{development_view}
use Rattle.lc_cond.specs.Conditions.{conditions}
use Rattle.lc_sound.specs.Linearizable.{IsLinearizableObject}
use Rattle.lc_check.specs.Verdicts.{IsProvenBy}
use Rattle.lc_pool.proofs.checking.check_certificate_with.Goals as goal

pub proven-requires : goal.proven-requires
proven-requires g c =
    let D = development_view c.args.development in
    let cert = c.args.cert.now in
    (cert, subst (λ (o : Option ℕ). IfSome o (λ n. (n ≡ length (conditions D)) × IsProvenBy D cert)) c.in-Some.is c.in_ok-count.ensures)

pub returns-in-Some-clause-exactly : goal.returns-in-Some-clause-exactly
returns-in-Some-clause-exactly g c =
    let D = development_view c.args.development in
    let cert = c.args.cert.now in
    (c.proven.ensures.shown, (subst (λ (o : Option ℕ). IfSome o (λ n. (n ≡ length (conditions D)) × IsProvenBy D cert)) c.in-Some.is c.in_ok-count.ensures).1)

pub returns-in-Some-clause-linearizable : goal.returns-in-Some-clause-linearizable
returns-in-Some-clause-linearizable g c =
    subst (λ (D : Development). IsLinearizableObject D.specification D.object) (sym c.proven.ensures.shown) c.proven.ensures.linearizable
