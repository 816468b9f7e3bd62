use Rattle.std.proofs.Common.{ap, ◌∙◌}
use Rattle.lc_carry.specs.Carried.{least_number, renamed_at}
use Rattle.lc_cert.specs.CertificateView.{entries_in}
use Rattle.lc_cond.specs.Conditions.{conditions}
use Rattle.lc_outline.specs.DevelopmentView.{development_view}
use Rattle.lc_carry.specs.Renaming.{column_for}
use Rattle.lc_carry.proofs.old_proofs.OldProofs.new.Goals as goal

pub returns : goal.returns
returns c = λ t.
    let D = development_view c.args.old.now in
    let es = entries_in c.args.certificate.now in
    let E = development_view c.args.new.now in
    let to = column_for c.in_ok-columns.columns.items in
    let seen = ap column_for c.deref.ensures.value in
    let noted = c.in_ok-numbers.ensures t ∙ ap (λ f. least_number D es f t 0 (conditions D)) seen in
    ap (renamed_at to es) noted ∙ ap (λ f. renamed_at f es (least_number D es f t 0 (conditions D))) c.in_ok-columns.ensures
