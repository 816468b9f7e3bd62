use Rattle.std.proofs.Common.{refl}
use Rattle.lc_outline.specs.DevelopmentView.{development_view}
use Rattle.lincheck.proofs.Proving.{hints_opened, hints_refused}
use Rattle.lincheck.proofs.prove.open_hints.Goals as goal

pub hints_fed-requires : goal.hints_fed-requires
hints_fed-requires g c =
    let fed = c.in_ok-reader.ensures.fed in
    (fed.0, fed.1)

pub returns-in-Ok-clause-opens : goal.returns-in-Ok-clause-opens
returns-in-Ok-clause-opens g c =
    let fed = c.in_ok-reader.ensures.fed in
    hints_opened (development_view c.args.development.now) (g.F.Files.bytes_at c.args.files.now c.args.path.now) fed.0 fed.0 c.in-Ok.hints
    fed.2 refl (c.in-Ok.ensures.answer fed.0 fed.1)

pub returns-in_ok-told_fault-in-Err-clause-opens : goal.returns-in_ok-told_fault-in-Err-clause-opens
returns-in_ok-told_fault-in-Err-clause-opens g c =
    let fed = c.in_ok-reader.ensures.fed in
    hints_refused (development_view c.args.development.now) (g.F.Files.bytes_at c.args.files.now c.args.path.now) fed.0 fed.0 c.in-Err.fault
    c.in_ok-told_fault-in-Err.field-0.text.items c.in_ok-told_fault-in-Err.field-0.status
    fed.2 refl (c.in-Err.ensures.answer fed.0 fed.1) c.in_ok-told_fault-in-Err.ensures
