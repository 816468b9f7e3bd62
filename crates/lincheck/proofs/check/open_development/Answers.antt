use Rattle.std.proofs.Common.{refl}
use Rattle.lincheck.proofs.Opened.{opened_file_says, refused_file_told}
use Rattle.lincheck.proofs.check.open_development.Goals as goal

pub returns-in-Ok-clause-opens : goal.returns-in-Ok-clause-opens
returns-in-Ok-clause-opens g c =
    let fed = c.in_ok-reader.ensures.fed in
    opened_file_says (g.F.Files.bytes_at c.args.files.now c.args.path.now) fed.0 fed.0 c.in-Ok.development fed.2 refl (c.in-Ok.ensures fed.0 fed.1)

pub returns-in_ok-told_fault-in-Err-clause-opens : goal.returns-in_ok-told_fault-in-Err-clause-opens
returns-in_ok-told_fault-in-Err-clause-opens g c =
    let fed = c.in_ok-reader.ensures.fed in
    refused_file_told (g.F.Files.bytes_at c.args.files.now c.args.path.now) fed.0 fed.0 c.in-Err.fault
    c.in_ok-told_fault-in-Err.field-0.text.items c.in_ok-told_fault-in-Err.field-0.status
    fed.2 refl (c.in-Err.ensures fed.0 fed.1) c.in_ok-told_fault-in-Err.ensures
