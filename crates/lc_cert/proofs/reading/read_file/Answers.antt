use Rattle.std.proofs.Common.{refl}
use Rattle.lc_sexp.specs.Shown.{owner_of}
use Rattle.lc_reading.proofs.Combined.{one_part}
use Rattle.lc_reading.specs.TableView.{listed}
use Rattle.lc_proof_text.specs.Files.{only}
use Rattle.lc_cert.specs.EntryView.{entries_of}
use Rattle.lc_cert.specs.Readings.{form_reading}
use Rattle.lc_cert.proofs.reading.read_file.Goals as goal

pub returns : goal.returns
returns c =
    let read = form_reading (listed c.args.columns.now) c.args.name.now in
    one_part (λ es. entries_of es.items) read (only read (owner_of c.args.forms)) c.args.forms c.in_ok-form.rest c.in_ok-form.form _ _ c.in_ok-form.ensures c.read_form.ensures c.ended.ensures (λ m ts. refl)
