use Rattle.std.proofs.Common.{map, refl, subst}
use Rattle.lc_sexp.specs.Shown.{owner_of}
use Rattle.lc_cert.specs.ColumnNames.{names_with}
use Rattle.lc_proof_text.specs.Files.{only}
use Rattle.lc_reading.proofs.Combined.{one_part}
use Rattle.lc_reading.specs.Parts.{tree_of, place_of}
use Rattle.lc_reading.specs.Results.{IsReading}
use Rattle.lc_reading.specs.TableView.{listed}
use Rattle.lc_hints.specs.Readings.{form_reading}
use Rattle.lc_hints.specs.View.{hint_of}
use Rattle.lc_hints.proofs.reading.read_file.Goals as goal

pub returns : goal.returns
returns c =
    let read = form_reading (names_with (listed c.args.columns.now)) in
    let part = c.in_ok-form.form in
    one_part (λ hints. map hint_of hints.items) read (only read (owner_of c.args.forms)) c.args.forms c.in_ok-form.rest part _ _ c.in_ok-form.ensures
    (subst (λ columns. IsReading (λ hints. map hint_of hints.items) (form_reading (names_with columns) (place_of part) (tree_of part)) c.read_form.result) c.in_ok-scope.ensures c.read_form.ensures)
    c.ended.ensures (λ m ts. refl)
