use Rattle.std.proofs.Common.{◌+◌, ap, sym, ◌∙◌, subst}
use Rattle.std.proofs.lemmas.Result.{on_ok_weaker}
use Rattle.lc_sexp.specs.Trees.{item_count, ◌▸◌}
use Rattle.lc_reading.proofs.SoFar.{flawed_before}
use Rattle.lc_reading.specs.Parts.{tree_of, place_of}
use Rattle.lc_reading.specs.Results.{IsReadFault}
use Rattle.lc_reading.specs.TableView.{listed}
use Rattle.lc_cert.proofs.FormSteps.{entry_few, entry_other, form_noted}
use Rattle.lc_cert.specs.Certificates.{HaveFewSteps}
use Rattle.lc_cert.specs.ColumnNames.{names_with}
use Rattle.lc_cert.specs.EntryView.{entry_of}
use Rattle.lc_cert.specs.Pieces.{waiting_in, due_reading}
use Rattle.lc_cert.specs.Readings.{entry_reading}
use Rattle.lc_cert.specs.declared.form_reader.Due.TheVariants.{Proofs}
use Rattle.lc_cert.proofs.form_reader.FormReader.read_proof.Goals as goal

pub returns-in-Ok-clause-few : goal.returns-in-Ok-clause-few
returns-in-Ok-clause-few c =
    on_ok_weaker c.keep.result
    (λ is room few. subst HaveFewSteps (sym is)
    (entry_few (names_with (listed c.args.columns.now)) c.args.last (place_of c.args.part) (tree_of c.args.part) c.args.self.now.flaw (waiting_in c.args.self.now) (entry_of c.in-Ok.entry) c.in-Ok.ensures room few))
    c.keep.ensures.entries

pub returns-in-Err-clause-reads : goal.returns-in-Err-clause-reads
returns-in-Err-clause-reads c =
    let names = names_with (listed c.args.columns.now) in
    let m = place_of c.args.part in
    let t = tree_of c.args.part in
    on_ok_weaker c.note.result
    (λ is name taken ts due. form_noted (listed c.args.columns.now) name taken c.args.self.now c.note.new.self c.in-Err.fault (Proofs c.args.last) (m + item_count t) m ts (t ▸ ts) is
    (λ f e. entry_other names c.args.last m t ts f (subst (IsReadFault (entry_reading names c.args.last m t)) e c.in-Err.ensures)
    ∙ ap (λ d. flawed_before f (due_reading (listed c.args.columns.now) name d (m + item_count t) ts)) (sym due)))
    c.note.ensures
