use Rattle.std.proofs.Common.{◌++◌, Err, sym, ap, ◌∙◌, subst}
use Rattle.std.proofs.lemmas.Result.{err_from_is_err_and}
use Rattle.lc_outline.specs.DevelopmentView.{development_view}
use Rattle.lc_cert.specs.EntryView.{entries_of}
use Rattle.lc_find.proofs.Ending.{given_back, unfound_finds_fault}
use Rattle.lc_find.specs.Found.{Finds}
use Rattle.lc_hints.specs.HintView.{proofs_in}
use Rattle.lc_find.proofs.finding.find_beside.Goals as goal

pub returns-in_err-entries : goal.returns-in_err-entries
returns-in_err-entries g c =
    let D = development_view c.args.development.now in
    let hs = entries_of c.args.given.now ++ proofs_in c.args.hints.now in
    let p = err_from_is_err_and c.from_residual.result c.from_residual.ensures.1 in
    subst (Finds D hs c.args.budget) (sym (p.1 ∙ ap Err p.2)) (unfound_finds_fault D hs c.args.budget c.in_err-entries.field-0.0 c.in_err-entries.ensures)

pub found_entries-requires : goal.found_entries-requires
found_entries-requires g c = c.requires

pub read_back-requires : goal.read_back-requires
read_back-requires g c = c.in_ok-entries.ensures.in_turn

pub returns : goal.returns
returns g c =
    given_back (development_view c.args.development.now) (entries_of c.args.given.now ++ proofs_in c.args.hints.now) (entries_of c.in_ok-entries.entries.items) c.args.budget c.read_back.result
    c.printed_certificates_read_back.ensures.made c.in_ok-entries.ensures c.read_back.ensures
