use Rattle.std.proofs.Common.{sym, ◌∙◌}
use Rattle.std.proofs.lemmas.Result.{IfOk-weaker}
use Rattle.lc_reading.specs.Parts.{tree_of, place_of}
use Rattle.lc_reading.specs.TableView.{listed}
use Rattle.lc_sexp.specs.Shown.{rest_of}
use Rattle.lc_sexp.specs.Trees.{none}
use Rattle.lc_cert.proofs.FormSteps.{first_tree}
use Rattle.lc_cert.proofs.Alone.{given_here}
use Rattle.lc_cert.specs.ColumnNames.{names_with}
use Rattle.lc_cert.proofs.entry_reader.read_item.Goals as goal

pub returns : goal.returns
returns c =
    let (at, next) = c.in-Ok.ensures in
    let t = tree_of c.in-Ok.part in
    let same = first_tree c.args.piece.now t none (rest_of c.next_part.new.list) (sym c.in_ok-rest.ensures.rest ∙ next.rest) in
    let place = at ∙ c.in_ok-rest.ensures.number in
    IfOk-weaker c.read_part.result _ _ (λ entry h. given_here (names_with (listed c.args.columns.now)) c.args.last c.args.item (place_of c.in-Ok.part) c.args.piece.now t entry place same h) c.read_part.ensures
