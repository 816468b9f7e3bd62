use Rattle.std.proofs.Common.{◌∙◌, ap, sym, take}
use Rattle.std.specs.Prelude.{◌||◌}
use Rattle.std.specs.List.{list_any}
use Rattle.lc_sexp.specs.Shown.{rest_of}
use Rattle.lc_reading.specs.Listed.{names_among}
use Rattle.lc_reading.specs.TableView.{listed}
use Rattle.lc_reading.specs.Words.{is}
use Rattle.lc_object_text.proofs.Placed.{stands_behind}
use Rattle.lc_object_text.proofs.declaring.stands_before_local.Goals as goal

pub returns-then-contains : goal.returns-then-contains
returns-then-contains c =
    let b = c.args.body.now in
    let w = c.args.text.now in
    let among = c.contains.ensures ∙ ap (list_any (is w)) (ap listed c.deref.ensures ∙ b.shared) in
    c.if-contains.true ∙ ap (λ here. here || list_any (is w) (take c.args.count (listed b.locals))) (sym c.if-contains.true ∙ among) ∙ stands_behind (names_among (rest_of b.arguments)) (listed b.locals) w c.args.count

pub returns-else-contains : goal.returns-else-contains
returns-else-contains c =
    let b = c.args.body.now in
    let w = c.args.text.now in
    let among = c.contains.ensures ∙ ap (list_any (is w)) (ap listed c.deref.ensures ∙ b.shared) in
    c.stands_before.ensures ∙ ap (λ here. here || list_any (is w) (take c.args.count (listed b.locals))) (sym c.if-contains.false ∙ among) ∙ stands_behind (names_among (rest_of b.arguments)) (listed b.locals) w c.args.count
