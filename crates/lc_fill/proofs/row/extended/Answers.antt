use Rattle.std.proofs.Common.{sym, ◌∙◌}
use Rattle.lc_sexp.specs.Shown.{rest_of}
use Rattle.lc_reading.specs.Parts.{tree_of, place_of}
use Rattle.lc_fill.specs.Filled.{ending}
use Rattle.lc_fill.proofs.Filled.{list_filled}
use Rattle.lc_fill.proofs.Lists.{in_form-other}
use Rattle.lc_fill.proofs.row.extended.Goals as goal

pub returns-in_default : goal.returns-in_default
returns-in_default c =
    c.in_ok-same.ensures ∙ sym (in_form-other c.args.word.now (ending (rest_of c.args.more)) (place_of c.args.part) (tree_of c.args.part) c.in_default.ensures.1)

pub returns : goal.returns
returns c =
    c.in_ok-list.ensures
    ∙ list_filled c.args.word.now (ending (rest_of c.args.more)) c.args.part c.in-Ok.rest c.in_ok-row.row c.keep_and_put.new.self c.in-Ok.ensures c.in_ok-row.ensures c.in_ok-keep_and_put.ensures
