use Rattle.std.proofs.Common.{sym, ap, ◌∙◌}
use Rattle.lc_sexp.specs.Shown.{rest_of, number_of}
use Rattle.lc_reading.specs.Parts.{tree_of}
use Rattle.lc_fill.specs.Seen.{onto}
use Rattle.lc_fill.proofs.Lists.{past-is, past-none}
use Rattle.lc_fill.proofs.row.Row.keep_next.Goals as goal

pub returns-in_default : goal.returns-in_default
returns-in_default c = λ next. ap (onto c.args.self.now) (sym (past-none next (number_of c.args.rest.now) (rest_of c.args.rest.now) c.in_default.ensures.1))

pub returns : goal.returns
returns c = λ next.
    let (at, behind) = c.in-Ok.ensures in
    let d = c.next_part.new.list in
    c.in_ok-keep.ensures (next (number_of d) (rest_of d))
    ∙ ap (onto c.args.self.now) (sym (past-is next (number_of c.args.rest.now) (number_of d) (tree_of c.in-Ok.part) (rest_of c.args.rest.now) (rest_of d) behind.rest behind.number))
