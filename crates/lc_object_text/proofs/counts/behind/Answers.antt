use Rattle.std.proofs.Common.{◌-◌, ◌∙◌, arith}
use Rattle.lc_sexp.specs.Shown.{rest_of, number_of}
use Rattle.lc_object_text.proofs.Ends.{none_ended, passed_ended}
use Rattle.lc_object_text.proofs.counts.behind.Goals as goal

pub returns-in_default : goal.returns-in_default
returns-in_default c =
    let (is, nothing) = c.in_default.ensures in
    λ r. c.parts.invariant r ∙ none_ended c.parts.left (number_of c.parts.rest) (number_of c.parts.rest) (rest_of c.parts.rest) r nothing

pub parts-preserved : goal.parts-preserved
parts-preserved c =
    let (at, next) = c.in-Ok.ensures in
    λ r. c.parts.invariant r ∙ passed_ended c.parts.left (c.parts.left - 1) c.parts.rest c.next_part.new.list c.in-Ok.field-0 r next (omega arith)
