use Rattle.std.proofs.Common.{sym, ◌∙◌, subst}
use Rattle.std.specs.Prelude.{Result}
use Rattle.lc_sexp.specs.Shown.{rest_of, number_of, owner_of}
use Rattle.lc_object.specs.View.{point_of}
use Rattle.lc_object.specs.declared.parts.Point.{Point}
use Rattle.lc_reading.proofs.Combined.{both_read}
use Rattle.lc_reading.specs.Readings.{both}
use Rattle.lc_reading.specs.Results.{IsReading}
use Rattle.lc_reading.specs.declared.flaw.ReadFault.{ReadFault}
use Rattle.lc_object_text.specs.Points.{point_alone, sides_reading}
use Rattle.lc_object_text.proofs.point.CodeAloneReadsBeside.read.Goals as goal

pub returns-in-Err : goal.returns-in-Err
returns-in-Err c = λ r h.
    let sides = sides_reading (owner_of c.args.list) (number_of c.args.list) (rest_of c.args.list) in
    subst (λ (q : Result (Point × Unit {0}) ReadFault). IsReading (λ p. point_alone (point_of p.0) p.1) (both point_alone r sides) q) (sym c.both.ensures ∙ c.in-Err.is)
    (both_read point_of (λ (u : Unit {0}). u) point_alone r sides c.args.point c.read_sides.result h c.read_sides.ensures)
