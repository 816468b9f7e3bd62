use Rattle.std.proofs.Common.{◌∙◌, sym, subst}
use Rattle.lc_sexp.specs.Shown.{rest_of, number_of, owner_of}
use Rattle.lc_reading.specs.Parts.{tree_of, place_of}
use Rattle.lc_reading.specs.Results.{IsReading}
use Rattle.lc_rider_text.specs.KnownView.{known_view, names_beside, ways_there}
use Rattle.lc_outline_text.proofs.PlacedReads.{beside_at}
use Rattle.lc_outline_text.specs.Views.{outlined_of}
use Rattle.lc_outline_text.proofs.point.OutlinesReadsBeside.read.Goals as goal

pub returns : goal.returns
returns c = λ r h.
    let (at, next) = c.in_ok-asserts.ensures in
    let reader = c.args.self.now in
    let rest = c.next_part.new.list in
    let same = beside_at (known_view reader.known) (names_beside reader.scope) (ways_there reader.own) (owner_of c.args.list) (tree_of c.args.code) c.args.is_shaped r (number_of c.args.list) (place_of c.in_ok-asserts.asserts) (number_of rest)
    c.code_word-word.result.now (tree_of c.in_ok-asserts.asserts) (rest_of rest) (rest_of c.args.list) next.rest at next.number c.code_word-word.ensures (sym c.lacks_on.ensures ∙ c.if-lacks_on.false) in
    subst (λ x. IsReading outlined_of x c.read_outlined.result) (sym same) (c.read_outlined.ensures r h)
