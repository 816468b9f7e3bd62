use Rattle.std.proofs.Common.{[], sym, subst}
use Rattle.lc_reading.proofs.Listed.{listed_reading-is}
use Rattle.lc_reading.specs.Parts.{tree_of, place_of}
use Rattle.lc_reading.specs.Results.{IsReading}
use Rattle.lc_reading.specs.Rows.{counted_reading}
use Rattle.lc_text.specs.Terms.{term_reading}
use Rattle.lc_spec_text.specs.Seen.{terms_of}
use Rattle.lc_spec_text.proofs.branch.read_replies.Goals as goal

pub returns-in-List : goal.returns-in-List
returns-in-List g c =
    let read = term_reading (g.S.Scope.names c.args.scope.now) [] in
    rw c.in-Some.is
    (subst (λ r. IsReading terms_of r c.read_counted.result)
    (sym (listed_reading-is (λ n. counted_reading read n c.in-Some.count) (place_of c.args.part) (tree_of c.args.part) c.in-List.list c.in-List.ensures.tree c.in-List.ensures.number c.in-List.ensures.placed))
    c.read_counted.ensures)
