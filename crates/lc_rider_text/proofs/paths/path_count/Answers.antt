use Rattle.std.proofs.Common.{◌*◌, ap, sym, ◌∙◌, arith}
use Rattle.std.specs.Prelude.{min}
use Rattle.lc_rider_text.specs.Ons.{path_cap}
use Rattle.lc_sexp.specs.Shown.{rest_of}
use Rattle.lc_reading.specs.Parts.{tree_of}
use Rattle.lc_rider_text.specs.KnownView.{known_view, ways_there}
use Rattle.lc_rider_text.specs.Paths.{rider_ways, path_count}
use Rattle.lc_rider_text.proofs.Capped.{capped_step, paths_more, paths_done}
use Rattle.lc_rider_text.proofs.paths.path_count.Goals as goal

pub returns-in_default : goal.returns-in_default
returns-in_default c =
    paths_done (known_view c.args.known) (ways_there c.args.own) c.riders.count _ (rest_of c.riders.rest) c.in_default.ensures.1 c.riders.invariant.few c.riders.invariant.counted

pub riders-preserved : goal.riders-preserved
riders-preserved c =
    let (at, next) = c.in-Ok.ensures in
    let known = known_view c.args.known in
    let own = ways_there c.args.own in
    let count = c.riders.count in
    let ways = rider_ways known own (tree_of c.in-Ok.part) in
    let left = path_count known own (rest_of c.next_part.new.list) in
    record {
      few = omega (arith, c.capped-count.ensures);
      counted = c.riders.invariant.counted
          ∙ ap (λ n. min path_cap (count * n)) (paths_more known own (tree_of c.in-Ok.part) (rest_of c.next_part.new.list) (rest_of c.riders.rest) next.rest)
          ∙ sym (capped_step count ways left)
          ∙ ap (λ n. min path_cap (n * left)) (sym (c.capped-count.ensures ∙ ap (λ w. min path_cap (count * w)) c.rider_ways.ensures));
    }
