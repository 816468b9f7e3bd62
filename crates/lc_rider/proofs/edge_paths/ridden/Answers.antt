use Rattle.std.proofs.Common.{map, ◌∙◌}
use Rattle.lc_put.specs.PutNumbers.{terms_in}
use Rattle.lc_term.specs.Lists.{concat_map}
use Rattle.lc_put.proofs.ByNumber.{are_terms_later, terms_still}
use Rattle.lc_table.proofs.Later.{kept_on}
use Rattle.lc_seq.specs.TextView.{specification_of}
use Rattle.lc_action.specs.ActionView.{first_of}
use Rattle.lc_rider.specs.Paths.{paths, rider_paths}
use Rattle.lc_rider.specs.PathView.{path_in}
use Rattle.lc_rider.specs.RiderView.{rider_of, riders_of}
use Rattle.lc_rider.proofs.Ridden.{ridden_step, ridden_all}
use Rattle.lc_rider.proofs.edge_paths.ridden.Goals as goal

pub each_ridden-requires : goal.each_ridden-requires
each_ridden-requires c = record {
  paths = c.loop-number.invariant.are;
  variables = are_terms_later c.args.terms.now c.loop-number.terms c.args.riding.variables.now c.requires.variables c.loop-number.invariant.kept;
}

pub loop-number-preserved : goal.loop-number-preserved
loop-number-preserved c =
    let operations = (specification_of c.args.riding.specification.now).operations in
    let first = first_of c.args.riding.system in
    let o = c.args.riding.operation.0 in
    let t = c.args.terms.now in
    let t0 = c.loop-number.terms in
    let t1 = c.each_ridden.new.terms in
    let inv = c.loop-number.invariant in
    let i = c.loop-number.number in
    let r = c.index-riders-number.result in
    let τ = terms_in t c.args.riding.variables.now in
    let ps = map (path_in t0) c.loop-number.paths.items in
    let has = c.in_ok-paths.ensures.paths in
    let seen = has.paths ∙ (λ j. concat_map (rider_paths operations first i o (terms_still t t0 c.args.riding.variables.now c.requires.variables inv.kept j) (rider_of r)) ps) in
    record {
      kept = kept_on t t0 t1 inv.kept c.in_ok-paths.ensures.kept;
      are = has.are;
      left = ridden_step operations first o τ c.args.riders.now i r ps (map (path_in t1) c.in_ok-paths.paths.items)
          (paths operations first 0 o τ (riders_of c.args.riders.now) (path_in t c.args.start)) c.loop-number-test.true c.index-riders-number.is seen inv.left;
    }

pub returns-clause-paths : goal.returns-clause-paths
returns-clause-paths c =
    let operations = (specification_of c.args.riding.specification.now).operations in
    let first = first_of c.args.riding.system in
    let o = c.args.riding.operation.0 in
    let t = c.args.terms.now in
    let τ = terms_in t c.args.riding.variables.now in
    let inv = c.loop-number.invariant in
    record {
      are = inv.are;
      paths = ridden_all operations first o τ c.args.riders.now c.loop-number.number (map (path_in c.loop-number.terms) c.loop-number.paths.items)
          (paths operations first 0 o τ (riders_of c.args.riders.now) (path_in t c.args.start)) c.loop-number-test.false inv.left;
    }
