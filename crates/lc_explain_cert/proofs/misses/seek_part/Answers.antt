use Rattle.std.proofs.Common.{◌<◌, length, rules}
use Rattle.lc_explain_cert.proofs.Bounds.{one_bounded, one_known}
use Rattle.lc_table.proofs.Later.{kept_on}
use Rattle.lc_explain_cert.proofs.misses.seek_part.Goals as goal

pub is_hinted-requires-clause-known : goal.is_hinted-requires-clause-known
is_hinted-requires-clause-known c =
    let within : c.loop-place.place < length c.args.part.now.conditions.items = search rules in
    one_known c.args.terms.now c.loop-place.terms c.args.part.now.conditions.items c.loop-place.place c.index-condition.result.now c.requires.known c.loop-place.invariant within
    c.index-condition.ensures

pub is_hinted-requires-clause-bounded : goal.is_hinted-requires-clause-bounded
is_hinted-requires-clause-bounded c =
    let within : c.loop-place.place < length c.args.part.now.conditions.items = search rules in
    one_bounded c.args.terms.now c.loop-place.terms c.args.part.now.conditions.items c.loop-place.place c.index-condition.result.now c.requires.known c.loop-place.invariant c.requires.bounded within
    c.index-condition.ensures

pub seek-requires : goal.seek-requires
seek-requires c =
    let within : c.loop-place.place < length c.args.part.now.conditions.items = search rules in
    let kept = kept_on c.args.terms.now c.loop-place.terms c.is_hinted.new.terms c.loop-place.invariant c.is_hinted.ensures.kept in
    record {
      known = one_known c.args.terms.now c.is_hinted.new.terms c.args.part.now.conditions.items c.loop-place.place c.index-condition.result.now c.requires.known kept within
          c.index-condition.ensures;
    }
