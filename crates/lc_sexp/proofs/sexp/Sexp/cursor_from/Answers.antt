use Rattle.std.proofs.Common.{ap, ◌∙◌, arith}
use Rattle.lc_sexp.specs.Trees.{item_count_of_all}
use Rattle.lc_sexp.specs.Flat.{trees_of}
use Rattle.lc_sexp.proofs.Flats.{flat_counted}
use Rattle.lc_sexp.proofs.sexp.Sexp.cursor_from.Goals as goal

pub numbered-requires-clause-counted : goal.numbered-requires-clause-counted
numbered-requires-clause-counted c =
    let k = c.self.inside.nodes.ok.0 in
    let same = ap (λ text. item_count_of_all (trees_of text c.deref.result.now)) c.deref-2.ensures.value ∙ ap (λ ns. item_count_of_all (trees_of c.self.inside.text.items ns)) c.deref.ensures.value in
    omega (arith, same, flat_counted c.self.inside.text.items c.self.inside.nodes.items c.self.invariant.flat, c.len-count.ensures, k)
