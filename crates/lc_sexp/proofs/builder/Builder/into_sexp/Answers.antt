use Rattle.std.proofs.Common.{◌∙◌}
use Rattle.lc_sexp.proofs.Builds.{one_from, within_at}
use Rattle.lc_sexp.proofs.builder.Builder.into_sexp.Goals as goal

pub new-requires : goal.new-requires
new-requires c =
    let b = c.args.self in
    (one_from b.text.items b.nodes.items c.requires.0 c.requires.1 (within_at _ _ b.nodes.items b.text.ok.0 b.within) b.letters).0

pub returns : goal.returns
returns c = λ t e.
    let b = c.args.self in
    c.new.ensures ∙ (one_from b.text.items b.nodes.items t e (within_at _ _ b.nodes.items b.text.ok.0 b.within) b.letters).1
