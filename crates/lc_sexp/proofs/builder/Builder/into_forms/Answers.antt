use Rattle.std.proofs.Common.{◌∙◌}
use Rattle.lc_sexp.proofs.Flats.{flat_from}
use Rattle.lc_sexp.proofs.Builds.{within_at}
use Rattle.lc_sexp.proofs.builder.Builder.into_forms.Goals as goal

pub new-requires : goal.new-requires
new-requires c =
    let b = c.args.self in
    (flat_from b.text.items b.nodes.items c.requires.0 c.requires.1 (within_at _ _ b.nodes.items b.text.ok.0 b.within) b.letters).0

pub returns : goal.returns
returns c = λ ts e.
    let b = c.args.self in
    c.new.ensures ∙ (flat_from b.text.items b.nodes.items ts e (within_at _ _ b.nodes.items b.text.ok.0 b.within) b.letters).1
