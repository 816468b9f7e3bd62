use Rattle.std.proofs.Common.{ap, ◌∙◌, ◌++◌, ◌∷◌, []}
use Rattle.lc_sexp.specs.Trees.{atom}
use Rattle.lc_sexp.specs.Entries.{leaf}
use Rattle.lc_sexp.proofs.sexp.Sexp.of_letters.Goals as goal

pub into_sexp-requires : goal.into_sexp-requires
into_sexp-requires c = (atom c.args.letters.now, c.in_ok-push_atom.ensures ∙ ap (λ es. es ++ (leaf c.args.letters.now ∷ [])) c.in_ok-built.ensures)

pub returns : goal.returns
returns c = c.into_sexp.ensures (atom c.args.letters.now) (c.in_ok-push_atom.ensures ∙ ap (λ es. es ++ (leaf c.args.letters.now ∷ [])) c.in_ok-built.ensures)
