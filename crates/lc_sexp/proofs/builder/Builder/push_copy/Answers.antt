use Rattle.std.proofs.Common.{ap, ◌∙◌, drop}
use Rattle.lc_sexp.specs.Text.{are_letters}
use Rattle.lc_sexp.proofs.Nodes.{letters_take, letters_drop}
use Rattle.lc_sexp.proofs.builder.Builder.push_copy.Goals as goal

pub push_atom-requires : goal.push_atom-requires
push_atom-requires c =
    ap are_letters c.letters_at.ensures ∙ letters_take (drop c.in-Atom.start c.args.text.now) c.in-Atom.length (letters_drop c.args.text.now c.in-Atom.start c.requires.letters)
