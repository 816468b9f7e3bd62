use Rattle.std.proofs.Common.{sym, ap, ◌∙◌, arith}
use Rattle.std.specs.Result.{is_ok}
use Rattle.lc_sexp.specs.Text.{are_letters}
use Rattle.lc_sexp.proofs.Builds.{letters_append, atom_put, atom_put_within, within_at}
use Rattle.lc_sexp.proofs.builder.Builder.push_atom.Goals as goal

pub invariant_of-self-2 : goal.invariant_of-self-2
invariant_of-self-2 c =
    let b = c.args.self.now in
    let k = b.text.ok.0 in
    record {
      within = within_at _ _ c.push.new.self.items (sym c.extend_from_slice.new.self.ok.0)
          (atom_put_within (is_ok c.push.result) b.text.items c.extend_from_slice.new.self.items c.args.letters.now b.nodes.items c.push.new.self.items c.in_ok-start.start c.in_ok-length.length
          c.in_ok-extend_from_slice.ensures.items c.push.ensures.items (omega (arith, c.in_ok-start.ensures, c.len.ensures, k)) (omega (arith, c.in_ok-length.ensures)) (within_at _ _ b.nodes.items k b.within));
      letters = ap are_letters c.in_ok-extend_from_slice.ensures.items ∙ letters_append b.text.items c.args.letters.now b.letters c.requires;
    }

pub returns : goal.returns
returns c =
    let b = c.args.self.now in
    let k = b.text.ok.0 in
    atom_put b.text.items c.extend_from_slice.new.self.items c.args.letters.now b.nodes.items c.push.new.self.items c.in_ok-start.start c.in_ok-length.length
    c.in_ok-extend_from_slice.ensures.items c.in_ok-push.ensures.items (omega (arith, c.in_ok-start.ensures, c.len.ensures, k)) (omega (arith, c.in_ok-length.ensures)) (within_at _ _ b.nodes.items k b.within)
