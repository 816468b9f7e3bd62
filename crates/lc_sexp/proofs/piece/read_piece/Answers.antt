use Rattle.std.proofs.Common.{◌≡◌, false, subst}
use Rattle.std.specs.Prelude.{MatchBool, MatchOption}
use Rattle.lc_sexp.specs.CutFiles.{ends_in_comment, bracketed, IsClosed, IsPieceOf}
use Rattle.lc_sexp.specs.Reads.{ReadsAs}
use Rattle.lc_sexp.specs.Trees.{Tree}
use Rattle.lc_sexp.proofs.Pieced.{piece_read}
use Rattle.lc_sexp.proofs.piece.read_piece.Goals as goal

pub returns-in-Some : goal.returns-in-Some
returns-in-Some c =
    let text = c.args.text.now in
    let closed : IsClosed text = subst (λ b. MatchBool b (IsClosed text) (IsClosed text → ⊥)) c.if-not-is_closed.false c.is_closed.ensures in
    let known : (ends_in_comment false text ≡ false) × ReadsAs (bracketed text) c.in-Some.forms =
    subst (λ f. MatchOption f ((t : Tree) → IsPieceOf t text → ⊥) (λ ts. (ends_in_comment false text ≡ false) × ReadsAs (bracketed text) ts)) c.in-Some.is c.in_ok-forms.ensures in
    piece_read text c.in-Some.forms c.only_part.result closed known.0 known.1 c.only_part.ensures
