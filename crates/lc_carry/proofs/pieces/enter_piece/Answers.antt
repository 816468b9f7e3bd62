use Rattle.std.proofs.Common.{◌≡◌, ℕ, Some, sym, ap, ◌∙◌, subst}
use Rattle.std.proofs.lemmas.Result.{IfOk-weaker}
use Rattle.lc_carry.proofs.Keys.{place_in_inserted, entered_keeps}
use Rattle.lc_carry.specs.Pieces.{kept_in, KeepsPieces}
use Rattle.lc_reading.specs.Listed.{place_of}
use Rattle.lc_carry.proofs.pieces.enter_piece.Goals as goal

pub returns-clause-kept : goal.returns-clause-kept
returns-clause-kept c = subst (λ ks. KeepsPieces (kept_in c.args.kept.now.keys) (kept_in ks)) (sym c.in_ok-place.ensures.keys) (entered_keeps c.args.kept.now.keys c.in_ok-piece.piece)

pub returns-clause-number : goal.returns-clause-number
returns-clause-number c =
    let old = c.args.kept.now.keys in
    let new = c.insert_full.new.self.keys in
    let items : c.in_ok-piece.piece.items ≡ c.args.piece.now = c.in_ok-piece.ensures.items_if_clones_equal (λ x y e. e) in
    let here : place_of (kept_in new) c.args.piece.now ≡ Some c.in_ok-place.place =
    ap (λ ks. place_of (kept_in ks) c.args.piece.now) c.in_ok-place.ensures.keys ∙ sym (ap (place_of _) items) ∙ place_in_inserted old c.in_ok-piece.piece ∙ ap Some (sym c.in_ok-place.ensures.index) in
    IfOk-weaker c.number_at.result (λ (n : ℕ). n ≡ c.in_ok-place.place) (λ (n : ℕ). place_of (kept_in new) c.args.piece.now ≡ Some n) (λ n e. here ∙ ap Some (sym e)) c.number_at.ensures
