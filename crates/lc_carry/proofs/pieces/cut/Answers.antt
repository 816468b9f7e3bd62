use Rattle.std.proofs.Common.{◌≡◌, ◌+◌, ◌++◌, ◌≤◌, ◌∷◌, ℕ, List, map, drop, get_or, sym, ap, ◌∙◌, subst, arith}
use Rattle.std.proofs.lemmas.List.{drop_more}
use Rattle.std.specs.Borrow.{Bor}
use Rattle.std.specs.List.{slice_range}
use Rattle.lc_carry.proofs.Cuts.{range_more, depth_within, pieces_byte_longer}
use Rattle.lc_carry.specs.Pieces.{pieces_behind, pieces}
use Rattle.lc_carry.proofs.pieces.cut.Goals as goal

pub loop-place-preserved-then-not-begins : goal.loop-place-preserved-then-not-begins
loop-place-preserved-then-not-begins c =
    let t = c.args.text.now in
    let i = c.loop-place.place in
    let n = c.loop-place.depth in
    let b = get_or t i 0 in
    let w = slice_range t c.loop-place.start i in
    let now = slice_range t c.loop-place.start (i + 1) in
    let done = map (λ (piece : Bor (List ℕ)). piece.now) c.loop-place.cut.items in
    let before : done ++ pieces_behind n w (b ∷ drop (i + 1) t) ≡ pieces t = sym (ap (λ l. done ++ pieces_behind n w l) (drop_more t i 0 c.loop-place-test.true)) ∙ c.loop-place.invariant.all in
    record {
      all = ap (λ m. done ++ pieces_behind m now (drop (i + 1) t)) c.depth_behind-depth.ensures
          ∙ pieces_byte_longer done (pieces t) n w now (drop (i + 1) t) b (sym c.begins.ensures ∙ c.if-not-begins.true) (range_more t c.loop-place.start i c.loop-place.invariant.start c.loop-place-test.true) before;
      start = omega (arith, c.loop-place.invariant.start);
      depth = subst (λ m. m ≤ i + 1) (sym c.depth_behind-depth.ensures) (depth_within n b i c.loop-place.invariant.depth);
    }
