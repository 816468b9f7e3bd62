-- The text of a drawing, from its parts.
use Rattle.std.proofs.Common.{◌≡◌, ℕ, List, [], ◌∷◌, ◌++◌, Option, option_map, codes, length, map, refl, ap, subst, ◌∙◌}
use Rattle.std.specs.List.{flat_map}
use Rattle.lc_draw.specs.Drawings.{Draws, Picture, elements_of, opening_text}
use Rattle.lc_draw.specs.Elements.{Element, HasWritten, elements_text}
use Rattle.lc_draw.specs.Shapes.{Mark, Cut, bar_elements, caption_element, cut_elements, lane_elements, mark_elements, order_element, sheet_element, style_element}
use Rattle.lc_draw.proofs.Written.{written_more}

-- what is written in these parts, one after another, is a drawing
pub drawn : (p : Picture) (t0 t1 t2 t3 t4 t5 t6 t7 t8 t9 t10 : List ℕ) → t0 ≡ [] → t1 ≡ t0 ++ opening_text p.width p.height → HasWritten (style_element p.style ∷ []) t1 t2
    → HasWritten (sheet_element p.width p.height ∷ []) t2 t3 → HasWritten (flat_map lane_elements p.lanes) t3 t4 → HasWritten (flat_map bar_elements p.bars) t4 t5
    → HasWritten (order_element p.points ∷ []) t5 t6 → HasWritten (flat_map mark_elements p.marks) t6 t7 → HasWritten (cut_elements p.cut) t7 t8
    → HasWritten (caption_element p.above p.caption ∷ []) t8 t9 → t10 ≡ t9 ++ codes "</svg>\n" → Draws (length p.bars) (map (λ (m : Mark). m.place) p.marks) (option_map (λ (c : Cut). c.number) p.cut) t10
drawn p t0 t1 t2 t3 t4 t5 t6 t7 t8 t9 t10 new begun style sheet lanes bars order marks cut caption ended =
    let first : List Element = style_element p.style ∷ [] in
    let field : List Element = sheet_element p.width p.height ∷ [] in
    let lanes_on : List Element = style_element p.style ∷ sheet_element p.width p.height ∷ flat_map lane_elements p.lanes in
    let line : List Element = order_element p.points ∷ [] in
    let marks_on = flat_map mark_elements p.marks in
    let last : List Element = caption_element p.above p.caption ∷ [] in
    let end = codes "</svg>\n" in
    let on_sheet : HasWritten lanes_on t1 t4 = written_more (first ++ field) (flat_map lane_elements p.lanes) t1 t3 t4 (written_more first field t1 t2 t3 style sheet) lanes in
    let on_lanes : HasWritten (lanes_on ++ flat_map bar_elements p.bars) t1 t5 = written_more lanes_on (flat_map bar_elements p.bars) t1 t4 t5 on_sheet bars in
    let on_bars : HasWritten ((lanes_on ++ flat_map bar_elements p.bars) ++ (line ++ marks_on)) t1 t7 =
    written_more (lanes_on ++ flat_map bar_elements p.bars) (line ++ marks_on) t1 t5 t7 on_lanes (written_more line marks_on t5 t6 t7 order marks) in
    let on_marks : HasWritten (((lanes_on ++ flat_map bar_elements p.bars) ++ (line ++ marks_on)) ++ cut_elements p.cut) t1 t8 =
    written_more ((lanes_on ++ flat_map bar_elements p.bars) ++ (line ++ marks_on)) (cut_elements p.cut) t1 t7 t8 on_bars cut in
    let all : HasWritten (elements_of p) t1 t9 = written_more (((lanes_on ++ flat_map bar_elements p.bars) ++ (line ++ marks_on)) ++ cut_elements p.cut) last t1 t8 t9 on_marks caption in
    let text = elements_text (elements_of p) in
    record {
      picture = p;
      is = ended ∙ (ap (λ l. l ++ end) all.0 ∙ ap (λ l. (l ++ text) ++ end) (begun ∙ ap (λ l. l ++ opening_text p.width p.height) new));
      well_formed = all.1;
      bars_are = refl;
      marks_are = refl;
      cut_is = refl;
    }

-- it draws the same
pub draws_so : (n m : ℕ) (ps qs : List ℕ) (c d : Option ℕ) (text : List ℕ) → n ≡ m → ps ≡ qs → c ≡ d → Draws n ps c text → Draws m qs d text
draws_so n m ps qs c d text e f g is = subst (λ k. Draws k qs d text) e (subst (λ l. Draws n l d text) f (subst (λ k. Draws n ps k text) g is))
