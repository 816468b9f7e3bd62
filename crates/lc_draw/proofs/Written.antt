-- Elements that are written one after another, and that are well-formed.
use Rattle.std.proofs.Common.{◌≡◌, ℕ, ◌+◌, ◌<◌, ◌^◌, true, List, [], ◌∷◌, ◌++◌, codes, length, map, take, get_or, refl, sym, ap, ap₂, subst, ◌∙◌, append_assoc, append-nil, arith}
use Rattle.std.proofs.lemmas.List.{map_more, map_push}
use Rattle.std.specs.List.{flat_map}
use Rattle.std.specs.Fmt.{decimal}
use Rattle.lc_draw.specs.Elements.{Element, AreWellFormed, HasWritten, IsWellFormed, are_plain, element_text, elements_text}
use Rattle.lc_draw.specs.Shapes.{Mark, bar_label, bar_path, caption_element, cut_label, cut_line, lane_line, lane_name, mark_line, mark_place, order_element, point_text, sheet_element, style_element}
use Rattle.lc_draw.proofs.Plainness.{plain_append, plain_decimal}

flat_map-append : {A B : Type 0} (f : A → List B) (xs ys : List A) → flat_map f (xs ++ ys) ≡ flat_map f xs ++ flat_map f ys
flat_map-append f [] ys = refl
flat_map-append f (x ∷ xs) ys = ap (λ l. f x ++ l) (flat_map-append f xs ys) ∙ sym (append_assoc (f x) (flat_map f xs) (flat_map f ys))

both_formed : (es fs : List Element) → AreWellFormed es → AreWellFormed fs → AreWellFormed (es ++ fs)
both_formed [] fs h k = k
both_formed (e ∷ es) fs h k = (h.0, both_formed es fs h.1 k)

-- nothing was written
pub none_written : (before : List ℕ) → HasWritten [] before before
none_written before = (sym (append-nil before), tt)

-- one element was written
pub written_one : (e : Element) (before after : List ℕ) → after ≡ before ++ element_text e → IsWellFormed e → HasWritten (e ∷ []) before after
written_one e before after is formed = (is ∙ ap (λ l. before ++ l) (sym (append-nil (element_text e))), (formed, tt))

-- elements after others
pub written_more : (es fs : List Element) (before mid after : List ℕ) → HasWritten es before mid → HasWritten fs mid after → HasWritten (es ++ fs) before after
written_more es fs before mid after (is, formed) (is', formed') = (
  is' ∙ (ap (λ l. l ++ elements_text fs) is ∙ (append_assoc before (elements_text es) (elements_text fs) ∙ ap (λ l. before ++ l) (sym (flat_map-append element_text es fs)))),
  both_formed es fs formed formed',
)

-- two were
pub written_two : (e f : Element) (before mid after : List ℕ) → mid ≡ before ++ element_text e → IsWellFormed e → after ≡ mid ++ element_text f → IsWellFormed f → HasWritten (e ∷ f ∷ []) before after
written_two e f before mid after is formed is' formed' = written_more (e ∷ []) (f ∷ []) before mid after (written_one e before mid is formed) (written_one f mid after is' formed')

-- elements of one thing more
pub one_written : {A : Type 0} (f : A → List Element) (xs : List A) (x : A) (before mid after : List ℕ) → HasWritten (flat_map f xs) before mid → HasWritten (f x) mid after
    → HasWritten (flat_map f (xs ++ x ∷ [])) before after
one_written f xs x before mid after h k =
    let same : flat_map f (xs ++ x ∷ []) ≡ flat_map f xs ++ f x = flat_map-append f xs (x ∷ []) ∙ ap (λ l. flat_map f xs ++ l) (append-nil (f x)) in
    subst (λ es. HasWritten es before after) (sym same) (written_more (flat_map f xs) (f x) before mid after h k)

-- ---- that they are well-formed

-- texts one after another
abbrev joined : List ℕ → List (List ℕ) → List ℕ
joined t [] = t
joined t (u ∷ us) = joined (t ++ u) us

abbrev AllPlain : List (List ℕ) → Type 0
AllPlain [] = Unit {0}
AllPlain (u ∷ us) = (are_plain u ≡ true) × AllPlain us

plain_joined : (t : List ℕ) (us : List (List ℕ)) → are_plain t ≡ true → AllPlain us → are_plain (joined t us) ≡ true
plain_joined t [] h all = h
plain_joined t (u ∷ us) h all = plain_joined (t ++ u) us (plain_append t u h all.0) all.1

pub style_formed : (style : List ℕ) → are_plain style ≡ true → IsWellFormed (style_element style)
style_formed style plain = record { name = refl; attributes = tt; differ = refl; text = plain }

pub sheet_formed : (width height : ℕ) → width < 2 ^ 64 → height < 2 ^ 64 → IsWellFormed (sheet_element width height)
sheet_formed width height w h = record { name = refl; attributes = (refl, refl, (refl, plain_decimal width w, (refl, plain_decimal height h, tt))); differ = refl; text = tt }

pub caption_formed : (above : ℕ) (text : List ℕ) → above < 2 ^ 64 → are_plain text ≡ true → IsWellFormed (caption_element above text)
caption_formed above text a plain = record { name = refl; attributes = (refl, refl, (refl, plain_decimal above a, tt)); differ = refl; text = plain }

pub lane_name_formed : (client under : ℕ) → client < 2 ^ 64 → under < 2 ^ 64 → IsWellFormed (lane_name client under)
lane_name_formed client under c u =
    record { name = refl; attributes = (refl, refl, (refl, plain_decimal under u, tt)); differ = refl; text = plain_append (codes "client ") (decimal client) refl (plain_decimal client c) }

pub lane_line_formed : (middle until : ℕ) → middle < 2 ^ 64 → until < 2 ^ 64 → IsWellFormed (lane_line middle until)
lane_line_formed middle until m n = record {
  name = refl;
  attributes = (
    refl,
    refl,
    (
      refl,
      plain_joined (codes "M") (decimal 96 ∷ codes " " ∷ decimal middle ∷ codes "H" ∷ decimal until ∷ []) refl
          (plain_decimal 96 (omega arith), (refl, (plain_decimal middle m, (refl, (plain_decimal until n, tt))))),
      tt,
    ),
  );
  differ = refl;
  text = tt;
}

pub bar_path_formed : (class close : List ℕ) (begins ends top : ℕ) → are_plain class ≡ true → are_plain close ≡ true → begins < 2 ^ 64 → ends < 2 ^ 64 → top < 2 ^ 64 → IsWellFormed (bar_path class close begins ends top)
bar_path_formed class close begins ends top k z b e t = record {
  name = refl;
  attributes = (
    refl,
    k,
    (
      refl,
      plain_joined (codes "M") (decimal ends ∷ codes " " ∷ decimal top ∷ codes "H" ∷ decimal begins ∷ codes "v" ∷ decimal 24 ∷ codes "H" ∷ decimal ends ∷ close ∷ []) refl
          (plain_decimal ends e, (refl, (plain_decimal top t, (refl, (plain_decimal begins b, (refl, (plain_decimal 24 (omega arith), (refl, (plain_decimal ends e, (z, tt)))))))))),
      tt,
    ),
  );
  differ = refl;
  text = tt;
}

pub bar_label_formed : (from under : ℕ) (text : List ℕ) → from < 2 ^ 64 → under < 2 ^ 64 → are_plain text ≡ true → IsWellFormed (bar_label from under text)
bar_label_formed from under text r u plain = record { name = refl; attributes = (refl, plain_decimal from r, (refl, plain_decimal under u, tt)); differ = refl; text = plain }

pub mark_line_formed : (across top : ℕ) → across < 2 ^ 64 → top < 2 ^ 64 → IsWellFormed (mark_line across top)
mark_line_formed across top a t = record {
  name = refl;
  attributes = (refl, refl, (refl, plain_joined (codes "M") (decimal across ∷ codes " " ∷ decimal top ∷ codes "v10" ∷ []) refl (plain_decimal across a, (refl, (plain_decimal top t, (refl, tt)))), tt));
  differ = refl;
  text = tt;
}

pub mark_place_formed : (place across over : ℕ) → place < 2 ^ 64 → across < 2 ^ 64 → over < 2 ^ 64 → IsWellFormed (mark_place place across over)
mark_place_formed place across over p a o =
    record { name = refl; attributes = (refl, refl, (refl, plain_decimal across a, (refl, plain_decimal over o, tt))); differ = refl; text = plain_decimal place p }

pub cut_line_formed : (across top until : ℕ) → across < 2 ^ 64 → top < 2 ^ 64 → until < 2 ^ 64 → IsWellFormed (cut_line across top until)
cut_line_formed across top until a t u = record {
  name = refl;
  attributes = (
    refl,
    refl,
    (
      refl,
      plain_joined (codes "M") (decimal across ∷ codes " " ∷ decimal top ∷ codes "V" ∷ decimal until ∷ []) refl (plain_decimal across a, (refl, (plain_decimal top t, (refl, (plain_decimal until u, tt))))),
      tt,
    ),
  );
  differ = refl;
  text = tt;
}

pub cut_label_formed : (number across over : ℕ) → number < 2 ^ 64 → across < 2 ^ 64 → over < 2 ^ 64 → IsWellFormed (cut_label number across over)
cut_label_formed number across over n a o = record {
  name = refl;
  attributes = (refl, refl, (refl, plain_decimal across a, (refl, plain_decimal over o, tt)));
  differ = refl;
  text = plain_append (codes "event ") (decimal number) refl (plain_decimal number n);
}

pub point_plain : (across top : ℕ) → across < 2 ^ 64 → top < 2 ^ 64 → are_plain (point_text (across, top)) ≡ true
point_plain across top a t = plain_joined (decimal across) (codes "," ∷ decimal top ∷ codes " " ∷ []) (plain_decimal across a) (refl, (plain_decimal top t, (refl, tt)))

-- points more
pub points_more : (ps : List (ℕ × ℕ)) (p : ℕ × ℕ) (before mid after : List ℕ) → mid ≡ before ++ flat_map point_text ps → are_plain (flat_map point_text ps) ≡ true → after ≡ mid ++ point_text p → are_plain (point_text p) ≡ true
    → (after ≡ before ++ flat_map point_text (ps ++ p ∷ [])) × (are_plain (flat_map point_text (ps ++ p ∷ [])) ≡ true)
points_more ps p before mid after is plain is' plain' =
    let same : flat_map point_text (ps ++ p ∷ []) ≡ flat_map point_text ps ++ point_text p = flat_map-append point_text ps (p ∷ []) ∙ ap (λ l. flat_map point_text ps ++ l) (append-nil (point_text p)) in (
      is' ∙ (ap (λ l. l ++ point_text p) is ∙ (append_assoc before (flat_map point_text ps) (point_text p) ∙ ap (λ l. before ++ l) (sym same))),
      ap are_plain same ∙ plain_append (flat_map point_text ps) (point_text p) plain plain',
    )

pub order_formed : (ps : List (ℕ × ℕ)) → are_plain (flat_map point_text ps) ≡ true → IsWellFormed (order_element ps)
order_formed ps plain = record { name = refl; attributes = (refl, refl, (refl, plain, tt)); differ = refl; text = tt }

-- the line from mark to mark, written in three parts
pub order_written : (ps : List (ℕ × ℕ)) (before opened filled after : List ℕ) → opened ≡ before ++ codes "<polyline class=\"order\" points=\"" → filled ≡ opened ++ flat_map point_text ps → are_plain (flat_map point_text ps) ≡ true
    → after ≡ filled ++ codes "\"/>\n" → HasWritten (order_element ps ∷ []) before after
order_written ps before opened filled after o f plain a =
    written_one (order_element ps) before after
    (a ∙ (ap (λ l. l ++ codes "\"/>\n") f ∙ (ap (λ l. (l ++ flat_map point_text ps) ++ codes "\"/>\n") o ∙ simp (append_assoc, append-nil)))) (order_formed ps plain)

-- the place of one mark more
pub places_more : {X : Type 0} (place_of : X → ℕ) (ms : List Mark) (m : Mark) (xs : List X) (i : ℕ) (x d : X) → i < length xs → x ≡ get_or xs i d → m.place ≡ place_of x → map (λ (m : Mark). m.place) ms ≡ map place_of (take i xs)
    → map (λ (m : Mark). m.place) (ms ++ m ∷ []) ≡ map place_of (take (i + 1) xs)
places_more place_of ms m xs i x d lt is place before =
    map_push (λ (m : Mark). m.place) ms m ∙ (ap₂ (λ l k. l ++ k ∷ []) before (place ∙ ap place_of is) ∙ sym (map_more place_of xs i d lt))

-- ---- texts in parts

-- an attribute's value with its end and what is after it
spread : (value end others behind : List ℕ) → ((value ++ end) ++ others) ++ behind ≡ value ++ (end ++ (others ++ behind))
spread value end others behind = append_assoc (value ++ end) others behind ∙ append_assoc value end (others ++ behind)

-- the sheet
pub sheet_text : (width height : ℕ) → codes "<rect class=\"sheet\" width=\"" ++ (decimal width ++ (codes "\" height=\"" ++ (decimal height ++ codes "\"/>\n"))) ≡ element_text (sheet_element width height)
sheet_text width height =
    let end = codes "\"" in
    sym (ap (λ l. codes "<rect class=\"sheet\" width=\"" ++ l)
    (spread (decimal width) end (codes " height=\"" ++ ((decimal height ++ end) ++ [])) (codes "/>\n") ∙ ap (λ l. decimal width ++ (codes "\" height=\"" ++ l)) (spread (decimal height) end [] (codes "/>\n"))))

-- the line round a bar, and what is after it
around : (ends top begins close behind : List ℕ) → (codes "M" ++ ends ++ codes " " ++ top ++ codes "H" ++ begins ++ codes "v" ++ decimal 24 ++ codes "H" ++ ends ++ close) ++ behind
    ≡ codes "M" ++ (ends ++ (codes " " ++ (top ++ (codes "H" ++ (begins ++ (codes "v" ++ (decimal 24 ++ (codes "H" ++ (ends ++ (close ++ behind))))))))))
around ends top begins close behind = simp append_assoc

bar_path_text : (class close : List ℕ) (begins ends top : ℕ)
    → codes "<path class=\"" ++ (class ++ (codes "\" d=\"M" ++ (decimal ends ++ (codes " " ++ (decimal top ++ (codes "H" ++ (decimal begins ++ (codes "v" ++ (decimal 24 ++ (codes "H" ++ (decimal ends ++ (close ++ codes "\"/>\n"))))))))))))
    ≡ element_text (bar_path class close begins ends top)
bar_path_text class close begins ends top =
    let end = codes "\"" in
    let line = codes "M" ++ decimal ends ++ codes " " ++ decimal top ++ codes "H" ++ decimal begins ++ codes "v" ++ decimal 24 ++ codes "H" ++ decimal ends ++ close in
    sym (ap (λ l. codes "<path class=\"" ++ l)
    (spread class end (codes " d=\"" ++ ((line ++ end) ++ [])) (codes "/>\n")
    ∙ ap (λ l. class ++ (codes "\" d=\"" ++ l)) (spread line end [] (codes "/>\n") ∙ around (decimal ends) (decimal top) (decimal begins) close (codes "\"/>\n"))))

-- its beginning, its middle and its end, one after another
in_three : (before class ends top begins close : List ℕ)
    → ((before ++ (codes "<path class=\"" ++ (class ++ (codes "\" d=\"M" ++ (ends ++ (codes " " ++ top)))))) ++ (codes "H" ++ (begins ++ (codes "v" ++ decimal 24)))) ++ (codes "H" ++ (ends ++ (close ++ codes "\"/>\n")))
    ≡ before
    ++ (codes "<path class=\"" ++ (class ++ (codes "\" d=\"M" ++ (ends ++ (codes " " ++ (top ++ (codes "H" ++ (begins ++ (codes "v" ++ (decimal 24 ++ (codes "H" ++ (ends ++ (close ++ codes "\"/>\n")))))))))))))
in_three before class ends top begins close = simp append_assoc

pub bar_path_written : (class close : List ℕ) (begins ends top : ℕ) (before first second after : List ℕ)
    → first ≡ before ++ (codes "<path class=\"" ++ (class ++ (codes "\" d=\"M" ++ (decimal ends ++ (codes " " ++ decimal top)))))
    → second ≡ first ++ (codes "H" ++ (decimal begins ++ (codes "v" ++ decimal 24)))
    → after ≡ second ++ (codes "H" ++ (decimal ends ++ (close ++ codes "\"/>\n")))
    → after ≡ before ++ element_text (bar_path class close begins ends top)
bar_path_written class close begins ends top before first second after one two three =
    three ∙ (ap (λ l. l ++ (codes "H" ++ (decimal ends ++ (close ++ codes "\"/>\n")))) (two ∙ ap (λ l. l ++ (codes "H" ++ (decimal begins ++ (codes "v" ++ decimal 24)))) one)
    ∙ (in_three before class (decimal ends) (decimal top) (decimal begins) close ∙ ap (λ l. before ++ l) (bar_path_text class close begins ends top)))
