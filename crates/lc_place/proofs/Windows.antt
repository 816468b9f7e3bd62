-- The part of a line that is shown.
use Rattle.std.proofs.Common.{◌≡◌, ◌≢◌, ℕ, zero, suc, add-one, sym, ◌+◌, ◌-◌, ◌≤◌, ◌<◌, false, not, cond, List, [], ◌∷◌, ◌++◌, length, get_or, take, drop, count_by, take_while, reverse, slice_range, refl, ap, ◌∙◌, arith, take-add, drop-drop, get_or-drop, length-drop, min, subst}
use Rattle.std.proofs.lemmas.Bool.Decides.{nat_tests}
use Rattle.std.specs.List.{list_any}
use Rattle.std.proofs.lemmas.List.{drop_more, take_more, reverse-append, get_or-take, length-take-le}
use Rattle.std.proofs.lemmas.List.Folds.{list_any-append}
use Rattle.std.proofs.lemmas.List.Sums.{count_by_more_no, sum_by-append, sum_by-cons, sum_by_push, take_while-cons}
use Rattle.std.proofs.lemmas.Bool.{or_from, false_from_ne_true, false≢true}
use Rattle.std.specs.Prelude.{is_some, true, Bool, Option, Some, None}
use Rattle.memchr.specs.Find.{IsFirstByte, is_byte}
use Rattle.lc_place.specs.Lines.{is_feed, begins_character, back_to_line, HasNoFeed}
use Rattle.lc_place.specs.Excerpt.{is_break, IsInLine, characters_in, shown_line, shown_marks, IsExcerpt}

-- a byte more at the front
pub range_front : (bytes : List ℕ) (from to : ℕ) → 0 < from → from ≤ to → from ≤ length bytes → slice_range bytes (from - 1) to ≡ get_or bytes (from - 1) 0 ∷ slice_range bytes from to
range_front bytes from to some le within =
    let e : to - (from - 1) ≡ suc (to - from) = omega arith in
    let f : (from - 1) + 1 ≡ from = omega arith in
    ap (λ n. take n (drop (from - 1) bytes)) e
    ∙ ap (take (suc (to - from))) (drop_more bytes (from - 1) 0 (omega arith))
    ∙ ap (λ n. get_or bytes (from - 1) 0 ∷ take (to - from) (drop n bytes)) f

-- a byte more at the end
pub range_back : (bytes : List ℕ) (from to : ℕ) → from ≤ to → to < length bytes → slice_range bytes from (to + 1) ≡ slice_range bytes from to ++ (get_or bytes to 0 ∷ [])
range_back bytes from to le within =
    let e : (to + 1) - from ≡ (to - from) + 1 = omega arith in
    let f : from + (to - from) ≡ to = omega arith in
    ap (λ n. take n (drop from bytes)) e
    ∙ take_more (drop from bytes) (to - from) 0 (omega (arith, length-drop from bytes))
    ∙ ap (λ x. slice_range bytes from to ++ (x ∷ [])) (get_or-drop from bytes (to - from) 0 ∙ ap (λ n. get_or bytes n 0) f)

-- two parts that meet
pub range_joined : (bytes : List ℕ) (from start to : ℕ) → from ≤ start → start ≤ to → slice_range bytes from to ≡ slice_range bytes from start ++ slice_range bytes start to
range_joined bytes from start to a b =
    let e : to - from ≡ (start - from) + (to - start) = omega arith in
    let f : from + (start - from) ≡ start = omega arith in
    ap (λ n. take n (drop from bytes)) e
    ∙ take-add (start - from) (to - start) (drop from bytes)
    ∙ ap (λ x. slice_range bytes from start ++ take (to - start) x) (drop-drop (start - from) from bytes ∙ ap (λ n. drop n bytes) f)

pub characters-append : (p q : List ℕ) → characters_in (p ++ q) ≡ characters_in p + characters_in q
characters-append p q = sum_by-append (λ b. cond (begins_character b) 1 0) p q

-- a character more at the front, or none
pub characters_front : (bytes : List ℕ) (from to : ℕ) → 0 < from → from ≤ to → from ≤ length bytes
    → characters_in (slice_range bytes (from - 1) to) ≡ cond (begins_character (get_or bytes (from - 1) 0)) 1 0 + characters_in (slice_range bytes from to)
characters_front bytes from to some le within =
    ap characters_in (range_front bytes from to some le within)
    ∙ sum_by-cons (λ b. cond (begins_character b) 1 0) (get_or bytes (from - 1) 0) (slice_range bytes from to)

-- what was found of a line, with so much room left
pub record IsShown (bytes : List ℕ) (from to left room : ℕ) : Type 0 where
  pub in_line : IsInLine (slice_range bytes from to)
  pub few : characters_in (slice_range bytes from to) + left ≡ room

-- how much room a byte takes
abbrev pub room_of : ℕ → ℕ
room_of b = cond (begins_character b) 1 0

pub room_small : (b : ℕ) → room_of b ≤ 1
room_small b = grind (arith, nat_tests)

pub no_feed : (b : ℕ) → b ≢ 10 → is_feed b ≡ false
no_feed b other = grind (arith, nat_tests)

-- the column, with what comes before an offset in its line counted so far
abbrev pub columns_before : List ℕ → ℕ → ℕ
columns_before bytes from = count_by begins_character (back_to_line bytes from)

back_more : (bytes : List ℕ) (from : ℕ) → from < length bytes → reverse (take (from + 1) bytes) ≡ get_or bytes from 0 ∷ reverse (take from bytes)
back_more bytes from lt = ap reverse (take_more bytes from 0 lt) ∙ reverse-append (take from bytes) (get_or bytes from 0 ∷ [])

pub column_more : (bytes : List ℕ) (from : ℕ) → 0 < from → from ≤ length bytes → is_feed (get_or bytes (from - 1) 0) ≡ false
    → columns_before bytes from ≡ room_of (get_or bytes (from - 1) 0) + columns_before bytes (from - 1)
column_more bytes from some le other =
    let f : from ≡ (from - 1) + 1 = omega arith in
    let e : reverse (take from bytes) ≡ get_or bytes (from - 1) 0 ∷ reverse (take (from - 1) bytes) = ap (λ n. reverse (take n bytes)) f ∙ back_more bytes (from - 1) (omega arith) in
    ap (λ x. count_by begins_character (take_while (λ b. not (is_feed b)) x)) e
    ∙ ap (count_by begins_character) (take_while-cons (λ b. not (is_feed b)) (get_or bytes (from - 1) 0) (reverse (take (from - 1) bytes)))
    ∙ ap (λ t. count_by begins_character (cond (not t) (get_or bytes (from - 1) 0 ∷ back_to_line bytes (from - 1)) [])) other
    ∙ sum_by-cons room_of (get_or bytes (from - 1) 0) (back_to_line bytes (from - 1))

-- if no line ends before an offset, it is in the first line
pub no_feed_counted : (bytes : List ℕ) (to : ℕ) → to ≤ length bytes → HasNoFeed bytes to → count_by is_feed (take to bytes) ≡ 0
no_feed_counted bytes zero le none = refl
no_feed_counted bytes (suc n) le none =
    ap (λ m. count_by is_feed (take m bytes)) (sym (add-one n))
    ∙ count_by_more_no is_feed bytes n 0 (omega (arith, le)) (none n (omega arith))
    ∙ no_feed_counted bytes n (omega (arith, le)) (λ k lt. none k (omega (arith, lt)))

column_next : (bytes : List ℕ) (n : ℕ) → n < length bytes → is_feed (get_or bytes n 0) ≡ false → columns_before bytes (suc n) ≡ room_of (get_or bytes n 0) + columns_before bytes n
column_next bytes n lt other =
    let e : suc n - 1 ≡ n = omega arith in
    subst (λ m. columns_before bytes (suc n) ≡ room_of (get_or bytes m 0) + columns_before bytes m) e
    (column_more bytes (suc n) (omega arith) (omega (arith, lt)) (subst (λ m. is_feed (get_or bytes m 0) ≡ false) (sym e) other))

pub no_feed_columns : (bytes : List ℕ) (to : ℕ) → to ≤ length bytes → HasNoFeed bytes to → columns_before bytes to ≡ characters_in (slice_range bytes 0 to)
no_feed_columns bytes zero le none = refl
no_feed_columns bytes (suc n) le none =
    let more = column_next bytes n (omega (arith, le)) (none n (omega arith)) in
    let before = no_feed_columns bytes n (omega (arith, le)) (λ k lt. none k (omega (arith, lt))) in
    let back = ap (λ m. characters_in (slice_range bytes 0 m)) (sym (add-one n)) ∙ ap characters_in (range_back bytes 0 n (omega arith) (omega (arith, le))) ∙ sum_by_push room_of (slice_range bytes 0 n) (get_or bytes n 0) in
    omega (arith, more, before, back)

-- no line feed is before an offset, if none is found there
pub no_feed_found : (bytes : List ℕ) (offset : ℕ) (found : Option ℕ) (none : Bool) → offset ≤ length bytes → IsFirstByte (is_byte 10) (take offset bytes) found → is_some found ≡ not none → none ≡ true → HasNoFeed bytes offset
no_feed_found bytes offset None none le first some is = λ k lt.
    ap is_feed (sym (get_or-take offset bytes k 0 lt))
    ∙ false_from_ne_true (is_feed (get_or (take offset bytes) k 0)) (first k (omega arith) (omega (arith, length-take-le offset bytes le, lt)))
no_feed_found bytes offset (Some k) none le first some is = absurd (false≢true (sym (ap not is) ∙ sym some))

pub shown_front : (bytes : List ℕ) (from to left room : ℕ) → 0 < from → from ≤ to → from ≤ length bytes → is_break (get_or bytes (from - 1) 0) ≡ false → room_of (get_or bytes (from - 1) 0) ≤ left
    → IsShown bytes from to left room → IsShown bytes (from - 1) to (left - room_of (get_or bytes (from - 1) 0)) room
shown_front bytes from to left room some le within other fits s =
    let e = range_front bytes from to some le within in
    record {
      in_line = ap (list_any is_break) e ∙ or_from _ _ other s.in_line;
      few =
          let c = characters_front bytes from to some le within in
          omega (arith, c, s.few, fits);
    }

pub shown_back : (bytes : List ℕ) (from to left room : ℕ) → from ≤ to → to < length bytes → is_break (get_or bytes to 0) ≡ false → room_of (get_or bytes to 0) ≤ left
    → IsShown bytes from to left room → IsShown bytes from (to + 1) (left - room_of (get_or bytes to 0)) room
shown_back bytes from to left room le within other fits s =
    let e = range_back bytes from to le within in
    record {
      in_line = ap (list_any is_break) e ∙ list_any-append is_break (slice_range bytes from to) (get_or bytes to 0 ∷ []) ∙ or_from _ _ s.in_line (or_from _ _ other refl);
      few =
          let c : characters_in (slice_range bytes from (to + 1)) ≡ characters_in (slice_range bytes from to) + room_of (get_or bytes to 0) =
          ap characters_in e ∙ sum_by_push room_of (slice_range bytes from to) (get_or bytes to 0) in
          omega (arith, c, s.few, fits);
    }

pub line_joined : (bytes : List ℕ) (from start to : ℕ) → from ≤ start → start ≤ to → IsInLine (slice_range bytes from start) → IsInLine (slice_range bytes start to) → IsInLine (slice_range bytes from to)
line_joined bytes from start to a b p q =
    ap (list_any is_break) (range_joined bytes from start to a b) ∙ list_any-append is_break (slice_range bytes from start) (slice_range bytes start to) ∙ or_from _ _ p q

pub few_joined : (bytes : List ℕ) (from start to room : ℕ) → from ≤ start → start ≤ to → characters_in (slice_range bytes from start) ≤ room
    → characters_in (slice_range bytes start to) ≤ room - characters_in (slice_range bytes from start) → characters_in (slice_range bytes from to) ≤ room
few_joined bytes from start to room a b p q =
    omega (arith, ap characters_in (range_joined bytes from start to a b), characters-append (slice_range bytes from start) (slice_range bytes start to), p, q)

-- the excerpt, by its parts
pub excerpt_is : (bytes : List ℕ) (offset size start from to room : ℕ) (line marks : List ℕ) → start ≡ min offset (length bytes) → from ≤ start → IsInLine (slice_range bytes from start)
    → characters_in (slice_range bytes from start) ≤ 100 → room ≡ 160 - characters_in (slice_range bytes from start) → start ≤ to → to ≤ length bytes → IsInLine (slice_range bytes start to)
    → characters_in (slice_range bytes start to) ≤ room → line ≡ shown_line bytes from to → marks ≡ shown_marks bytes from start (start + min size (to - start)) → IsExcerpt bytes offset size line marks
excerpt_is bytes offset size start from to room line marks e a p q r b w l f t m =
    record {
      from = from;
      to = to;
      before = omega (arith, e);
      behind = omega (arith, e);
      within = w;
      in_line = line_joined bytes from start to a b p l;
      short = few_joined bytes from start to 160 a b (omega arith) (subst (λ n. characters_in (slice_range bytes start to) ≤ n) r f);
      line_is = t;
      marks_are = m ∙ ap (λ n. shown_marks bytes from n (n + min size (to - n))) e;
    }
