-- Columns that are put into a set.
use Rattle.std.proofs.Common.{◌≡◌, ℕ, ◌+◌, ◌<◌, ◌≤◌, ◌==◌, Bool, true, false, ◌||◌, cond, List, [], ◌∷◌, ◌++◌, length, take, get_or, refl, sym, ap, ap₂, ◌∙◌, append_assoc, arith}
use Rattle.std.proofs.lemmas.Bool.Decides.{nat_tests}
use Rattle.std.proofs.lemmas.List.{length-append, map-append, map_more}
use Rattle.std.proofs.lemmas.List.Folds.{list_any-append}
use Rattle.std.proofs.lemmas.Bool.{eq-eqb}
use Rattle.lc_base.specs.declared.ids.ColId.{ColId}
use Rattle.lc_object.specs.View.{columns_of}
use Rattle.lc_outline.specs.Sizes.{different}
use Rattle.lc_outline_text.specs.Paths.{stands}
use Rattle.lc_outline_text.specs.StoredView.{round_of, is_in, listed_in, IsSet}
use Rattle.lc_outline_text.specs.declared.column_set.ColumnSet.{ColumnSet}
use Rattle.lc_outline_text.proofs.Different.{absent, stands_again, different_more, joined_alike}

-- ---- one column

one_more : (xs : List ColId) (x : ColId) → columns_of (xs ++ x ∷ []) ≡ columns_of xs ++ x.0 ∷ []
one_more xs x = map-append (λ (c : ColId). c.0) xs (x ∷ [])

-- it is in it already
pub in_again : (s : ColumnSet) (c : ℕ) → IsSet s → round_of s.rounds c ≡ s.round → stands (listed_in s) ≡ stands (listed_in s ++ c ∷ [])
in_again s c h is = sym (stands_again (listed_in s) c (sym (h.marked c) ∙ eq-eqb (round_of s.rounds c) s.round is))

marked_by : (c k round r : ℕ) (ls : List ℕ) (b : Bool) → (k == c) ≡ b → (r == round) ≡ stands ls k → (cond b round r == round) ≡ stands (ls ++ c ∷ []) k
marked_by c k round r ls true e h =
    let here : (c == k) ≡ true = grind (arith, nat_tests) in
    eq-eqb round round refl ∙ sym (or_true (stands ls k)) ∙ ap (λ b. stands ls k || (b || false)) (sym here) ∙ sym (list_any-append (λ j. j == k) ls (c ∷ [])) where
      or_true : (b : Bool) → (b || (true || false)) ≡ true
      or_true true = refl
      or_true false = refl
marked_by c k round r ls false e h =
    let other : (c == k) ≡ false = grind (arith, nat_tests) in
    h ∙ sym (or_false (stands ls k)) ∙ ap (λ b. stands ls k || (b || false)) (sym other) ∙ sym (list_any-append (λ j. j == k) ls (c ∷ [])) where
      or_false : (b : Bool) → (b || (false || false)) ≡ b
      or_false true = refl
      or_false false = refl

past_by : (b : Bool) (round r : ℕ) → r ≤ round → cond b round r ≤ round
past_by true round r h = omega arith
past_by false round r h = h

-- it is put in
pub put_in : (s t : ColumnSet) (x : ColId) → IsSet s → (is_in s x.0 ≡ false) → ((k : ℕ) → round_of t.rounds k ≡ cond (k == x.0) s.round (round_of s.rounds k)) → t.columns.items ≡ s.columns.items ++ x ∷ [] → t.round ≡ s.round → IsSet t
put_in s t x h out rounds columns same =
    let listed : listed_in t ≡ listed_in s ++ x.0 ∷ [] = ap columns_of columns ∙ one_more s.columns.items x in
    let long = ap length columns ∙ length-append s.columns.items (x ∷ []) in
    let more = ap different listed ∙ different_more (listed_in s) x.0 ∙ ap (λ b. absent b + different (listed_in s)) (sym (h.marked x.0) ∙ out) in
    let once = h.once in
    record {
      marked = λ k. ap₂ (λ m n. m == n) (rounds k) same ∙ marked_by x.0 k s.round (round_of s.rounds k) (listed_in s) (k == x.0) refl (h.marked k) ∙ ap (λ ls. stands ls k) (sym listed);
      once = omega (arith, long, more, once);
      past = λ k. (let e = rounds k in let p = past_by (k == x.0) s.round (round_of s.rounds k) (h.past k) in omega (arith, e, p, same));
      begun = (let b = h.begun in omega (arith, b, same));
    }

-- ---- columns in a row

pub put_next : (old mid new : List ℕ) (cs : List ColId) (i : ℕ) (d : ColId) → i < length cs → stands mid ≡ stands (old ++ columns_of (take i cs)) → stands new ≡ stands (mid ++ (get_or cs i d).0 ∷ [])
    → stands new ≡ stands (old ++ columns_of (take (i + 1) cs))
put_next old mid new cs i d below so_far step =
    let x = get_or cs i d in
    step ∙ joined_alike mid (old ++ columns_of (take i cs)) (x.0 ∷ []) (x.0 ∷ []) so_far refl
    ∙ ap stands (append_assoc old (columns_of (take i cs)) (x.0 ∷ []))
    ∙ ap (λ ds. stands (old ++ ds)) (sym (map_more (λ (c : ColId). c.0) cs i d below))

-- what is put in now, and then the rest
pub put_on : (mid new now rest whole : List ℕ) → stands new ≡ stands (mid ++ now) → stands (mid ++ (now ++ rest)) ≡ stands whole → stands (new ++ rest) ≡ stands whole
put_on mid new now rest whole step all = joined_alike new (mid ++ now) rest rest step refl ∙ ap stands (append_assoc mid now rest) ∙ all
