-- What happens in a run, put together from the front, and counted from the end.
use Rattle.std.proofs.Common.{ℤ, ◌-◌, ap₂, ◌≡◌, ℕ, zero, suc, ◌+◌, ◌<◌, ◌≤◌, Bool, true, false, cond, nat_lt, List, [], ◌∷◌, ◌++◌, map, drop, length, get_or, refl, sym, ap, ◌∙◌, arith}
use Rattle.std.specs.Prelude.{Vec, reverse}
use Rattle.std.specs.declared.alloc.Global.{Global}
use Rattle.std.specs.List.{list_all}
use Rattle.std.proofs.lemmas.List.{drop_more, map-append, reverse-append}
use Rattle.std.proofs.lemmas.List.Folds.{list_all-append}
use Rattle.std.proofs.lemmas.Bool.{and_from}
use Rattle.lc_lemmas.proofs.Booleans.{left_true, right_true}
use Rattle.lc_lemmas.proofs.Numbers.{below_from_test}
use Rattle.lc_seq.specs.Sequential.{Call}
use Rattle.lc_seq.specs.SpecView.{text_call_of, choice_of}
use Rattle.lc_seq.specs.declared.choice.Pick.{Pick}
use Rattle.lc_seq.specs.declared.text_call.TextCall.{TextCall}
use Rattle.lc_history.specs.declared.event.Done.{Done}
use Rattle.lc_history.specs.View as H
use Rattle.lc_machine.specs.Step.{Event, Invoked, Moved, Returned}
use Rattle.lc_rider.specs.Rider.{Mark}
use Rattle.lc_sound.specs.Happening as S
use Rattle.lc_sound.specs.Happening.{Happens, Marked, counted, returns_next}
use Rattle.lc_sound.specs.Instrumented.{Label, event_of}
use Rattle.lc_sound.specs.Order.{called_last, marked, happenings}
use Rattle.lc_run.specs.LabelView.{labels_of}
use Rattle.lc_run.specs.Ordering.{order_entries, happening_of, happenings_of, has_client, is_within, counted_first, is_small}
use Rattle.lc_run.specs.declared.label.Label as code
use Rattle.lc_run.specs.declared.ordering.Happening.{Happening}

-- ---- clients

-- only clients begin calls and return
pub happenings_within : (n : ℕ) (calls : ℕ → Call) (ls : List Label) → list_all (has_client n) ls ≡ true → list_all (is_within n) (happenings calls ls) ≡ true
happenings_within n calls [] h = refl
happenings_within n calls (l ∷ ls) h =
    let rest = happenings_within n (called_last calls l.client l.what) ls (right_true (has_client n l) (list_all (has_client n) ls) h) in
    joined (map (marked calls) l.marks) _ (marks-are l.marks) (joined (map Happens (event_of l.client l.what)) _ (event-is l.what (left_true (has_client n l) (list_all (has_client n) ls) h)) rest)
  where
    joined : (xs ys : List S.Happening) → list_all (is_within n) xs ≡ true → list_all (is_within n) ys ≡ true → list_all (is_within n) (xs ++ ys) ≡ true
    joined xs ys a b = list_all-append (is_within n) xs ys ∙ and_from _ _ a b

    marks-are : (ms : List Mark) → list_all (is_within n) (map (marked calls) ms) ≡ true
    marks-are [] = refl
    marks-are (m ∷ ms) = marks-are ms

    event-is : (what : Event) → nat_lt l.client n ≡ true → list_all (is_within n) (map Happens (event_of l.client what)) ≡ true
    event-is (Invoked o numbers) e = and_from _ _ e refl
    event-is (Moved point edge) e = refl
    event-is (Returned numbers) e = and_from _ _ e refl

-- ---- from the end

pub counted-is : (h : S.Happening) (hs : List S.Happening) → counted (h ∷ hs) ≡ counted_first (λ c. returns_next c hs) h ++ counted hs
counted-is (Happens event) hs = refl
counted-is (Marked false entry) hs = refl
counted-is (Marked true entry) hs = by (returns_next entry.client hs)
  where
    by : (b : Bool) → cond b (entry ∷ counted hs) (counted hs) ≡ cond b (entry ∷ []) [] ++ counted hs
    by true = refl
    by false = refl

-- what is counted does not depend on how it is known which clients have a return next
pub counted-as : (f g : ℕ → Bool) (h : S.Happening) → ((c : ℕ) → f c ≡ g c) → counted_first f h ≡ counted_first g h
counted-as f g (Happens event) e = refl
counted-as f g (Marked false entry) e = refl
counted-as f g (Marked true entry) e = ap (λ b. cond b (entry ∷ []) []) (e entry.client)

-- what is left after a place, taken from the end
pub next-left : (hs : List Happening) (place : ℕ) (x : Happening) → 0 < place → place ≤ length hs → x ≡ get_or hs (place - 1) x → happenings_of (drop (place - 1) hs) ≡ happening_of x ∷ happenings_of (drop place hs)
next-left hs place x some le is =
    let n = place - 1 in
    let next : n + 1 ≡ place = omega arith in
    ap happenings_of (drop_more hs n x (omega arith) ∙ ap₂ (λ y k. y ∷ drop k hs) (sym is) next)

pub behind-small : (p : ℕ) (hs : List Happening) → list_all is_small (counted (happenings_of hs)) ≡ true → list_all is_small (counted (happenings_of (drop p hs))) ≡ true
behind-small zero hs e = e
behind-small (suc p) [] e = e
behind-small (suc p) (h ∷ hs) e =
    let f = λ (c : ℕ). returns_next c (happenings_of hs) in
    behind-small p hs (right_true (list_all is_small (counted_first f (happening_of h))) (list_all is_small (counted (happenings_of hs)))
    (sym (ap (list_all is_small) (counted-is (happening_of h) (happenings_of hs)) ∙ list_all-append is_small (counted_first f (happening_of h)) (counted (happenings_of hs))) ∙ e))

-- ---- one by one, from the end

-- of the first of these
pub first-small : (f : ℕ → Bool) (h : S.Happening) (hs : List S.Happening) → ((c : ℕ) → f c ≡ returns_next c hs) → list_all is_small (counted (h ∷ hs)) ≡ true → list_all is_small (counted_first f h) ≡ true
first-small f h hs known e =
    let g = λ (c : ℕ). returns_next c hs in
    ap (list_all is_small) (counted-as f g h known)
    ∙ left_true (list_all is_small (counted_first g h)) (list_all is_small (counted hs)) (sym (ap (list_all is_small) (counted-is h hs) ∙ list_all-append is_small (counted_first g h) (counted hs)) ∙ e)

behind-within : (n p : ℕ) (hs : List Happening) → list_all (is_within n) (happenings_of hs) ≡ true → list_all (is_within n) (happenings_of (drop p hs)) ≡ true
behind-within n zero hs e = e
behind-within n (suc p) [] e = e
behind-within n (suc p) (h ∷ hs) e = behind-within n p hs (right_true (is_within n (happening_of h)) (list_all (is_within n) (happenings_of hs)) e)

pub first-within : (n p : ℕ) (h : S.Happening) (rest : List S.Happening) (hs : List Happening) → happenings_of (drop p hs) ≡ h ∷ rest → list_all (is_within n) (happenings_of hs) ≡ true → is_within n h ≡ true
first-within n p h rest hs at e = left_true (is_within n h) (list_all (is_within n) rest) (sym (ap (list_all (is_within n)) at) ∙ behind-within n p hs e)

map-reverse : {A B : Type 0} (f : A → B) (xs : List A) → map f (reverse xs) ≡ reverse (map f xs)
map-reverse f [] = refl
map-reverse f (x ∷ xs) =
    ap (map f) (reverse-append (x ∷ []) xs) ∙ (map-append f (reverse xs) (reverse (x ∷ [])) ∙ (ap (λ ys. ys ++ f x ∷ []) (map-reverse f xs) ∙ sym (reverse-append (f x ∷ []) (map f xs))))

-- entries from the last to the first
pub shown-reverse : (es : List (Done TextCall Pick (Vec ℤ Global))) → order_entries (reverse es) ≡ reverse (order_entries es)
shown-reverse es = map-reverse (H.entry_of text_call_of choice_of (λ (reply : Vec ℤ Global). reply.items)) es

-- ---- the clients of labels

-- the label at a place among those of n clients
pub client-at : (n i : ℕ) (ls : List code.Label) (x : code.Label) → list_all (has_client n) (labels_of ls) ≡ true → i < length ls → x ≡ get_or ls i x → x.client < n
client-at n i [] x e m is = absurd (omega arith)
client-at n zero (l ∷ ls) x e m is = below_from_test x.client n (ap (λ (y : code.Label). nat_lt y.client n) is ∙ left_true (nat_lt l.client n) (list_all (has_client n) (labels_of ls)) e)
client-at n (suc i) (l ∷ ls) x e m is = client-at n i ls x (right_true (nat_lt l.client n) (list_all (has_client n) (labels_of ls)) e) (omega arith) is
