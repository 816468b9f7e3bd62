-- An object that has another name beside `events` and `order` has no parts.
use Rattle.std.proofs.Common.{◌≡◌, ℕ, List, [], Bool, true, false, true≢false, ◌==◌, eqb-true, Option, Some, None, is_some, option_map, option_and_then, Ordering, Less, Equal, Greater, nat_cmp, is_eq, bytes_eq, inl, inr, refl, sym, ap, subst, ◌∙◌, arith}
use Rattle.std.specs.Prelude.{◌⊎◌, if◌then◌else◌, codes}
use Rattle.std.specs.Ordering.{match_ordering}
use Rattle.std.specs.Cmp.Lexicographic.{slice_cmp}
use Rattle.std.proofs.lemmas.Slice.Eq.{bytes_eq-Decides}
use Rattle.std.proofs.lemmas.Map.Text.{is_eq-slice_cmp}
use Rattle.json.specs.Json as json
use Rattle.json.proofs.Found.{not_found}
use Rattle.serde_json.specs.Data.{Data, object, Members, no_members, member, put}
use Rattle.serde_json.specs.Events.{members_len}
use Rattle.serde_json.specs.Find.{get_member, as_array}
use Rattle.serde_json.specs.Read.{of_json, of_members}
use Rattle.serde_json.proofs.Views.{get_member-put, get_member-put_other}
use Rattle.lc_hist.specs.JsonHistories.{Parts, parts_in}
use Rattle.lc_hist.specs.JsonRecorded.{recorded_in}
use Rattle.lc_hist.specs.JsonSeen.{HasNoParts}
use Rattle.lc_hist.specs.JsonValues.{values_in}

-- another name is looked for after a member
skipped : (o : Ordering) (a b : Option Data) → is_eq o ≡ false → match_ordering o a b a ≡ a
skipped Less a b e = refl
skipped Equal a b e = absurd (true≢false e)
skipped Greater a b e = refl

here_or_behind : (q k : List ℕ) (d : Data) (ms : Members) (b : Bool) → bytes_eq q k ≡ b → (q ≡ k) ⊎ (get_member q (member k d ms) ≡ get_member q ms)
here_or_behind q k d ms true e = inl ((bytes_eq-Decides q k).0 e)
here_or_behind q k d ms false e = inr (skipped (slice_cmp nat_cmp q k) (get_member q ms) (Some d) (is_eq-slice_cmp q k ∙ e))

-- a name that has a value in an object of two members is one of theirs
one_of_two : (q k l : List ℕ) (d e v : Data) → get_member q (member k d (member l e no_members)) ≡ Some v → (q ≡ k) ⊎ (q ≡ l)
one_of_two q k l d e v found = first (here_or_behind q k d (member l e no_members) (bytes_eq q k) refl)
  where
    second : get_member q (member l e no_members) ≡ Some v → (q ≡ l) ⊎ (get_member q (member l e no_members) ≡ None) → (q ≡ k) ⊎ (q ≡ l)
    second some (inl same) = inr same
    second some (inr none) = not_found v (sym none ∙ some)

    first : (q ≡ k) ⊎ (get_member q (member k d (member l e no_members)) ≡ get_member q (member l e no_members)) → (q ≡ k) ⊎ (q ≡ l)
    first (inl same) = inl same
    first (inr behind) = second (sym behind ∙ found) (here_or_behind q l e no_members (bytes_eq q l) refl)

apart : codes "events" ≡ codes "order" → ⊥
apart e = true≢false (sym ((bytes_eq-Decides (codes "events") (codes "order")).1 e))

no_third : (k l q : List ℕ) → (q ≡ codes "events" → ⊥) → (q ≡ codes "order" → ⊥) → (codes "events" ≡ k) ⊎ (codes "events" ≡ l) → (codes "order" ≡ k) ⊎ (codes "order" ≡ l) → (q ≡ k) ⊎ (q ≡ l) → ⊥
no_third k l q other another (inl e) (inl o) third = apart (e ∙ sym o)
no_third k l q other another (inr e) (inr o) third = apart (e ∙ sym o)
no_third k l q other another (inl e) (inr o) (inl t) = other (t ∙ sym e)
no_third k l q other another (inl e) (inr o) (inr t) = another (t ∙ sym o)
no_third k l q other another (inr e) (inl o) (inl t) = another (t ∙ sym o)
no_third k l q other another (inr e) (inl o) (inr t) = other (t ∙ sym e)

not_three : (all : Members) (q : List ℕ) (x y v : Data) → members_len all ≡ 2 → (q ≡ codes "events" → ⊥) → (q ≡ codes "order" → ⊥)
    → get_member (codes "events") all ≡ Some x → get_member (codes "order") all ≡ Some y → get_member q all ≡ Some v → ⊥
not_three no_members q x y v two other another events order third = not_found x events
not_three (member k d no_members) q x y v two other another events order third = omega (arith, two)
not_three (member k d (member l e no_members)) q x y v two other another events order third =
    no_third k l q other another (one_of_two (codes "events") k l d e x events) (one_of_two (codes "order") k l d e y order) (one_of_two q k l d e v third)
not_three (member k d (member l e (member m f ms))) q x y v two other another events order third = omega (arith, two)

-- the parts of an object, if it has two members, and each of these is an array
abbrev paired : Bool → Option (List Data) → Option (List Data) → Option Parts
paired two events order = if two then option_and_then (λ e. option_map (λ o. record { events = e; order = o }) order) events else None

abbrev listed : Option Data → Option (List Data)
listed o = option_map values_in (option_and_then as_array o)

none_behind : (two : Bool) (events : Option (List Data)) → paired two events None ≡ None
none_behind false events = refl
none_behind true None = refl
none_behind true (Some e) = refl

-- an object with a third name has no parts
third_name : (all : Members) (q : List ℕ) (v : Data) → (q ≡ codes "events" → ⊥) → (q ≡ codes "order" → ⊥) → get_member q all ≡ Some v → parts_in (object all) ≡ None
third_name all q v other another third = go (members_len all == 2) refl (get_member (codes "events") all) refl (get_member (codes "order") all) refl
  where
    go : (two : Bool) → (members_len all == 2) ≡ two → (e : Option Data) → get_member (codes "events") all ≡ e → (o : Option Data) → get_member (codes "order") all ≡ o
        → paired two (listed e) (listed o) ≡ None
    go false is e events o order = refl
    go true is None events o order = refl
    go true is (Some x) events None order = none_behind true (listed (Some x))
    go true is (Some x) events (Some y) order = absurd (not_three all q x y v (eqb-true _ _ is) other another events order third)

-- ---- if the order may be left out

one_of_one : (q k : List ℕ) (d v : Data) → get_member q (member k d no_members) ≡ Some v → q ≡ k
one_of_one q k d v found = elim (here_or_behind q k d no_members (bytes_eq q k) refl) [ inl same ↦ same | inr none ↦ not_found v (sym none ∙ found) ]

not_two : (all : Members) (q : List ℕ) (x v : Data) → members_len all ≡ 1 → (q ≡ codes "events" → ⊥) → get_member (codes "events") all ≡ Some x → get_member q all ≡ Some v → ⊥
not_two no_members q x v one other events found = not_found x events
not_two (member k d no_members) q x v one other events found = other (one_of_one q k d v found ∙ sym (one_of_one (codes "events") k d x events))
not_two (member k d (member l e ms)) q x v one other events found = omega (arith, one)

-- the events alone, if an object has one member, and else its parts
abbrev one_or_two : Bool → Option (List Data) → Option Parts → Option Parts
one_or_two one events both = if one then option_map (λ e. record { events = e; order = [] }) events else both

-- nor has it any if the order may be left out
third_recorded : (all : Members) (q : List ℕ) (v : Data) → (q ≡ codes "events" → ⊥) → (q ≡ codes "order" → ⊥) → get_member q all ≡ Some v → recorded_in (object all) ≡ None
third_recorded all q v other another third = go (members_len all == 1) refl (get_member (codes "events") all) refl
  where
    go : (one : Bool) → (members_len all == 1) ≡ one → (e : Option Data) → get_member (codes "events") all ≡ e → one_or_two one (listed e) (parts_in (object all)) ≡ None
    go false is e events = third_name all q v other another third
    go true is None events = refl
    go true is (Some x) events = absurd (not_two all q x v (eqb-true _ _ is) other events third)

-- ---- a name that was put stays

put_keeps : (q k : List ℕ) (d : Data) (before : Members) (b : Bool) → bytes_eq q k ≡ b → is_some (get_member q before) ≡ true → is_some (get_member q (put k d before)) ≡ true
put_keeps q k d before true same some = subst (λ r. is_some (get_member r (put k d before)) ≡ true) (sym ((bytes_eq-Decides q k).0 same)) (ap is_some (get_member-put k d before))
put_keeps q k d before false other some = ap is_some (get_member-put_other q k d before (λ e. true≢false (sym ((bytes_eq-Decides q k).1 e) ∙ other))) ∙ some

name_stays : (ms : json.Members) (before all : Members) (q : List ℕ) → of_members ms before ≡ Some all → is_some (get_member q before) ≡ true → is_some (get_member q all) ≡ true
name_stays json.no_members before all q e some = let same : before ≡ all = cc in rw (← same) some
name_stays (json.member k j ms) before all q e some = go (λ d h. name_stays ms (put k d before) all q h (put_keeps q k d before (bytes_eq q k) refl some)) (of_json j) e
  where
    go : ((d : Data) → of_members ms (put k d before) ≡ Some all → is_some (get_member q all) ≡ true) → (o : Option Data) → option_and_then (λ d. of_members ms (put k d before)) o ≡ Some all → is_some (get_member q all) ≡ true
    go rest None h = absurd cc
    go rest (Some d) h = rest d h

-- an object into which another name was put has no parts, nor if the order may be left out
pub third_key : (ms : json.Members) (before all : Members) (k : List ℕ) (d : Data) → (k ≡ codes "events" → ⊥) → (k ≡ codes "order" → ⊥) → of_members ms (put k d before) ≡ Some all → HasNoParts (object all)
third_key ms before all k d other another made = go (get_member k all) refl (name_stays ms (put k d before) all k made (ap is_some (get_member-put k d before)))
  where
    go : (o : Option Data) → get_member k all ≡ o → is_some o ≡ true → HasNoParts (object all)
    go None is none = absurd (true≢false (sym none))
    go (Some v) is some = (third_name all k v other another is, third_recorded all k v other another is)
