-- Texts that are kept by their pieces: a key is that of one text.
use Rattle.std.proofs.Common.{◌≡◌, ℕ, suc, ◌+◌, ◌<◌, Bool, true, false, cond, not, ◌||◌, nat_lt, List, [], ◌∷◌, ◌++◌, length, get_or, take, drop, map, Option, Some, None, inl, inr, refl, sym, ap, ap₂, ◌∙◌, subst, append_assoc, append-nil, arith}
use Rattle.std.proofs.lemmas.Bool.{cases_lt, lt-ltb, le-ltb}
use Rattle.std.proofs.lemmas.List.{map-append, take_more, drop_more, take-append-drop}
use Rattle.std.specs.Borrow.{Bor}
use Rattle.std.specs.List.{flat_map, list_any, position_or_len}
use Rattle.std.specs.Prelude.{option_map, option_and_then, slice_index_or, position, Vec}
use Rattle.std.specs.declared.alloc.Global.{Global}
use Rattle.indexmap.specs.IndexSet.{insert_key}
use Rattle.lc_reading.proofs.Words.{is-true}
use Rattle.lc_reading.specs.Listed.{place_of}
use Rattle.lc_reading.specs.Words.{is}
use Rattle.lc_carry.specs.Pieces.{depth_behind, begins, pieces_behind, pieces, kept_in, KeepsPieces, key_of, joined}
use Rattle.lc_text.proofs.Printed.{same_refl}
use Rattle.lc_reading.proofs.Places.{placed_before}

-- ---- pieces

one_more : (here : Bool) (w t : List ℕ) (b : ℕ) (begun longer : List (List ℕ)) → flat_map (λ (p : List ℕ). p) begun ≡ (b ∷ []) ++ t → flat_map (λ (p : List ℕ). p) longer ≡ (w ++ b ∷ []) ++ t
    → flat_map (λ (p : List ℕ). p) (cond here (w ∷ begun) longer) ≡ w ++ b ∷ t
one_more true w t b begun longer h k = ap (λ l. w ++ l) h
one_more false w t b begun longer h k = k ∙ append_assoc w (b ∷ []) t

-- pieces joined are the text
behind-joined : (n : ℕ) (w t : List ℕ) → flat_map (λ (p : List ℕ). p) (pieces_behind n w t) ≡ w ++ t
behind-joined n w [] = refl
behind-joined n w (b ∷ t) =
    one_more (begins n b) w t b (pieces_behind (depth_behind n b) (b ∷ []) t) (pieces_behind (depth_behind n b) (w ++ b ∷ []) t)
    (behind-joined (depth_behind n b) (b ∷ []) t) (behind-joined (depth_behind n b) (w ++ b ∷ []) t)

-- ---- numbers of pieces

at_place : (v w : List ℕ) (vs : List (List ℕ)) (k : ℕ) (here : Bool) (o : Option ℕ) → (here ≡ true → w ≡ v) → ((j : ℕ) → o ≡ Some j → slice_index_or vs j [] ≡ w)
    → cond here (Some 0) (option_map suc o) ≡ Some k → slice_index_or (v ∷ vs) k [] ≡ w
at_place v w vs k true o same later h = let zero_is : 0 ≡ k = cc in subst (λ j. slice_index_or (v ∷ vs) j [] ≡ w) zero_is (sym (same refl))
at_place v w vs k false None same later h = absurd (let none : None ≡ Some k = h in cc)
at_place v w vs k false (Some j) same later h = let next : suc j ≡ k = cc in subst (λ i. slice_index_or (v ∷ vs) i [] ≡ w) next (later j refl)

-- a piece is at its number
pub piece_at : (kept : List (List ℕ)) (w : List ℕ) (k : ℕ) → place_of kept w ≡ Some k → slice_index_or kept k [] ≡ w
piece_at [] w k h = absurd (let none : None ≡ Some k = h in cc)
piece_at (v ∷ vs) w k h = at_place v w vs k (is w v) (place_of vs w) (is-true w v) (piece_at vs w) h

-- ---- keys

first_of : (o : Option ℕ) (os : Option (List ℕ)) (key : List ℕ) → option_and_then (λ (k : ℕ). option_map (λ (ks : List ℕ). k ∷ ks) os) o ≡ Some key
    → (k : ℕ) × (ks : List ℕ) × (o ≡ Some k) × (os ≡ Some ks) × (k ∷ ks ≡ key)
first_of None os key h = absurd (let none : None ≡ Some key = h in cc)
first_of (Some k) None key h = absurd (let none : None ≡ Some key = h in cc)
first_of (Some k) (Some ks) key h = (k, ks, refl, refl, cc)

key-joined : (kept ws : List (List ℕ)) (key : List ℕ) → key_of kept ws ≡ Some key → joined kept key ≡ flat_map (λ (w : List ℕ). w) ws
key-joined kept [] key h = let none : [] ≡ key = cc in subst (λ ks. joined kept ks ≡ []) none refl
key-joined kept (w ∷ ws) key h =
    let (k, ks, here, later, is_key) = first_of (place_of kept w) (key_of kept ws) key h in
    subst (λ l. joined kept l ≡ w ++ flat_map (λ (v : List ℕ). v) ws) is_key (ap₂ (λ a b. a ++ b) (piece_at kept w k here) (key-joined kept ws ks later))

key-kept : (kept more ws : List (List ℕ)) (key : List ℕ) → key_of kept ws ≡ Some key → key_of (kept ++ more) ws ≡ Some key
key-kept kept more [] key h = h
key-kept kept more (w ∷ ws) key h =
    let (k, ks, here, later, is_key) = first_of (place_of kept w) (key_of kept ws) key h in
    ap₂ (λ o os. option_and_then (λ (j : ℕ). option_map (λ (js : List ℕ). j ∷ js) os) o) (placed_before kept more w k here) (key-kept kept more ws ks later) ∙ ap Some is_key

-- the text of a key is that from which it was made
pub text_of_key : (kept : List (List ℕ)) (t key : List ℕ) → key_of kept (pieces t) ≡ Some key → joined kept key ≡ t
text_of_key kept t key h = key-joined kept (pieces t) key h ∙ behind-joined 0 [] t

-- and more pieces leave it
pub key_later : (kept now ws : List (List ℕ)) (key : List ℕ) → KeepsPieces kept now → key_of kept ws ≡ Some key → key_of now ws ≡ Some key
key_later kept now ws key keeps h = ap (λ l. key_of l ws) keeps.1 ∙ key-kept kept keeps.0 ws key h

-- one piece more after others
key-push : (kept ws : List (List ℕ)) (w : List ℕ) (key : List ℕ) (k : ℕ) → key_of kept ws ≡ Some key → place_of kept w ≡ Some k → key_of kept (ws ++ w ∷ []) ≡ Some (key ++ k ∷ [])
key-push kept [] w key k h here = let none : [] ≡ key = cc in ap (option_and_then (λ (j : ℕ). Some (j ∷ []))) here ∙ ap (λ l. Some (l ++ k ∷ [])) none
key-push kept (v ∷ ws) w key k h here =
    let (j, js, first, later, is_key) = first_of (place_of kept v) (key_of kept ws) key h in
    ap₂ (λ o os. option_and_then (λ (i : ℕ). option_map (λ (is : List ℕ). i ∷ is) os) o) first (key-push kept ws w js k later here) ∙ ap (λ l. Some (l ++ k ∷ [])) is_key

none_behind : (o : Option ℕ) → option_and_then (λ (k : ℕ). option_map (λ (ks : List ℕ). k ∷ ks) None) o ≡ None
none_behind None = refl
none_behind (Some k) = refl

-- if a piece is not kept, there is no key
key-none : (kept ws : List (List ℕ)) (w : List ℕ) (rest : List (List ℕ)) → place_of kept w ≡ None → key_of kept (ws ++ w ∷ rest) ≡ None
key-none kept [] w rest none = ap (option_and_then (λ (k : ℕ). option_map (λ (ks : List ℕ). k ∷ ks) (key_of kept rest))) none
key-none kept (v ∷ ws) w rest none = ap (λ os. option_and_then (λ (k : ℕ). option_map (λ (ks : List ℕ). k ∷ ks) os) (place_of kept v)) (key-none kept ws w rest none) ∙ none_behind (place_of kept v)

-- ---- where a set has a piece

shifted : (m n : ℕ) → cond (nat_lt (1 + m) (suc n)) (Some (1 + m)) None ≡ option_map suc (cond (nat_lt m n) (Some m) None)
shifted m n =
    let next : 1 + m ≡ suc m = omega arith in
    elim (cases_lt m n) [
      | inl lt ↦ ap (λ b. cond b (Some (1 + m)) None) (lt-ltb (1 + m) (suc n) (omega (arith, lt))) ∙ ap Some next ∙ sym (ap (λ b. option_map suc (cond b (Some m) None)) (lt-ltb m n lt))
      | inr le ↦ ap (λ b. cond b (Some (1 + m)) None) (le-ltb (1 + m) (suc n) (omega (arith, le))) ∙ sym (ap (λ b. option_map suc (cond b (Some m) None)) (le-ltb m n le))
    ]

first_place : (here : Bool) (m n : ℕ) → cond (nat_lt (cond (not here) (1 + m) 0) (suc n)) (Some (cond (not here) (1 + m) 0)) None ≡ cond here (Some 0) (option_map suc (cond (nat_lt m n) (Some m) None))
first_place true m n = ap (λ b. cond b (Some 0) None) (lt-ltb 0 (suc n) (omega arith))
first_place false m n = shifted m n

-- the place at which a set finds a piece is its number
position-place : (ks : List (Vec ℕ Global)) (w : List ℕ) → position (λ (v : Vec ℕ Global). is w v.items) ks ≡ place_of (kept_in ks) w
position-place [] w = refl
position-place (v ∷ ks) w =
    first_place (is w v.items) (position_or_len (λ (u : Vec ℕ Global). is w u.items) ks) (length ks)
    ∙ ap (λ o. cond (is w v.items) (Some 0) (option_map suc o)) (position-place ks w)

-- the number of a piece that is entered
entered_by : (here there : Bool) (v : Vec ℕ Global) (u : List ℕ) (us : List (Vec ℕ Global)) (n : ℕ) → is v.items u ≡ here → place_of (kept_in (cond there us (us ++ v ∷ []))) v.items ≡ Some n
    → place_of (cond (here || there) (u ∷ kept_in us) (u ∷ kept_in (us ++ v ∷ []))) v.items ≡ Some (cond (not here) (1 + n) 0)
entered_by true there v u us n is_here later = ap (λ b. cond b (Some 0) (option_map suc (place_of (kept_in us) v.items))) is_here
entered_by false true v u us n is_here later =
    let next : suc n ≡ 1 + n = omega arith in
    ap (λ b. cond b (Some 0) (option_map suc (place_of (kept_in us) v.items))) is_here ∙ ap (option_map suc) later ∙ ap Some next
entered_by false false v u us n is_here later =
    let next : suc n ≡ 1 + n = omega arith in
    ap (λ b. cond b (Some 0) (option_map suc (place_of (kept_in (us ++ v ∷ [])) v.items))) is_here ∙ ap (option_map suc) later ∙ ap Some next

kept_by : (b : Bool) (u : Vec ℕ Global) (us ks : List (Vec ℕ Global)) → kept_in (cond b (u ∷ us) (u ∷ ks)) ≡ cond b (u.items ∷ kept_in us) (u.items ∷ kept_in ks)
kept_by true u us ks = refl
kept_by false u us ks = refl

pub place_in_inserted : (ks : List (Vec ℕ Global)) (v : Vec ℕ Global) → place_of (kept_in (insert_key (λ (x y : Vec ℕ Global). is x.items y.items) ks v)) v.items ≡ Some (position_or_len (λ (u : Vec ℕ Global). is v.items u.items) ks)
place_in_inserted [] v = ap (λ b. cond b (Some 0) None) (same_refl v.items)
place_in_inserted (u ∷ us) v =
    let same = λ (x : Vec ℕ Global). is v.items x.items in
    ap (λ l. place_of l v.items) (kept_by (same u || list_any same us) u us (us ++ v ∷ []))
    ∙ entered_by (same u) (list_any same us) v u.items us (position_or_len same us) refl (place_in_inserted us v)

kept_more : (b : Bool) (ks : List (Vec ℕ Global)) (v : Vec ℕ Global) → KeepsPieces (kept_in ks) (kept_in (cond b ks (ks ++ v ∷ [])))
kept_more true ks v = ([], sym (append-nil (kept_in ks)))
kept_more false ks v = (v.items ∷ [], map-append (λ (w : Vec ℕ Global). w.items) ks (v ∷ []))

-- no piece that is kept loses its number
pub entered_keeps : (ks : List (Vec ℕ Global)) (v : Vec ℕ Global) → KeepsPieces (kept_in ks) (kept_in (insert_key (λ (x y : Vec ℕ Global). is x.items y.items) ks v))
entered_keeps ks v = kept_more (list_any (λ (u : Vec ℕ Global). is v.items u.items) ks) ks v

pub keeps_on : (kept now later : List (List ℕ)) → KeepsPieces kept now → KeepsPieces now later → KeepsPieces kept later
keeps_on kept now later a b = (a.0 ++ b.0, b.1 ∙ ap (λ l. l ++ b.0) a.1 ∙ append_assoc kept a.0 b.0)

-- ---- the pieces of a text, one by one

-- the number of one piece more
pub key_more : (kept : List (List ℕ)) (items : List (Bor (List ℕ))) (i : ℕ) (d : Bor (List ℕ)) (key now : List ℕ) (k : ℕ) → i < length items
    → key_of kept (map (λ (p : Bor (List ℕ)). p.now) (take i items)) ≡ Some key → place_of kept (get_or items i d).now ≡ Some k → now ≡ key ++ k ∷ []
    → key_of kept (map (λ (p : Bor (List ℕ)). p.now) (take (i + 1) items)) ≡ Some now
key_more kept items i d key now k lt before here is_now =
    let texts = λ (l : List (Bor (List ℕ))). map (λ (p : Bor (List ℕ)). p.now) l in
    ap (λ l. key_of kept (texts l)) (take_more items i d lt)
    ∙ ap (key_of kept) (map-append (λ (p : Bor (List ℕ)). p.now) (take i items) (get_or items i d ∷ []))
    ∙ key-push kept (texts (take i items)) (get_or items i d).now key k before here ∙ ap Some (sym is_now)

-- that of a piece which is found
pub found_more : (keys : List (Vec ℕ Global)) (items : List (Bor (List ℕ))) (i : ℕ) (d : Bor (List ℕ)) (key now : List ℕ) (k place : ℕ) → i < length items
    → key_of (kept_in keys) (map (λ (p : Bor (List ℕ)). p.now) (take i items)) ≡ Some key → Some place ≡ position (λ (v : Vec ℕ Global). is (get_or items i d).now v.items) keys → k ≡ place → now ≡ key ++ k ∷ []
    → key_of (kept_in keys) (map (λ (p : Bor (List ℕ)). p.now) (take (i + 1) items)) ≡ Some now
found_more keys items i d key now k place lt before found number is_now =
    key_more (kept_in keys) items i d key now k lt before (sym (position-place keys (get_or items i d).now) ∙ sym found ∙ ap Some (sym number)) is_now

-- if one is not found, the text has no key
pub none_more : (keys : List (Vec ℕ Global)) (items : List (Bor (List ℕ))) (i : ℕ) (d : Bor (List ℕ)) (ws : List (List ℕ)) → i < length items → map (λ (p : Bor (List ℕ)). p.now) items ≡ ws
    → None ≡ position (λ (v : Vec ℕ Global). is (get_or items i d).now v.items) keys → None ≡ key_of (kept_in keys) ws
none_more keys items i d ws lt cut none =
    let texts = λ (l : List (Bor (List ℕ))). map (λ (p : Bor (List ℕ)). p.now) l in
    let split : texts items ≡ texts (take i items) ++ (get_or items i d).now ∷ texts (drop (i + 1) items) =
    ap texts (sym (take-append-drop i items) ∙ ap (λ l. take i items ++ l) (drop_more items i d lt))
    ∙ map-append (λ (p : Bor (List ℕ)). p.now) (take i items) (get_or items i d ∷ drop (i + 1) items) in
    sym (ap (key_of (kept_in keys)) (sym cut ∙ split)
    ∙ key-none (kept_in keys) (texts (take i items)) (get_or items i d).now (texts (drop (i + 1) items)) (sym (position-place keys (get_or items i d).now) ∙ sym none))
