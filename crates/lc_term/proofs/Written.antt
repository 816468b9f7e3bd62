-- What is written to cells, and taken back.
use Rattle.std.proofs.Common.{◌≡◌, ℕ, ◌<◌, Bool, true, false, List, [], ◌∷◌, ◌++◌, length, map, get_or, set, Some, None, Option, refl, sym, ap, ◌∙◌, subst}
use Rattle.std.specs.Prelude.{ℤ, unwrap_or, if◌then◌else◌, IsSome, OnSome, Result, Ok, Err, OnOk, OnErr}
use Rattle.std.specs.Ordering.{int_eq}
use Rattle.std.proofs.lemmas.Bool.Decides.{Decides-int_eq}
use Rattle.std.proofs.lemmas.List.{get_or-set_same, get_or-map, map-set, length-map, length-set, set-set, set-get_or, get_or_default}
use Rattle.lc_term.specs.Meaning.{affine, stored}
use Rattle.lc_term.specs.State.{cells_of, state_of, column_at, column_count, with_cell}
use Rattle.lc_term.specs.Updates.{Write, stored_all, AreWithin}
use Rattle.lc_term.specs.Written.{Kept, written_in, kept_in, with_written, with_kept, no_column, kept_of, after_writes, taken_back, written_at, CanTakeBack, cells_from}
use Rattle.lc_term.specs.declared.state.Cells.{Cells}
use Rattle.lc_term.specs.declared.state.State.{State}
use Rattle.lc_term.specs.declared.state.Undo.{Undo}
use Rattle.lc_term.proofs.Cells.{column_at-write}

written_number : (here : Bool) (o : Option ℤ) (v n : ℤ) → unwrap_or (if here then Some v else o) n ≡ (if here then v else unwrap_or o n)
written_number true o v n = refl
written_number false o v n = refl

-- one more number written
cells_from-written : (kept : Kept) (i v : ℤ) → cells_from (with_written kept i (Some v)) ≡ stored (cells_from kept) i v
cells_from-written kept i v = λ p j. written_number (int_eq i j) (kept.written j) v (affine kept.slope kept.start j) p

state-kept : (xs : List Cells) → map cells_of xs ≡ map cells_from (map kept_in xs)
state-kept [] = refl
state-kept (x ∷ xs) = ap (λ fs. cells_of x ∷ fs) (state-kept xs)

-- the same is kept, so it is the same state
pub state-same : (s t : State) → kept_of s ≡ kept_of t → state_of s ≡ state_of t
state-same s t e = ap column_at (state-kept s.columns.items ∙ ap (map cells_from) e ∙ sym (state-kept t.columns.items))

pub count-same : (s t : State) → kept_of s ≡ kept_of t → length s.columns.items ≡ length t.columns.items
count-same s t e = sym (length-map s.columns.items kept_in) ∙ ap length e ∙ length-map t.columns.items kept_in

after-length : (ks : List Kept) (ws : List Write) → length (after_writes ks ws) ≡ length ks
after-length ks [] = refl
after-length ks (w ∷ ws) = after-length (with_kept ks w.column w.index (Some w.value)) ws ∙ length-set ks w.column _

pub count-after : (s t : State) (ws : List Write) → kept_of t ≡ after_writes (kept_of s) ws → length t.columns.items ≡ length s.columns.items
count-after s t ws e = sym (length-map t.columns.items kept_in) ∙ ap length e ∙ after-length (kept_of s) ws ∙ length-map s.columns.items kept_in

written-length : (ks : List Kept) (c : ℕ) (i v : ℤ) → length (with_kept ks c i (Some v)) ≡ length ks
written-length ks c i v = length-set ks c _

within : (count other : ℕ) → count ≡ other → (ws : List Write) → AreWithin count ws → AreWithin other ws
within count other e ws h = rw (← e) h

column-written : (ks : List Kept) (c : ℕ) (i v : ℤ) → c < length ks → column_at (map cells_from (with_kept ks c i (Some v))) ≡ with_cell (column_at (map cells_from ks)) c i v
column-written ks c i v h =
    let old = get_or ks c no_column in
    column_at-write cells_from ks c old (with_written old i (Some v)) i v h (get_or_default ks c no_column old h) (cells_from-written old i v)

-- the state after writes
pub state-after : (ks : List Kept) (ws : List Write) → AreWithin (length ks) ws → column_at (map cells_from (after_writes ks ws)) ≡ stored_all (column_at (map cells_from ks)) ws
state-after ks [] h = refl
state-after ks (w ∷ ws) h =
    state-after (with_kept ks w.column w.index (Some w.value)) ws (within _ _ (sym (written-length ks w.column w.index w.value)) ws h.1) ∙
    ap (λ s. stored_all s ws) (column-written ks w.column w.index w.value h.0)

pub written-state : (s t : State) (ws : List Write) → AreWithin (length s.columns.items) ws → kept_of t ≡ after_writes (kept_of s) ws → state_of t ≡ stored_all (state_of s) ws
written-state s t ws h e =
    ap column_at (state-kept t.columns.items ∙ ap (map cells_from) e) ∙
    state-after (kept_of s) ws (within _ _ (sym (length-map s.columns.items kept_in)) ws h) ∙
    ap (λ fs. stored_all (column_at fs) ws) (sym (state-kept s.columns.items))

-- one column changed
pub kept-changed : (xs : List Cells) (c : ℕ) (old new : Cells) (i : ℤ) (what : Option ℤ) → c < length xs → old ≡ get_or xs c old → kept_in new ≡ with_written (kept_in old) i what →
    map kept_in (set xs c new) ≡ with_kept (map kept_in xs) c i what
kept-changed xs c old new i what h is e =
    map-set kept_in xs c new ∙ ap (set (map kept_in xs) c) (e ∙ ap (λ k. with_written k i what) (sym (get_or-map kept_in xs c old no_column h ∙ ap kept_in (sym is))))

pub kept-unchanged : (xs : List Cells) (c : ℕ) (old new : Cells) → c < length xs → old ≡ get_or xs c old → kept_in new ≡ kept_in old → map kept_in (set xs c new) ≡ map kept_in xs
kept-unchanged xs c old new h is e =
    let ks = map kept_in xs in
    map-set kept_in xs c new ∙ ap (set ks c) (e ∙ sym (get_or-map kept_in xs c old no_column h ∙ ap kept_in (sym is))) ∙ set-get_or ks c no_column

back_at : (w : ℤ → Option ℤ) (i v j : ℤ) (here : Bool) → int_eq i j ≡ here → (if here then w i else (if here then Some v else w j)) ≡ w j
back_at w i v j true e = ap w ((Decides-int_eq i j).0 e)
back_at w i v j false e = refl

back : (w : ℤ → Option ℤ) (i v : ℤ) → (λ (j : ℤ). if int_eq i j then w i else (if int_eq i j then Some v else w j)) ≡ w
back w i v = λ p j. back_at w i v j (int_eq i j) refl p

kept_back : (kept : Kept) (i v : ℤ) (before : Option ℤ) → before ≡ kept.written i → with_written (with_written kept i (Some v)) i before ≡ kept
kept_back kept i v before e =
    ap (with_written (with_written kept i (Some v)) i) e ∙
    ap (λ (w : ℤ → Option ℤ). let k : Kept = record { slope = kept.slope; start = kept.start; written = w } in k) (back kept.written i v)

-- a write that is taken back
pub kept-restored : (ks : List Kept) (c : ℕ) (i v : ℤ) (before : Option ℤ) → c < length ks → before ≡ (get_or ks c no_column).written i →
    with_kept (with_kept ks c i (Some v)) c i before ≡ ks
kept-restored ks c i v before h e =
    let old = get_or ks c no_column in
    let new = with_written old i (Some v) in
    ap (λ k. set (set ks c new) c (with_written k i before)) (get_or-set_same ks c new no_column h) ∙
    set-set ks c new (with_written new i before) ∙
    ap (set ks c) (kept_back old i v before e) ∙
    set-get_or ks c no_column

here : (i : ℤ) (v : ℤ) (o : Option ℤ) (b : Bool) → b ≡ true → IsSome (if b then Some v else o)
here i v o true e = refl
here i v o false e = cc

-- what was just written is there
pub is-written : (ks : List Kept) (c : ℕ) (i v : ℤ) → c < length ks → IsSome (written_at (with_kept ks c i (Some v)) c i)
is-written ks c i v h =
    let old = get_or ks c no_column in
    rw (get_or-set_same ks c (with_written old i (Some v)) no_column h, written_at) (here i v (old.written i) (int_eq i i) ((Decides-int_eq i i).1 refl))

on_ok_by : {T E P Q : Type 0} → (P → Q) → (r : Result T E) → OnOk r P → OnOk r Q
on_ok_by f (Ok x) h = f h
on_ok_by f (Err e) h = tt

on_err_by : {T E P Q : Type 0} → (P → Q) → (r : Result T E) → OnErr r P → OnErr r Q
on_err_by f (Ok x) h = tt
on_err_by f (Err e) h = f h

count_by : {T E : Type 0} (s t : State) (ws : List Write) (r : Result T E) → OnOk r (kept_of t ≡ after_writes (kept_of s) ws) → OnErr r (kept_of t ≡ kept_of s) →
    length t.columns.items ≡ length s.columns.items
count_by s t ws (Ok x) h k = count-after s t ws h
count_by s t ws (Err e) h k = count-same t s k

column_count-is : (s : State) → column_count s ≡ length s.columns.items
column_count-is s = length-map s.columns.items cells_of

-- what `write_each` gives, seen as states
pub written-ok : {T E : Type 0} (s t : State) (ws : List Write) (r : Result T E) → AreWithin (column_count s) ws → OnOk r (kept_of t ≡ after_writes (kept_of s) ws) →
    OnOk r (state_of t ≡ stored_all (state_of s) ws)
written-ok s t ws r h = on_ok_by (written-state s t ws (within _ _ (column_count-is s) ws h)) r

pub written-err : {T E : Type 0} (s t : State) (r : Result T E) → OnErr r (kept_of t ≡ kept_of s) → OnErr r (state_of t ≡ state_of s)
written-err s t r = on_err_by (state-same t s) r

pub written-count : {T E : Type 0} (s t : State) (ws : List Write) (r : Result T E) → OnOk r (kept_of t ≡ after_writes (kept_of s) ws) → OnErr r (kept_of t ≡ kept_of s) →
    column_count t ≡ column_count s
written-count s t ws r h k = column_count-is t ∙ count_by s t ws r h k ∙ sym (column_count-is s)

length-same : (xs : List Cells) (c : ℕ) (new : Cells) → c < length xs → c < length (map kept_in (set xs c new))
length-same xs c new h = rw (length-map, length-set) h

-- one more that is taken back, before the others
pub taken_back-more : (ks : List Kept) (us : List Undo) (u : Undo) → taken_back ks (us ++ u ∷ []) ≡ taken_back (with_kept ks u.column.0 u.index u.before) us
taken_back-more ks [] u = refl
taken_back-more ks (v ∷ us) u = ap (λ l. with_kept l v.column.0 v.index v.before) (taken_back-more ks us u)

pub can-more : (ks : List Kept) (us : List Undo) (u : Undo) → u.column.0 < length ks → OnSome u.before (IsSome (written_at ks u.column.0 u.index)) →
    CanTakeBack (with_kept ks u.column.0 u.index u.before) us → CanTakeBack ks (us ++ u ∷ [])
can-more ks [] u small some can = (small, some, tt)
can-more ks (v ∷ us) u small some can =
    let e = sym (taken_back-more ks us u) in (
      subst (λ l. v.column.0 < length l) e can.0,
      subst (λ l. OnSome v.before (IsSome (written_at l v.column.0 v.index))) e can.1,
      can-more ks us u small some can.2,
    )

pub can-less : (ks : List Kept) (us : List Undo) (u : Undo) → CanTakeBack ks (us ++ u ∷ []) →
    (u.column.0 < length ks) × OnSome u.before (IsSome (written_at ks u.column.0 u.index)) × CanTakeBack (with_kept ks u.column.0 u.index u.before) us
can-less ks [] u can = (can.0, can.1, tt)
can-less ks (v ∷ us) u can =
    let e = taken_back-more ks us u in
    let rest = can-less ks us u can.2 in (
      rest.0,
      rest.1,
      (subst (λ l. v.column.0 < length l) e can.0, subst (λ l. OnSome v.before (IsSome (written_at l v.column.0 v.index))) e can.1, rest.2),
    )

-- a note with which these columns become those before it
abbrev pub IsNote : List Kept → List Kept → Undo → Type 0
IsNote ks new u =
    (u.column.0 < length new) × OnSome u.before (IsSome (written_at new u.column.0 u.index)) × (with_kept new u.column.0 u.index u.before ≡ ks)

pub noted-back : (ks new : List Kept) (us : List Undo) (u : Undo) → IsNote ks new u → taken_back new (us ++ u ∷ []) ≡ taken_back ks us
noted-back ks new us u note = taken_back-more new us u ∙ ap (λ l. taken_back l us) note.2

pub noted-can : (ks new : List Kept) (us : List Undo) (u : Undo) → IsNote ks new u → CanTakeBack ks us → CanTakeBack new (us ++ u ∷ [])
noted-can ks new us u note can = can-more new us u note.0 note.1 (subst (λ l. CanTakeBack l us) (sym note.2) can)

on_some : {P : Type 0} (o : Option ℤ) → P → OnSome o P
on_some None h = tt
on_some (Some x) h = h

there : (o p : Option ℤ) → o ≡ p → OnSome o (IsSome p)
there None p e = tt
there (Some x) p e = subst IsSome e refl

old_at : (xs : List Cells) (c : ℕ) (old : Cells) → c < length xs → old ≡ get_or xs c old → kept_in old ≡ get_or (map kept_in xs) c no_column
old_at xs c old h is = ap kept_in is ∙ sym (get_or-map kept_in xs c old no_column h)

-- the note of a write
pub note-written : (xs : List Cells) (c : ℕ) (old new : Cells) (i v : ℤ) (u : Undo) → c < length xs → old ≡ get_or xs c old → kept_in new ≡ with_written (kept_in old) i (Some v) →
    u.column.0 ≡ c → u.index ≡ i → u.before ≡ written_in old i → IsNote (map kept_in xs) (map kept_in (set xs c new)) u
note-written xs c old new i v u h is e at_column at_index at_before =
    let ks = map kept_in xs in
    let now : map kept_in (set xs c new) ≡ with_kept ks c i (Some v) = kept-changed xs c old new i (Some v) h is e in
    let before : u.before ≡ (get_or ks c no_column).written i = at_before ∙ ap (λ kept. kept.written i) (old_at xs c old h is) in
    rw (at_column, at_index) (
      length-same xs c new h,
      on_some u.before (subst (λ l. IsSome (written_at l c i)) (sym now) (is-written ks c i v (rw length-map h))),
      ap (λ l. with_kept l c i u.before) now ∙ kept-restored ks c i v u.before (rw length-map h) before,
    )

same_at : (w : ℤ → Option ℤ) (i j : ℤ) (here : Bool) → int_eq i j ≡ here → (if here then w i else w j) ≡ w j
same_at w i j true e = ap w ((Decides-int_eq i j).0 e)
same_at w i j false e = refl

written_again : (kept : Kept) (i : ℤ) (before : Option ℤ) → before ≡ kept.written i → with_written kept i before ≡ kept
written_again kept i before e =
    ap (with_written kept i) e ∙
    ap (λ (w : ℤ → Option ℤ). let k : Kept = record { slope = kept.slope; start = kept.start; written = w } in k) (λ p j. same_at kept.written i j (int_eq i j) refl p)

kept_again : (ks : List Kept) (c : ℕ) (i : ℤ) (before : Option ℤ) → before ≡ (get_or ks c no_column).written i → with_kept ks c i before ≡ ks
kept_again ks c i before e = ap (set ks c) (written_again (get_or ks c no_column) i before e) ∙ set-get_or ks c no_column

-- the note of a write that was refused
pub note-refused : (xs : List Cells) (c : ℕ) (old new : Cells) (i : ℤ) (u : Undo) → c < length xs → old ≡ get_or xs c old → kept_in new ≡ kept_in old →
    u.column.0 ≡ c → u.index ≡ i → u.before ≡ written_in old i → IsNote (map kept_in xs) (map kept_in (set xs c new)) u
note-refused xs c old new i u h is e at_column at_index at_before =
    let ks = map kept_in xs in
    let now : map kept_in (set xs c new) ≡ ks = kept-unchanged xs c old new h is e in
    let before : u.before ≡ (get_or ks c no_column).written i = at_before ∙ ap (λ kept. kept.written i) (old_at xs c old h is) in
    rw (at_column, at_index) (
      length-same xs c new h,
      subst (λ l. OnSome u.before (IsSome (written_at l c i))) (sym now) (there u.before ((get_or ks c no_column).written i) before),
      ap (λ l. with_kept l c i u.before) now ∙ kept_again ks c i u.before before,
    )

-- the note of a write, whether it was refused or not
pub note-of : {T E : Type 0} (r : Result T E) (xs : List Cells) (c : ℕ) (old new : Cells) (i v : ℤ) (u : Undo) → c < length xs → old ≡ get_or xs c old →
    OnOk r (kept_in new ≡ with_written (kept_in old) i (Some v)) → OnErr r (kept_in new ≡ kept_in old) →
    u.column.0 ≡ c → u.index ≡ i → u.before ≡ written_in old i → IsNote (map kept_in xs) (map kept_in (set xs c new)) u
note-of (Ok x) xs c old new i v u h is e f a b d = note-written xs c old new i v u h is e a b d
note-of (Err x) xs c old new i v u h is e f a b d = note-refused xs c old new i u h is f a b d

-- a column whose cell is written, if the write was not refused
pub ok-changed : {T E : Type 0} (r : Result T E) (xs : List Cells) (c : ℕ) (old new : Cells) (i v : ℤ) → c < length xs → old ≡ get_or xs c old →
    OnOk r (kept_in new ≡ with_written (kept_in old) i (Some v)) → OnOk r (map kept_in (set xs c new) ≡ with_kept (map kept_in xs) c i (Some v))
ok-changed r xs c old new i v h is = on_ok_by (kept-changed xs c old new i (Some v) h is) r

-- the cell that is to have again what was there
pub can-restore : (xs : List Cells) (c : ℕ) (now : Cells) (i : ℤ) (before : Option ℤ) → c < length xs → now ≡ get_or xs c now →
    OnSome before (IsSome (written_at (map kept_in xs) c i)) → OnSome before (IsSome (written_in now i))
can-restore xs c now i before h is some = subst (λ kept. OnSome before (IsSome (kept.written i))) (sym (old_at xs c now h is)) some

-- a state by what is kept of it
pub state-is : (s : State) → state_of s ≡ column_at (map cells_from (kept_of s))
state-is s = ap column_at (state-kept s.columns.items)

taken-length : (ks : List Kept) (us : List Undo) → length (taken_back ks us) ≡ length ks
taken-length ks [] = refl
taken-length ks (u ∷ us) = length-set (taken_back ks us) u.column.0 _ ∙ taken-length ks us

pub count-taken : (s t : State) (us : List Undo) → kept_of t ≡ taken_back (kept_of s) us → column_count t ≡ column_count s
count-taken s t us e =
    column_count-is t ∙ (sym (length-map t.columns.items kept_in) ∙ (ap length e ∙ (taken-length (kept_of s) us ∙ (length-map s.columns.items kept_in ∙ sym (column_count-is s)))))
