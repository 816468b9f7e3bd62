-- The cells that a step changes, found one write after another.
use Rattle.std.proofs.Common.{◌≡◌, ℕ, zero, suc, ◌<◌, ◌+◌, ◌==◌, ◌⊎◌, inl, inr, Bool, true, false, List, [], ◌∷◌, ◌++◌, ℤ, length, drop, get_or, refl, sym, ap, ◌∙◌, subst, append_assoc, arith}
use Rattle.std.specs.Prelude.{if◌then◌else◌, Option, Some, None}
use Rattle.std.specs.Ordering.{int_eq}
use Rattle.std.proofs.lemmas.Bool.Decides.{Decides-int_eq}
use Rattle.std.proofs.lemmas.List.{map-append, get_or_default}
use borrow.Author.Tests.{eqb-true}
use Rattle.lc_lemmas.proofs.Booleans.{and_parts}
use Rattle.lc_lemmas.proofs.Lists.{drop_at_element}
use Rattle.lc_cells.specs.Cells.{is_cell}
use Rattle.lc_cells.proofs.After.{after, stored_is}
use Rattle.lc_term.specs.Meaning.{State}
use Rattle.lc_term.specs.State.{with_cell}
use Rattle.lc_term.specs.Updates.{Write, stored_all, AreWithin}
use Rattle.lc_term.specs.UpdateView.{write_view, writes_view}
use Rattle.lc_term.specs.declared.update.Write as code
use Rattle.lc_trace.specs.Changes.{Changes, IsTakenOver, one_more}

-- writes leave in a cell what was there, or what it is does not depend on that
left_or_not : (ws : List Write) (c : ℕ) (i : ℤ) → ((x : ℤ) → after ws c i x ≡ x) ⊎ ((x y : ℤ) → after ws c i x ≡ after ws c i y)
left_or_not [] c i = inl (λ x. refl)
left_or_not (w ∷ ws) c i = by (is_cell w c i) (left_or_not ws c i)
  where
    by : (b : Bool) → ((x : ℤ) → after ws c i x ≡ x) ⊎ ((x y : ℤ) → after ws c i x ≡ after ws c i y) → ((x : ℤ) → after ws c i (if b then w.value else x) ≡ x) ⊎ ((x y : ℤ) → after ws c i (if b then w.value else x) ≡ after ws c i (if b then w.value else y))
    by true rest = inr (λ x y. refl)
    by false rest = rest

-- the cell of a write
same_cell : (m : State) (w : Write) (c : ℕ) (i : ℤ) → is_cell w c i ≡ true → m w.column w.index ≡ m c i
same_cell m w c i e =
    let p = and_parts (w.column == c) (int_eq w.index i) e in
    λ k. m (eqb-true w.column c p.0 k) ((Decides-int_eq w.index i).0 p.1 k)

-- a cell gets its last number at once
over_at : (s m : State) (w : Write) (ws : List Write) (c : ℕ) (i : ℤ) (b : Bool) → is_cell w c i ≡ b → ((x : ℤ) → after ws c i x ≡ x) ⊎ ((x y : ℤ) → after ws c i x ≡ after ws c i y) →
    after ws c i (if b then w.value else s c i) ≡ m c i → after ws c i (if b then m w.column w.index else s c i) ≡ m c i
over_at s m w ws c i true e (inl left) h = left (m w.column w.index) ∙ same_cell m w c i e
over_at s m w ws c i true e (inr other) h = other (m w.column w.index) w.value ∙ h
over_at s m w ws c i false e way h = h

pub one_over : (s m : State) (w : Write) (ws : List Write) → stored_all s (w ∷ ws) ≡ m → stored_all (with_cell s w.column w.index (m w.column w.index)) ws ≡ m
one_over s m w ws h = λ p c i. at c i p
  where
    at : (c : ℕ) (i : ℤ) → stored_all (with_cell s w.column w.index (m w.column w.index)) ws c i ≡ m c i
    at c i =
        let u : Write = record { column = w.column; index = w.index; value = m w.column w.index } in
        stored_is s (u ∷ ws) c i ∙ over_at s m w ws c i (is_cell w c i) refl (left_or_not ws c i) (sym (stored_is s (w ∷ ws) c i) ∙ (λ k. h k c i))

-- a cell gets the number that it has
same_at : (s : State) (w : Write) (c : ℕ) (i : ℤ) (b : Bool) → is_cell w c i ≡ b → s w.column w.index ≡ w.value → (if b then w.value else s c i) ≡ s c i
same_at s w c i true e h = sym h ∙ same_cell s w c i e
same_at s w c i false e h = refl

same_over : (s : State) (w : Write) → s w.column w.index ≡ w.value → with_cell s w.column w.index w.value ≡ s
same_over s w h = λ p c i. (stored_is s (w ∷ []) c i ∙ same_at s w c i (is_cell w c i) refl h) p

taken_state : (m s t : State) (c : ℕ) (i : ℤ) (found : Option code.Write) → IsTakenOver m s t c i found → t ≡ with_cell s c i (m c i)
taken_state m s t c i None h = h.1 ∙ sym (same_over s (record { column = c; index = i; value = m c i }) h.0)
taken_state m s t c i (Some w) h = h.2

-- one write is taken over
pub over_next : (m s t : State) (ws : List code.Write) (k : ℕ) (d : code.Write) (found : Option code.Write) → k < length ws →
    IsTakenOver m s t (get_or ws k d).column.0 (get_or ws k d).index found → stored_all s (writes_view (drop k ws)) ≡ m → stored_all t (writes_view (drop (k + 1) ws)) ≡ m
over_next m s t ws k d found lt taken left =
    let w = get_or ws k d in
    let is : w ≡ get_or ws k w = get_or_default ws k d w lt in
    let rest = writes_view (drop (k + 1) ws) in
    let here : stored_all s (write_view w ∷ rest) ≡ m = ap (λ l. stored_all s (writes_view l)) (sym (drop_at_element ws k w lt is)) ∙ left in
    ap (λ u. stored_all u rest) (taken_state m s t w.column.0 w.index found taken) ∙ one_over s m (write_view w) rest here

-- the cells so far, before more
abbrev pub LeadsTo : (m start s : State) → List code.Write → Type 0
LeadsTo m start s cells = (rest : List Write) → Changes m s rest → Changes m start (writes_view cells ++ rest)

pub leads_next : (m start s t : State) (cells : List code.Write) (c : ℕ) (i : ℤ) (found : Option code.Write) → IsTakenOver m s t c i found → LeadsTo m start s cells →
    LeadsTo m start t (one_more found cells)
leads_next m start s t cells c i None taken leads = λ rest so. leads rest (subst (λ u. Changes m u rest) taken.1 so)
leads_next m start s t cells c i (Some w) taken leads = λ rest so.
    let v : Write = record { column = c; index = i; value = m c i } in
    let more = leads (v ∷ rest) (taken.1, refl, subst (λ u. Changes m u rest) taken.2 so) in
    let view : writes_view (cells ++ w ∷ []) ++ rest ≡ writes_view cells ++ (v ∷ rest) =
    ap (λ l. l ++ rest) (map-append write_view cells (w ∷ []) ∙ ap (λ u. writes_view cells ++ u ∷ []) taken.0) ∙ append_assoc (writes_view cells) (v ∷ []) rest in
    subst (λ l. Changes m start l) (sym view) more

-- a write is to a column that there is
pub within_at : (n : ℕ) (ws : List code.Write) (k : ℕ) (d : code.Write) → AreWithin n (writes_view ws) → k < length ws → (get_or ws k d).column.0 < n
within_at n [] k d h lt = absurd (omega arith)
within_at n (x ∷ xs) zero d h lt = h.0
within_at n (x ∷ xs) (suc k) d h lt = within_at n xs k d h.1 (omega arith)
