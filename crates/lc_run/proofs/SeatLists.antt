-- Seats that are handed in, and their lists.
use Rattle.std.proofs.Common.{◌≡◌, ℕ, zero, suc, ◌<◌, ◌≤◌, ◌==◌, Bool, true, false, List, [], ◌∷◌, ◌++◌, Some, set, length, refl, sym, ap, subst, ◌∙◌, inl, inr, eq-eqb, arith}
use Rattle.std.specs.Prelude.{◌⊎◌, Vec, All, slice_get, slice_index_or}
use Rattle.std.specs.declared.alloc.Global.{Global}
use Rattle.std.proofs.lemmas.Bool.{eqb-true, or_left, or_right}
use Rattle.std.proofs.lemmas.List.{map-set, length-map, length-set, length-append}
use Rattle.lc_lemmas.proofs.Booleans.{or_cases}
use Rattle.lc_history.proofs.Tables.{slice_get-set, slice_get-set_other}
use Rattle.lc_sound.specs.Instrumented as S
use Rattle.lc_run.specs.Finished.{lists_in}
use Rattle.lc_run.specs.LabelView.{labels_of}
use Rattle.lc_run.specs.Labels.{labels_by}
use Rattle.lc_run.specs.Locked.{client_in, labels_made}
use Rattle.lc_run.specs.Seated.{has_seat, HasOwn}
use Rattle.lc_run.specs.declared.held.Seat.{Seat}
use Rattle.lc_run.specs.declared.label.Label.{Label}

-- a client whose seat is among these and one more
has-more : {J : Type 0} (d : ℕ) (seats : List (Seat J)) (seat : Seat J) → has_seat d (seats ++ seat ∷ []) ≡ true → (has_seat d seats ≡ true) ⊎ (client_in seat ≡ d)
has-more d [] seat e = by (or_cases (client_in seat == d) false e)
  where
    by : ((client_in seat == d) ≡ true) ⊎ (false ≡ true) → (false ≡ true) ⊎ (client_in seat ≡ d)
    by (inl h) = inr (eqb-true (client_in seat) d h)
    by (inr h) = inl h
has-more d (s ∷ seats) seat e = by (or_cases (client_in s == d) (has_seat d (seats ++ seat ∷ [])) e) (has-more d seats seat)
  where
    rest : (has_seat d seats ≡ true) ⊎ (client_in seat ≡ d) → (has_seat d (s ∷ seats) ≡ true) ⊎ (client_in seat ≡ d)
    rest (inl h) = inl (or_right (client_in s == d) (has_seat d seats) h)
    rest (inr h) = inr h

    by : ((client_in s == d) ≡ true) ⊎ (has_seat d (seats ++ seat ∷ []) ≡ true) → (has_seat d (seats ++ seat ∷ []) ≡ true → (has_seat d seats ≡ true) ⊎ (client_in seat ≡ d)) → (has_seat d (s ∷ seats) ≡ true) ⊎ (client_in seat ≡ d)
    by (inl h) more = inl (or_left (client_in s == d) (has_seat d seats) h)
    by (inr h) more = rest (more h)

-- a client's list that is put at its place
list-there : (labels : List S.Label) (lists : List (Vec Label Global)) (c : ℕ) (x : Vec Label Global) → c < length lists → labels_of x.items ≡ labels_by c labels →
    slice_get (lists_in (set lists c x)) c ≡ Some (labels_by c labels)
list-there labels lists c x h e =
    ap (λ zs. slice_get zs c) (map-set (λ (v : Vec Label Global). labels_of v.items) lists c x)
    ∙ (slice_get-set (lists_in lists) c (labels_of x.items) (let k = length-map lists (λ (v : Vec Label Global). labels_of v.items) in omega arith) ∙ ap Some e)

-- the others stay
list-beside : (lists : List (Vec Label Global)) (c d : ℕ) (x : Vec Label Global) → (d ≡ c → ⊥) → slice_get (lists_in (set lists c x)) d ≡ slice_get (lists_in lists) d
list-beside lists c d x h =
    ap (λ zs. slice_get zs d) (map-set (λ (v : Vec Label Global). labels_of v.items) lists c x) ∙ slice_get-set_other (lists_in lists) c d (labels_of x.items) h

-- ---- elements of a list and one more

at-front : {A : Type 0} (xs ys : List A) (k : ℕ) (d : A) → k < length xs → slice_index_or (xs ++ ys) k d ≡ slice_index_or xs k d
at-front [] ys k d h = absurd (omega arith)
at-front (x ∷ xs) ys zero d h = refl
at-front (x ∷ xs) ys (suc k) d h = at-front xs ys k d (omega arith)

at-last : {A : Type 0} (xs : List A) (x d : A) → slice_index_or (xs ++ x ∷ []) (length xs) d ≡ x
at-last [] x d = refl
at-last (y ∷ xs) x d = at-last xs x d

all-front : {A : Type 0} (P : A → Type 0) (xs : List A) (x : A) → All P (xs ++ x ∷ []) → All P xs
all-front P xs x h = λ k d m. subst P (at-front xs (x ∷ []) k d m) (h k d (let n = length-append xs (x ∷ []) in omega arith))

all-last : {A : Type 0} (P : A → Type 0) (xs : List A) (x : A) → All P (xs ++ x ∷ []) → P x
all-last P xs x h = subst P (at-last xs x x) (h (length xs) x (let n = length-append xs (x ∷ []) in omega arith))

-- ---- lists that are put at their places, seat by seat

-- if each of these seats has its client's labels, those are the lists at their places
abbrev pub AreListed : {J : Type 0} → List S.Label → List (Vec Label Global) → List (Seat J) → Type 0
AreListed labels lists seats = All (HasOwn labels) seats → (c : ℕ) → c < length lists → has_seat c seats ≡ true → slice_get (lists_in lists) c ≡ Some (labels_by c labels)

pub put-list : {J : Type 0} (labels : List S.Label) (lists : List (Vec Label Global)) (seats : List (Seat J)) (seat : Seat J) (x : Vec Label Global) → client_in seat < length lists → labels_of x.items ≡ labels_made seat →
    AreListed labels lists seats → AreListed labels (set lists (client_in seat) x) (seats ++ seat ∷ [])
put-list labels lists seats seat x there is h own d m e = by (d == client_in seat) refl
  where
    mine : labels_of x.items ≡ labels_by (client_in seat) labels
    mine = is ∙ sym (all-last (HasOwn labels) seats seat own)

    beside : (d ≡ client_in seat → ⊥) → (has_seat d seats ≡ true) ⊎ (client_in seat ≡ d) → slice_get (lists_in (set lists (client_in seat) x)) d ≡ Some (labels_by d labels)
    beside apart (inl was) = list-beside lists (client_in seat) d x apart ∙ h (all-front (HasOwn labels) seats seat own) d (let n = length-set lists (client_in seat) x in omega arith) was
    beside apart (inr same) = absurd (apart (sym same))

    by : (b : Bool) → (d == client_in seat) ≡ b → slice_get (lists_in (set lists (client_in seat) x)) d ≡ Some (labels_by d labels)
    by true t =
        subst (λ k. slice_get (lists_in (set lists (client_in seat) x)) k ≡ Some (labels_by k labels)) (sym (eqb-true d (client_in seat) t)) (list-there labels lists (client_in seat) x there mine)
    by false t = beside (λ at. let u : (d == client_in seat) ≡ true = eq-eqb d (client_in seat) at in cc) (has-more d seats seat e)

-- a seat for which there is no place
pub skip-list : {J : Type 0} (labels : List S.Label) (lists : List (Vec Label Global)) (seats : List (Seat J)) (seat : Seat J) → length lists ≤ client_in seat → AreListed labels lists seats → AreListed labels lists (seats ++ seat ∷ [])
skip-list labels lists seats seat past h own d m e = by (has-more d seats seat e)
  where
    by : (has_seat d seats ≡ true) ⊎ (client_in seat ≡ d) → slice_get (lists_in lists) d ≡ Some (labels_by d labels)
    by (inl was) = h (all-front (HasOwn labels) seats seat own) d m was
    by (inr same) = absurd (omega arith)
