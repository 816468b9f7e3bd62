-- What stores leave.
use Rattle.std.proofs.Common.{◌≡◌, ℕ, ◌≤◌, Bool, true, false, ◌==◌, if◌then◌else◌, List, [], ◌∷◌, ◌++◌, ℤ, length, take, refl, ap, ap₂, ◌∙◌, arith, ne_eqb}
use Rattle.std.specs.Ordering.{int_eq}
use Rattle.std.proofs.lemmas.Bool.Decides.{Decides-int_eq}
use Rattle.lc_lemmas.proofs.Numbers.{equal_to_itself}
use Rattle.lc_term.specs.Updates.{Write, stored_all, row, cell_writes}
use Rattle.lc_term.specs.Meaning.{State, stored}
use Rattle.lc_term.specs.State.{with_cell}
use Rattle.lc_term.specs.Lists.{Every}

-- ---- lists

pub Every-append : {A : Type 0} (P : A → Type 0) (xs ys : List A) → Every P xs → Every P ys → Every P (xs ++ ys)
Every-append P [] ys p q = q
Every-append P (x ∷ xs) ys p q = (p.0, Every-append P xs ys p.1 q)

pub Every_left : {A : Type 0} (P : A → Type 0) (xs ys : List A) → Every P (xs ++ ys) → Every P xs
Every_left P [] ys p = tt
Every_left P (x ∷ xs) ys p = (p.0, Every_left P xs ys p.1)

pub Every_right : {A : Type 0} (P : A → Type 0) (xs ys : List A) → Every P (xs ++ ys) → Every P ys
Every_right P [] ys p = p
Every_right P (x ∷ xs) ys p = Every_right P xs ys p.1

pub Every-map : {A : Type 0} (P Q : A → Type 0) (xs : List A) → ((x : A) → P x → Q x) → Every P xs → Every Q xs
Every-map P Q [] h p = tt
Every-map P Q (x ∷ xs) h p = (h x p.0, Every-map P Q xs h p.1)

-- ---- one cell

pub if_true : {A : Type 0} (b : Bool) (x y : A) → b ≡ true → (if b then x else y) ≡ x
if_true b x y h = ap (λ c. if c then x else y) h

pub if_false : {A : Type 0} (b : Bool) (x y : A) → b ≡ false → (if b then x else y) ≡ y
if_false b x y h = ap (λ c. if c then x else y) h

pub stored_here : (f : ℤ → ℤ) (i v : ℤ) → stored f i v i ≡ v
stored_here f i v = if_true (int_eq i i) v (f i) ((Decides-int_eq i i).1 refl)

pub stored_there : (f : ℤ → ℤ) (i v j : ℤ) → (i ≡ j → ⊥) → stored f i v j ≡ f j
stored_there f i v j h = by_test (int_eq i j) refl
  where
    by_test : (b : Bool) → int_eq i j ≡ b → stored f i v j ≡ f j
    by_test true e = absurd (h ((Decides-int_eq i j).0 e))
    by_test false e = if_false (int_eq i j) v (f j) e

pub cell_other : (s : State) (c d : ℕ) (i v : ℤ) → (c ≡ d → ⊥) → with_cell s c i v d ≡ s d
cell_other s c d i v h = if_false (c == d) (stored (s d) i v) (s d) (ne_eqb c d h)

pub cell_same : (s : State) (c : ℕ) (i v : ℤ) → with_cell s c i v c ≡ stored (s c) i v
cell_same s c i v = if_true (c == c) (stored (s c) i v) (s c) (equal_to_itself c)

pub cell_away : (s : State) (c d : ℕ) (i j v : ℤ) → (i ≡ j → ⊥) → with_cell s c i v d j ≡ s d j
cell_away s c d i j v h = by_test (c == d) refl
  where
    by_test : (b : Bool) → (c == d) ≡ b → with_cell s c i v d j ≡ s d j
    by_test true e = (λ k. if_true (c == d) (stored (s d) i v) (s d) e k j) ∙ stored_there (s d) i v j h
    by_test false e = λ k. if_false (c == d) (stored (s d) i v) (s d) e k j

-- ---- writes in order

pub stored-append : (s : State) (xs ys : List Write) → stored_all s (xs ++ ys) ≡ stored_all (stored_all s xs) ys
stored-append s [] ys = refl
stored-append s (x ∷ xs) ys = stored-append (with_cell s x.column x.index x.value) xs ys

pub writes_other : (s : State) (ws : List Write) (d : ℕ) → Every (λ (w : Write). w.column ≡ d → ⊥) ws → stored_all s ws d ≡ s d
writes_other s [] d h = refl
writes_other s (w ∷ ws) d h = writes_other (with_cell s w.column w.index w.value) ws d h.1 ∙ cell_other s w.column d w.index w.value h.0

pub writes_away : (s : State) (ws : List Write) (d : ℕ) (j : ℤ) → Every (λ (w : Write). w.index ≡ j → ⊥) ws → stored_all s ws d j ≡ s d j
writes_away s [] d j h = refl
writes_away s (w ∷ ws) d j h = writes_away (with_cell s w.column w.index w.value) ws d j h.1 ∙ cell_away s w.column d w.index j w.value h.0

pub cell_columns : (P : ℕ → Type 0) (cs : List ℕ) (i : ℤ) (ns : List ℤ) → Every P cs → Every (λ (w : Write). P w.column) (cell_writes cs i ns)
cell_columns P [] i ns h = tt
cell_columns P (c ∷ cs) i [] h = tt
cell_columns P (c ∷ cs) i (n ∷ ns) h = (h.0, cell_columns P cs i ns h.1)

pub cell_indexes : (P : ℤ → Type 0) (cs : List ℕ) (i : ℤ) (ns : List ℤ) → P i → Every (λ (w : Write). P w.index) (cell_writes cs i ns)
cell_indexes P [] i ns h = tt
cell_indexes P (c ∷ cs) i [] h = tt
cell_indexes P (c ∷ cs) i (n ∷ ns) h = (h, cell_indexes P cs i ns h)

abbrev pub Distinct : List ℕ → Type 0
Distinct [] = Unit {0}
Distinct (c ∷ cs) = Every (λ d. d ≡ c → ⊥) cs × Distinct cs

-- the first number
pub first_back : (s : State) (c : ℕ) (cs : List ℕ) (i n : ℤ) (ns : List ℤ) → Every (λ d. d ≡ c → ⊥) cs → stored_all s (cell_writes (c ∷ cs) i (n ∷ ns)) c i ≡ n
first_back s c cs i n ns h =
    (λ k. writes_other (with_cell s c i n) (cell_writes cs i ns) c (cell_columns (λ d. d ≡ c → ⊥) cs i ns h) k i)
    ∙ ((λ k. cell_same s c i n k i) ∙ stored_here (s c) i n)

-- what was stored is read back
pub read_back : (s : State) (cs : List ℕ) (i : ℤ) (ns : List ℤ) → Distinct cs → length ns ≤ length cs → take (length ns) (row (stored_all s (cell_writes cs i ns)) cs i) ≡ ns
read_back s [] i [] h le = refl
read_back s [] i (n ∷ ns) h le = absurd (omega arith)
read_back s (c ∷ cs) i [] h le = refl
read_back s (c ∷ cs) i (n ∷ ns) h le = ap₂ (λ x xs. x ∷ xs) (first_back s c cs i n ns h.0) (read_back (with_cell s c i n) cs i ns h.1 (omega arith))
