-- Rows of trees that lie flat.
use Rattle.std.proofs.Common.{◌≡◌, ◌≢◌, ℕ, suc, ◌+◌, ◌-◌, ◌≤◌, ◌<◌, false, List, [], ◌∷◌, ◌++◌, length, set, refl, sym, ap, ◌∙◌, subst, arith, append_assoc, append-nil, length-append}
use Rattle.std.specs.Prelude.{◌==◌}
use Rattle.std.proofs.lemmas.Bool.Decides.{nat_tests}
use Rattle.std.proofs.lemmas.List.{set_at, set-append_right}
use Rattle.lc_sexp.specs.Trees.{Tree, Trees, atom, list, none, ◌▸◌, item_count, item_count_of_all, Token, open_list, close_list, word, tokens_of, tokens_of_all}
use Rattle.lc_sexp.specs.TreeCode.{joined_rows, joined-none}
use Rattle.lc_sexp.specs.Entries.{Entry, leaf, branch, hole, entries_of, entries_of_all, first_items, behind_items, first_row, later_rows, laid, holes_from, rows_tokens}

-- each tree has an item
pub item_count_some : (t : Tree) → 1 ≤ item_count t
item_count_some (atom w) = omega arith
item_count_some (list ts) = omega arith

mutual
  pub entries_counted : (t : Tree) → length (entries_of t) ≡ item_count t
  entries_counted (atom w) = refl
  entries_counted (list ts) = omega (arith, entries_all_counted ts)

  pub entries_all_counted : (ts : Trees) → length (entries_of_all ts) ≡ item_count_of_all ts
  entries_all_counted none = refl
  entries_all_counted (t ▸ ts) = omega (arith, length-append (entries_of t) (entries_of_all ts), entries_counted t, entries_all_counted ts)

-- the first trees of a row are found by how many items they have
first_step : (t : Tree) (ts us : Trees) (n m : ℕ) → n ≢ 0 → n - item_count t ≡ m → first_items m us ≡ ts → first_items n (t ▸ us) ≡ t ▸ ts
first_step t ts us n m some e h =
    let no : (n == 0) ≡ false = grind (arith, nat_tests) in
    rw (no, e, h) refl

behind_step : (t : Tree) (ts us : Trees) (n m : ℕ) → n ≢ 0 → n - item_count t ≡ m → behind_items m us ≡ ts → behind_items n (t ▸ us) ≡ ts
behind_step t ts us n m some e h =
    let no : (n == 0) ≡ false = grind (arith, nat_tests) in
    rw (no, e, h) refl

pub first_joined : (ts us : Trees) → first_items (item_count_of_all ts) (joined_rows ts us) ≡ ts
first_joined none none = refl
first_joined none (u ▸ us) = refl
first_joined (t ▸ ts) us =
    first_step t ts (joined_rows ts us) _ (item_count_of_all ts) (omega (arith, item_count_some t)) (omega arith) (first_joined ts us)

pub behind_joined : (ts us : Trees) → behind_items (item_count_of_all ts) (joined_rows ts us) ≡ us
behind_joined none none = refl
behind_joined none (u ▸ us) = refl
behind_joined (t ▸ ts) us =
    behind_step t us (joined_rows ts us) _ (item_count_of_all ts) (omega (arith, item_count_some t)) (omega arith) (behind_joined ts us)

-- entries are read as the trees that they are of
mutual
  first_of : (t : Tree) (es : List Entry) → first_row (entries_of t ++ es) ≡ t ▸ first_row es
  first_of (atom w) es = refl
  first_of (list ts) es =
      ap (λ rs. list (first_items (item_count_of_all ts) rs) ▸ behind_items (item_count_of_all ts) rs) (first_of_all ts es)
      ∙ ap (λ x. list x ▸ behind_items (item_count_of_all ts) (joined_rows ts (first_row es))) (first_joined ts (first_row es))
      ∙ ap (λ x. list ts ▸ x) (behind_joined ts (first_row es))

  pub first_of_all : (ts : Trees) (es : List Entry) → first_row (entries_of_all ts ++ es) ≡ joined_rows ts (first_row es)
  first_of_all none es = refl
  first_of_all (t ▸ ts) es =
      ap first_row (append_assoc (entries_of t) (entries_of_all ts) es)
      ∙ first_of t (entries_of_all ts ++ es)
      ∙ ap (λ x. t ▸ x) (first_of_all ts es)

mutual
  later_of : (t : Tree) (es : List Entry) → later_rows (entries_of t ++ es) ≡ later_rows es
  later_of (atom w) es = refl
  later_of (list ts) es = later_of_all ts es

  pub later_of_all : (ts : Trees) (es : List Entry) → later_rows (entries_of_all ts ++ es) ≡ later_rows es
  later_of_all none es = refl
  later_of_all (t ▸ ts) es =
      ap later_rows (append_assoc (entries_of t) (entries_of_all ts) es) ∙ later_of t (entries_of_all ts ++ es) ∙ later_of_all ts es

pub first_whole : (ts : Trees) → first_row (entries_of_all ts) ≡ ts
first_whole ts = ap first_row (sym (append-nil (entries_of_all ts))) ∙ first_of_all ts [] ∙ joined-none ts

pub later_whole : (ts : Trees) → later_rows (entries_of_all ts) ≡ []
later_whole ts = ap later_rows (sym (append-nil (entries_of_all ts))) ∙ later_of_all ts []

-- rows are read as the rows that were laid
pub first_laid : (t : Trees) (us : List Trees) → first_row (laid t us) ≡ t
first_laid t [] = first_whole t
first_laid t (u ∷ us) = first_of_all t (hole ∷ laid u us) ∙ joined-none t

pub later_laid : (t : Trees) (us : List Trees) → later_rows (laid t us) ≡ us
later_laid t [] = later_whole t
later_laid t (u ∷ us) = later_of_all t (hole ∷ laid u us) ∙ ap (λ x. x ∷ later_rows (laid u us)) (first_laid u us) ∙ ap (λ x. u ∷ x) (later_laid u us)

-- one more tree at the end of a row
pub entries_joined : (ts us : Trees) → entries_of_all (joined_rows ts us) ≡ entries_of_all ts ++ entries_of_all us
entries_joined none us = refl
entries_joined (t ▸ ts) us = ap (λ x. entries_of t ++ x) (entries_joined ts us) ∙ sym (append_assoc (entries_of t) _ _)

pub tokens_joined : (ts us : Trees) → tokens_of_all (joined_rows ts us) ≡ tokens_of_all ts ++ tokens_of_all us
tokens_joined none us = refl
tokens_joined (t ▸ ts) us = ap (λ x. tokens_of t ++ x) (tokens_joined ts us) ∙ sym (append_assoc (tokens_of t) _ _)

pub count_joined : (ts us : Trees) → item_count_of_all (joined_rows ts us) ≡ item_count_of_all ts + item_count_of_all us
count_joined none us = omega arith
count_joined (t ▸ ts) us = omega (arith, count_joined ts us)

-- What entries are, as rows: the first, those in lists that are open, and the places of these lists.
pub record AreRows (es : List Entry) (places : List ℕ) (tokens : List Token) : Type 0 where
  pub whole : laid (first_row es) (later_rows es) ≡ es
  pub holes : places ≡ holes_from 0 (first_row es) (later_rows es)
  pub told : rows_tokens (first_row es) (later_rows es) ≡ tokens

are_rows : (es : List Entry) (places : List ℕ) (tokens : List Token) (t : Trees) (us : List Trees) → es ≡ laid t us → places ≡ holes_from 0 t us → rows_tokens t us ≡ tokens → AreRows es places tokens
are_rows es places tokens t us e h k =
    let f : first_row es ≡ t = ap first_row e ∙ first_laid t us in
    let l : later_rows es ≡ us = ap later_rows e ∙ later_laid t us in
    record {
      whole = ap (λ x. laid x (later_rows es)) f ∙ ap (laid t) l ∙ sym e;
      holes = h ∙ ap (λ x. holes_from 0 x us) (sym f) ∙ ap (holes_from 0 (first_row es)) (sym l);
      told = ap (λ x. rows_tokens x (later_rows es)) f ∙ ap (rows_tokens t) l ∙ k;
    }

-- Rows that come from others by a change at their end.
abbrev Becomes : List Entry → List ℕ → List Token → ℕ → Type 0
Becomes es places tokens k = (t : Trees) × (us : List Trees) × (es ≡ laid t us) × (places ≡ holes_from k t us) × (rows_tokens t us ≡ tokens)

-- a row before rows that have changed
behind_row : (t u : Trees) (us : List Trees) (es : List Entry) (places : List ℕ) (more : List Token) (k : ℕ)
    → Becomes es places (rows_tokens u us ++ more) (k + item_count_of_all t + 1)
    → Becomes (entries_of_all t ++ (hole ∷ es)) ((k + item_count_of_all t) ∷ places) (rows_tokens t (u ∷ us) ++ more) k
behind_row t u us es places more k h = (
  t,
  h.0 ∷ h.1,
  ap (λ x. entries_of_all t ++ (hole ∷ x)) h.2,
  ap (λ x. (k + item_count_of_all t) ∷ x) h.3,
  ap (λ x. tokens_of_all t ++ (open_list ∷ x)) h.4 ∙ sym (append_assoc (tokens_of_all t) (open_list ∷ rows_tokens u us) more),
)

-- an atom at the end
pub atom_behind : (k : ℕ) (t : Trees) (us : List Trees) (w : List ℕ) → Becomes (laid t us ++ (leaf w ∷ [])) (holes_from k t us) (rows_tokens t us ++ (word w ∷ [])) k
atom_behind k t [] w = (
  joined_rows t (atom w ▸ none),
  [],
  sym (entries_joined t (atom w ▸ none)),
  refl,
  append-nil (tokens_of_all (joined_rows t (atom w ▸ none))) ∙ tokens_joined t (atom w ▸ none) ∙ ap (λ x. x ++ (word w ∷ [])) (sym (append-nil (tokens_of_all t))),
)
atom_behind k t (u ∷ us) w =
    let h = behind_row t u us _ _ (word w ∷ []) k (atom_behind (k + item_count_of_all t + 1) u us w) in
    subst (λ x. Becomes x (holes_from k t (u ∷ us)) (rows_tokens t (u ∷ us) ++ (word w ∷ [])) k) (sym (append_assoc (entries_of_all t) (hole ∷ laid u us) (leaf w ∷ []))) h

-- a list that begins at the end
pub hole_behind : (k : ℕ) (t : Trees) (us : List Trees) → Becomes (laid t us ++ (hole ∷ [])) (holes_from k t us ++ ((k + length (laid t us)) ∷ [])) (rows_tokens t us ++ (open_list ∷ [])) k
hole_behind k t [] =
    (t, none ∷ [], refl, ap (λ n. (k + n) ∷ []) (entries_all_counted t), ap (λ x. x ++ (open_list ∷ [])) (sym (append-nil (tokens_of_all t))))
hole_behind k t (u ∷ us) =
    let h = behind_row t u us _ _ (open_list ∷ []) k (hole_behind (k + item_count_of_all t + 1) u us) in
    let e : k + item_count_of_all t + 1 + length (laid u us) ≡ k + length (laid t (u ∷ us)) =
    omega (arith, length-append (entries_of_all t) (hole ∷ laid u us), entries_all_counted t) in
    subst (λ x. Becomes x (holes_from k t (u ∷ us) ++ ((k + length (laid t (u ∷ us))) ∷ [])) (rows_tokens t (u ∷ us) ++ (open_list ∷ [])) k) (sym (append_assoc (entries_of_all t) (hole ∷ laid u us) (hole ∷ [])))
    (subst (λ n. Becomes (entries_of_all t ++ (hole ∷ (laid u us ++ (hole ∷ [])))) (holes_from k t (u ∷ us) ++ (n ∷ [])) (rows_tokens t (u ∷ us) ++ (open_list ∷ [])) k) e h)

-- a list that is open has a place where its row can end, and before the end
pub place_least : (k : ℕ) (t : Trees) (us : List Trees) (front : List ℕ) (at : ℕ) → holes_from k t us ≡ front ++ (at ∷ []) → k ≤ at
place_least k t [] [] at e = absurd (cc)
place_least k t [] (x ∷ front) at e = absurd (cc)
place_least k t (u ∷ us) [] at e = let h : k + item_count_of_all t ≡ at = cc in omega (arith, h)
place_least k t (u ∷ us) (x ∷ front) at e =
    let h : holes_from (k + item_count_of_all t + 1) u us ≡ front ++ (at ∷ []) = cc in
    omega (arith, place_least (k + item_count_of_all t + 1) u us front at h)

laid_counted : (t u : Trees) (us : List Trees) → length (laid t (u ∷ us)) ≡ item_count_of_all t + 1 + length (laid u us)
laid_counted t u us = omega (arith, length-append (entries_of_all t) (hole ∷ laid u us), entries_all_counted t)

pub place_most : (k : ℕ) (t : Trees) (us : List Trees) (front : List ℕ) (at : ℕ) → holes_from k t us ≡ front ++ (at ∷ []) → at < k + length (laid t us)
place_most k t [] [] at e = absurd (cc)
place_most k t [] (x ∷ front) at e = absurd (cc)
place_most k t (u ∷ us) [] at e = let h : k + item_count_of_all t ≡ at = cc in omega (arith, h, laid_counted t u us)
place_most k t (u ∷ us) (x ∷ front) at e =
    let h : holes_from (k + item_count_of_all t + 1) u us ≡ front ++ (at ∷ []) = cc in
    omega (arith, place_most (k + item_count_of_all t + 1) u us front at h, laid_counted t u us)

set_behind : (xs : List Entry) (y : Entry) (ys : List Entry) (n m : ℕ) (a : Entry) → n ≡ length xs + 1 + m → set (xs ++ (y ∷ ys)) n a ≡ xs ++ (y ∷ set ys m a)
set_behind xs y ys n m a e =
    let k : n - length xs ≡ suc m = omega arith in
    set-append_right xs (y ∷ ys) (length xs) n a refl (omega arith) ∙ ap (λ i. xs ++ set (y ∷ ys) i a) k

regroup : {A : Type 0} (t o u c : List A) → (t ++ ((o ++ u) ++ [])) ++ c ≡ (t ++ ((o ++ (u ++ c)) ++ [])) ++ []
regroup t o u c = simp (append_assoc, append-nil)

-- the innermost list ends
innermost : (k : ℕ) (t u : Trees) (at n : ℕ) → k + item_count_of_all t ≡ at → n + at + 1 ≡ k + length (laid t (u ∷ []))
    → Becomes (set (laid t (u ∷ [])) (at - k) (branch n)) [] (rows_tokens t (u ∷ []) ++ (close_list ∷ [])) k
innermost k t u at n e h =
    let same : n ≡ item_count_of_all u = omega (arith, laid_counted t u [], entries_all_counted u) in
    let here : length (entries_of_all t) ≡ at - k = omega (arith, entries_all_counted t) in (
      joined_rows t (list u ▸ none),
      [],
      set_at (entries_of_all t) hole (entries_of_all u) (branch n) (at - k) here
          ∙ ap (λ m. entries_of_all t ++ (branch m ∷ entries_of_all u)) same
          ∙ ap (λ es. entries_of_all t ++ (branch (item_count_of_all u) ∷ es)) (sym (append-nil (entries_of_all u)))
          ∙ sym (entries_joined t (list u ▸ none)),
      refl,
      ap (λ ts. ts ++ []) (tokens_joined t (list u ▸ none)) ∙ sym (regroup (tokens_of_all t) (open_list ∷ []) (tokens_of_all u) (close_list ∷ [])),
    )

pub close_behind : (k : ℕ) (t : Trees) (us : List Trees) (front : List ℕ) (at n : ℕ) → holes_from k t us ≡ front ++ (at ∷ []) → n + at + 1 ≡ k + length (laid t us)
    → Becomes (set (laid t us) (at - k) (branch n)) front (rows_tokens t us ++ (close_list ∷ [])) k
close_behind k t [] [] at n e h = absurd (cc)
close_behind k t [] (x ∷ front) at n e h = absurd (cc)
close_behind k t (u ∷ []) [] at n e h = innermost k t u at n (cc) h
close_behind k t (u ∷ []) (x ∷ []) at n e h = absurd (cc)
close_behind k t (u ∷ []) (x ∷ (y ∷ front)) at n e h = absurd (cc)
close_behind k t (u ∷ (v ∷ vs)) [] at n e h = absurd (cc)
close_behind k t (u ∷ (v ∷ vs)) (x ∷ front) at n e h =
    let q : ℕ = k + item_count_of_all t + 1 in
    let first : k + item_count_of_all t ≡ x = cc in
    let others : holes_from q u (v ∷ vs) ≡ front ++ (at ∷ []) = cc in
    let least = place_least q u (v ∷ vs) front at others in
    let step = set_behind (entries_of_all t) hole (laid u (v ∷ vs)) (at - k) (at - q) (branch n) (omega (arith, entries_all_counted t, least)) in
    let inner = close_behind q u (v ∷ vs) front at n others (omega (arith, h, laid_counted t u (v ∷ vs))) in
    let whole = behind_row t u (v ∷ vs) _ front (close_list ∷ []) k inner in
    subst (λ es. Becomes es (x ∷ front) (rows_tokens t (u ∷ (v ∷ vs)) ++ (close_list ∷ [])) k) (sym step)
    (subst (λ p. Becomes (entries_of_all t ++ (hole ∷ set (laid u (v ∷ vs)) (at - q) (branch n))) (p ∷ front) (rows_tokens t (u ∷ (v ∷ vs)) ++ (close_list ∷ [])) k) first whole)

pub rows_from : (es : List Entry) (places : List ℕ) (tokens : List Token) → Becomes es places tokens 0 → AreRows es places tokens
rows_from es places tokens h = are_rows es places tokens h.0 h.1 h.2 h.3 h.4
