-- Parts that are set aside one after another.
use Rattle.std.proofs.Common.{◌≡◌, ℕ, zero, suc, ◌+◌, ◌-◌, ◌<◌, Bool, true, false, List, [], ◌∷◌, ◌++◌, length, take, drop, refl, sym, ap, ◌∙◌, arith, append_assoc, append-nil}
use Rattle.std.specs.Prelude.{◌==◌}
use Rattle.std.proofs.lemmas.Bool.Decides.{nat_tests}
use Rattle.std.proofs.Math.Seq.{take-append_seam, drop-append_seam}
use Rattle.lc_sexp.specs.Trees.{Tree, Trees, atom, list, none, ◌▸◌, item_count, item_count_of_all, Token, open_list, close_list, word, tokens_of, tokens_of_all}
use Rattle.lc_sexp.specs.TreeCode.{joined_rows, tree_count, behind_first}
use Rattle.lc_sexp.specs.Entries.{Entry, leaf, branch, entries_of_all}
use Rattle.lc_sexp.specs.Takes.{parts_in, parts_from, parts_of, without}
use Rattle.lc_sexp.specs.Filling.{front_of, behind_of, filled}
use Rattle.lc_sexp.specs.Splitting.{front, emptied, IsSetAside}
use Rattle.lc_sexp.specs.declared.part.Part.{Part}
use Rattle.lc_sexp.proofs.Rows.{entries_joined, tokens_joined, count_joined}

-- parts by the numbers of the first
pub in_at : (f g i j : ℕ) (ts : Trees) → f ≡ g → i ≡ j → parts_in f i ts ≡ parts_in g j ts
in_at f g i j ts d e = ap (λ n. parts_in n i ts) d ∙ ap (λ n. parts_in g n ts) e

from_at : (f g i j : ℕ) (ts : Trees) → f ≡ g → i ≡ j → parts_from f i ts ≡ parts_from g j ts
from_at f g i j ts d e = ap (λ n. parts_from n i ts) d ∙ ap (λ n. parts_from g n ts) e

-- parts of trees one after another
pub in_joined : (f i : ℕ) (ts us : Trees) → parts_in f i (joined_rows ts us) ≡ parts_in f i ts ++ parts_in f (i + item_count_of_all ts) us
in_joined f i none us = in_at f f i (i + 0) us refl (omega arith)
in_joined f i (t ▸ ts) us =
    ap (λ ps. record { form = f; item = i; sexp = t } ∷ ps)
    (in_joined f (i + item_count t) ts us
    ∙ ap (λ ps. parts_in f (i + item_count t) ts ++ ps) (in_at f f (i + item_count t + item_count_of_all ts) (i + (item_count t + item_count_of_all ts)) us refl (omega arith)))

pub from_joined : (f i : ℕ) (ts us : Trees) → parts_from f i (joined_rows ts us) ≡ parts_from f i ts ++ parts_from (f + tree_count ts) (i + item_count_of_all ts) us
from_joined f i none us = from_at f (f + 0) i (i + 0) us (omega arith) (omega arith)
from_joined f i (atom w ▸ ts) us =
    from_joined (f + 1) (i + 1) ts us
    ∙ ap (λ ps. parts_from (f + 1) (i + 1) ts ++ ps) (from_at (f + 1 + tree_count ts) (f + suc (tree_count ts)) (i + 1 + item_count_of_all ts) (i + (1 + item_count_of_all ts)) us (omega arith) (omega arith))
from_joined f i (list vs ▸ ts) us =
    let j : ℕ = i + 1 + item_count_of_all vs in
    ap (λ ps. parts_in f (i + 1) vs ++ ps)
    (from_joined (f + 1) j ts us
    ∙ ap (λ ps. parts_from (f + 1) j ts ++ ps) (from_at (f + 1 + tree_count ts) (f + suc (tree_count ts)) (j + item_count_of_all ts) (i + ((item_count_of_all vs + 1) + item_count_of_all ts)) us (omega arith) (omega arith)))
    ∙ sym (append_assoc (parts_in f (i + 1) vs) (parts_from (f + 1) j ts) _)

emptied_joined : (ts us : Trees) → emptied (joined_rows ts us) ≡ joined_rows (emptied ts) (emptied us)
emptied_joined none us = refl
emptied_joined (atom w ▸ ts) us = ap (λ x. atom w ▸ x) (emptied_joined ts us)
emptied_joined (list vs ▸ ts) us = ap (λ x. list none ▸ x) (emptied_joined ts us)

trees_joined : (ts us : Trees) → tree_count (joined_rows ts us) ≡ tree_count ts + tree_count us
trees_joined none us = omega arith
trees_joined (t ▸ ts) us = omega (arith, trees_joined ts us)

-- forms without their parts, and one more
emptied_more : (ts : Trees) (t : Tree) (shells shells' : List Entry) → shells ≡ entries_of_all (emptied ts) → shells' ≡ shells ++ entries_of_all (emptied (t ▸ none)) → shells' ≡ entries_of_all (emptied (joined_rows ts (t ▸ none)))
emptied_more ts t shells shells' e f =
    f ∙ ap (λ x. x ++ entries_of_all (emptied (t ▸ none))) e ∙ sym (ap entries_of_all (emptied_joined ts (t ▸ none)) ∙ entries_joined (emptied ts) (emptied (t ▸ none)))

-- nothing is set aside
pub none_aside : (whole rest : List ℕ → List Token) (handed : List Part) (shells : List Entry) → ((x : List ℕ) → rest x ≡ whole x) → handed ≡ [] → shells ≡ [] → IsSetAside whole rest handed false shells 0 0
none_aside whole rest handed shells e f g = record { forms = none; items = none; tokens = e; parts = f; ended = g; form = refl; item = refl }

-- the rest known otherwise
pub same_rest : (whole rest rest' : List ℕ → List Token) (handed : List Part) (in_list : Bool) (shells : List Entry) (f i : ℕ) → ((x : List ℕ) → rest' x ≡ rest x)
    → IsSetAside whole rest handed in_list shells f i → IsSetAside whole rest' handed in_list shells f i
same_rest whole rest rest' handed in_list shells f i e h = record {
  forms = h.forms;
  items = h.items;
  tokens = λ x. ap (λ ts. front in_list h.forms h.items ++ ts) (e x) ∙ h.tokens x;
  parts = h.parts;
  ended = h.ended;
  form = h.form;
  item = h.item;
}

-- the same, with other texts to come, and with the whole given in another way
pub at_rests : (whole whole' rest rest' : List ℕ → List Token) (handed : List Part) (in_list : Bool) (shells : List Entry) (f i : ℕ) (to : List ℕ → List ℕ)
    → ((x : List ℕ) → whole (to x) ≡ whole' x) → ((x : List ℕ) → rest' x ≡ rest (to x))
    → IsSetAside whole rest handed in_list shells f i → IsSetAside whole' rest' handed in_list shells f i
at_rests whole whole' rest rest' handed in_list shells f i to d e h = record {
  forms = h.forms;
  items = h.items;
  tokens = λ x. ap (λ ts. front in_list h.forms h.items ++ ts) (e x) ∙ h.tokens (to x) ∙ d x;
  parts = h.parts;
  ended = h.ended;
  form = h.form;
  item = h.item;
}

regroup_part : {A : Type 0} (a b c d : List A) (o : A) → (a ++ (o ∷ (b ++ (c ++ [])))) ++ d ≡ (a ++ (o ∷ b)) ++ (c ++ d)
regroup_part a b c d o = simp (append_assoc, append-nil)

regroup_list : {A : Type 0} (a b d : List A) (o c : A) → (a ++ ((o ∷ (b ++ (c ∷ []))) ++ [])) ++ d ≡ (a ++ (o ∷ b)) ++ (c ∷ d)
regroup_list a b d o c = simp (append_assoc, append-nil)

-- a part has ended
pub put_part : (whole rest rest' : List ℕ → List Token) (handed handed' : List Part) (shells : List Entry) (f i i' : ℕ) (t : Tree)
    → ((x : List ℕ) → rest x ≡ tokens_of t ++ rest' x) → handed' ≡ handed ++ (record { form = f; item = i; sexp = t } ∷ []) → i' ≡ i + item_count t
    → IsSetAside whole rest handed true shells f i → IsSetAside whole rest' handed' true shells f i'
put_part whole rest rest' handed handed' shells f i i' t step more count h =
    let m : ℕ = item_count_of_all h.forms + 1 in
    record {
      forms = h.forms;
      items = joined_rows h.items (t ▸ none);
      tokens = λ x.
          ap (λ ts. (tokens_of_all h.forms ++ (open_list ∷ ts)) ++ rest' x) (tokens_joined h.items (t ▸ none))
          ∙ regroup_part (tokens_of_all h.forms) (tokens_of_all h.items) (tokens_of t) (rest' x) open_list
          ∙ ap (λ ts. (tokens_of_all h.forms ++ (open_list ∷ tokens_of_all h.items)) ++ ts) (sym (step x))
          ∙ h.tokens x;
      parts =
          more
          ∙ ap (λ ps. ps ++ (record { form = f; item = i; sexp = t } ∷ [])) h.parts
          ∙ append_assoc (parts_of h.forms) (parts_in (tree_count h.forms) m h.items) (parts_in f i (t ▸ none))
          ∙ ap (λ ps. parts_of h.forms ++ (parts_in (tree_count h.forms) m h.items ++ ps)) (in_at f (tree_count h.forms) i (m + item_count_of_all h.items) (t ▸ none) h.form h.item)
          ∙ ap (λ ps. parts_of h.forms ++ ps) (sym (in_joined (tree_count h.forms) m h.items (t ▸ none)));
      ended = h.ended;
      form = h.form;
      item = omega (arith, count, h.item, count_joined h.items (t ▸ none));
    }

-- an atom that is a form has ended
pub put_atom : (whole rest rest' : List ℕ → List Token) (handed : List Part) (shells shells' : List Entry) (f f' i i' : ℕ) (w : List ℕ)
    → ((x : List ℕ) → rest x ≡ word w ∷ rest' x) → shells' ≡ shells ++ (leaf w ∷ []) → f' ≡ f + 1 → i' ≡ i + 1
    → IsSetAside whole rest handed false shells f i → IsSetAside whole rest' handed false shells' f' i'
put_atom whole rest rest' handed shells shells' f f' i i' w step more form item h = record {
  forms = joined_rows h.forms (atom w ▸ none);
  items = h.items;
  tokens = λ x.
      ap (λ ts. ts ++ rest' x) (tokens_joined h.forms (atom w ▸ none))
      ∙ append_assoc (tokens_of_all h.forms) (word w ∷ []) (rest' x)
      ∙ ap (λ ts. tokens_of_all h.forms ++ ts) (sym (step x))
      ∙ h.tokens x;
  parts = h.parts ∙ sym (from_joined 0 0 h.forms (atom w ▸ none) ∙ append-nil (parts_of h.forms));
  ended = emptied_more h.forms (atom w) shells shells' h.ended more;
  form = omega (arith, form, h.form, trees_joined h.forms (atom w ▸ none));
  item = omega (arith, item, h.item, count_joined h.forms (atom w ▸ none));
}

-- a form begins
pub put_open : (whole rest rest' : List ℕ → List Token) (handed : List Part) (shells : List Entry) (f i i' : ℕ)
    → ((x : List ℕ) → rest x ≡ open_list ∷ rest' x) → i' ≡ i + 1
    → IsSetAside whole rest handed false shells f i → IsSetAside whole rest' handed true shells f i'
put_open whole rest rest' handed shells f i i' step item h = record {
  forms = h.forms;
  items = none;
  tokens = λ x. append_assoc (tokens_of_all h.forms) (open_list ∷ []) (rest' x) ∙ ap (λ ts. tokens_of_all h.forms ++ ts) (sym (step x)) ∙ h.tokens x;
  parts = h.parts ∙ sym (append-nil (parts_of h.forms));
  ended = h.ended;
  form = h.form;
  item = omega (arith, item, h.item);
}

-- a form ends
pub put_close : (whole rest rest' : List ℕ → List Token) (handed : List Part) (shells shells' : List Entry) (f f' i : ℕ)
    → ((x : List ℕ) → rest x ≡ close_list ∷ rest' x) → shells' ≡ shells ++ (branch 0 ∷ []) → f' ≡ f + 1
    → IsSetAside whole rest handed true shells f i → IsSetAside whole rest' handed false shells' f' i
put_close whole rest rest' handed shells shells' f f' i step more form h =
    let t : Tree = list h.items in
    record {
      forms = joined_rows h.forms (t ▸ none);
      items = none;
      tokens = λ x.
          ap (λ ts. ts ++ rest' x) (tokens_joined h.forms (t ▸ none))
          ∙ regroup_list (tokens_of_all h.forms) (tokens_of_all h.items) (rest' x) open_list close_list
          ∙ ap (λ ts. (tokens_of_all h.forms ++ (open_list ∷ tokens_of_all h.items)) ++ ts) (sym (step x))
          ∙ h.tokens x;
      parts =
          h.parts
          ∙ sym (from_joined 0 0 h.forms (t ▸ none)
          ∙ ap (λ ps. parts_of h.forms ++ ps)
          (append-nil (parts_in (0 + tree_count h.forms) (0 + item_count_of_all h.forms + 1) h.items)
          ∙ in_at (0 + tree_count h.forms) (tree_count h.forms) (0 + item_count_of_all h.forms + 1) (item_count_of_all h.forms + 1) h.items (omega arith) (omega arith)));
      ended = emptied_more h.forms t shells shells' h.ended more;
      form = omega (arith, form, h.form, trees_joined h.forms (t ▸ none));
      item = omega (arith, h.item, count_joined h.forms (t ▸ none));
    }

-- Parts of later forms only.
abbrev AreLater : ℕ → List Part → Type 0
AreLater f ps = (front_of f ps ≡ none) × (behind_of f ps ≡ ps)

later_in : (us : Trees) (f g i m : ℕ) (ps : List Part) → f < g → ((k : ℕ) → AreLater f (drop k ps)) → AreLater f (drop m (parts_in g i us ++ ps))
later_in none f g i m ps lt h = h m
later_in (t ▸ us) f g i zero ps lt h =
    let no : (g == f) ≡ false = grind (arith, nat_tests) in
    rw no (refl, refl)
later_in (t ▸ us) f g i (suc m) ps lt h = later_in us f g (i + item_count t) m ps lt h

nothing_later : (f m : ℕ) → AreLater f (drop m [])
nothing_later f zero = (refl, refl)
nothing_later f (suc m) = (refl, refl)

later_from : (ts : Trees) (f g i m : ℕ) → f < g → AreLater f (drop m (parts_from g i ts))
later_from none f g i m lt = nothing_later f m
later_from (atom w ▸ ts) f g i m lt = later_from ts f (g + 1) (i + 1) m (omega (arith, lt))
later_from (list us ▸ ts) f g i m lt =
    later_in us f g (i + 1) m (parts_from (g + 1) (i + 1 + item_count_of_all us) ts) lt (λ k. later_from ts f (g + 1) (i + 1 + item_count_of_all us) k (omega (arith, lt)))

-- What is left of a list after its first parts were taken.
abbrev IsLeft : Trees → ℕ → ℕ → List Part → List Part → Type 0
IsLeft us n f ps behind = (front_of f ps ≡ behind_first n us) × (behind_of f ps ≡ behind)

behind_none : (us : Trees) → behind_first zero us ≡ us
behind_none none = refl
behind_none (t ▸ us) = refl

left_in : (us : Trees) (n f i : ℕ) (ps : List Part) → ((k : ℕ) → AreLater f (drop k ps)) → IsLeft us n f (drop n (parts_in f i us ++ ps)) (drop (n - tree_count us) ps)
left_in none n f i ps h =
    let e : n ≡ n - 0 = omega arith in
    ((h n).0, (h n).1 ∙ ap (λ k. drop k ps) e)
left_in (t ▸ us) zero f i ps h =
    let yes : (f == f) ≡ true = grind (arith, nat_tests) in
    let e : zero - tree_count us ≡ zero - suc (tree_count us) = omega arith in
    let others = left_in us zero f (i + item_count t) ps h in
    (rw yes (ap (λ x. t ▸ x) (others.0 ∙ behind_none us)), rw yes (others.1 ∙ ap (λ k. drop k ps) e))
left_in (t ▸ us) (suc n) f i ps h =
    let e : n - tree_count us ≡ suc n - suc (tree_count us) = omega arith in
    let others = left_in us n f (i + item_count t) ps h in
    (others.0, others.1 ∙ ap (λ k. drop k ps) e)

-- the parts that are left, put back into their lists
filled_from : (ts : Trees) (n f i : ℕ) → filled f (entries_of_all (emptied ts)) (drop n (parts_from f i ts)) ≡ without n ts
filled_from none n f i = refl
filled_from (atom w ▸ ts) n f i = ap (λ x. atom w ▸ x) (filled_from ts n (f + 1) (i + 1))
filled_from (list us ▸ ts) n f i =
    let j : ℕ = i + 1 + item_count_of_all us in
    let ps : List Part = parts_from (f + 1) j ts in
    let l = left_in us n f (i + 1) ps (λ k. later_from ts f (f + 1) j k (omega arith)) in
    ap (λ x. list x ▸ filled (f + 1) (entries_of_all (emptied ts)) (behind_of f (drop n (parts_in f (i + 1) us ++ ps)))) l.0
    ∙ ap (λ x. list (behind_first n us) ▸ filled (f + 1) (entries_of_all (emptied ts)) x) l.1
    ∙ ap (λ x. list (behind_first n us) ▸ x) (filled_from ts (n - tree_count us) (f + 1) j)

pub filled_without : (ts : Trees) (taken ready : List Part) (shells : List Entry) → taken ++ ready ≡ parts_of ts → shells ≡ entries_of_all (emptied ts)
    → (taken ≡ take (length taken) (parts_of ts)) × (filled 0 shells ready ≡ without (length taken) ts)
filled_without ts taken ready shells e f = (
  sym (take-append_seam taken ready) ∙ ap (take (length taken)) e,
  ap (λ es. filled 0 es ready) f
      ∙ ap (λ ps. filled 0 (entries_of_all (emptied ts)) ps) (sym (drop-append_seam taken ready) ∙ ap (drop (length taken)) e)
      ∙ filled_from ts (length taken) 0 0,
)

-- nothing was taken
pub without_none : (ts : Trees) → without 0 ts ≡ ts
without_none none = refl
without_none (atom w ▸ ts) = ap (λ x. atom w ▸ x) (without_none ts)
without_none (list us ▸ ts) =
    let e : 0 - tree_count us ≡ 0 = omega arith in
    ap (λ x. list x ▸ without (0 - tree_count us) ts) (behind_none us) ∙ ap (λ n. list us ▸ without n ts) e ∙ ap (λ x. list us ▸ x) (without_none ts)

-- the parts known otherwise
pub same_parts : (whole rest : List ℕ → List Token) (handed handed' : List Part) (in_list : Bool) (shells : List Entry) (f i : ℕ) → handed' ≡ handed
    → IsSetAside whole rest handed in_list shells f i → IsSetAside whole rest handed' in_list shells f i
same_parts whole rest handed handed' in_list shells f i e h = record {
  forms = h.forms;
  items = h.items;
  tokens = h.tokens;
  parts = e ∙ h.parts;
  ended = h.ended;
  form = h.form;
  item = h.item;
}
