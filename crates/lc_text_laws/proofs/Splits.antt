-- Rows, split after the lists at their beginning that begin with a word.
use Rattle.std.proofs.Common.{◌≡◌, ℕ, ◌+◌, Bool, true, false, cond, List, [], ◌∷◌, refl, sym, ap, ap₂, ◌∙◌, subst, arith}
use Rattle.lc_sexp.specs.Parts.{fits, misshapen, form_fit}
use Rattle.lc_sexp.specs.Trees.{Tree, Trees, atom, list, none, ◌▸◌, item_count, item_count_of_all}
use Rattle.lc_reading.proofs.Fine.{IfFine, if_fine_unit, if_fine_weaker}
use Rattle.lc_reading.proofs.Words.{is-true}
use Rattle.lc_reading.specs.Parts.{begins}
use Rattle.lc_reading.specs.Readings.{Reading, fine, wrong, both, behind_reading}
use Rattle.lc_reading.specs.Words.{is}
use Rattle.lc_reading.specs.declared.pass.Pass.TheVariants.{Shape}
use Rattle.lc_object_text.specs.Rows.{cons, placed_reading, lists_reading}
use Rattle.lc_object_text.specs.Sections as S
use Rattle.lc_object_text.specs.Sections.{behind_lists, before_others, forms_in, some_forms_in, parts_in, parts_of_fit}
use Rattle.lc_outline_print.specs.Developments.{followed}
use Rattle.lc_text.proofs.Printed.{same_refl}
use Rattle.lc_object_text.proofs.PlacedRows.{fits_where}

-- a list that begins with this word
abbrev pub IsForm : List ℕ → Tree → Type 0
IsForm word t = (ts : Trees) × (t ≡ list (atom word ▸ ts))

abbrev pub AreForms : List ℕ → Trees → Type 0
AreForms word none = Unit {0}
AreForms word (t ▸ ts) = IsForm word t × AreForms word ts

-- the first is no such list
abbrev pub IsStop : List ℕ → Trees → Type 0
IsStop word none = Unit {0}
IsStop word (t ▸ ts) = begins word t ≡ false

pub record Split (word : List ℕ) (ts : Trees) : Type 0 where
  pub own : Trees
  pub others : Trees
  pub same : ts ≡ followed own others
  pub forms : AreForms word own
  pub stop : IsStop word others

nothing_own : (word : List ℕ) (t : Tree) (ts : Trees) → begins word t ≡ false → Split word (t ▸ ts)
nothing_own word t ts e = record { own = none; others = t ▸ ts; same = refl; forms = tt; stop = e }

split_at : (word w : List ℕ) (us ts : Trees) (b : Bool) → is w word ≡ b → Split word ts → Split word (list (atom w ▸ us) ▸ ts)
split_at word w us ts true e s = record {
  own = list (atom w ▸ us) ▸ s.own;
  others = s.others;
  same = ap (λ vs. list (atom w ▸ us) ▸ vs) s.same;
  forms = ((us, ap (λ v. list (atom v ▸ us)) (is-true w word e)), s.forms);
  stop = s.stop;
}
split_at word w us ts false e s = nothing_own word (list (atom w ▸ us)) ts e

pub trees_are_split : (word : List ℕ) (ts : Trees) → Split word ts
trees_are_split word none = record { own = none; others = none; same = refl; forms = tt; stop = tt }
trees_are_split word (atom w ▸ ts) = nothing_own word (atom w) ts refl
trees_are_split word (list none ▸ ts) = nothing_own word (list none) ts refl
trees_are_split word (list (list us ▸ vs) ▸ ts) = nothing_own word (list (list us ▸ vs)) ts refl
trees_are_split word (list (atom w ▸ us) ▸ ts) = split_at word w us ts (is w word) refl (trees_are_split word ts)

-- ---- what is found in a row that is split so

form_begins : (word : List ℕ) (t : Tree) → IsForm word t → begins word t ≡ true
form_begins word t (ts, e) = ap (begins word) e ∙ same_refl word

pub form_fits : (word : List ℕ) (ts : Trees) → form_fit word (list (atom word ▸ ts)) ≡ fits ts
form_fits word ts = ap (λ b. cond b (fits ts) misshapen) (same_refl word)

begins_too : (word : List ℕ) (t : Tree) → S.begins word t ≡ begins word t
begins_too word (atom w) = refl
begins_too word (list none) = refl
begins_too word (list (list us ▸ ts)) = refl
begins_too word (list (atom w ▸ ts)) = fits_where (is w word) ts

unfit : (b : Bool) (ts : Trees) → b ≡ false → cond b (fits ts) misshapen ≡ misshapen
unfit b ts e = ap (λ b. cond b (fits ts) misshapen) e

stopped : (word : List ℕ) (t : Tree) → begins word t ≡ false → form_fit word t ≡ misshapen
stopped word (atom w) e = refl
stopped word (list none) e = refl
stopped word (list (list us ▸ ts)) e = refl
stopped word (list (atom w ▸ ts)) e = unfit (is w word) ts e

no_lists : (word : List ℕ) (n : ℕ) (us : Trees) → IsStop word us → behind_lists word n us ≡ record { number = n; trees = us }
no_lists word n none s = refl
no_lists word n (t ▸ ts) s = ap (λ b. cond b (behind_lists word (n + item_count t) ts) (record { number = n; trees = t ▸ ts })) (begins_too word t ∙ s)

pub lists_behind : (word : List ℕ) (n : ℕ) (own us : Trees) → AreForms word own → IsStop word us → behind_lists word n (followed own us) ≡ record { number = n + item_count_of_all own; trees = us }
lists_behind word n none us f s = no_lists word n us s ∙ ap (λ n. record { number = n; trees = us }) (omega arith)
lists_behind word n (t ▸ ts) us f s =
    ap (λ b. cond b (behind_lists word (n + item_count t) (followed ts us)) (record { number = n; trees = t ▸ followed ts us })) (begins_too word t ∙ form_begins word t f.0)
    ∙ lists_behind word (n + item_count t) ts us f.1 s
    ∙ ap (λ n. record { number = n; trees = us }) (omega arith)

no_forms : (word : List ℕ) (us : Trees) → IsStop word us → forms_in word us ≡ []
no_forms word none s = refl
no_forms word (t ▸ ts) s = ap (λ f. before_others f (forms_in word ts)) (stopped word t s)

-- what comes after the word in each
abbrev pub parts_of_all : List ℕ → Trees → List Trees
parts_of_all word none = []
parts_of_all word (t ▸ ts) = parts_in word t ∷ parts_of_all word ts

fit_at : (word : List ℕ) (t : Tree) → IsForm word t → form_fit word t ≡ fits (parts_in word t)
fit_at word t (ts, e) = subst (λ t. form_fit word t ≡ fits (parts_in word t)) (sym e) (form_fits word ts ∙ ap fits (sym (ap parts_of_fit (form_fits word ts))))

pub forms_of : (word : List ℕ) (own us : Trees) → AreForms word own → IsStop word us → forms_in word (followed own us) ≡ parts_of_all word own
forms_of word none us f s = no_forms word us s
forms_of word (t ▸ ts) us f s = ap₂ before_others (fit_at word t f.0) (forms_of word ts us f.1 s)

pub some_forms : (word : List ℕ) (ts : Trees) → AreForms word ts → some_forms_in word ts ≡ parts_of_all word ts
some_forms word none f = refl
some_forms word (t ▸ ts) f = ap (λ rest. parts_in word t ∷ rest) (sym (ap (forms_in word) (followed_none ts)) ∙ forms_of word ts none f.1 tt)
  where
    followed_none : (ts : Trees) → followed ts none ≡ ts
    followed_none none = refl
    followed_none (t ▸ ts) = ap (λ us. t ▸ us) (followed_none ts)

module _ {X : Type 0} (word : List ℕ) (read : ℕ → ℕ → Tree → Reading X) where
  no_more : (i m : ℕ) (us : Trees) → IsStop word us → lists_reading word read i m us ≡ fine []
  no_more i m none s = refl
  no_more i m (t ▸ ts) s = ap (λ b. cond b (both cons (read i m t) (lists_reading word read (i + 1) (m + item_count t) ts)) (fine [])) s

  pub lists_placed : (i m : ℕ) (own us : Trees) → AreForms word own → IsStop word us → lists_reading word read i m (followed own us) ≡ placed_reading read i m own
  lists_placed i m none us f s = no_more i m us s
  lists_placed i m (t ▸ ts) us f s =
      ap (λ b. cond b (both cons (read i m t) (lists_reading word read (i + 1) (m + item_count t) (followed ts us))) (fine [])) (form_begins word t f.0)
      ∙ ap (both cons (read i m t)) (lists_placed (i + 1) (m + item_count t) ts us f.1 s)

-- where a list after a word is expected, what is fine is such a list, and this holds of its parts
module _ {X : Type 0} (P : Trees → X → Type 0) (word : List ℕ) (read : ℕ → ℕ → Trees → Reading X) where
  abbrev pub HasParts : Tree → X → Type 0
  HasParts t x = (ts : Trees) × (t ≡ list (atom word ▸ ts)) × P ts x

  parts_at : (n : ℕ) (w : List ℕ) (ts : Trees) (b : Bool) → is w word ≡ b → IfFine (read n (n + 2) ts) (P ts) → IfFine (cond b (read n (n + 2) ts) (wrong Shape n)) (HasParts (list (atom w ▸ ts)))
  parts_at n w ts true e h = if_fine_weaker (P ts) (HasParts (list (atom w ▸ ts))) (read n (n + 2) ts) (λ x p. (ts, ap (λ v. list (atom v ▸ ts)) (is-true w word e), p)) h
  parts_at n w ts false e h = tt

  pub has_parts : ((n m : ℕ) (ts : Trees) → IfFine (read n m ts) (P ts)) → (n : ℕ) (t : Tree) → IfFine (behind_reading word read n t) (HasParts t)
  has_parts h n (atom w) = tt
  has_parts h n (list none) = tt
  has_parts h n (list (list us ▸ ts)) = tt
  has_parts h n (list (atom w ▸ ts)) = parts_at n w ts (is w word) refl (h n (n + 2) ts)

pub is_form : {X : Type 0} (word : List ℕ) (read : ℕ → ℕ → Trees → Reading X) (n : ℕ) (t : Tree) → IfFine (behind_reading word read n t) (λ x. IsForm word t)
is_form {X} word read n t =
    if_fine_weaker (HasParts (λ ts x. Unit {0}) word read t) (λ x. IsForm word t) (behind_reading word read n t) (λ x h. (h.0, h.1)) (has_parts (λ ts x. Unit {0}) word read (λ n m ts. if_fine_unit (read n m ts)) n t)
