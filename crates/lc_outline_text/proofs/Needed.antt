-- An edge that stores has an `on` in what is read.
use Rattle.std.proofs.Common.{◌≡◌, ℕ, ◌+◌, Bool, true, false, ◌&&◌, ◌||◌, cond, List, ◌∷◌, Option, Some, None, refl, sym, ap, ◌∙◌}
use Rattle.std.specs.List.{list_any}
use Rattle.std.specs.Prelude.{codes, not, is_some}
use Rattle.lc_sexp.specs.Parts.{fits, form_fit}
use Rattle.lc_sexp.specs.Trees.{Tree, Trees, atom, list, none, ◌▸◌, item_count}
use Rattle.lc_reading.proofs.Holding.{Holds, holds_unit, both_holds, if_holds, limited_holds}
use Rattle.lc_reading.proofs.Words.{is-true}
use Rattle.lc_reading.specs.Readings.{wrong}
use Rattle.lc_reading.specs.Words.{is}
use Rattle.lc_reading.specs.declared.pass.Pass.TheVariants.{Shape}
use Rattle.lc_text.specs.Names.{Names}
use Rattle.lc_text.specs.Terms.{pair}
use Rattle.lc_object.specs.Syntax as S
use Rattle.lc_object.specs.Syntax.{Instr}
use Rattle.lc_object.specs.declared.instr.EdgeKind.{EdgeKind}
use Rattle.lc_object.specs.declared.instr.EdgeKind.TheVariants.{Next, Then, Else}
use Rattle.lc_object_text.proofs.Holding.{form_holds, behind_holds}
use Rattle.lc_object_text.specs.CodeNames.{CodeNames}
use Rattle.lc_object_text.specs.Heads.{head_of}
use Rattle.lc_object_text.specs.Instructions.{load_of, load_reading, store_of, store_reading, cas_of, cas_reading, set_of, set_reading, faa_of, faa_reading, if_of, if_reading, return_of, return_reading, code_reading, instruction_reading}
use Rattle.lc_object_text.specs.ObjectNames.{text_in, first_text}
use Rattle.lc_object_text.specs.Rows.{cons}
use Rattle.lc_object_text.specs.Sections.{parts_in, before_others, forms_in}
use Rattle.lc_outline.specs.Development.{On, on_for, same_kind}
use Rattle.lc_rider_text.specs.Edges.{edge_of, edge_in, found_edge, is_refused, without}
use Rattle.lc_rider_text.specs.Heads.{kind_of}
use Rattle.lc_rider_text.specs.Known.{Known, Ways}
use Rattle.lc_rider_text.specs.Ons.{the_on, on_parts_reading, on_reading, ons_reading}
use Rattle.lc_rider_text.specs.declared.edges.Edges.{Edges}
use Rattle.lc_outline.specs.EdgeWords.{edge_word}
use Rattle.lc_outline_text.specs.Needs.{code_word, acts, lacks_on}

-- ---- instructions by their words

-- an instruction that stores has its word
abbrev pub IsOfWord : List ℕ → Instr → Type 0
IsOfWord w (S.Load a t rs l) = Unit {0}
IsOfWord w (S.Store a t vs l) = is w (codes "store") ≡ true
IsOfWord w (S.Cas a t old new l m) = is w (codes "cas") ≡ true
IsOfWord w (S.Set rs vs l) = Unit {0}
IsOfWord w (S.Faa a t rs ds l) = is w (codes "faa") ≡ true
IsOfWord w (S.If f l m) = Unit {0}
IsOfWord w (S.Return vs) = Unit {0}

loads : (w : List ℕ) (names : Names) (code : CodeNames) (n m : ℕ) (ts : Trees) → Holds (IsOfWord w) (load_reading names code n m ts)
loads w names code n m none = tt
loads w names code n m (a ▸ none) = tt
loads w names code n m (a ▸ t ▸ none) = tt
loads w names code n m (a ▸ t ▸ r ▸ none) = tt
loads w names code n m (a ▸ t ▸ r ▸ l ▸ ts) = both_holds (λ p. Unit {0}) (λ q. Unit {0}) (IsOfWord w) load_of _ _ (holds_unit _) (holds_unit _) (λ p q h g. tt)

stores_row : (w : List ℕ) → is w (codes "store") ≡ true → (names : Names) (code : CodeNames) (n m : ℕ) (ts : Trees) → Holds (IsOfWord w) (store_reading names code n m ts)
stores_row w e names code n m none = tt
stores_row w e names code n m (a ▸ none) = tt
stores_row w e names code n m (a ▸ t ▸ none) = tt
stores_row w e names code n m (a ▸ t ▸ r ▸ none) = tt
stores_row w e names code n m (a ▸ t ▸ r ▸ l ▸ ts) = both_holds (λ p. Unit {0}) (λ q. Unit {0}) (IsOfWord w) store_of _ _ (holds_unit _) (holds_unit _) (λ p q h g. e)

exchanges : (w : List ℕ) → is w (codes "cas") ≡ true → (names : Names) (code : CodeNames) (n m : ℕ) (ts : Trees) → Holds (IsOfWord w) (cas_reading names code n m ts)
exchanges w e names code n m none = tt
exchanges w e names code n m (a ▸ none) = tt
exchanges w e names code n m (a ▸ t ▸ none) = tt
exchanges w e names code n m (a ▸ t ▸ r ▸ none) = tt
exchanges w e names code n m (a ▸ t ▸ r ▸ s ▸ none) = tt
exchanges w e names code n m (a ▸ t ▸ r ▸ s ▸ l ▸ none) = tt
exchanges w e names code n m (a ▸ t ▸ r ▸ s ▸ l ▸ k ▸ ts) = both_holds (λ p. Unit {0}) (λ q. Unit {0}) (IsOfWord w) cas_of _ _ (holds_unit _) (holds_unit _) (λ p q h g. e)

sets : (w : List ℕ) (names : Names) (code : CodeNames) (n m : ℕ) (ts : Trees) → Holds (IsOfWord w) (set_reading names code n m ts)
sets w names code n m none = tt
sets w names code n m (a ▸ none) = tt
sets w names code n m (a ▸ l ▸ ts) = both_holds (λ p. Unit {0}) (λ q. Unit {0}) (IsOfWord w) set_of _ _ (holds_unit _) (holds_unit _) (λ p q h g. tt)

adds : (w : List ℕ) → is w (codes "faa") ≡ true → (names : Names) (code : CodeNames) (n m : ℕ) (ts : Trees) → Holds (IsOfWord w) (faa_reading names code n m ts)
adds w e names code n m none = tt
adds w e names code n m (a ▸ none) = tt
adds w e names code n m (a ▸ t ▸ none) = tt
adds w e names code n m (a ▸ t ▸ r ▸ none) = tt
adds w e names code n m (a ▸ t ▸ r ▸ d ▸ none) = tt
adds w e names code n m (a ▸ t ▸ r ▸ d ▸ l ▸ ts) = both_holds (λ p. Unit {0}) (λ q. Unit {0}) (IsOfWord w) faa_of _ _ (holds_unit _) (holds_unit _) (λ p q h g. e)

tests : (w : List ℕ) (names : Names) (code : CodeNames) (n m : ℕ) (ts : Trees) → Holds (IsOfWord w) (if_reading names code n m ts)
tests w names code n m none = tt
tests w names code n m (a ▸ none) = tt
tests w names code n m (a ▸ l ▸ none) = tt
tests w names code n m (a ▸ l ▸ k ▸ ts) = both_holds (λ p. Unit {0}) (λ q. Unit {0}) (IsOfWord w) if_of _ _ (holds_unit _) (holds_unit _) (λ p q h g. tt)

-- the first whose test holds
first_of : {X : Type 0} (P : Option X → Type 0) (o p q r s u : Option X) (a b c d e f : Bool) → P o → (b ≡ true → P p) → (c ≡ true → P q) → P r → (e ≡ true → P s) → P u → P None
    → P (cond a o (cond b p (cond c q (cond d r (cond e s (cond f u None))))))
first_of P o p q r s u true b c d e f h i j k l m n = h
first_of P o p q r s u false true c d e f h i j k l m n = i refl
first_of P o p q r s u false false true d e f h i j k l m n = j refl
first_of P o p q r s u false false false true e f h i j k l m n = k
first_of P o p q r s u false false false false true f h i j k l m n = l refl
first_of P o p q r s u false false false false false true h i j k l m n = m
first_of P o p q r s u false false false false false false h i j k l m n = n

by_head : (w : List ℕ) (names : Names) (code : CodeNames) (n m : ℕ) (ts : Trees) → Holds (IsOfWord w) (code_reading names code n m ts (head_of w))
by_head w names code n m ts =
    first_of (λ o. Holds (IsOfWord w) (code_reading names code n m ts o)) (head_of (codes "load")) (head_of (codes "store")) (head_of (codes "cas")) (head_of (codes "set")) (head_of (codes "faa")) (head_of (codes "if"))
    (is w (codes "load")) (is w (codes "store")) (is w (codes "cas")) (is w (codes "set")) (is w (codes "faa")) (is w (codes "if"))
    (behind_holds (IsOfWord w) 4 m ts (load_reading names code n m ts) (loads w names code n m ts))
    (λ e. behind_holds (IsOfWord w) 4 m ts (store_reading names code n m ts) (stores_row w e names code n m ts))
    (λ e. behind_holds (IsOfWord w) 6 m ts (cas_reading names code n m ts) (exchanges w e names code n m ts))
    (behind_holds (IsOfWord w) 2 m ts (set_reading names code n m ts) (sets w names code n m ts))
    (λ e. behind_holds (IsOfWord w) 5 m ts (faa_reading names code n m ts) (adds w e names code n m ts))
    (behind_holds (IsOfWord w) 3 m ts (if_reading names code n m ts) (tests w names code n m ts)) tt

pub instruction_word : (names : Names) (code : CodeNames) (n : ℕ) (t : Tree) → Holds (IsOfWord (code_word t)) (instruction_reading names code n t)
instruction_word names code n (atom w) = tt
instruction_word names code n (list none) = tt
instruction_word names code n (list (list us ▸ ts)) = tt
instruction_word names code n (list (atom w ▸ ts)) =
    if_holds (IsOfWord w) (is w (codes "return")) (return_reading names code n (n + 2) ts) (code_reading names code n (n + 2) ts (head_of w))
    (both_holds (λ p. Unit {0}) (λ q. Unit {0}) (IsOfWord w) return_of _ _ (holds_unit _) (holds_unit _) (λ p q h g. tt)) (by_head w names code n (n + 2) ts)

-- ---- what is done at an edge

pub edge_text : (t : Tree) → edge_of t ≡ kind_of (text_in t)
edge_text (atom w) = refl
edge_text (list ts) = refl

pub edge_found : (n : ℕ) (o : Option EdgeKind) → Holds (λ kind. o ≡ Some kind) (found_edge n o)
edge_found n None = tt
edge_found n (Some kind) = refl

-- it is at the edge that comes after the word
parts_at : (known : Known) (names : Names) (own : Option Ways) (edges : Edges) (n m : ℕ) (ts : Trees) → Holds (λ x. kind_of (first_text ts) ≡ Some x.edge) (on_parts_reading known names own edges n m ts)
parts_at known names own edges n m none = tt
parts_at known names own edges n m (t ▸ none) = tt
parts_at known names own edges n m (t ▸ u ▸ ts) =
    if_holds (λ x. kind_of (text_in t) ≡ Some x.edge) (is_refused edges (edge_of t)) (wrong Shape n) _ tt
    (limited_holds (λ x. kind_of (text_in t) ≡ Some x.edge) _ n _
    (both_holds (λ p. kind_of (text_in t) ≡ Some p.0) (λ rs. Unit {0}) (λ x. kind_of (text_in t) ≡ Some x.edge) the_on _ _
    (both_holds (λ k. edge_of t ≡ Some k) (λ c. Unit {0}) (λ p. kind_of (text_in t) ≡ Some p.0) pair _ _ (edge_found m (edge_of t)) (holds_unit _) (λ k c h g. sym (edge_text t) ∙ h))
    (holds_unit _) (λ p rs h g. h)))

on_at : (known : Known) (names : Names) (own : Option Ways) (edges : Edges) (n : ℕ) (t : Tree)
    → Holds (λ x. (form_fit (codes "on") t ≡ fits (parts_in (codes "on") t)) × (kind_of (first_text (parts_in (codes "on") t)) ≡ Some x.edge)) (on_reading known names own edges n t)
on_at known names own edges n t = form_holds (λ ts x. kind_of (first_text ts) ≡ Some x.edge) (codes "on") (on_parts_reading known names own edges) n t (parts_at known names own edges)

kind_same : (kind : EdgeKind) → same_kind kind kind ≡ true
kind_same Next = refl
kind_same Then = refl
kind_same Else = refl

kind_of_word : (kind : EdgeKind) → kind_of (edge_word kind) ≡ Some kind
kind_of_word Next = refl
kind_of_word Then = refl
kind_of_word Else = refl

first_and : (a b c : Bool) → (a && b && c) ≡ true → a ≡ true
first_and true b c h = refl
first_and false b c h = absurd (cc)

acts_word : (actions : List (List ℕ)) (word : List ℕ) (ts : Trees) → acts actions word ts ≡ true → is (first_text ts) word ≡ true
acts_word actions word none h = absurd (cc)
acts_word actions word (t ▸ none) h = absurd (cc)
acts_word actions word (t ▸ u ▸ ts) h = first_and (is (text_in t) word) _ _ h

acts_kind : (actions : List (List ℕ)) (kind : EdgeKind) (ts : Trees) (edge : EdgeKind) → acts actions (edge_word kind) ts ≡ true → kind_of (first_text ts) ≡ Some edge → same_kind edge kind ≡ true
acts_kind actions kind ts edge h e =
    let word = is-true (first_text ts) (edge_word kind) (acts_word actions (edge_word kind) ts h) in
    let there : Some kind ≡ Some edge = sym (kind_of_word kind) ∙ ap kind_of (sym word) ∙ e in
    let same : kind ≡ edge = cc in
    ap (λ k. same_kind k kind) (sym same) ∙ kind_same kind

-- one of these is at the edge
either : (x : On) (xs : List On) (kind : EdgeKind) (a b : Bool) → (a ≡ true → same_kind x.edge kind ≡ true) → (b ≡ true → is_some (on_for xs kind) ≡ true) → (a || b) ≡ true → is_some (on_for (x ∷ xs) kind) ≡ true
either x xs kind true b f g h = ap (λ c. is_some (cond c (Some x) (on_for xs kind))) (f refl)
either x xs kind false true f g h = by_kind (same_kind x.edge kind) where
  by_kind : (c : Bool) → is_some (cond c (Some x) (on_for xs kind)) ≡ true
  by_kind true = refl
  by_kind false = g refl
either x xs kind false false f g h = absurd (cc)

pub on_found : (known : Known) (names : Names) (own : Option Ways) (edges : Edges) (kind : EdgeKind) (m : ℕ) (ts : Trees)
    → Holds (λ ons. list_any (acts known.actions (edge_word kind)) (forms_in (codes "on") ts) ≡ true → is_some (on_for ons kind) ≡ true) (ons_reading known names own edges m ts)
on_found known names own edges kind m none = λ h. absurd (cc)
on_found known names own edges kind m (t ▸ ts) =
    let test = acts known.actions (edge_word kind) in
    both_holds (λ x. (form_fit (codes "on") t ≡ fits (parts_in (codes "on") t)) × (kind_of (first_text (parts_in (codes "on") t)) ≡ Some x.edge))
    (λ ons. list_any test (forms_in (codes "on") ts) ≡ true → is_some (on_for ons kind) ≡ true)
    (λ ons. list_any test (forms_in (codes "on") (t ▸ ts)) ≡ true → is_some (on_for ons kind) ≡ true) cons (on_reading known names own edges m t) _
    (on_at known names own edges m t) (on_found known names own (without edges (edge_in t)) kind (m + item_count t) ts)
    (λ x xs h g e. either x xs kind (test (parts_in (codes "on") t)) (list_any test (forms_in (codes "on") ts)) (λ a. acts_kind known.actions kind (parts_in (codes "on") t) x.edge a h.1) g
    (sym (ap (λ f. list_any test (before_others f (forms_in (codes "on") ts))) h.0) ∙ e))

-- ---- an edge that stores

abbrev pub IsMet : Instr → List On → Type 0
IsMet (S.Load a t rs l) ons = Unit {0}
IsMet (S.Store a t vs l) ons = is_some (on_for ons Next) ≡ true
IsMet (S.Cas a t old new l m) ons = is_some (on_for ons Then) ≡ true
IsMet (S.Set rs vs l) ons = Unit {0}
IsMet (S.Faa a t rs ds l) ons = is_some (on_for ons Next) ≡ true
IsMet (S.If f l m) ons = Unit {0}
IsMet (S.Return vs) ons = Unit {0}

not_lacking : (x y : Bool) → (not x || y) ≡ false → x ≡ true
not_lacking true y h = refl
not_lacking false y h = absurd (cc)

store_acts : (actions : List (List ℕ)) (w : List ℕ) (ons : List Trees) → is w (codes "store") ≡ true → lacks_on actions w ons ≡ false → list_any (acts actions (edge_word Next)) ons ≡ true
store_acts actions w ons e h =
    let word = is-true w (codes "store") e in
    not_lacking (list_any (acts actions (edge_word Next)) ons) false (sym (ap (λ v. lacks_on actions v ons) word) ∙ h)

faa_acts : (actions : List (List ℕ)) (w : List ℕ) (ons : List Trees) → is w (codes "faa") ≡ true → lacks_on actions w ons ≡ false → list_any (acts actions (edge_word Next)) ons ≡ true
faa_acts actions w ons e h =
    let word = is-true w (codes "faa") e in
    not_lacking (list_any (acts actions (edge_word Next)) ons) false (sym (ap (λ v. lacks_on actions v ons) word) ∙ h)

cas_acts : (actions : List (List ℕ)) (w : List ℕ) (ons : List Trees) → is w (codes "cas") ≡ true → lacks_on actions w ons ≡ false → list_any (acts actions (edge_word Then)) ons ≡ true
cas_acts actions w ons e h =
    let word = is-true w (codes "cas") e in
    not_lacking (list_any (acts actions (edge_word Then)) ons) _ (sym (ap (λ v. lacks_on actions v ons) word) ∙ h)

-- what an edge needs, at the edges of an instruction of this word
abbrev pub AreFound : List (List ℕ) → List Trees → List On → Type 0
AreFound actions forms ons = (kind : EdgeKind) → list_any (acts actions (edge_word kind)) forms ≡ true → is_some (on_for ons kind) ≡ true

pub instruction_is_met : (actions : List (List ℕ)) (w : List ℕ) (forms : List Trees) (ons : List On) (i : Instr) → IsOfWord w i → lacks_on actions w forms ≡ false → AreFound actions forms ons → IsMet i ons
instruction_is_met actions w forms ons (S.Load a t rs l) h e f = tt
instruction_is_met actions w forms ons (S.Store a t vs l) h e f = f Next (store_acts actions w forms h e)
instruction_is_met actions w forms ons (S.Cas a t old new l m) h e f = f Then (cas_acts actions w forms h e)
instruction_is_met actions w forms ons (S.Set rs vs l) h e f = tt
instruction_is_met actions w forms ons (S.Faa a t rs ds l) h e f = f Next (faa_acts actions w forms h e)
instruction_is_met actions w forms ons (S.If g l m) h e f = tt
instruction_is_met actions w forms ons (S.Return vs) h e f = tt
