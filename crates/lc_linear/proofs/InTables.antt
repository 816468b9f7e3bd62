-- Forms that are kept and forms of trees, where one is the other read in a table.
use Rattle.std.proofs.Common.{◌≡◌, ◌⊎◌, inl, inr, ◌↔◌, ℕ, zero, suc, Bool, true, false, List, [], ◌∷◌, Some, None, slice_get, refl, sym, ap, ap₂, subst, ◌∙◌}
use Rattle.std.specs.Prelude.{ℤ, pos, if◌then◌else◌, Result, Ok, Err}
use Rattle.std.proofs.lemmas.Bool.{false≢true}
use Rattle.lc_lemmas.proofs.Booleans.{same_tests}
use Rattle.lc_term.specs.Syntax as S
use Rattle.lc_term.specs.Equal.{term_eq}
use Rattle.lc_term.specs.EqualLaws.{Decides-term_eq}
use Rattle.lc_table.specs.NodeTables.{Table}
use Rattle.lc_table.specs.Nodes.{Part, term, column, as_term, is_term}
use Rattle.lc_table.specs.Tables.{parts, term_in, IsTerm}
use Rattle.lc_table.specs.declared.node.TermId.{TermId}
use Rattle.lc_table.proofs.TermNodes.{term-there}
use Rattle.lc_linear.proofs.Ids.{Decides-is_same}
use Rattle.lc_linear.specs.Form as T
use Rattle.lc_linear.specs.LinForm.{IsNowhere, Reads, Gives}
use Rattle.lc_linear.specs.Numbered as N
use Rattle.lc_linear.specs.Numbered.{is_same}
use Rattle.lc_linear.specs.declared.fault.LinFault.{LinFault}
use Rattle.lc_linear.specs.declared.fault.LinFault.TheVariants.{Large, OutOfMemory}
use Rattle.lc_linear.specs.declared.form.LinForm.{LinForm}

-- a term has a number, or is nowhere
abbrev StandsAt : List Part → S.Term → ℕ → Type 0
StandsAt ps a n = slice_get ps n ≡ Some (term a)

found_later : (p : Part) (ps : List Part) (a : S.Term) → (StandsAt (p ∷ ps) a 0 → ⊥) → ((n : ℕ) × StandsAt ps a n) ⊎ ((n : ℕ) → StandsAt ps a n → ⊥) →
    ((n : ℕ) × StandsAt (p ∷ ps) a n) ⊎ ((n : ℕ) → StandsAt (p ∷ ps) a n → ⊥)
found_later p ps a not_here (inl found) = inl (suc found.0, found.1)
found_later p ps a not_here (inr none) = inr not_there
  where
    not_there : (n : ℕ) → StandsAt (p ∷ ps) a n → ⊥
    not_there zero h = not_here h
    not_there (suc n) h = none n h

inside : (t a : S.Term) → Some (term t) ≡ Some (term a) → t ≡ a
inside t a h = ap as_term h

found_here : (t : S.Term) (ps : List Part) (a : S.Term) → ((n : ℕ) × StandsAt ps a n) ⊎ ((n : ℕ) → StandsAt ps a n → ⊥) → (same : Bool) → term_eq t a ≡ same →
    ((n : ℕ) × StandsAt (term t ∷ ps) a n) ⊎ ((n : ℕ) → StandsAt (term t ∷ ps) a n → ⊥)
found_here t ps a rest true h = inl (0, ap (λ x. Some (term x)) ((Decides-term_eq t a).0 h))
found_here t ps a rest false h = found_later (term t) ps a (λ e. false≢true (sym h ∙ (Decides-term_eq t a).1 (inside t a e))) rest

find_part : (ps : List Part) (a : S.Term) → ((n : ℕ) × StandsAt ps a n) ⊎ ((n : ℕ) → StandsAt ps a n → ⊥)
find_part [] a = inr (λ n h. cc)
find_part (column c ∷ ps) a = found_later (column c) ps a (λ h. cc) (find_part ps a)
find_part (term t ∷ ps) a = found_here t ps a (find_part ps a) (term_eq t a) refl

-- the number of a term
pub record NumberOf (ts : Table) (a : S.Term) : Type 0 where
  pub number : TermId
  pub there : IsTerm ts number
  pub tree : term_in ts number ≡ a

numbered : (ts : Table) (a : S.Term) (n : ℕ) → StandsAt (parts ts) a n → NumberOf ts a
numbered ts a n h = record { number = record { 0 = n }; there = ap is_term h; tree = ap as_term h }

pub number_of : (ts : Table) (a : S.Term) → NumberOf ts a ⊎ IsNowhere ts a
number_of ts a = by (find_part (parts ts) a)
  where
    by : ((n : ℕ) × StandsAt (parts ts) a n) ⊎ ((n : ℕ) → StandsAt (parts ts) a n → ⊥) → NumberOf ts a ⊎ IsNowhere ts a
    by (inl found) = inl (numbered ts a found.0 found.1)
    by (inr none) = inr (λ k is tree. none k.0 (term-there (parts ts) k is ∙ ap (λ x. Some (term x)) tree))

is_term_or_not : (ts : Table) (k : TermId) → IsTerm ts k ⊎ (IsTerm ts k → ⊥)
is_term_or_not ts k = by (is_term (slice_get (parts ts) k.0)) refl
  where
    by : (b : Bool) → is_term (slice_get (parts ts) k.0) ≡ b → IsTerm ts k ⊎ (IsTerm ts k → ⊥)
    by true h = inl h
    by false h = inr (λ g. false≢true (sym h ∙ g))

-- what holds at each place of the one holds at each place of the other
module _ (ts : Table) (n m : N.Form) (f g : T.Form) (first : Reads ts n f) (second : Reads ts m g) (P : ℤ → ℤ → Type 0) (zeros : P (pos 0) (pos 0)) where
  moved : (a b c d : ℤ) → a ≡ b → c ≡ d → P a c → P b d
  moved a b c d is is' h = subst (λ z. P z d) is (subst (P a) is' h)

  pub each_atom_of_trees : ((k : TermId) → P (n (Some k)) (m (Some k))) → (a : S.Term) → P (f (Some a)) (g (Some a))
  each_atom_of_trees h a = by (number_of ts a)
    where
      by : NumberOf ts a ⊎ IsNowhere ts a → P (f (Some a)) (g (Some a))
      by (inl k) =
          moved _ _ _ _ (first.terms k.number k.there ∙ ap (λ x. f (Some x)) k.tree) (second.terms k.number k.there ∙ ap (λ x. g (Some x)) k.tree) (h k.number)
      by (inr none) = moved _ _ _ _ (sym (first.nowhere a none)) (sym (second.nowhere a none)) zeros

  pub each_atom_kept : ((a : S.Term) → P (f (Some a)) (g (Some a))) → (k : TermId) → P (n (Some k)) (m (Some k))
  each_atom_kept h k = by (is_term_or_not ts k)
    where
      by : IsTerm ts k ⊎ (IsTerm ts k → ⊥) → P (n (Some k)) (m (Some k))
      by (inl is) = moved _ _ _ _ (sym (first.terms k is)) (sym (second.terms k is)) (h (term_in ts k))
      by (inr none) = moved _ _ _ _ (sym (first.others k none)) (sym (second.others k none)) zeros

  pub each_of_trees : ((p : N.Place) → P (n p) (m p)) → (p : T.Place) → P (f p) (g p)
  each_of_trees h None = moved _ _ _ _ first.constant second.constant (h None)
  each_of_trees h (Some a) = each_atom_of_trees (λ k. h (Some k)) a

  pub each_kept : ((p : T.Place) → P (f p) (g p)) → (p : N.Place) → P (n p) (m p)
  each_kept h None = moved _ _ _ _ (sym first.constant) (sym second.constant) (h None)
  each_kept h (Some k) = each_atom_kept (λ a. h (Some a)) k

-- forms made of two forms, number by number
pub read_by : (ts : Table) (op : ℤ → ℤ → ℤ) → op (pos 0) (pos 0) ≡ pos 0 → (n m : N.Form) (f g : T.Form) → Reads ts n f → Reads ts m g → Reads ts (λ p. op (n p) (m p)) (λ p. op (f p) (g p))
read_by ts op none n m f g first second = record {
  constant = ap₂ op first.constant second.constant;
  terms = λ k is. ap₂ op (first.terms k is) (second.terms k is);
  others = λ k not. ap₂ op (first.others k not) (second.others k not) ∙ none;
  nowhere = λ a not. ap₂ op (first.nowhere a not) (second.nowhere a not) ∙ none;
}

-- the same numbers
pub Reads-same : (ts : Table) (n m : N.Form) (f g : T.Form) → ((p : N.Place) → m p ≡ n p) → ((p : T.Place) → f p ≡ g p) → Reads ts n f → Reads ts m g
Reads-same ts n m f g kept same h = record {
  constant = kept None ∙ h.constant ∙ same None;
  terms = λ k is. kept (Some k) ∙ h.terms k is ∙ same (Some (term_in ts k));
  others = λ k not. kept (Some k) ∙ h.others k not;
  nowhere = λ a not. sym (same (Some a)) ∙ h.nowhere a not;
}

pub number_read : (ts : Table) (n : ℤ) → Reads ts (N.number_form n) (T.number_form n)
number_read ts n = record { constant = refl; terms = λ k is. refl; others = λ k not. refl; nowhere = λ a not. refl }

-- numbers of terms are the same if the terms are
abbrev pub IsExact : Table → Type 0
IsExact ts = (a b : TermId) → IsTerm ts a → IsTerm ts b → (a ≡ b) ↔ (term_in ts a ≡ term_in ts b)

pub atom_read : (ts : Table) → IsExact ts → (x : TermId) → IsTerm ts x → Reads ts (N.atom_form x) (T.atom_form (term_in ts x))
atom_read ts exact x is_x = record {
  constant = refl;
  terms = λ k is. ap (λ b. if b then pos 1 else pos 0) (same_tests (is_same k x) (term_eq (term_in ts k) (term_in ts x))
      (λ h. (Decides-term_eq (term_in ts k) (term_in ts x)).1 ((exact k x is is_x).0 ((Decides-is_same k x).0 h)))
      (λ h. (Decides-is_same k x).1 ((exact k x is is_x).1 ((Decides-term_eq (term_in ts k) (term_in ts x)).0 h))));
  others = λ k not. ap (λ b. if b then pos 1 else pos 0) (same_tests (is_same k x) false (λ h. absurd (not (subst (IsTerm ts) (sym ((Decides-is_same k x).0 h)) is_x))) (λ h. absurd (false≢true h)));
  nowhere = λ a not. ap (λ b. if b then pos 1 else pos 0) (same_tests (term_eq a (term_in ts x)) false
      (λ h. absurd (not x is_x (sym ((Decides-term_eq a (term_in ts x)).0 h)))) (λ h. absurd (false≢true h)));
}

-- what is returned, for another fact and for another form
pub Gives-map : (P Q : Type 0) (A B : LinForm → Type 0) (r : Result LinForm LinFault) → (P → Q) → (Q → P) → ((form : LinForm) → P → A form → B form) → Gives r P A → Gives r Q B
Gives-map P Q A B (Ok form) to back same h = (to h.0, same form h.0 h.1)
Gives-map P Q A B (Err Large) to back same h = λ q. h (back q)
Gives-map P Q A B (Err OutOfMemory) to back same h = tt
