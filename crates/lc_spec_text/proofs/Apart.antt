-- Names that are declared one after another, and things that have them: each name is a new one.
use Rattle.std.proofs.Common.{◌≡◌, inl, inr, ℕ, ◌+◌, Bool, true, false, ◌||◌, cond, List, [], ◌∷◌, ◌++◌, length, refl, sym, ◌∙◌, subst}
use Rattle.std.specs.Prelude.{bytes_eq, None}
use Rattle.std.specs.List.{list_any}
use Rattle.std.proofs.lemmas.Bool.{or_parts, false_from_ne_true, or_from}
use Rattle.std.proofs.lemmas.Slice.Eq.{bytes_eq-Decides}
use Rattle.lc_base.specs.NameText.{is_name}
use Rattle.lc_sexp.specs.Trees.{Tree, Trees, atom, list, none, ◌▸◌, item_count}
use Rattle.lc_term.specs.Lists.{IsIn}
use Rattle.lc_reading.proofs.Holding.{Holds, both_holds}
use Rattle.lc_reading.specs.Listed.{declared_by}
use Rattle.lc_reading.specs.Naming.{is_full, within, name_reading}
use Rattle.lc_reading.specs.Readings.{Reading, fine, wrong, mapped}
use Rattle.lc_reading.specs.Reserved.{is_reserved}
use Rattle.lc_reading.specs.Rows.{declared_reading}
use Rattle.lc_reading.specs.Words.{is, is_long}
use Rattle.lc_reading.specs.declared.pass.Pass.TheVariants.{Shape, Repeated, Bound}

-- a name is none of these
abbrev pub IsNew : List (List ℕ) → List ℕ → Type 0
IsNew before w = list_any (is w) before ≡ false

-- a name that is declared
module _ (before : List (List ℕ)) (n : ℕ) (w : List ℕ) where
  abbrev Declares : List ℕ → Type 0
  Declares v = IsNew before v × (w ∷ [] ≡ v ∷ [])

  short : (long : Bool) → IsNew before w → Holds Declares (mapped (λ (u : Unit {0}). w) (cond long (wrong Bound n) (fine tt)))
  short true new = tt
  short false new = (new, refl)

  fitting : (full : Bool) → IsNew before w → Holds Declares (mapped (λ (u : Unit {0}). w) (cond full (wrong Bound n) (within n w tt)))
  fitting true new = tt
  fitting false new = short (is_long w) new

  other : (taken : Bool) → (is_reserved w || list_any (is w) before) ≡ taken → Holds Declares (mapped (λ (u : Unit {0}). w) (cond taken (wrong Repeated n) (cond (is_full None (length before)) (wrong Bound n) (within n w tt))))
  other true e = tt
  other false e = fitting (is_full None (length before)) (or_parts (is_reserved w) (list_any (is w) before) e).1

  named : (name : Bool) → Holds Declares (mapped (λ (u : Unit {0}). w) (cond name
      (cond (is_reserved w || list_any (is w) before) (wrong Repeated n) (cond (is_full None (length before)) (wrong Bound n) (within n w tt))) (wrong Shape n)))
  named true = other (is_reserved w || list_any (is w) before) refl
  named false = tt

pub name_declares : (before : List (List ℕ)) (n : ℕ) (t : Tree) → Holds (λ v. IsNew before v × (declared_by t ≡ v ∷ [])) (name_reading None before n t)
name_declares before n (atom w) = named before n w (is_name w)
name_declares before n (list ts) = tt

-- a name that comes before is none of theirs
among : (v w : List ℕ) (before : List (List ℕ)) → IsIn v before → IsNew before w → bytes_eq v w ≡ true → ⊥
among v w [] at new same = at
among v w (x ∷ xs) (inl e) new same =
    let one : w ≡ x = sym ((bytes_eq-Decides v w).0 same) ∙ e in
    let here : is w x ≡ false = (or_parts (is w x) (list_any (is w) xs) new).0 in
    let there : bytes_eq w x ≡ true = (bytes_eq-Decides w x).1 one in absurd (let no : true ≡ false = sym there ∙ here in cc)
among v w (x ∷ xs) (inr at) new same = among v w xs at (or_parts (is w x) (list_any (is w) xs) new).1 same

in_front : {A : Type 0} (x : A) (xs ys : List A) → IsIn x xs → IsIn x (xs ++ ys)
in_front x [] ys at = absurd at
in_front x (y ∷ xs) ys (inl e) = inl e
in_front x (y ∷ xs) ys (inr at) = inr (in_front x xs ys at)

at_end : {A : Type 0} (x : A) (xs : List A) → IsIn x (xs ++ x ∷ [])
at_end x [] = inl refl
at_end x (y ∷ xs) = inr (at_end x xs)

-- things with names
module _ {X : Type 0} (name : X → List ℕ) where
  -- each name is none of these, and none of those before it
  abbrev pub AreNew : List (List ℕ) → List X → Type 0
  AreNew before [] = Unit {0}
  AreNew before (x ∷ xs) = IsNew before (name x) × AreNew (before ++ name x ∷ []) xs

  -- no two have one name
  abbrev pub AreApart : List X → Type 0
  AreApart [] = Unit {0}
  AreApart (x ∷ xs) = (list_any (λ y. is (name x) (name y)) xs ≡ false) × AreApart xs

  none_named : (v : List ℕ) (before : List (List ℕ)) (xs : List X) → IsIn v before → AreNew before xs → list_any (λ y. is v (name y)) xs ≡ false
  none_named v before [] at new = refl
  none_named v before (x ∷ xs) at new =
      or_from (is v (name x)) (list_any (λ y. is v (name y)) xs) (false_from_ne_true (is v (name x)) (among v (name x) before at new.0))
      (none_named v (before ++ name x ∷ []) xs (in_front v before (name x ∷ []) at) new.1)

  pub apart : (before : List (List ℕ)) (xs : List X) → AreNew before xs → AreApart xs
  apart before [] new = tt
  apart before (x ∷ xs) new = (none_named (name x) (before ++ name x ∷ []) xs (at_end (name x) before) new.1, apart (before ++ name x ∷ []) xs new.1)

  -- things that are read, if each declares its name
  pub declared_new : (read : List (List ℕ) → ℕ → Tree → Reading X) (declares : Tree → List (List ℕ))
      → ((before : List (List ℕ)) (n : ℕ) (t : Tree) → Holds (λ x. IsNew before (name x) × (declares t ≡ name x ∷ [])) (read before n t))
      → (before : List (List ℕ)) (m : ℕ) (ts : Trees) → Holds (AreNew before) (declared_reading read declares before m ts)
  declared_new read declares named before m none = tt
  declared_new read declares named before m (t ▸ ts) =
      both_holds (λ x. IsNew before (name x) × (declares t ≡ name x ∷ [])) (AreNew (before ++ declares t)) (AreNew before) (λ x xs. x ∷ xs) (read before m t) _
      (named before m t) (declared_new read declares named (before ++ declares t) (m + item_count t) ts) (λ x xs h g. (h.0, subst (λ names. AreNew (before ++ names) xs) h.1 g))
