-- An object is made of what was read, part by part.
use Rattle.std.proofs.Common.{◌≡◌, ℕ, suc, ◌+◌, List, [], ◌∷◌, ◌++◌, length, length-append, append_assoc, append-nil, refl, sym, ap, ap₂, ◌∙◌, arith}
use Rattle.lc_object.specs.Syntax.{Array, Operation, Point}
use Rattle.lc_object.specs.WellFormed.{numbers_from}
use Rattle.lc_object_text.specs.Objects.{ArrayText, Signature, concretes_of, arrays_from, operations_from}
use Rattle.lc_object_text.specs.Points.{BodyText}

-- one more number
pub numbers_on : (n m k : ℕ) (xs : List ℕ) → m ≡ suc k → (xs ++ n ∷ []) ++ numbers_from (n + 1) k ≡ xs ++ numbers_from n m
numbers_on n m k xs e =
    let next : n + 1 ≡ suc n = omega arith in
    let all : (xs ++ n ∷ []) ++ numbers_from (suc n) k ≡ xs ++ numbers_from n (suc k) = append_assoc xs (n ∷ []) (numbers_from (suc n) k) in
    ap (λ j. (xs ++ n ∷ []) ++ numbers_from j k) next ∙ all ∙ sym (ap (λ j. xs ++ numbers_from n j) e)

-- the columns of one more array
pub concretes_last : (arrays : List ArrayText) (a : ArrayText) → concretes_of (arrays ++ a ∷ []) ≡ concretes_of arrays ++ a.columns
concretes_last [] a = append-nil a.columns
concretes_last (b ∷ arrays) a = ap (λ cs. b.columns ++ cs) (concretes_last arrays a) ∙ sym (append_assoc b.columns (concretes_of arrays) a.columns)

-- an array whose first column is this one
abbrev pub array_made : ℕ → ArrayText → Array
array_made k a = record { name = a.name; columns = numbers_from k (length a.columns) }

-- one more array
arrays_last : (k : ℕ) (arrays : List ArrayText) (a : ArrayText) → arrays_from k (arrays ++ a ∷ []) ≡ arrays_from k arrays ++ array_made (k + length (concretes_of arrays)) a ∷ []
arrays_last k [] a =
    let same : k ≡ k + 0 = omega arith in ap (λ n. array_made n a ∷ []) same
arrays_last k (b ∷ arrays) a =
    let place : k + length b.columns + length (concretes_of arrays) ≡ k + length (b.columns ++ concretes_of arrays) = omega (arith, length-append b.columns (concretes_of arrays)) in
    ap (λ (xs : List Array). array_made k b ∷ xs) (arrays_last (k + length b.columns) arrays a)
    ∙ ap (λ n. array_made k b ∷ (arrays_from (k + length b.columns) arrays ++ array_made n a ∷ [])) place

numbered : (name : List ℕ) (numbers others : List ℕ) (xs : List Array) → numbers ≡ others → xs ++ record { name = name; columns = numbers } ∷ [] ≡ xs ++ record { name = name; columns = others } ∷ []
numbered name numbers others xs e = ap (λ ns. xs ++ record { name = name; columns = ns } ∷ []) e

pub arrays_more : (k next count : ℕ) (seen : List ArrayText) (a : ArrayText) (xs : List Array) (numbers : List ℕ) → xs ≡ arrays_from k seen → next ≡ k + length (concretes_of seen) → count ≡ length a.columns
    → numbers ≡ numbers_from next count → xs ++ record { name = a.name; columns = numbers } ∷ [] ≡ arrays_from k (seen ++ a ∷ [])
arrays_more k next count seen a xs numbers is at size same =
    numbered a.name numbers (numbers_from (k + length (concretes_of seen)) (length a.columns)) xs (same ∙ ap₂ numbers_from at size)
    ∙ ap (λ ys. ys ++ array_made (k + length (concretes_of seen)) a ∷ []) is ∙ sym (arrays_last k seen a)

-- no body is left
pub operations_done : (xs all : List Operation) (e : ℕ) (ss : List Signature) (bs : List (BodyText Point)) → bs ≡ [] → xs ++ operations_from e ss bs ≡ all → xs ≡ all
operations_done xs all e ss [] none h = sym (append-nil xs) ∙ ap (λ ys. xs ++ ys) (sym (no_operations ss)) ∙ h where
  no_operations : (ss : List Signature) → operations_from e ss [] ≡ []
  no_operations [] = refl
  no_operations (s ∷ ss) = refl
operations_done xs all e ss (b ∷ bs) none h = absurd (cc)
