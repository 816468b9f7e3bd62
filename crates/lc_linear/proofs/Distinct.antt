-- Entries of a map, one after another: each atom has one of them.
use Rattle.std.proofs.Common.{◌≡◌, Bool, true, false, List, [], ◌∷◌, ◌++◌, map, Option, refl, sym, ap, subst, ◌∙◌, arith}
use Rattle.std.specs.Prelude.{ℤ, pos, ◌+ℤ◌, ◌*ℤ◌, Some, None, if◌then◌else◌}
use Rattle.std.specs.Borrow.{Bor}
use Rattle.std.specs.List.{AllByRecursion, IsDistinct}
use Rattle.std.specs.Iterator.{Yields}
use Rattle.std.specs.Map.{keys_of}
use Rattle.std.specs.Map.Iter.{TakesFirst, deref_pair}
use Rattle.std.proofs.lemmas.List.{map-append}
use Rattle.std.proofs.lemmas.Map.Iter.{rest_so_far, rest_more, iter_end}
use Rattle.std.proofs.lemmas.Map.Keys.{IsDistinct-head, IsDistinct-tail}
use Rattle.std.proofs.lemmas.Int.{ints}
use Rattle.lc_linear.proofs.Ids.{Decides-is_same, is_same-congr, is_same-symm}
use Rattle.lc_table.specs.declared.node.TermId.{TermId}
use Rattle.lc_linear.proofs.Products.{zero-mul}
use Rattle.lc_linear.specs.Numbered.{Place, is_same, atom_form, coefficient_in, listed}

-- no entry is one of the atom
pub record Absent (x : TermId) (es : List (TermId × ℤ)) : Type 0 where
  pub apart : AllByRecursion (λ e. is_same x e.0 ≡ false) es

pub coefficient_in-absent : (x : TermId) (es : List (TermId × ℤ)) → Absent x es → coefficient_in es x ≡ pos 0
coefficient_in-absent x [] h = refl
coefficient_in-absent x (e ∷ es) h = rw h.apart.0 (coefficient_in-absent x es (record { apart = h.apart.1 }))

-- an entry after those of other atoms is found
pub coefficient_in-middle : (es : List (TermId × ℤ)) (x : TermId) (n : ℤ) (rest : List (TermId × ℤ)) → Absent x es → coefficient_in (es ++ (x, n) ∷ rest) x ≡ n
coefficient_in-middle [] x n rest h = rw ((Decides-is_same x x).1 refl) refl
coefficient_in-middle (e ∷ es) x n rest h = rw h.apart.0 (coefficient_in-middle es x n rest (record { apart = h.apart.1 }))

-- one more entry, of another atom than those before it, adds that many times its atom
more_here : (a x y : TermId) (n m rest all : ℤ) (here : Bool) → is_same a y ≡ here → is_same x y ≡ false → all ≡ rest +ℤ n *ℤ (if is_same a x then pos 1 else pos 0) →
    (if here then m else all) ≡ (if here then m else rest) +ℤ n *ℤ (if is_same a x then pos 1 else pos 0)
more_here a x y n m rest all true h apart ih =
    let other : is_same a x ≡ false = is_same-congr a y x h ∙ is_same-symm y x ∙ apart in
    rw other (omega (arith, ints))
more_here a x y n m rest all false h apart ih = ih

last_here : (n : ℤ) (here : Bool) → (if here then n else pos 0) ≡ pos 0 +ℤ n *ℤ (if here then pos 1 else pos 0)
last_here n true = omega (arith, ints)
last_here n false = omega (arith, ints)

coefficient_in-snoc : (es : List (TermId × ℤ)) (x : TermId) (n : ℤ) → Absent x es → (a : TermId) →
    coefficient_in (es ++ (x, n) ∷ []) a ≡ coefficient_in es a +ℤ n *ℤ (if is_same a x then pos 1 else pos 0)
coefficient_in-snoc [] x n h a = last_here n (is_same a x)
coefficient_in-snoc (e ∷ es) x n h a =
    more_here a x e.0 n e.1 (coefficient_in es a) (coefficient_in (es ++ (x, n) ∷ []) a) (is_same a e.0) refl h.apart.0
    (coefficient_in-snoc es x n (record { apart = h.apart.1 }) a)

pub listed-snoc : (es : List (TermId × ℤ)) (x : TermId) (n : ℤ) → Absent x es → (p : Place) →
    listed (pos 0) (es ++ (x, n) ∷ []) p ≡ listed (pos 0) es p +ℤ n *ℤ atom_form x p
listed-snoc es x n h None = omega (arith, ints)
listed-snoc es x n h (Some a) = coefficient_in-snoc es x n h a

-- before an entry of a map there is none of the same atom
holds_at : {K V : Type 0} (P : K → Type 0) (es : List (K × V)) (e : K × V) (rest : List (K × V)) → AllByRecursion P (keys_of (es ++ e ∷ rest)) → P e.0
holds_at P [] e rest h = h.0
holds_at P (d ∷ es) e rest h = holds_at P es e rest h.1

pub absent_before : (es : List (TermId × ℤ)) (e : TermId × ℤ) (rest : List (TermId × ℤ)) → IsDistinct is_same (keys_of (es ++ e ∷ rest)) → Absent e.0 es
absent_before [] e rest h = record { apart = tt }
absent_before (d ∷ es) e rest h =
    let first = holds_at (λ k. is_same d.0 k ≡ false) es e rest (IsDistinct-head is_same d.0 (keys_of (es ++ e ∷ rest)) h) in
    let others = absent_before es e rest (IsDistinct-tail is_same d.0 (keys_of (es ++ e ∷ rest)) h) in
    record { apart = (is_same-symm e.0 d.0 ∙ first, others.apart) }

-- a loop over the entries of a map: those so far, this one and the rest
pub record Turn (all so_far : List (TermId × ℤ)) (e : TermId × ℤ) : Type 0 where
  pub rest : List (TermId × ℤ)
  pub whole : all ≡ so_far ++ (e.0, e.1) ∷ rest
  pub fresh : Absent e.0 so_far

module _ (all s t u : List (TermId × ℤ)) (ys : List (Bor TermId × Bor ℤ)) (r : Option (Bor TermId × Bor ℤ)) (start : s ≡ all) (yielded : Yields (TakesFirst deref_pair) s ys t)
    (step : TakesFirst deref_pair t r u) where
  pub turn : (x : Bor TermId × Bor ℤ) → r ≡ Some x → IsDistinct is_same (keys_of all) → Turn all (map deref_pair ys) (deref_pair x)
  turn x is distinct =
      let all_is : all ≡ map deref_pair ys ++ deref_pair x ∷ u =
      sym start ∙ rest_so_far deref_pair ys s t yielded ∙ ap (λ l. map deref_pair ys ++ l) (rest_more deref_pair t u r x is step) in
      record {
        rest = u;
        whole = all_is;
        fresh = absent_before (map deref_pair ys) (deref_pair x) u (subst (λ l. IsDistinct is_same (keys_of l)) all_is distinct);
      }

  pub turned : r ≡ None → map deref_pair ys ≡ all
  turned is = (iter_end deref_pair all ys s t u r start yielded is step).0

-- the entries so far and this one
pub one_more_entry : (ys : List (Bor TermId × Bor ℤ)) (x : Bor TermId × Bor ℤ) →
    (map deref_pair (ys ++ x ∷ [])) ≡ (map deref_pair ys) ++ (x.0.now, x.1.now) ∷ []
one_more_entry ys x = map-append (deref_pair {K = TermId} {X = ℤ}) ys (x ∷ [])

-- the coefficient of an entry is the one that is found
pub entry_found : (all so_far : List (TermId × ℤ)) (e : TermId × ℤ) → Turn all so_far e → coefficient_in all e.0 ≡ e.1
entry_found all so_far e here = ap (λ l. coefficient_in l e.0) here.whole ∙ coefficient_in-middle so_far e.0 e.1 here.rest here.fresh

-- each coefficient is 0
pub record Vanishes (es : List (TermId × ℤ)) : Type 0 where
  pub zero : (a : TermId) → coefficient_in es a ≡ pos 0

pub one_more_zero : (es : List (TermId × ℤ)) (x : TermId) (n : ℤ) → Absent x es → n ≡ pos 0 → Vanishes es → Vanishes (es ++ (x, n) ∷ [])
one_more_zero es x n fresh is so_far = record {
  zero = λ a.
      let before = so_far.zero a in
      let none = zero-mul n (atom_form x (Some a)) is in
      listed-snoc es x n fresh (Some a) ∙ omega (arith, ints);
}
