-- Two forms, each with the coefficients that the other lists.
use Rattle.std.proofs.Common.{◌≡◌, ◌⊎◌, inl, inr, Bool, true, false, List, [], ◌∷◌, ◌++◌, Some, None, refl, sym, ap, ◌∙◌}
use Rattle.std.specs.Prelude.{ℤ, pos, if◌then◌else◌}
use Rattle.lc_table.specs.declared.node.TermId.{TermId}
use Rattle.lc_linear.proofs.Ids.{Decides-is_same}
use Rattle.lc_linear.specs.Numbered.{Place, Form, is_same, coefficient_in, listed, AllHave}

pub AllHave-snoc : (f : Form) (es : List (TermId × ℤ)) (x : TermId) (n : ℤ) → AllHave f es → f (Some x) ≡ n → AllHave f (es ++ (x, n) ∷ [])
AllHave-snoc f [] x n h is = (is, tt)
AllHave-snoc f (e ∷ es) x n h is = (h.0, AllHave-snoc f es x n h.1 is)

-- an atom is listed, or its coefficient is 0
here_or_not : (f : Form) (a : TermId) (e : TermId × ℤ) (rest : ℤ) (here : Bool) → is_same a e.0 ≡ here → f (Some e.0) ≡ e.1 → (f (Some a) ≡ rest) ⊎ (rest ≡ pos 0) →
    (f (Some a) ≡ (if here then e.1 else rest)) ⊎ ((if here then e.1 else rest) ≡ pos 0)
here_or_not f a e rest true here is h = inl (ap (λ x. f (Some x)) ((Decides-is_same a e.0).0 here) ∙ is)
here_or_not f a e rest false here is h = h

had : (f : Form) (es : List (TermId × ℤ)) → AllHave f es → (a : TermId) → (f (Some a) ≡ coefficient_in es a) ⊎ (coefficient_in es a ≡ pos 0)
had f [] h a = inr refl
had f (e ∷ es) h a = here_or_not f a e (coefficient_in es a) (is_same a e.0) refl h.0 (had f es h.1 a)

both : (n m : ℤ) → (n ≡ m) ⊎ (m ≡ pos 0) → (m ≡ n) ⊎ (n ≡ pos 0) → n ≡ m
both n m (inl is) h = is
both n m (inr none) (inl is) = sym is
both n m (inr none) (inr none') = none' ∙ sym none

pub listed-same : (n m : ℤ) (es ds : List (TermId × ℤ)) → n ≡ m → AllHave (listed m ds) es → AllHave (listed n es) ds → (p : Place) → listed n es p ≡ listed m ds p
listed-same n m es ds constant first second None = constant
listed-same n m es ds constant first second (Some a) =
    both (coefficient_in es a) (coefficient_in ds a) (had (listed n es) ds second a) (had (listed m ds) es first a)
