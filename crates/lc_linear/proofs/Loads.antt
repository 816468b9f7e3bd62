-- Weights that are known, and sums of multiples of terms.
use Rattle.std.proofs.Common.{◌≡◌, ℕ, zero, suc, ◌+◌, ◌*◌, ◌<◌, ◌^◌, max, length, take, get_or, ◌++◌, Bool, true, false, cond, List, [], ◌∷◌, Option, Some, None, refl, sym, ap, ap₂, subst, ◌∙◌, arith}
use Rattle.std.specs.Prelude.{ℤ, pos, ◌+ℤ◌, ◌-ℤ◌, ◌*ℤ◌, unsigned_abs, if◌then◌else◌, IfSome}
use Rattle.std.specs.Map.{lookup}
use Rattle.std.proofs.Math.Seq.{take-suc}
use Rattle.std.proofs.lemmas.Int.{ints}
use Rattle.std.proofs.Math.Nat.{mul-add as distribute}
use Rattle.indexmap.specs.IndexMap.{insert_entry}
use Rattle.lc_term.specs.Syntax.{Term, Number, Add, Subtract, Multiply}
use Rattle.lc_table.specs.NodeTables.{Table}
use Rattle.lc_table.specs.Tables.{term_in, IsTerm}
use Rattle.lc_table.specs.declared.node.TermId.{TermId}
use Rattle.lc_linear.proofs.Ids.{Decides-is_same}
use Rattle.lc_linear.proofs.InTables.{Reads-same}
use Rattle.lc_linear.proofs.Products.{mul-sub, mul-neg}
use Rattle.lc_linear.proofs.Weights.{HasForm-weight}
use Rattle.lc_linear.specs.Form as T
use Rattle.lc_linear.specs.Form.{form_of, HasForm}
use Rattle.lc_linear.specs.LinForm.{numbers, IsFormIn}
use Rattle.lc_linear.specs.Numbered.{is_same}
use Rattle.lc_linear.specs.Owed.{AreWeights, Multiples, AreOfTerms, IsLightTotal, AreTogether, Appends, total, load}
use Rattle.lc_linear.specs.Weight.{weight}
use Rattle.lc_linear.specs.declared.form.LinForm.{LinForm}

-- what is found is the weight
pub weight_known : (ts : Table) (a : TermId) (es : List (TermId × ℕ)) (o : Option ℕ) → AreWeights ts es → o ≡ lookup (λ k. is_same a k) es → IfSome o (λ w. w ≡ weight (term_in ts a))
weight_known ts a es o are is = subst (λ x. IfSome x (λ w. w ≡ weight (term_in ts a))) (sym is) (by es are)
  where
    found : (e : TermId × ℕ) (es : List (TermId × ℕ)) (here : Bool) → is_same a e.0 ≡ here → e.1 ≡ weight (term_in ts e.0) → IfSome (lookup (λ k. is_same a k) es) (λ w. w ≡ weight (term_in ts a))
        → IfSome (cond here (Some e.1) (lookup (λ k. is_same a k) es)) (λ w. w ≡ weight (term_in ts a))
    found e es true at heavy rest = heavy ∙ ap (λ k. weight (term_in ts k)) (sym ((Decides-is_same a e.0).0 at))
    found e es false at heavy rest = rest

    by : (es : List (TermId × ℕ)) → AreWeights ts es → IfSome (lookup (λ k. is_same a k) es) (λ w. w ≡ weight (term_in ts a))
    by [] are = tt
    by (e ∷ es) are = found e es (is_same a e.0) refl are.0 (by es are.1)

-- one more is known
put : (ts : Table) (k : TermId) (w : ℕ) (e : TermId × ℕ) (es rest : List (TermId × ℕ)) (here : Bool) → is_same k e.0 ≡ here → w ≡ weight (term_in ts k) → e.1 ≡ weight (term_in ts e.0)
    → AreWeights ts es → AreWeights ts rest → AreWeights ts (if here then (e.0, w) ∷ es else e ∷ rest)
put ts k w e es rest true at is heavy are more = (is ∙ ap (λ j. weight (term_in ts j)) ((Decides-is_same k e.0).0 at), are)
put ts k w e es rest false at is heavy are more = (heavy, more)

weights_more : (ts : Table) (k : TermId) (w : ℕ) (es : List (TermId × ℕ)) → w ≡ weight (term_in ts k) → AreWeights ts es → AreWeights ts (insert_entry is_same es k w)
weights_more ts k w [] is are = (is, tt)
weights_more ts k w (e ∷ es) is are = put ts k w e es (insert_entry is_same es k w) (is_same k e.0) refl is are.0 are.1 (weights_more ts k w es is are.1)

pub weights_put : (ts : Table) (k : TermId) (w : ℕ) (es new : List (TermId × ℕ)) → new ≡ insert_entry is_same es k w → w ≡ weight (term_in ts k) → AreWeights ts es → AreWeights ts new
weights_put ts k w es new e is are = subst (AreWeights ts) (sym e) (weights_more ts k w es is are)

-- one more appended
pub total_behind : (ts : Table) (ms : Multiples) (m : TermId × ℤ) (p : T.Place) → total ts (ms ++ (m ∷ [])) p ≡ total ts ms p +ℤ m.1 *ℤ form_of (term_in ts m.0) p
total_behind ts [] m p = omega (arith, ints)
total_behind ts (x ∷ ms) m p = let rest = total_behind ts ms m p in omega (arith, ints)

pub load_behind : (ts : Table) (ms : Multiples) (m : TermId × ℤ) → load ts (ms ++ (m ∷ [])) ≡ load ts ms + max (unsigned_abs m.1) 1 * weight (term_in ts m.0)
load_behind ts [] m = omega arith
load_behind ts (x ∷ ms) m = let rest = load_behind ts ms m in omega arith

pub terms_behind : (ts : Table) (ms : Multiples) (m : TermId × ℤ) → AreOfTerms ts ms → IsTerm ts m.0 → AreOfTerms ts (ms ++ (m ∷ []))
terms_behind ts [] m are is = (is, tt)
terms_behind ts (x ∷ ms) m are is = (are.0, terms_behind ts ms m are.1 is)

-- one turn of a loop over them
take_next : (ms : Multiples) (i : ℕ) (m : TermId × ℤ) → i < length ms → m ≡ get_or ms i m → take (i + 1) ms ≡ take i ms ++ (m ∷ [])
take_next ms i m within is =
    let next : i + 1 ≡ suc i = omega arith in
    ap (λ j. take j ms) next ∙ take-suc ms i m within ∙ ap (λ x. take i ms ++ (x ∷ [])) (sym is)

pub total_more : (ts : Table) (ms : Multiples) (i : ℕ) (m : TermId × ℤ) → i < length ms → m ≡ get_or ms i m → (p : T.Place) →
    total ts (take (i + 1) ms) p ≡ total ts (take i ms) p +ℤ m.1 *ℤ form_of (term_in ts m.0) p
total_more ts ms i m within is p = ap (λ l. total ts l p) (take_next ms i m within is) ∙ total_behind ts (take i ms) m p

pub load_more : (ts : Table) (ms : Multiples) (i : ℕ) (m : TermId × ℤ) → i < length ms → m ≡ get_or ms i m →
    load ts (take (i + 1) ms) ≡ load ts (take i ms) + max (unsigned_abs m.1) 1 * weight (term_in ts m.0)
load_more ts ms i m within is = ap (load ts) (take_next ms i m within is) ∙ load_behind ts (take i ms) m

pub term_at : (ts : Table) (ms : Multiples) (i : ℕ) (m : TermId × ℤ) → AreOfTerms ts ms → i < length ms → m ≡ get_or ms i m → IsTerm ts m.0
term_at ts [] i m are within is = absurd (omega arith)
term_at ts (x ∷ ms) zero m are within is = subst (λ (y : TermId × ℤ). IsTerm ts y.0) (sym is) are.0
term_at ts (x ∷ ms) (suc i) m are within is = term_at ts ms i m are.1 (omega arith) is

-- a term alone, and a difference
pub alone_form : (ts : Table) (k : TermId) (form : LinForm) → IsLightTotal ts ((k, pos 1) ∷ []) form → HasForm (term_in ts k) × IsFormIn ts form (form_of (term_in ts k))
alone_form ts k form h =
    let light = h.light in
    (HasForm-weight (term_in ts k) (omega arith), Reads-same ts (numbers form) (numbers form) _ (form_of (term_in ts k)) (λ p. refl) same h.is_form)
  where
    same : (p : T.Place) → total ts ((k, pos 1) ∷ []) p ≡ form_of (term_in ts k) p
    same p = omega (arith, ints)

pub difference_form : (ts : Table) (k j : TermId) (form : LinForm) → IsLightTotal ts ((k, pos 1) ∷ (j, pos 0 -ℤ pos 1) ∷ []) form →
    HasForm (Subtract (term_in ts k) (term_in ts j)) × IsFormIn ts form (form_of (Subtract (term_in ts k) (term_in ts j)))
difference_form ts k j form h =
    let light = h.light in (
      HasForm-weight (Subtract (term_in ts k) (term_in ts j)) (omega arith),
      Reads-same ts (numbers form) (numbers form) _ (form_of (Subtract (term_in ts k) (term_in ts j))) (λ p. refl) same h.is_form,
    )
  where
    same : (p : T.Place) → total ts ((k, pos 1) ∷ (j, pos 0 -ℤ pos 1) ∷ []) p ≡ form_of (Subtract (term_in ts k) (term_in ts j)) p
    same p = omega (arith, ints)

-- what is together has its term's form
pub together_form : (ts : Table) (ms : Multiples) (t : Term) (form : LinForm) → AreTogether ts ms t → IsLightTotal ts ms form → HasForm t × IsFormIn ts form (form_of t)
together_form ts ms t form both h =
    (HasForm-weight t (subst (λ w. w < 2 ^ 127) both.heavy h.light), Reads-same ts (numbers form) (numbers form) _ (form_of t) (λ p. refl) both.form h.is_form)

-- the sides of a comparison, appended
max_of : (k : ℤ) → max (unsigned_abs (pos 0 -ℤ k)) 1 ≡ max (unsigned_abs k) 1
max_of k = omega (arith, ints)

module _ (ts : Table) (old : Multiples) (l r : TermId) (k there back : ℤ) (g : Term) (is : g ≡ Subtract (term_in ts l) (term_in ts r)) (is_there : there ≡ k) (is_back : back ≡ pos 0 -ℤ k) where
  abbrev pub behind : Multiples
  behind = (old ++ ((l, there) ∷ [])) ++ ((r, back) ∷ [])

  gap_form : (p : T.Place) → total ts behind p ≡ total ts old p +ℤ k *ℤ form_of g p
  gap_form p =
      let once = total_behind ts old (l, there) p in
      let twice = total_behind ts (old ++ ((l, there) ∷ [])) (r, back) p in
      let kept : there *ℤ form_of (term_in ts l) p ≡ k *ℤ form_of (term_in ts l) p = ap (λ b. b *ℤ form_of (term_in ts l) p) is_there in
      let whole : k *ℤ form_of g p ≡ k *ℤ form_of (term_in ts l) p -ℤ k *ℤ form_of (term_in ts r) p =
      ap (λ t. k *ℤ form_of t p) is ∙ mul-sub k (form_of (term_in ts l) p) (form_of (term_in ts r) p) in
      let turned : back *ℤ form_of (term_in ts r) p ≡ pos 0 -ℤ k *ℤ form_of (term_in ts r) p =
      ap (λ b. b *ℤ form_of (term_in ts r) p) is_back ∙ mul-neg k (form_of (term_in ts r) p) in
      omega (arith, ints)

  gap_load : load ts behind ≡ load ts old + max (unsigned_abs k) 1 * weight g
  gap_load =
      let once = load_behind ts old (l, there) in
      let twice = load_behind ts (old ++ ((l, there) ∷ [])) (r, back) in
      let kept : max (unsigned_abs there) 1 * weight (term_in ts l) ≡ max (unsigned_abs k) 1 * weight (term_in ts l) = ap (λ b. max (unsigned_abs b) 1 * weight (term_in ts l)) is_there in
      let size : max (unsigned_abs back) 1 ≡ max (unsigned_abs k) 1 = ap (λ b. max (unsigned_abs b) 1) is_back ∙ max_of k in
      let turned : max (unsigned_abs back) 1 * weight (term_in ts r) ≡ max (unsigned_abs k) 1 * weight (term_in ts r) = ap (λ b. b * weight (term_in ts r)) size in
      let whole : max (unsigned_abs k) 1 * weight g ≡ max (unsigned_abs k) 1 * weight (term_in ts l) + max (unsigned_abs k) 1 * weight (term_in ts r) =
      ap (λ t. max (unsigned_abs k) 1 * weight t) is ∙ distribute (max (unsigned_abs k) 1) (weight (term_in ts l)) (weight (term_in ts r)) in
      omega arith

  pub gap_behind : IsTerm ts l → IsTerm ts r → (new : Multiples) → new ≡ behind → Appends ts old new (λ p. k *ℤ form_of g p) (max (unsigned_abs k) 1 * weight g)
  gap_behind is_l is_r new e = subst (λ n. Appends ts old n (λ p. k *ℤ form_of g p) (max (unsigned_abs k) 1 * weight g)) (sym e) (record {
    are_terms = λ are. terms_behind ts (old ++ ((l, there) ∷ [])) (r, back) (terms_behind ts old (l, there) are is_l) is_r;
    form = gap_form;
    heavy = gap_load;
  })

number_nothing : (p : T.Place) → form_of (Number (pos 0)) p ≡ pos 0
number_nothing None = refl
number_nothing (Some a) = refl

-- nothing is appended
pub nothing_behind : (ts : Table) (old : Multiples) (k : ℤ) (g : Term) → g ≡ Number (pos 0) → Appends ts old old (λ p. k *ℤ form_of g p) (max (unsigned_abs k) 1 * weight g)
nothing_behind ts old k g is = record {
  are_terms = λ are. are;
  form = λ p. let e = number_nothing p in rw (is, e) (omega (arith, ints));
  heavy = rw is (omega arith);
}

pub together_more : (ts : Table) (ms new : Multiples) (so_far g whole : Term) (k k' : ℤ) → k' ≡ k → whole ≡ Add so_far (Multiply k g) → AreTogether ts ms so_far →
    Appends ts ms new (λ p. k' *ℤ form_of g p) (max (unsigned_abs k') 1 * weight g) → AreTogether ts new whole
together_more ts ms new so_far g whole k k' is_k is both more = record {
  are_terms = more.are_terms both.are_terms;
  form = λ p. more.form p ∙ ap₂ (λ x j. x +ℤ j *ℤ form_of g p) (both.form p) is_k ∙ sym (ap (λ t. form_of t p) is);
  heavy = more.heavy ∙ ap₂ (λ x j. x + max (unsigned_abs j) 1 * weight g) both.heavy is_k ∙ sym (ap weight is);
}
