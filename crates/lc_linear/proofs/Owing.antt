-- Multiples of nodes, with one of them changed.
use Rattle.std.proofs.Common.{◌≡◌, ℕ, zero, suc, ◌<◌, ◌≤◌, length, Bool, true, false, Some, None, refl, sym, ap, ap₂, ◌∙◌, arith}
use Rattle.std.specs.Prelude.{ℤ, pos, ◌+ℤ◌, ◌-ℤ◌, ◌*ℤ◌, if◌then◌else◌, nat_eq}
use Rattle.std.proofs.lemmas.Bool.{false≢true, eqb-true, eq-eqb}
use Rattle.std.proofs.lemmas.Int.{ints}
use Rattle.std.proofs.lemmas.Option.{slice_get_within}
use Rattle.lc_term.specs.Syntax.{Add, Subtract, Multiply}
use Rattle.lc_table.specs.NodeTables.{Table}
use Rattle.lc_table.specs.Tables.{parts, term_in, IsTerm}
use Rattle.lc_table.specs.declared.node.TermId.{TermId}
use Rattle.lc_table.proofs.TermNodes.{term-there}
use Rattle.lc_linear.proofs.InTables.{Reads-same, number_read}
use Rattle.lc_linear.proofs.Products.{mul-add, mul-sub, mul-neg, mul_comm, mul_assoc, zero-mul}
use Rattle.lc_linear.specs.Form as T
use Rattle.lc_linear.specs.Form.{form_of}
use Rattle.lc_linear.specs.LinForm.{numbers, HasNumbers, IsFormIn, AddsIn}
use Rattle.lc_linear.specs.Numbered as N
use Rattle.lc_linear.specs.Numbered.{is_same, atom_form, number_form}
use Rattle.lc_linear.specs.Owed.{multiples, owed_in, IsTogether, StaysTogether}
use Rattle.lc_linear.specs.declared.form.LinForm.{LinForm}

times_one : (c : ℤ) → c *ℤ pos 1 ≡ c
times_one c = omega (arith, ints)

none_more : (n c : ℤ) → n +ℤ c *ℤ pos 0 ≡ n
none_more n c = omega (arith, ints)

one_more : (n c f : ℤ) → (n +ℤ c *ℤ pos 1) *ℤ f ≡ n *ℤ f +ℤ c *ℤ f
one_more n c f =
    ap (λ x. (n +ℤ x) *ℤ f) (times_one c) ∙ mul_comm (n +ℤ c) f ∙ mul-add f n c ∙ ap₂ ◌+ℤ◌ (mul_comm f n) (mul_comm f c)

module _ (ts : Table) (n m : N.Form) where
  multiples_same : ((p : N.Place) → m p ≡ n p) → (k : ℕ) (p : T.Place) → multiples ts m k p ≡ multiples ts n k p
  multiples_same same zero p = refl
  multiples_same same (suc k) p =
      ap₂ ◌+ℤ◌ (multiples_same same k p) (ap (λ x. x *ℤ form_of (term_in ts (record { 0 = k })) p) (same (Some (record { 0 = k }))))

  module _ (x : TermId) (c : ℤ) (is : (p : N.Place) → m p ≡ n p +ℤ c *ℤ atom_form x p) where
    away : (k : ℕ) → nat_eq k x.0 ≡ false → m (Some (record { 0 = k })) ≡ n (Some (record { 0 = k }))
    away k apart =
        is (Some (record { 0 = k })) ∙ ap (λ b. n (Some (record { 0 = k })) +ℤ c *ℤ (if b then pos 1 else pos 0)) apart ∙ none_more (n (Some (record { 0 = k }))) c

    here : (k : ℕ) → nat_eq k x.0 ≡ true → m (Some (record { 0 = k })) ≡ n (Some (record { 0 = k })) +ℤ c *ℤ pos 1
    here k at = is (Some (record { 0 = k })) ∙ ap (λ b. n (Some (record { 0 = k })) +ℤ c *ℤ (if b then pos 1 else pos 0)) at

    smaller : (k : ℕ) → k < x.0 → nat_eq k x.0 ≡ false
    smaller k below = by (nat_eq k x.0) refl
      where
        by : (b : Bool) → nat_eq k x.0 ≡ b → b ≡ false
        by false e = refl
        by true e = let same = eqb-true k x.0 e in absurd (omega arith)

    beyond : (k : ℕ) (p : T.Place) → k ≤ x.0 → multiples ts m k p ≡ multiples ts n k p
    beyond zero p below = refl
    beyond (suc k) p below =
        ap₂ ◌+ℤ◌ (beyond k p (omega arith)) (ap (λ z. z *ℤ form_of (term_in ts (record { 0 = k })) p) (away k (smaller k (omega arith))))

    less : (k : ℕ) → x.0 < suc k → nat_eq k x.0 ≡ false → x.0 < k
    less k below apart = let no = λ (s : k ≡ x.0). false≢true (sym apart ∙ eq-eqb k x.0 s) in omega (arith, no)

    turn : (k : ℕ) (p : T.Place) → x.0 < suc k → (x.0 < k → multiples ts m k p ≡ multiples ts n k p +ℤ c *ℤ form_of (term_in ts x) p) → (b : Bool) → nat_eq k x.0 ≡ b
        → multiples ts m (suc k) p ≡ multiples ts n (suc k) p +ℤ c *ℤ form_of (term_in ts x) p
    turn k p below before true e =
        let same : k ≡ x.0 = eqb-true k x.0 e in
        let f : ℤ = form_of (term_in ts (record { 0 = k })) p in
        let last : form_of (term_in ts x) p ≡ f = ap (λ j. form_of (term_in ts (record { 0 = j })) p) (sym same) in
        let rest = beyond k p (omega arith) in
        let more = ap (λ z. z *ℤ f) (here k e) ∙ one_more (n (Some (record { 0 = k }))) c f in
        rw last (omega (arith, ints))
    turn k p below before false e =
        let rest = before (less k below e) in
        let more = ap (λ z. z *ℤ form_of (term_in ts (record { 0 = k })) p) (away k e) in
        omega (arith, ints)

    within : (k : ℕ) (p : T.Place) → x.0 < k → multiples ts m k p ≡ multiples ts n k p +ℤ c *ℤ form_of (term_in ts x) p
    within zero p below = absurd (omega arith)
    within (suc k) p below = turn k p below (λ closer. within k p closer) (nat_eq k x.0) refl

-- the number of a term is one of the table's
term_within : (ts : Table) (k : TermId) → IsTerm ts k → k.0 < length (parts ts)
term_within ts k is = slice_get_within (parts ts) k.0 _ (term-there (parts ts) k is)

pub owed_more : (ts : Table) (n m : N.Form) (x : TermId) → IsTerm ts x → (c : ℤ) → ((p : N.Place) → m p ≡ n p +ℤ c *ℤ atom_form x p) →
    (p : T.Place) → owed_in ts m p ≡ owed_in ts n p +ℤ c *ℤ form_of (term_in ts x) p
owed_more ts n m x is c added p = within ts n m x c added (length (parts ts)) p (term_within ts x is)

pub owed_less : (ts : Table) (n m : N.Form) (x : TermId) → IsTerm ts x → (c : ℤ) → ((p : N.Place) → m p ≡ n p -ℤ c *ℤ atom_form x p) →
    (p : T.Place) → owed_in ts m p ≡ owed_in ts n p -ℤ c *ℤ form_of (term_in ts x) p
owed_less ts n m x is c less p =
    let back = owed_more ts n m x is (pos 0 -ℤ c) (λ q. less q ∙ turned q) p in
    let e = mul-neg c (form_of (term_in ts x) p) in
    omega (arith, ints)
  where
    turned : (q : N.Place) → n q -ℤ c *ℤ atom_form x q ≡ n q +ℤ (pos 0 -ℤ c) *ℤ atom_form x q
    turned q = let e = mul-neg c (atom_form x q) in omega (arith, ints)

pub owed_nothing : (ts : Table) (n : N.Form) → ((a : TermId) → n (Some a) ≡ pos 0) → (p : T.Place) → owed_in ts n p ≡ pos 0
owed_nothing ts n nothing p = by (length (parts ts))
  where
    by : (k : ℕ) → multiples ts n k p ≡ pos 0
    by zero = refl
    by (suc k) =
        let rest = by k in
        let last = zero-mul (n (Some (record { 0 = k }))) (form_of (term_in ts (record { 0 = k })) p) (nothing (record { 0 = k })) in
        omega (arith, ints)

-- the same is owed
pub together_kept : (ts : Table) (form rest new : LinForm) → ((p : T.Place) → owed_in ts (numbers new) p ≡ owed_in ts (numbers rest) p) → StaysTogether ts form rest form new
together_kept ts form rest new same h both = record {
  made = both.made;
  is_made = both.is_made;
  together = λ p. ap (λ x. both.made p +ℤ x) (same p) ∙ both.together p;
}

move : (a g s t h : ℤ) → t ≡ s -ℤ g → a +ℤ s ≡ h → a +ℤ g +ℤ t ≡ h
move a g s t h less both = omega (arith, ints)

-- what is owed no more is added
pub together_moved : (ts : Table) (form rest new_form new : LinForm) (g : T.Form) → AddsIn ts form new_form g →
    ((p : T.Place) → owed_in ts (numbers new) p ≡ owed_in ts (numbers rest) p -ℤ g p) → StaysTogether ts form rest new_form new
together_moved ts form rest new_form new g adds less h both = record {
  made = λ p. both.made p +ℤ g p;
  is_made = adds both.made both.is_made;
  together = λ p. move (both.made p) (g p) _ _ (h p) (less p) (both.together p);
}

-- nothing is made yet
pub together_begun : (ts : Table) (form rest : LinForm) (h : T.Form) → HasNumbers form (number_form (pos 0)) → ((p : T.Place) → owed_in ts (numbers rest) p ≡ h p) → IsTogether ts form rest h
together_begun ts form rest h nothing owes = record {
  made = T.number_form (pos 0);
  is_made = Reads-same ts (number_form (pos 0)) (numbers form) (T.number_form (pos 0)) (T.number_form (pos 0)) nothing (λ p. refl) (number_read ts (pos 0));
  together = begun;
}
  where
    begun : (p : T.Place) → T.number_form (pos 0) p +ℤ owed_in ts (numbers rest) p ≡ h p
    begun None = let e = owes None in omega (arith, ints)
    begun (Some a) = let e = owes (Some a) in omega (arith, ints)

-- nothing is owed any more
pub together_ended : (ts : Table) (form rest : LinForm) (h : T.Form) → ((a : TermId) → numbers rest (Some a) ≡ pos 0) → IsTogether ts form rest h → IsFormIn ts form h
together_ended ts form rest h nothing both =
    Reads-same ts (numbers form) (numbers form) both.made h (λ p. refl) (λ p. ended (both.made p) _ (h p) (owed_nothing ts (numbers rest) nothing p) (both.together p)) both.is_made
  where
    ended : (a s h : ℤ) → s ≡ pos 0 → a +ℤ s ≡ h → a ≡ h
    ended a s h none both = omega (arith, ints)

-- what is owed of a node is owed of its parts
module _ (ts : Table) (form rest less mid new : LinForm) (node : TermId) (is : IsTerm ts node) (c : ℤ)
    (taken : HasNumbers less (λ p. numbers rest p -ℤ c *ℤ atom_form node p)) where
  gone : (p : T.Place) → owed_in ts (numbers less) p ≡ owed_in ts (numbers rest) p -ℤ c *ℤ form_of (term_in ts node) p
  gone p = owed_less ts (numbers rest) (numbers less) node is c taken p

  module _ (l r : TermId) (is_l : IsTerm ts l) (is_r : IsTerm ts r) where
    pub sum_owed : term_in ts node ≡ Add (term_in ts l) (term_in ts r) → HasNumbers mid (λ p. numbers less p +ℤ c *ℤ atom_form l p) →
        HasNumbers new (λ p. numbers mid p +ℤ c *ℤ atom_form r p) → StaysTogether ts form rest form new
    sum_owed tree first second = together_kept ts form rest new same
      where
        same : (p : T.Place) → owed_in ts (numbers new) p ≡ owed_in ts (numbers rest) p
        same p =
            let taken_back = gone p in
            let once = owed_more ts (numbers less) (numbers mid) l is_l c first p in
            let twice = owed_more ts (numbers mid) (numbers new) r is_r c second p in
            let whole : c *ℤ form_of (term_in ts node) p ≡ c *ℤ form_of (term_in ts l) p +ℤ c *ℤ form_of (term_in ts r) p =
            ap (λ t. c *ℤ form_of t p) tree ∙ mul-add c (form_of (term_in ts l) p) (form_of (term_in ts r) p) in
            omega (arith, ints)

    pub difference_owed : term_in ts node ≡ Subtract (term_in ts l) (term_in ts r) → HasNumbers mid (λ p. numbers less p +ℤ c *ℤ atom_form l p) →
        HasNumbers new (λ p. numbers mid p -ℤ c *ℤ atom_form r p) → StaysTogether ts form rest form new
    difference_owed tree first second = together_kept ts form rest new same
      where
        same : (p : T.Place) → owed_in ts (numbers new) p ≡ owed_in ts (numbers rest) p
        same p =
            let taken_back = gone p in
            let once = owed_more ts (numbers less) (numbers mid) l is_l c first p in
            let twice = owed_less ts (numbers mid) (numbers new) r is_r c second p in
            let whole : c *ℤ form_of (term_in ts node) p ≡ c *ℤ form_of (term_in ts l) p -ℤ c *ℤ form_of (term_in ts r) p =
            ap (λ t. c *ℤ form_of t p) tree ∙ mul-sub c (form_of (term_in ts l) p) (form_of (term_in ts r) p) in
            omega (arith, ints)

  pub product_owed : (n d : ℤ) (part : TermId) → IsTerm ts part → term_in ts node ≡ Multiply n (term_in ts part) → d ≡ c *ℤ n →
      HasNumbers new (λ p. numbers less p +ℤ d *ℤ atom_form part p) → StaysTogether ts form rest form new
  product_owed n d part is_part tree by added = together_kept ts form rest new same
    where
      same : (p : T.Place) → owed_in ts (numbers new) p ≡ owed_in ts (numbers rest) p
      same p =
          let taken_back = gone p in
          let once = owed_more ts (numbers less) (numbers new) part is_part d added p in
          let whole : c *ℤ form_of (term_in ts node) p ≡ d *ℤ form_of (term_in ts part) p =
          ap (λ t. c *ℤ form_of t p) tree ∙ sym (mul_assoc c n (form_of (term_in ts part) p)) ∙ ap (λ k. k *ℤ form_of (term_in ts part) p) (sym by) in
          omega (arith, ints)

  pub alone_settled : (new_form : LinForm) → AddsIn ts form new_form (λ p. c *ℤ form_of (term_in ts node) p) → StaysTogether ts form rest new_form less
  alone_settled new_form adds = together_moved ts form rest new_form less (λ p. c *ℤ form_of (term_in ts node) p) adds gone
