-- The least of the old conditions is the one whose proof is carried.
use Rattle.std.proofs.Common.{◌≡◌, ◌≢◌, ℕ, zero, suc, ◌+◌, ◌<◌, ◌≤◌, ◌⊎◌, inl, inr, Bool, true, false, ◌&&◌, cond, List, [], ◌∷◌, ◌++◌, Option, Some, None, option_map, slice_get, refl, sym, ap, ◌∙◌, subst, arith, add-zero, zero-add}
use Rattle.std.proofs.lemmas.Bool.Decides.{eqb_tells}
use Rattle.std.specs.Prelude.{◌==◌, option_and_then}
use Rattle.std.proofs.lemmas.Bool.{and_from}
use Rattle.lc_lemmas.proofs.Booleans.{and_parts}
use Rattle.lc_carry.specs.Carried.{can_carry, least_number, renamed_at, entry_for, carried_from, carried_proof, carried, column_between}
use Rattle.lc_carry.specs.CarriedFrom.{IsCarriedFrom, IsLeast, CarriesLeast, CarriesNothingElse}
use Rattle.lc_cert.specs.Certificates.{Entry, proof_at}
use Rattle.lc_cond.specs.Conditions.{Condition, conditions}
use Rattle.lc_cond_text.specs.ConditionText.{statement_text}
use Rattle.lc_kernel.specs.Proofs.{Proof}
use Rattle.lc_outline.specs.Development.{Development}
use Rattle.lc_reading.proofs.Words.{is-true}
use Rattle.lc_reading.specs.Words.{is}
use Rattle.lc_carry.specs.RenamedProofs.{is_covered, renamed}
use Rattle.lc_text.proofs.Printed.{same_refl}

-- ---- the proof of a number

module _ (E : Development) (f : List ℕ → Option Proof) where
  one_below : (o : Option Proof) (n k : ℕ) (es : List Entry) → ((n == k) ≡ true) × (n ≡ k) ⊎ ((n == k) ≡ false) × (n ≢ k) → k < n → proof_at es k ≡ None → proof_at (entry_for n o ++ es) k ≡ None
  one_below None n k es tells lt h = h
  one_below (Some p) n k es (inl (is, same)) lt h = absurd (omega (arith, lt, same))
  one_below (Some p) n k es (inr (is, other)) lt h = ap (λ b. cond b (Some p) (proof_at es k)) is ∙ h

  -- numbers before the first have no proof
  none_below : (n : ℕ) (cs : List Condition) (k : ℕ) → k < n → proof_at (carried_from E f n cs) k ≡ None
  none_below n [] k lt = refl
  none_below n (c ∷ cs) k lt = one_below (f (statement_text E c)) n k (carried_from E f (suc n) cs) (eqb_tells n k) lt (none_below (suc n) cs k (omega (arith, lt)))

  first_at : (o : Option Proof) (n : ℕ) (es : List Entry) → ((n == n) ≡ true) × (n ≡ n) ⊎ ((n == n) ≡ false) × (n ≢ n) → proof_at es n ≡ None → proof_at (entry_for n o ++ es) n ≡ o
  first_at None n es tells h = h
  first_at (Some p) n es (inl (is, same)) h = ap (λ b. cond b (Some p) (proof_at es n)) is
  first_at (Some p) n es (inr (is, other)) h = absurd (other refl)

  later_at : (o : Option Proof) (n k : ℕ) (es : List Entry) → ((n == k) ≡ true) × (n ≡ k) ⊎ ((n == k) ≡ false) × (n ≢ k) → n < k → proof_at (entry_for n o ++ es) k ≡ proof_at es k
  later_at None n k es tells lt = refl
  later_at (Some p) n k es (inl (is, same)) lt = absurd (omega (arith, lt, same))
  later_at (Some p) n k es (inr (is, other)) lt = ap (λ b. cond b (Some p) (proof_at es k)) is

  -- the proof of a condition is the one that is found by what it says
  found_at : (n : ℕ) (cs : List Condition) (i : ℕ) → proof_at (carried_from E f n cs) (n + i) ≡ option_and_then (λ c. f (statement_text E c)) (slice_get cs i)
  found_at n [] i = refl
  found_at n (c ∷ cs) zero =
      subst (λ m. proof_at (carried_from E f n (c ∷ cs)) m ≡ f (statement_text E c)) (sym (add-zero n))
      (first_at (f (statement_text E c)) n (carried_from E f (suc n) cs) (eqb_tells n n) (none_below (suc n) cs n (omega arith)))
  found_at n (c ∷ cs) (suc i) =
      let next : suc n + i ≡ n + suc i = omega arith in
      later_at (f (statement_text E c)) n (n + suc i) (carried_from E f (suc n) cs) (eqb_tells n (n + suc i)) (omega arith)
      ∙ subst (λ m. proof_at (carried_from E f (suc n) cs) m ≡ option_and_then (λ d. f (statement_text E d)) (slice_get cs i)) next (found_at (suc n) cs i)

-- ---- the least number

module _ (D : Development) (es : List Entry) (to : ℕ → Option ℕ) (t : List ℕ) where
  -- this old condition is noted
  abbrev pub notes : ℕ → Condition → Bool
  notes j c = can_carry to (proof_at es j) && is t (statement_text D c)

  -- the condition of this number is noted, and none before it
  pub record IsFirst (n j : ℕ) (cs : List Condition) : Type 0 where
    pub place : ℕ
    pub number : n + place ≡ j
    pub condition : Condition
    pub stands : slice_get cs place ≡ Some condition
    pub noted : (can_carry to (proof_at es j) && is t (statement_text D condition)) ≡ true
    pub least : (i : ℕ) (c : Condition) → slice_get cs i ≡ Some c → (can_carry to (proof_at es (n + i)) && is t (statement_text D c)) ≡ true → place ≤ i

  not_first : (n i : ℕ) (c : Condition) (cs : List Condition) (place : ℕ) → notes n c ≡ false → ((k : ℕ) (d : Condition) → slice_get cs k ≡ Some d → notes (suc n + k) d ≡ true → place ≤ k)
      → (d : Condition) → slice_get (c ∷ cs) i ≡ Some d → notes (n + i) d ≡ true → suc place ≤ i
  not_first n zero c cs place not later d at noted =
      let is : Some c ≡ Some d = at in
      let same : c ≡ d = cc in
      absurd (let no : false ≡ true = sym not ∙ ap (notes n) same ∙ ap (λ m. notes m d) (sym (add-zero n)) ∙ noted in cc)
  not_first n (suc i) c cs place not later d at noted =
      let next : n + suc i ≡ suc n + i = omega arith in
      let le = later i d at (subst (λ m. notes m d ≡ true) next noted) in
      omega (arith, le)

  first_by : (n j : ℕ) (c : Condition) (cs : List Condition) → (least_number D es to t (suc n) cs ≡ Some j → IsFirst (suc n) j cs) → (b : Bool) → notes n c ≡ b → cond b (Some n) (least_number D es to t (suc n) cs) ≡ Some j
      → IsFirst n j (c ∷ cs)
  first_by n j c cs later true is found =
      let here : Some n ≡ Some j = found in
      let same : n ≡ j = cc in
      record {
        place = 0;
        number = add-zero n ∙ same;
        condition = c;
        stands = refl;
        noted = subst (λ m. notes m c ≡ true) same is;
        least = λ i d at noted. omega arith;
      }
  first_by n j c cs later false is found =
      let r = later found in
      let number : suc n + r.place ≡ j = r.number in
      record {
        place = suc r.place;
        number = omega (arith, number);
        condition = r.condition;
        stands = r.stands;
        noted = r.noted;
        least = λ i d at noted. not_first n i c cs r.place is r.least d at noted;
      }

  pub first_of : (n j : ℕ) (cs : List Condition) → least_number D es to t n cs ≡ Some j → IsFirst n j cs
  first_of n j [] found = absurd (let none : None ≡ Some j = found in cc)
  first_of n j (c ∷ cs) found = first_by n j c cs (first_of (suc n) j cs) (notes n c) refl found

  none_by : (n i : ℕ) (c d : Condition) (cs : List Condition) → ((k : ℕ) (x : Condition) → least_number D es to t (suc n) cs ≡ None → slice_get cs k ≡ Some x → notes (suc n + k) x ≡ true → ⊥) → (b : Bool) → notes n c ≡ b
      → cond b (Some n) (least_number D es to t (suc n) cs) ≡ None → slice_get (c ∷ cs) i ≡ Some d → notes (n + i) d ≡ true → ⊥
  none_by n i c d cs later true is found at noted = let some : Some n ≡ None = found in cc
  none_by n zero c d cs later false is found at noted =
      let here : Some c ≡ Some d = at in
      let same : c ≡ d = cc in
      let no : false ≡ true = sym is ∙ ap (notes n) same ∙ ap (λ m. notes m d) (sym (add-zero n)) ∙ noted in
      cc
  none_by n (suc i) c d cs later false is found at noted =
      let next : n + suc i ≡ suc n + i = omega arith in
      later i d found at (subst (λ m. notes m d ≡ true) next noted)

  pub none_of : (n i : ℕ) (d : Condition) (cs : List Condition) → least_number D es to t n cs ≡ None → slice_get cs i ≡ Some d → notes (n + i) d ≡ true → ⊥
  none_of n i d [] found at noted = let none : None ≡ Some d = at in cc
  none_of n i d (c ∷ cs) found at noted = none_by n i c d cs (λ k x h. none_of (suc n) k x cs h) (notes n c) refl found at noted

-- ---- what is carried

-- a proof that can be carried
carriable : (to : ℕ → Option ℕ) (o : Option Proof) → can_carry to o ≡ true → (p : Proof) × (o ≡ Some p) × (is_covered to p ≡ true)
carriable to None h = absurd (let no : false ≡ true = h in cc)
carriable to (Some p) h = (p, refl, h)

can : (to : ℕ → Option ℕ) (o : Option Proof) (p : Proof) → o ≡ Some p → is_covered to p ≡ true → can_carry to o ≡ true
can to o p is h = ap (can_carry to) is ∙ h

module _ (D : Development) (es : List Entry) (E : Development) where
  carried_at : (k : ℕ) → proof_at (carried D es E) k ≡ option_and_then (λ c. carried_proof D es E (statement_text E c)) (slice_get (conditions E) k)
  carried_at k =
      subst (λ n. proof_at (carried D es E) n ≡ option_and_then (λ c. carried_proof D es E (statement_text E c)) (slice_get (conditions E) k)) (zero-add k)
      (found_at E (carried_proof D es E) 0 (conditions E) k)

  -- an old condition from which a proof can be carried is noted by what the new one says
  noted_of : (k i : ℕ) (q : Proof) (c : Condition) (h : IsCarriedFrom D es E k i q) → slice_get (conditions E) k ≡ Some c
      → (can_carry (column_between D E) (proof_at es (0 + i)) && is (statement_text E c) (statement_text D h.old)) ≡ true
  noted_of k i q c h at =
      let here : Some h.new ≡ Some c = sym h.new_stands ∙ at in
      let new : h.new ≡ c = cc in
      let says : statement_text D h.old ≡ statement_text E c = h.same ∙ ap (statement_text E) new in
      and_from (can_carry (column_between D E) (proof_at es (0 + i))) (is (statement_text E c) (statement_text D h.old))
      (ap (λ n. can_carry (column_between D E) (proof_at es n)) (zero-add i) ∙ can (column_between D E) (proof_at es i) q h.proved h.covered)
      (ap (is (statement_text E c)) says ∙ same_refl (statement_text E c))

  -- the first that is noted is the least from which a proof can be carried
  is_from : (k j : ℕ) (c : Condition) → slice_get (conditions E) k ≡ Some c → IsFirst D es (column_between D E) (statement_text E c) 0 j (conditions D) → (p : Proof) × IsCarriedFrom D es E k j p × IsLeast D es E k j
  is_from k j c at r =
      let parts = and_parts (can_carry (column_between D E) (proof_at es j)) (is (statement_text E c) (statement_text D r.condition)) r.noted in
      let (p, proved, covers) = carriable (column_between D E) (proof_at es j) parts.0 in
      let place : r.place ≡ j = sym (zero-add r.place) ∙ r.number in (
        p,
        record {
          old = r.condition;
          new = c;
          old_stands = subst (λ n. slice_get (conditions D) n ≡ Some r.condition) place r.stands;
          new_stands = at;
          same = sym (is-true (statement_text E c) (statement_text D r.condition) parts.1);
          proved = proved;
          covered = covers;
        },
        λ i q h. subst (λ n. n ≤ i) place (r.least i h.old h.old_stands (noted_of k i q c h at)),
      )

  -- the proof of the least
  least_by : (k j : ℕ) (p : Proof) (h : IsCarriedFrom D es E k j p) → IsLeast D es E k j → (o : Option ℕ) → least_number D es (column_between D E) (statement_text E h.new) 0 (conditions D) ≡ o
      → renamed_at (column_between D E) es o ≡ Some (renamed (column_between D E) p)
  least_by k j p h least None found =
      absurd (none_of D es (column_between D E) (statement_text E h.new) 0 j h.old (conditions D) found h.old_stands (noted_of k j p h.new h h.new_stands))
  least_by k j p h least (Some i) found =
      let (q, from, first) = is_from k i h.new h.new_stands (first_of D es (column_between D E) (statement_text E h.new) 0 i (conditions D) found) in
      let le = least i q from in
      let ge = first j p h in
      let same : i ≡ j = omega (arith, le, ge) in
      ap (option_map (renamed (column_between D E))) (ap (proof_at es) same ∙ h.proved)

  pub carries_least : (k j : ℕ) (p : Proof) → IsCarriedFrom D es E k j p → IsLeast D es E k j → proof_at (carried D es E) k ≡ Some (renamed (column_between D E) p)
  carries_least k j p h least =
      carried_at k ∙ ap (option_and_then (λ c. carried_proof D es E (statement_text E c))) h.new_stands
      ∙ least_by k j p h least (least_number D es (column_between D E) (statement_text E h.new) 0 (conditions D)) refl

  -- nothing else is carried
  abbrev IsLeastProof : ℕ → Proof → Type 0
  IsLeastProof k q = (j : ℕ) × (p : Proof) × IsCarriedFrom D es E k j p × IsLeast D es E k j × (q ≡ renamed (column_between D E) p)

  number_by : (k : ℕ) (q : Proof) (c : Condition) → slice_get (conditions E) k ≡ Some c → (o : Option ℕ) → least_number D es (column_between D E) (statement_text E c) 0 (conditions D) ≡ o
      → renamed_at (column_between D E) es o ≡ Some q → IsLeastProof k q
  number_by k q c at None found is_q = absurd (let none : None ≡ Some q = is_q in cc)
  number_by k q c at (Some j) found is_q =
      let (p, from, first) = is_from k j c at (first_of D es (column_between D E) (statement_text E c) 0 j (conditions D) found) in
      let seen : Some (renamed (column_between D E) p) ≡ Some q = sym (ap (option_map (renamed (column_between D E))) from.proved) ∙ is_q in
      let same : q ≡ renamed (column_between D E) p = cc in
      (j, p, from, first, same)

  condition_by : (k : ℕ) (q : Proof) (o : Option Condition) → slice_get (conditions E) k ≡ o → option_and_then (λ c. carried_proof D es E (statement_text E c)) o ≡ Some q → IsLeastProof k q
  condition_by k q None at is_q = absurd (let none : None ≡ Some q = is_q in cc)
  condition_by k q (Some c) at is_q = number_by k q c at (least_number D es (column_between D E) (statement_text E c) 0 (conditions D)) refl is_q

  pub nothing_else : (k : ℕ) (q : Proof) → proof_at (carried D es E) k ≡ Some q → IsLeastProof k q
  nothing_else k q at = condition_by k q (slice_get (conditions E) k) refl (sym (carried_at k) ∙ at)

pub all_least : CarriesLeast
all_least D es E k j p h least = carries_least D es E k j p h least

pub all_else : CarriesNothingElse
all_else D es E k q at = nothing_else D es E k q at
