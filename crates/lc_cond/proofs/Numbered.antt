-- Parts of the list of conditions, by the numbers of their conditions.
use Rattle.std.proofs.Common.{◌≡◌, ℕ, zero, suc, ◌+◌, ◌*◌, ◌-◌, ◌<◌, ◌≤◌, Some, None, List, [], ◌∷◌, ◌++◌, map, length, take, get_or, slice_get, refl, sym, ap, ◌∙◌, subst, arith}
use Rattle.std.proofs.lemmas.List.{length-append, length-map}
use Rattle.std.proofs.lemmas.Option.{same_Some, slice_get_past}
use Rattle.lc_lemmas.proofs.Lists.{kept_left}
use Rattle.lc_term.specs.Lists.{concat_map}
use Rattle.lc_table.specs.NodeTables.{Table}
use Rattle.lc_object.specs.Syntax as O
use Rattle.lc_object.specs.WellFormed.{variable_count}
use Rattle.lc_outline.specs.Development.{Development, first_system, asserts_at, in_operation}
use Rattle.lc_outline.specs.Resolved.{IsResolved}
use Rattle.lc_cond.specs.Conditions as S
use Rattle.lc_cond.specs.Conditions.{parts, conditions_in, conditions, body_frame, stable_conditions, point_stability}
use Rattle.lc_cond.specs.ConditionView.{condition_in, AreConditions}
use Rattle.lc_cond.specs.Numbering.{count_before, AreFirsts, AddsWith, IsPartWith}
use Rattle.lc_cond.specs.declared.condition.Condition.{Condition}
use Rattle.lc_cond.specs.declared.numbering.NumberedPart.{NumberedPart}
use Rattle.lc_cond.proofs.Adding.{adds_to_none}
use Rattle.lc_cond.proofs.PartsList.{in_parts}
use Rattle.lc_cond.proofs.Sized.{stable_length}
use Rattle.lc_cond.proofs.Stretched.{stands_behind}

-- ---- lists that are joined

module _ {A B : Type 0} (f : A → List B) where
  -- how many come of the first ones
  abbrev ahead : List A → ℕ → ℕ
  ahead ps k = length (concat_map f (take k ps))

  pub one_ahead : (ps : List A) (k : ℕ) (p : A) → slice_get ps k ≡ Some p → ahead ps (suc k) ≡ ahead ps k + length (f p)
  one_ahead [] k p h = cc
  one_ahead (q ∷ ps) zero p h =
      let e : q ≡ p = same_Some q p h in
      length-append (f q) [] ∙ (let g = ap (λ x. length (f x)) e in omega (arith, g))
  one_ahead (q ∷ ps) (suc k) p h =
      let rest = one_ahead ps k p h in
      let a = length-append (f q) (concat_map f (take (suc k) ps)) in
      let b = length-append (f q) (concat_map f (take k ps)) in
      omega (arith, a, b, rest)

  -- there is none at this place or after it
  pub all_ahead : (ps : List A) (k : ℕ) → slice_get ps k ≡ None → ahead ps k ≡ length (concat_map f ps)
  all_ahead [] zero h = refl
  all_ahead [] (suc k) h = refl
  all_ahead (q ∷ ps) zero h = cc
  all_ahead (q ∷ ps) (suc k) h =
      let rest = all_ahead ps k h in
      let a = length-append (f q) (concat_map f (take k ps)) in
      let b = length-append (f q) (concat_map f ps) in
      omega (arith, a, b, rest)

  -- no more than of all
  pub ahead_within : (ps : List A) (k : ℕ) → ahead ps k ≤ length (concat_map f ps)
  ahead_within [] zero = omega arith
  ahead_within [] (suc k) = omega arith
  ahead_within (q ∷ ps) zero = omega arith
  ahead_within (q ∷ ps) (suc k) =
      let rest = ahead_within ps k in
      let a = length-append (f q) (concat_map f (take k ps)) in
      let b = length-append (f q) (concat_map f ps) in
      omega (arith, a, b, rest)

  -- what comes of one is after what comes of those before it
  pub stands : (ps : List A) (k : ℕ) (p : A) (j : ℕ) (x : B) → slice_get ps k ≡ Some p → slice_get (f p) j ≡ Some x → slice_get (concat_map f ps) (ahead ps k + j) ≡ Some x
  stands [] k p j x h g = cc
  stands (q ∷ ps) zero p j x h g =
      let e : p ≡ q = sym (same_Some q p h) in
      let none : 0 + j ≡ j = omega arith in
      ap (slice_get (f q ++ concat_map f ps)) none ∙ kept_left (f q) (concat_map f ps) j x (ap (λ y. slice_get (f y) j) (sym e) ∙ g)
  stands (q ∷ ps) (suc k) p j x h g =
      let a = length-append (f q) (concat_map f (take k ps)) in
      let at : ahead (q ∷ ps) (suc k) + j ≡ length (f q) + (ahead ps k + j) = omega (arith, a) in
      ap (slice_get (f q ++ concat_map f ps)) at ∙ stands_behind (f q) (concat_map f ps) (ahead ps k + j) x (stands ps k p j x h g)

pub stands_not : {A : Type 0} (xs : List A) (k : ℕ) → slice_get xs k ≡ None → length xs ≤ k
stands_not [] k e = omega arith
stands_not (y ∷ xs) zero e = cc
stands_not (y ∷ xs) (suc k) e = (let h = stands_not xs k e in omega (arith, h))

-- ---- the numbers of the first conditions

module _ (D : Development) where
  pub firsts_pushed : (k : ℕ) (ns : List ℕ) (n : ℕ) → AreFirsts D k ns → n ≡ count_before D (k + length ns) → AreFirsts D k (ns ++ n ∷ [])
  firsts_pushed k [] n h e = (let a : k + 0 ≡ k = omega arith in e ∙ ap (count_before D) a, tt)
  firsts_pushed k (m ∷ ns) n h e = (let a : k + suc (length ns) ≡ suc k + length ns = omega arith in (h.0, firsts_pushed (suc k) ns n h.1 (e ∙ ap (count_before D) a)))

  first_found : (k : ℕ) (ns : List ℕ) (j n : ℕ) → AreFirsts D k ns → slice_get ns j ≡ Some n → n ≡ count_before D (k + j)
  first_found k [] j n h e = cc
  first_found k (m ∷ ns) zero n h e = (let a : k ≡ k + 0 = omega arith in sym (same_Some m n e) ∙ h.0 ∙ ap (count_before D) a)
  first_found k (m ∷ ns) (suc j) n h e = (let a : suc k + j ≡ k + suc j = omega arith in first_found (suc k) ns j n h.1 e ∙ ap (count_before D) a)

  first_got : (k : ℕ) (ns : List ℕ) (j n : ℕ) → AreFirsts D k ns → j < length ns → n ≡ get_or ns j n → n ≡ count_before D (k + j)
  first_got k [] j n h lt is = absurd (omega (arith, lt))
  first_got k (m ∷ ns) zero n h lt is = (let a : k ≡ k + 0 = omega arith in is ∙ h.0 ∙ ap (count_before D) a)
  first_got k (m ∷ ns) (suc j) n h lt is = (let a : suc k + j ≡ k + suc j = omega arith in first_got (suc k) ns j n h.1 (omega (arith, lt)) is ∙ ap (count_before D) a)

  pub first_at : (ns : List ℕ) (j n : ℕ) → AreFirsts D 0 ns → j < length ns → n ≡ get_or ns j n → n ≡ count_before D j
  first_at ns j n h lt is = (let a : 0 + j ≡ j = omega arith in first_got 0 ns j n h lt is ∙ ap (count_before D) a)

  -- as many as there are come before what comes after all parts
  pub all_before : (k : ℕ) → slice_get (parts D) k ≡ None → count_before D k ≡ length (conditions D)
  all_before k h = all_ahead (conditions_in D) (parts D) k h ∙ ap length (in_parts D)

  pub before_few : (k : ℕ) → count_before D k ≤ length (conditions D)
  before_few k = subst (λ cs. count_before D k ≤ length cs) (in_parts D) (ahead_within (conditions_in D) (parts D) k)

  pub last_found : (ns : List ℕ) (n : ℕ) → AreFirsts D 0 ns → length ns ≡ suc (length (parts D)) → slice_get ns (length ns - 1) ≡ Some n → n ≡ length (conditions D)
  last_found ns n h each e =
      let at : 0 + (length ns - 1) ≡ length (parts D) = omega (arith, each) in
      first_found 0 ns (length ns - 1) n h e ∙ ap (count_before D) at ∙ all_before (length (parts D)) (slice_get_past (parts D) (length (parts D)) (omega arith))

  -- the place between two that are next to one another
  pub place_found : (low high number : ℕ) → low ≤ high → high ≤ low + 1 → count_before D low ≤ number → (high < suc (length (parts D)) → number < count_before D high) → number < length (conditions D)
      → (low < length (parts D)) × (count_before D low ≤ number) × (number < count_before D (suc low))
  place_found low high number order near least most lt = at (length (parts D) - low) refl
    where
      next : (m : ℕ) → high - low ≡ m → number < count_before D high → number < count_before D (suc low)
      next zero e h = absurd (let same : high ≡ low = omega (arith, e, order) in let f = ap (count_before D) same in omega (arith, f, least, h))
      next (suc m) e h = (let same : high ≡ suc low = omega (arith, e, near) in let f = ap (count_before D) same in omega (arith, f, h))

      at : (m : ℕ) → length (parts D) - low ≡ m → (low < length (parts D)) × (count_before D low ≤ number) × (number < count_before D (suc low))
      at zero e = absurd (let all = all_before low (slice_get_past (parts D) low (omega (arith, e))) in omega (arith, all, least, lt))
      at (suc m) e = (omega (arith, e), least, next (high - low) refl (most (omega (arith, e, near))))

  -- a part that was counted
  pub one_counted : (k n m : ℕ) (p : S.Part) → slice_get (parts D) k ≡ Some p → n ≡ count_before D k → m ≡ length (conditions_in D p) → n + m ≡ count_before D (suc k)
  one_counted k n m p at is size = (let a = one_ahead (conditions_in D) (parts D) k p at in omega (arith, a, is, size))

  -- a point in the body of an operation
  pub point_counted : IsResolved D → (k : ℕ) (point : O.Point) (o : O.Operation) → slice_get D.object.operations point.operation ≡ Some o → length (point_stability D k point) ≡ length (asserts_at D k) * (length D.actions + 2)
  point_counted R k point o e =
      ap (λ x. length (in_operation (λ q operation. stable_conditions D (Some k) (variable_count operation) (body_frame (first_system D) q (length operation.arguments)) (asserts_at D k)) point.operation x)) e
      ∙ stable_length D R (Some k) (variable_count o) (body_frame (first_system D) point.operation (length o.arguments)) (asserts_at D k)

  -- ---- the conditions of a part

  pub part_stands : (ts : Table) (number place before within first : ℕ) (p : S.Part) (now : List Condition) (part : NumberedPart) → part.first ≡ before + first → part.conditions.items ≡ now
      → slice_get (parts D) place ≡ Some p → before ≡ count_before D place → within ≡ number - before → AddsWith [] ts now (conditions_in D p) within first
      → (number < length (conditions D) → (count_before D place ≤ number) × (number < count_before D (suc place))) → IsPartWith D ts number part
  part_stands ts number place before within first p now part is items at here place_is adds among =
      let all = adds_to_none ts now adds.some adds.adds in
      let cs = part.conditions.items in
      let said : map (condition_in ts) cs ≡ adds.some = ap (map (condition_in ts)) items ∙ all.1 in
      let next = one_ahead (conditions_in D) (parts D) place p at in
      let size : length adds.some ≡ length cs = ap length (sym said) ∙ length-map cs (condition_in ts) in
      record {
        are = subst (AreConditions ts) (sym items) all.0;
        stand = λ j x e. (let there : part.first + j ≡ count_before D place + (first + j) = omega (arith, is, here) in
            ap (λ l. slice_get l (part.first + j)) (sym (in_parts D)) ∙ ap (slice_get (concat_map (conditions_in D) (parts D))) there
            ∙ stands (conditions_in D) (parts D) place p (first + j) x at (adds.stand j x (ap (λ l. slice_get l j) (sym said) ∙ e)));
        has = λ lt. (let both = among lt in
            let low = both.0 in
            let high = both.1 in
            let within_it : within < length (conditions_in D p) = omega (arith, low, high, next, here, place_is) in
            let found = adds.has within_it in
            let least = found.0 in
            let most = found.1 in
            (omega (arith, low, least, is, here, place_is), omega (arith, low, most, size, is, here, place_is)));
      }

  -- if no part is there, there is no such condition
  pub none_stands : (ts : Table) (number place : ℕ) (part : NumberedPart) → part.first ≡ 0 → part.conditions.items ≡ [] → slice_get (parts D) place ≡ None
      → (number < length (conditions D) → place < length (parts D)) → IsPartWith D ts number part
  none_stands ts number place part first items at among = record {
    are = subst (AreConditions ts) (sym items) tt;
    stand = λ j x e. absurd (let f = ap (λ l. slice_get (map (condition_in ts) l) j) (sym items) ∙ e in nothing j x f);
    has = λ lt. absurd (past_none (parts D) place (among lt) at);
  }
    where
      nothing : (j : ℕ) (x : S.Condition) → slice_get [] j ≡ Some x → ⊥
      nothing j x f = cc

      past_none : {A : Type 0} (xs : List A) (k : ℕ) → k < length xs → slice_get xs k ≡ None → ⊥
      past_none [] k lt e = absurd (omega (arith, lt))
      past_none (x ∷ xs) zero lt e = cc
      past_none (x ∷ xs) (suc k) lt e = past_none xs k (omega (arith, lt)) e
