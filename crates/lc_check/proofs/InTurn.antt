-- Proofs that prove the first conditions, one for each, and those that come after them.
use Rattle.std.proofs.Common.{◌≡◌, ℕ, suc, ◌+◌, ◌<◌, ◌≤◌, inl, inr, true, List, [], ◌∷◌, ◌++◌, length, Option, Some, None, refl, sym, ◌∙◌, subst, arith, add-zero}
use Rattle.std.proofs.lemmas.Bool.{and_parts, ltb-true}
use Rattle.lc_base.specs.declared.refusal.Refusal.{Refusal}
use Rattle.lc_kernel.specs.Proofs.{Proof}
use Rattle.lc_cert.specs.Certificates.{Entry, is_above, is_rising, proof_at}
use Rattle.lc_cond.specs.Conditions.{Condition}
use Rattle.lc_check.proofs.LeastExtra.{at_first, at_other, extra_later, extra_before, above_last}
use Rattle.lc_check.specs.Walking.{ProveInTurn}
use Rattle.lc_check.specs.Verdicts.{IsProved, IsUnproved, AreProved, IsFirstUnproved, IsExtra}

-- ---- one proof before all that are looked for

skip_proved : (e : Entry) (es : List Entry) (n : ℕ) (cs : List Condition) → e.number < n → AreProved es n cs → AreProved (e ∷ es) n cs
skip_proved e es n [] lt h = tt
skip_proved e es n (c ∷ cs) lt h =
    let other = at_other e es n (λ same. omega (arith, same, lt)) in
    (subst (IsProved c) (sym other) h.0, skip_proved e es (suc n) cs (omega (arith, lt)) h.1)

skip_unproved : (e : Entry) (es : List Entry) (n : ℕ) (cs : List Condition) (r : Refusal) → e.number < n → IsFirstUnproved es n cs r → IsFirstUnproved (e ∷ es) n cs r
skip_unproved e es n [] r lt h = absurd h
skip_unproved e es n (c ∷ cs) r lt (inl u) = inl (subst (λ o. IsUnproved n c o r) (sym (at_other e es n (λ same. omega (arith, same, lt)))) u)
skip_unproved e es n (c ∷ cs) r lt (inr (p, u)) =
    inr (subst (IsProved c) (sym (at_other e es n (λ same. omega (arith, same, lt)))) p, skip_unproved e es (suc n) cs r (omega (arith, lt)) u)

-- ---- the first of the conditions

-- those that come after are proved too
pub proved_behind : (k : ℕ) (es more : List Entry) (cs ds : List Condition) → ProveInTurn k es cs → AreProved more (k + length cs) ds → AreProved (es ++ more) k (cs ++ ds)
proved_behind k [] more [] ds h g = subst (λ n. AreProved more n ds) (add-zero k) g
proved_behind k [] more (c ∷ cs) ds h g = absurd h
proved_behind k (e ∷ es) more [] ds h g = absurd h
proved_behind k (e ∷ es) more (c ∷ cs) ds h g =
    let is = h.0 in
    let later : k + length (c ∷ cs) ≡ suc k + length cs = omega arith in (
      subst (IsProved c) (sym (at_first e (es ++ more) k is)) h.1,
      skip_proved e (es ++ more) (suc k) (cs ++ ds) (omega (arith, is)) (proved_behind (suc k) es more cs ds h.2 (subst (λ n. AreProved more n ds) later g)),
    )

-- one that comes after is the first that is not
pub unproved_behind : (k : ℕ) (es more : List Entry) (cs ds : List Condition) (r : Refusal) → ProveInTurn k es cs → IsFirstUnproved more (k + length cs) ds r → IsFirstUnproved (es ++ more) k (cs ++ ds) r
unproved_behind k [] more [] ds r h g = subst (λ n. IsFirstUnproved more n ds r) (add-zero k) g
unproved_behind k [] more (c ∷ cs) ds r h g = absurd h
unproved_behind k (e ∷ es) more [] ds r h g = absurd h
unproved_behind k (e ∷ es) more (c ∷ cs) ds r h g =
    let is = h.0 in
    let later : k + length (c ∷ cs) ≡ suc k + length cs = omega arith in
    inr (
      subst (IsProved c) (sym (at_first e (es ++ more) k is)) h.1,
      skip_unproved e (es ++ more) (suc k) (cs ++ ds) r (omega (arith, is)) (unproved_behind (suc k) es more cs ds r h.2 (subst (λ n. IsFirstUnproved more n ds r) later g)),
    )

-- an extra number comes after
pub extra_behind : (k n : ℕ) (es more : List Entry) (cs : List Condition) (j : ℕ) → ProveInTurn k es cs → n ≡ k + length cs → IsExtra n (es ++ more) j → IsExtra n more j
extra_behind k n [] more [] j h is x = x
extra_behind k n [] more (c ∷ cs) j h is x = absurd h
extra_behind k n (e ∷ es) more [] j h is x = absurd h
extra_behind k n (e ∷ es) more (c ∷ cs) j h is x =
    let at = h.0 in
    let le = x.behind in
    extra_behind (suc k) n es more cs j h.2 (omega (arith, is)) (extra_later n j e (es ++ more) (λ same. omega (arith, same, at, le, is)) x)

pub extra_from : (k n : ℕ) (es more : List Entry) (cs : List Condition) (j : ℕ) → ProveInTurn k es cs → n ≡ k + length cs → IsExtra n more j → IsExtra n (es ++ more) j
extra_from k n [] more [] j h is x = x
extra_from k n [] more (c ∷ cs) j h is x = absurd h
extra_from k n (e ∷ es) more [] j h is x = absurd h
extra_from k n (e ∷ es) more (c ∷ cs) j h is x =
    let at = h.0 in
    let le = x.behind in
    extra_before n j e (es ++ more) (λ same. omega (arith, same, at, le, is)) (extra_from (suc k) n es more cs j h.2 (omega (arith, is)) x)

-- numbers that rise are not below the conditions that are proved
pub rises_behind : (k : ℕ) (last : Option ℕ) (es : List Entry) (e : Entry) (more : List Entry) (cs : List Condition) → ProveInTurn k es cs → ((n : ℕ) → is_above last n ≡ true → k ≤ n) → is_rising last (es ++ e ∷ more) ≡ true
    → (k + length cs ≤ e.number) × (is_rising (Some e.number) more ≡ true)
rises_behind k last [] e more [] h above rises =
    let parts = and_parts (is_above last e.number) (is_rising (Some e.number) more) rises in
    let le = above e.number parts.0 in
    (omega (arith, le), parts.1)
rises_behind k last [] e more (c ∷ cs) h above rises = absurd h
rises_behind k last (t ∷ ts) e more [] h above rises = absurd h
rises_behind k last (t ∷ ts) e more (c ∷ cs) h above rises =
    let parts = and_parts (is_above last t.number) (is_rising (Some t.number) (ts ++ e ∷ more)) rises in
    let is = h.0 in
    let later = rises_behind (suc k) (Some t.number) ts e more cs h.2 (λ n b. (let lt = ltb-true t.number n b in omega (arith, lt, is))) parts.1 in
    let le = later.0 in
    (omega (arith, le), later.1)

-- one more
pub in_turn_more : (k : ℕ) (es : List Entry) (cs : List Condition) (e : Entry) (c : Condition) → ProveInTurn k es cs → e.number ≡ k + length cs → IsProved c (Some e.proof) → ProveInTurn k (es ++ e ∷ []) (cs ++ c ∷ [])
in_turn_more k [] [] e c h is p = (omega (arith, is), p, tt)
in_turn_more k [] (d ∷ ds) e c h is p = absurd h
in_turn_more k (t ∷ ts) [] e c h is p = absurd h
in_turn_more k (t ∷ ts) (d ∷ ds) e c h is p = (h.0, h.1, in_turn_more (suc k) ts ds e c h.2 (omega (arith, is)) p)

-- ---- a number that was left out

by_found : (last k : ℕ) (more : List Entry) → is_rising (Some last) more ≡ true → k ≤ last → (o : Option Proof) → proof_at more k ≡ o → proof_at more k ≡ None
by_found last k more rises le None is = is
by_found last k more rises le (Some p) is = absurd (let lt = above_last last more k p rises is in omega (arith, lt, le))

pub left_out : (e : Entry) (more : List Entry) (k : ℕ) → (e.number ≡ k → ⊥) → k ≤ e.number → is_rising (Some e.number) more ≡ true → proof_at (e ∷ more) k ≡ None
left_out e more k other le rises = at_other e more k other ∙ by_found e.number k more rises le (proof_at more k) refl
