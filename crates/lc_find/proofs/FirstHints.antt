-- Conditions and the first proofs that hints have for them.
use Rattle.std.proofs.Common.{◌≡◌, ℕ, zero, suc, ◌+◌, ◌<◌, Bool, true, false, cond, List, [], ◌∷◌, ◌++◌, length, Some, None, slice_get, take, refl, sym, ap, ap₂, ◌∙◌, subst, arith, add-zero, zero-add}
use Rattle.std.proofs.Math.Seq.{take-append_seam}
use Rattle.std.proofs.lemmas.Bool.{eqb-true}
use Rattle.std.specs.Prelude.{◌==◌}
use Rattle.lc_base.specs.declared.refusal.Refusal.{Refusal}
use Rattle.lc_term.specs.Lists.{Every}
use Rattle.lc_kernel.specs.Proofs.{Proof}
use Rattle.lc_outline.specs.Development.{Development}
use Rattle.lc_cert.specs.Certificates.{Entry, proof_at}
use Rattle.lc_cert.specs.Printed.{EntryReadsBack}
use Rattle.lc_cond.specs.Conditions.{Condition, conditions}
use Rattle.lc_check.proofs.LeastExtra.{at_first, at_other}
use Rattle.lc_check.proofs.OneVerdict.{not_proved_and_not}
use Rattle.lc_check.proofs.Walking.{conditions_done_due}
use Rattle.lc_check.specs.Verdicts.{IsProved, IsUnproved, AreProved}
use Rattle.lc_check.specs.Walking.{ProveInTurn, conditions_due, IsInTurn}
use Rattle.lc_check.specs.declared.walk.Walk.{Walk}
use Rattle.lc_find.specs.Found.{TakesFirst}
use Rattle.lc_find.specs.Hinted.{IsHinted, IsFirstHint, IsFirstTaken, entries_by, by_entries}

-- ---- the next condition

at_seam : (cs ds : List Condition) (c : Condition) → slice_get (cs ++ c ∷ ds) (length cs) ≡ Some c
at_seam [] ds c = refl
at_seam (x ∷ cs) ds c = at_seam cs ds c

next_at : (D : Development) (taken : List Entry) (w : Walk) (c : Condition) (cs : List Condition) → IsInTurn D taken w → conditions_due D w ≡ c ∷ cs → slice_get (conditions D) w.next ≡ Some c
next_at D taken w c cs h due =
    let all = conditions_done_due D taken w (c ∷ cs) h due in
    subst (λ k. slice_get (conditions D) k ≡ Some c) (sym h.count) (subst (λ l. slice_get l (length h.done) ≡ Some c) (sym all) (at_seam h.done cs c))

-- its first proof does not hold
pub not_hinted : (D : Development) (hs taken : List Entry) (w : Walk) (c : Condition) (cs : List Condition) (p : Proof) (r : Refusal) → IsInTurn D taken w → conditions_due D w ≡ c ∷ cs
    → proof_at hs w.next ≡ Some p → IsUnproved w.next c (Some p) r → IsHinted D hs w.next → ⊥
not_hinted D hs taken w c cs p r h due at u (d, stands, proved) =
    let there = next_at D taken w c cs h due in
    let same : d ≡ c = cc in
    not_proved_and_not w.next c (Some p) r (subst (IsProved c) at (subst (λ x. IsProved x (proof_at hs w.next)) same proved)) u

-- there is none
pub none_hinted : (D : Development) (hs : List Entry) (k : ℕ) → proof_at hs k ≡ None → IsHinted D hs k → ⊥
none_hinted D hs k at (d, stands, proved) = subst (IsProved d) at proved

-- an entry of a condition whose first proof does not hold
pub other_taken : (D : Development) (hs : List Entry) (e : Entry) (k : ℕ) → e.number ≡ k → (IsHinted D hs k → ⊥) → IsFirstTaken D hs e
other_taken D hs e k is not hinted = absurd (not (subst (IsHinted D hs) is hinted))

-- ---- proofs in turn

-- the entry of a condition
entry_at : (P : Entry → Type 0) (es : List Entry) (n j : ℕ) (cs : List Condition) (c : Condition) → ProveInTurn n es cs → Every P es → slice_get cs j ≡ Some c
    → (e : Entry) × (e.number ≡ n + j) × (proof_at es (n + j) ≡ Some e.proof) × P e
entry_at P [] n j [] c h ps at = absurd (let none : None ≡ Some c = at in cc)
entry_at P [] n j (d ∷ cs) c h ps at = absurd h
entry_at P (e ∷ es) n j [] c h ps at = absurd h
entry_at P (e ∷ es) n zero (d ∷ cs) c h ps at = let is = h.0 in (e, omega (arith, is), at_first e es (n + 0) (omega (arith, is)), ps.0)
entry_at P (e ∷ es) n (suc j) (d ∷ cs) c h ps at =
    let is = h.0 in
    let (f, number, stands, p) = entry_at P es (suc n) j cs c h.2 ps.1 at in
    let later : suc n + j ≡ n + suc j = omega arith in
    (f, number ∙ later, at_other e es (n + suc j) (λ same. omega (arith, same, is)) ∙ subst (λ k. proof_at es k ≡ Some f.proof) later stands, p)

pub takes_first : (D : Development) (hs es : List Entry) → ProveInTurn 0 es (conditions D) → Every (IsFirstTaken D hs) es → TakesFirst D hs es
takes_first D hs es h taken k (c, stands, proved) =
    let (e, number, at, first) = entry_at (IsFirstTaken D hs) es 0 k (conditions D) c h taken stands in
    let is : e.number ≡ k = omega (arith, number) in
    let hint = first (subst (IsHinted D hs) (sym is) (c, stands, proved)) in
    subst (λ n. proof_at es n ≡ Some e.proof) (zero-add k) at ∙ sym (subst (λ n. proof_at hs n ≡ Some e.proof) is hint)

-- the first proofs of the hints prove what they are taken for
pub hints_prove : (hs es : List Entry) (n : ℕ) (cs : List Condition) → ProveInTurn n es cs → Every (IsFirstHint hs) es → AreProved hs n cs
hints_prove hs [] n [] h hints = tt
hints_prove hs [] n (c ∷ cs) h hints = absurd h
hints_prove hs (e ∷ es) n [] h hints = absurd h
hints_prove hs (e ∷ es) n (c ∷ cs) h hints =
    let at = subst (λ k. proof_at hs k ≡ Some e.proof) h.0 hints.0 in
    (subst (IsProved c) (sym at) h.1, hints_prove hs es (suc n) cs h.2 hints.1)

-- and are all of them
pub hints_are : (hs es : List Entry) (n : ℕ) (cs : List Condition) → ProveInTurn n es cs → Every (IsFirstHint hs) es → by_entries hs n cs ≡ es
hints_are hs [] n [] h hints = refl
hints_are hs [] n (c ∷ cs) h hints = absurd h
hints_are hs (e ∷ es) n [] h hints = absurd h
hints_are hs (e ∷ es) n (c ∷ cs) h hints =
    let at = subst (λ k. proof_at hs k ≡ Some e.proof) h.0 hints.0 in
    ap (λ o. entries_by n o ++ by_entries hs (suc n) cs) at ∙ ap₂ (λ k l. record { number = k; proof = e.proof } ∷ l) (sym h.0) (hints_are hs es (suc n) cs h.2 hints.1)

-- if the hints prove all, they are taken
all_from : (D : Development) (hs es : List Entry) (n : ℕ) (cs : List Condition) → ProveInTurn n es cs → AreProved hs n cs
    → ((j : ℕ) (c : Condition) → slice_get cs j ≡ Some c → slice_get (conditions D) (n + j) ≡ Some c) → Every (IsFirstTaken D hs) es → Every (IsFirstHint hs) es
all_from D hs [] n cs h proved there taken = tt
all_from D hs (e ∷ es) n [] h proved there taken = absurd h
all_from D hs (e ∷ es) n (c ∷ cs) h proved there taken =
    let here = subst (λ k. slice_get (conditions D) k ≡ Some c) (add-zero n) (there 0 c refl) in (
      taken.0 (subst (IsHinted D hs) (sym h.0) (c, here, proved.0)),
      all_from D hs es (suc n) cs h.2 proved.1 (λ j d at. (let later : n + suc j ≡ suc n + j = omega arith in subst (λ k. slice_get (conditions D) k ≡ Some d) later (there (suc j) d at))) taken.1,
    )

pub all_hints : (D : Development) (hs es : List Entry) → ProveInTurn 0 es (conditions D) → AreProved hs 0 (conditions D) → Every (IsFirstTaken D hs) es → Every (IsFirstHint hs) es
all_hints D hs es h proved taken = all_from D hs es 0 (conditions D) h proved (λ j c at. subst (λ k. slice_get (conditions D) k ≡ Some c) (sym (zero-add j)) at) taken

-- the proofs that were taken prove the conditions below the next one
pub taken_below : (D : Development) (taken : List Entry) (w : Walk) → IsInTurn D taken w → ProveInTurn 0 taken (take w.next (conditions D))
taken_below D taken w h =
    let seam = take-append_seam h.done (conditions_due D w) in
    let done : take w.next (conditions D) ≡ h.done = ap₂ (λ n l. take n l) h.count h.all ∙ seam in
    subst (ProveInTurn 0 taken) (sym done) h.proved

-- if they prove all, they prove each
proved_from : (hs : List Entry) (n j : ℕ) (cs : List Condition) (c : Condition) → AreProved hs n cs → slice_get cs j ≡ Some c → IsProved c (proof_at hs (n + j))
proved_from hs n j [] c h at = absurd (let none : None ≡ Some c = at in cc)
proved_from hs n zero (d ∷ cs) c h at = let is : Some d ≡ Some c = at in let same : d ≡ c = cc in subst (λ x. IsProved x (proof_at hs (n + 0))) same (subst (λ k. IsProved d (proof_at hs k)) (sym (add-zero n)) h.0)
proved_from hs n (suc j) (d ∷ cs) c h at = let later : suc n + j ≡ n + suc j = omega arith in subst (λ k. IsProved c (proof_at hs k)) later (proved_from hs (suc n) j cs c h.1 at)

some_at : (cs : List Condition) (k : ℕ) → k < length cs → (c : Condition) × (slice_get cs k ≡ Some c)
some_at [] k lt = absurd (omega (arith, lt))
some_at (c ∷ cs) zero lt = (c, refl)
some_at (c ∷ cs) (suc k) lt = some_at cs k (omega (arith, lt))

pub proved_at : (D : Development) (hs : List Entry) (k : ℕ) (c : Condition) → AreProved hs 0 (conditions D) → slice_get (conditions D) k ≡ Some c → IsProved c (proof_at hs k)
proved_at D hs k c h at = subst (λ n. IsProved c (proof_at hs n)) (zero-add k) (proved_from hs 0 k (conditions D) c h at)

pub hinted_each : (D : Development) (hs : List Entry) (k : ℕ) → k < length (conditions D) → AreProved hs 0 (conditions D) → IsHinted D hs k
hinted_each D hs k lt h =
    let (c, at) = some_at (conditions D) k lt in
    (c, at, proved_at D hs k c h at)

-- ---- what holds of each proof

-- it reads back
reads_first : (D : Development) (e : Entry) (hs : List Entry) (k : ℕ) (p : Proof) → EntryReadsBack D e → (proof_at hs k ≡ Some p → EntryReadsBack D (record { number = k; proof = p })) → (b : Bool) → (e.number == k) ≡ b
    → cond b (Some e.proof) (proof_at hs k) ≡ Some p → EntryReadsBack D (record { number = k; proof = p })
reads_first D e hs k p h later true is at =
    let number : e.number ≡ k = eqb-true e.number k is in
    let found : Some e.proof ≡ Some p = at in
    let proof : e.proof ≡ p = cc in
    subst (EntryReadsBack D) (ap₂ (λ n q. record { number = n; proof = q }) number proof) h
reads_first D e hs k p h later false is at = later at

reads_at : (D : Development) (hs : List Entry) (k : ℕ) (p : Proof) → Every (EntryReadsBack D) hs → proof_at hs k ≡ Some p → EntryReadsBack D (record { number = k; proof = p })
reads_at D [] k p h at = absurd (let none : None ≡ Some p = at in cc)
reads_at D (e ∷ hs) k p h at = reads_first D e hs k p h.0 (reads_at D hs k p h.1) (e.number == k) refl at

pub hints_read : (D : Development) (hs es : List Entry) → Every (EntryReadsBack D) hs → Every (IsFirstHint hs) es → Every (EntryReadsBack D) es
hints_read D hs [] h hints = tt
hints_read D hs (e ∷ es) h hints = (reads_at D hs e.number e.proof h hints.0, hints_read D hs es h hints.1)
