-- The proofs of all conditions, taken in turn.
use Rattle.std.proofs.Common.{◌≡◌, ℕ, suc, ◌<◌, true, List, [], ◌∷◌, length, length-append, append-nil, Option, Some, None, take, refl, sym, ap, ◌∙◌, subst, arith}
use Rattle.std.proofs.lemmas.Bool.{lt-ltb, and_from}
use Rattle.std.specs.Prelude.{Err}
use Rattle.lc_term.specs.Lists.{Every}
use Rattle.lc_outline.specs.Development.{Development}
use Rattle.lc_cert.specs.Certificates.{Entry, is_above, is_rising}
use Rattle.lc_cert.specs.EntryView.{entries_of}
use Rattle.lc_cert.specs.declared.entry.Entry as E
use Rattle.lc_cond.specs.Conditions as S
use Rattle.lc_cond.specs.Conditions.{conditions}
use Rattle.lc_cond.specs.ConditionView.{condition_in}
use Rattle.lc_check.proofs.Walking.{conditions_done_due, went_on, some_left, due_behind, next_due}
use Rattle.lc_check.specs.Walking.{ProveInTurn, conditions_due, HasNext, IsInTurn, IsAtDue, IsOneOn}
use Rattle.lc_check.specs.declared.walk.Walk.{Walk}
use Rattle.lc_find.proofs.FirstHints.{taken_below}
use Rattle.lc_find.specs.Found.{IsFirstWithout, IsUnfound}
use Rattle.lc_find.specs.Hinted.{IsHinted, IsFirstHint, IsFirstTaken}
use Rattle.lc_find.specs.Taken.{IsTaken}
use Rattle.lc_find.specs.declared.fault.FindFault.{FindFault}
use Rattle.lc_find.specs.declared.fault.FindFault.TheVariants.{NotFound, Budget, Large, OutOfMemory}

-- ---- one proof more

-- from a walk with the same conditions expected
pub one_on_after : (D : Development) (e : Entry) (old mid new : Walk) → IsAtDue D old mid → IsOneOn D e mid new → IsOneOn D e old new
one_on_after D e old mid new at one =
    let same = ap length at.due in
    let fewer = one.fewer in
    record { taken = λ es h. one.taken es (went_on D es old mid h at); fewer = fewer ∙ same }

-- the next condition is one of all
next_in_range : (D : Development) (taken : List Entry) (w : Walk) → HasNext w → IsInTurn D taken w → w.next < length (conditions D)
next_in_range D taken w lt h =
    let (x, rest, is) = some_left w.part.items w.place lt in
    let all = ap length (conditions_done_due D taken w (condition_in w.terms x ∷ due_behind D w.terms rest w) h (next_due D w x rest is)) in
    let size = length-append h.done (condition_in w.terms x ∷ due_behind D w.terms rest w) in
    let before = h.count in
    omega (arith, all, size, before)

-- it is the first without a proof
first_without : (D : Development) (hs taken : List Entry) (budget k : ℕ) (w : Walk) → IsInTurn D taken w → HasNext w → Every (IsFirstTaken D hs) taken → (budget ≡ 0 → Every (IsFirstHint hs) taken)
    → k ≡ w.next → (IsHinted D hs w.next → ⊥) → IsFirstWithout D hs budget k
first_without D hs taken budget k w h lt first hints is not =
    let range = next_in_range D taken w lt h in
    record {
      range = omega (arith, is, range);
      unhinted = λ x. not (subst (λ n. IsHinted D hs n) is x);
      below = (taken, record { in_turn = subst (λ n. ProveInTurn 0 taken (take n (conditions D))) (sym is) (taken_below D taken w h); first = first; hinted = hints });
    }

-- no proof was taken of it
pub none_taken : (D : Development) (hs taken : List Entry) (budget : ℕ) (w new : Walk) (fault : FindFault) → IsInTurn D taken w → HasNext w → Every (IsFirstTaken D hs) taken → (budget ≡ 0 → Every (IsFirstHint hs) taken)
    → IsTaken D hs budget w new (Err fault) → IsUnfound D hs budget fault
none_taken D hs taken budget w new (NotFound k) h lt first hints (is, not, some) = (first_without D hs taken budget k w h lt first hints is not, some)
none_taken D hs taken budget w new (Large k) h lt first hints (is, not, some) = (first_without D hs taken budget k w h lt first hints is not, some)
none_taken D hs taken budget w new (Budget k) h lt first hints (is, not) = first_without D hs taken budget k w h lt first hints is not
none_taken D hs taken budget w new OutOfMemory h lt first hints taken' = tt

-- ---- all proofs

pub all_proved : (D : Development) (taken : List Entry) (w : Walk) → IsInTurn D taken w → conditions_due D w ≡ [] → ProveInTurn 0 taken (conditions D)
all_proved D taken w h due = subst (ProveInTurn 0 taken) (sym (append-nil h.done) ∙ sym (conditions_done_due D taken w [] h due)) h.proved

-- as many proofs as conditions
pub same_count : (k : ℕ) (es : List Entry) (cs : List S.Condition) → ProveInTurn k es cs → length es ≡ length cs
same_count k [] [] h = refl
same_count k [] (c ∷ cs) h = absurd h
same_count k (e ∷ es) [] h = absurd h
same_count k (e ∷ es) (c ∷ cs) h = ap suc (same_count (suc k) es cs h.2)

pub length_entries : (es : List E.Entry) → length (entries_of es) ≡ length es
length_entries [] = refl
length_entries (e ∷ es) = ap suc (length_entries es)

-- ---- their numbers rise

above_first : (last : Option ℕ) (k : ℕ) → ((n : ℕ) → last ≡ Some n → n < k) → is_above last k ≡ true
above_first None k h = refl
above_first (Some n) k h = let lt = h n refl in lt-ltb n k lt

some_below : (n m k : ℕ) → Some m ≡ Some n → m ≡ k → n < suc k
some_below n m k s is = let same : m ≡ n = cc in omega (arith, same, is)

rising_from : (last : Option ℕ) (k : ℕ) (es : List Entry) (cs : List S.Condition) → ProveInTurn k es cs → ((n : ℕ) → last ≡ Some n → n < k) → is_rising last es ≡ true
rising_from last k [] cs h below = refl
rising_from last k (e ∷ es) [] h below = absurd h
rising_from last k (e ∷ es) (c ∷ cs) h below =
    let is = h.0 in
    and_from (is_above last e.number) (is_rising (Some e.number) es)
    (above_first last e.number (λ n s. let lt = below n s in omega (arith, lt, is)))
    (rising_from (Some e.number) (suc k) es cs h.2 (λ n s. some_below n e.number k s is))

pub rising_all : (es : List Entry) (cs : List S.Condition) → ProveInTurn 0 es cs → is_rising None es ≡ true
rising_all es cs h = rising_from None 0 es cs h (λ n s. absurd (let none : None ≡ Some n = s in cc))
