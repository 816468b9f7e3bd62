-- Walks over the conditions of a development: what is done, what is expected, and one proof more.
use Rattle.std.proofs.Common.{◌≡◌, zero, suc, ◌+◌, ◌<◌, ◌≤◌, List, [], ◌∷◌, ◌++◌, ℕ, map, drop, length, length-append, append_assoc, get_or, Some, refl, sym, ap, ap₂, ◌∙◌, subst, arith}
use Rattle.std.proofs.lemmas.List.{drop_more}
use Rattle.std.specs.Prelude.{Err, Vec}
use Rattle.std.specs.declared.alloc.Global.{Global}
use Rattle.lc_lemmas.proofs.Lists.{dropped_all}
use Rattle.lc_base.specs.declared.refusal.Fault.{Fault}
use Rattle.lc_base.specs.declared.refusal.Fault.TheVariants.{Refused, OutOfMemory}
use Rattle.lc_term.proofs.Stores.{Every_right}
use Rattle.lc_term.specs.Lists.{Every}
use Rattle.lc_table.specs.NodeTables.{Table}
use Rattle.lc_table.specs.Tables.{Keeps}
use Rattle.lc_kernel.specs.Proofs.{Proof}
use Rattle.lc_outline.specs.Development.{Development}
use Rattle.lc_cert.specs.Certificates.{Entry}
use Rattle.lc_cond.specs.Conditions as S
use Rattle.lc_cond.specs.Conditions.{conditions}
use Rattle.lc_cond.specs.ConditionView.{condition_in, AreConditions}
use Rattle.lc_cond.specs.Stream.{conditions_left}
use Rattle.lc_cond.specs.Uses.{UsesItsVariables}
use Rattle.lc_cond.specs.VariableCounts.{HasFewVariables}
use Rattle.lc_cond.specs.declared.condition.Condition.{Condition}
use Rattle.lc_cond.specs.declared.stream.ConditionStream.{ConditionStream}
use Rattle.lc_check.proofs.InTurn.{in_turn_more}
use Rattle.lc_check.specs.Answers.{IsBounded, ProvesOne}
use Rattle.lc_check.specs.Verdicts.{IsProved}
use Rattle.lc_check.specs.Walking.{conditions_due, IsKnown, HasNext, IsInTurn, IsAtDue, IsProvenOn}
use Rattle.lc_check.specs.declared.walk.Walk.{Walk}
use Rattle.lc_cond.proofs.Adding.{are_later, conditions_still}

-- ---- the next condition

-- what holds of each on its own holds of each together
pub all_bounded : (cs : List S.Condition) → Every UsesItsVariables cs → Every HasFewVariables cs → Every IsBounded cs
all_bounded [] h g = tt
all_bounded (c ∷ cs) h g = ((h.0, g.0), all_bounded cs h.1 g.1)

-- the first that is left of a part
pub first_left : (cs : List Condition) (i : ℕ) (x : Condition) → i < length cs → x ≡ get_or cs i x → drop i cs ≡ x ∷ drop (i + 1) cs
first_left cs i x lt is = drop_more cs i x lt ∙ ap (λ y. y ∷ drop (i + 1) cs) (sym is)

-- nothing is left of a part, so what is expected comes after it
pub due_past : (d : Development) (p : Walk) → length p.part.items ≤ p.place → conditions_due d p ≡ conditions_left d p.stream
due_past d p le = ap (λ l. map (condition_in p.terms) l ++ conditions_left d p.stream) (dropped_all p.part.items p.place le)

-- the next part is at hand
pub due_in_part : (d : Development) (before : Walk) (ts : Table) (cs : List Condition) (stream : ConditionStream) → length before.part.items ≤ before.place
    → conditions_left d before.stream ≡ map (condition_in ts) cs ++ conditions_left d stream → map (condition_in ts) cs ++ conditions_left d stream ≡ conditions_due d before
due_in_part d before ts cs stream le left = sym (due_past d before le ∙ left)

-- what is expected after it
abbrev pub due_behind : Development → Table → List Condition → Walk → List S.Condition
due_behind d ts rest p = map (condition_in ts) rest ++ conditions_left d p.stream

pub next_due : (d : Development) (p : Walk) (x : Condition) (rest : List Condition) → drop p.place p.part.items ≡ x ∷ rest → conditions_due d p ≡ condition_in p.terms x ∷ due_behind d p.terms rest p
next_due d p x rest is = ap (λ l. map (condition_in p.terms) l ++ conditions_left d p.stream) is

pub next_bounded : (d : Development) (taken : List Entry) (p : Walk) (c : S.Condition) (cs : List S.Condition) → Every UsesItsVariables (conditions d) → Every HasFewVariables (conditions d) → IsInTurn d taken p
    → conditions_due d p ≡ c ∷ cs → IsBounded c
next_bounded d taken p c cs uses few h due =
    let all = subst (Every IsBounded) (h.all ∙ ap (λ l. h.done ++ l) due) (all_bounded (conditions d) uses few) in
    (Every_right IsBounded h.done (c ∷ cs) all).0

pub still_due : (d : Development) (old new : Walk) (rest : List Condition) → new.stream ≡ old.stream → drop new.place new.part.items ≡ rest → AreConditions old.terms rest → Keeps old.terms new.terms
    → due_behind d old.terms rest old ≡ conditions_due d new
still_due d old new rest stream is known kept =
    ap₂ (λ l s. l ++ conditions_left d s) (sym (ap (map (condition_in new.terms)) is ∙ conditions_still old.terms new.terms rest known kept)) (sym stream)

-- ---- what is done and what is expected

pub conditions_done_due : (d : Development) (taken : List Entry) (p : Walk) (cs : List S.Condition) (h : IsInTurn d taken p) → conditions_due d p ≡ cs → conditions d ≡ h.done ++ cs
conditions_done_due d taken p cs h due = h.all ∙ ap (λ l. h.done ++ l) due

pub went_on : (d : Development) (taken : List Entry) (old new : Walk) → IsInTurn d taken old → IsAtDue d old new → IsInTurn d taken new
went_on d taken old new h at = record { done = h.done; all = conditions_done_due d taken old (conditions_due d new) h (sym at.due); proved = h.proved; count = at.next ∙ h.count; known = at.known h.known }

pub one_proved : (d : Development) (taken : List Entry) (old new : Walk) (c : S.Condition) (e : Entry) → IsInTurn d taken old → conditions_due d old ≡ c ∷ conditions_due d new → e.number ≡ old.next → new.next ≡ suc old.next
    → IsProved c (Some e.proof) → IsKnown new → IsInTurn d (taken ++ e ∷ []) new
one_proved d taken old new c e h due at next p known =
    let before = h.count in
    let size = length-append h.done (c ∷ []) in
    record {
      done = h.done ++ c ∷ [];
      all = conditions_done_due d taken old (c ∷ conditions_due d new) h due ∙ sym (append_assoc h.done (c ∷ []) (conditions_due d new));
      proved = in_turn_more 0 taken h.done e c h.proved (omega (arith, at, before)) p;
      count = omega (arith, next, before, size);
      known = known;
    }

-- ---- if a condition is expected

pub some_left : (cs : List Condition) (i : ℕ) → i < length cs → (x : Condition) × (rest : List Condition) × (drop i cs ≡ x ∷ rest)
some_left [] i lt = absurd (omega (arith, lt))
some_left (x ∷ xs) zero lt = (x, xs, refl)
some_left (x ∷ xs) (suc i) lt = some_left xs i (omega (arith, lt))

-- ---- a proof that is refused

-- the table has grown, and nothing else has changed
pub still_at_due : (d : Development) (old new : Walk) → new.stream ≡ old.stream → new.part ≡ old.part → new.place ≡ old.place → new.next ≡ old.next → IsKnown old → Keeps old.terms new.terms → IsAtDue d old new
still_at_due d old new stream part place next known kept =
    let rest = drop old.place old.part.items in
    let same : drop new.place new.part.items ≡ rest = ap₂ (λ i (v : Vec Condition Global). drop i v.items) place part in
    record {
      due = sym (still_due d old new rest stream same known kept);
      known = λ k. subst (AreConditions new.terms) (sym same) (are_later old.terms new.terms rest k kept);
      next = next;
    }

pub refused_on : (d : Development) (old new : Walk) (c : S.Condition) (cs : List S.Condition) (p : Proof) (fault : Fault) → conditions_due d old ≡ c ∷ cs → IsAtDue d old new → HasNext new
    → ProvesOne old.next c p (Err fault) → IsProvenOn d p old new (Err fault)
refused_on d old new c cs p (Refused r) due at stands h = (at, stands, (c, cs, due, h))
refused_on d old new c cs p OutOfMemory due at stands h = tt

-- nothing has changed
pub same_due : (d : Development) (w : Walk) → IsAtDue d w w
same_due d w = record { due = refl; known = λ k. k; next = refl }
