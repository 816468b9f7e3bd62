-- How far the conditions of a development are proved, by proofs that come one after another.
use Rattle.std.specs.Prelude.{◌≡◌, ℕ, suc, ◌<◌, Bool, true, false, List, [], ◌∷◌, ◌++◌, map, drop, length, Some, Result, Ok, Err}
use Rattle.lc_base.specs.declared.refusal.Fault.{Fault}
use Rattle.lc_base.specs.declared.refusal.Fault.TheVariants.{Refused, OutOfMemory}
use Rattle.lc_base.specs.declared.refusal.Refusal.{Refusal}
use Rattle.lc_kernel.specs.Proofs.{Proof}
use Rattle.lc_outline.specs.Development.{Development}
use Rattle.lc_cert.specs.Certificates.{Entry}
use Rattle.lc_cond.specs.Conditions.{Condition, conditions}
use Rattle.lc_cond.specs.ConditionView.{condition_in, AreConditions}
use Rattle.lc_cond.specs.Stream.{conditions_left}
use Rattle.lc_check.specs.Verdicts.{IsProved, IsUnproved}
use Rattle.lc_check.specs.declared.walk.Walk.{Walk}

-- the proofs prove these conditions from number k on, one for each
abbrev pub ProveInTurn : ℕ → List Entry → List Condition → Type 0
ProveInTurn k [] [] = Unit {0}
ProveInTurn k [] (c ∷ cs) = ⊥
ProveInTurn k (e ∷ es) [] = ⊥
ProveInTurn k (e ∷ es) (c ∷ cs) = (e.number ≡ k) × IsProved c (Some e.proof) × ProveInTurn (suc k) es cs

-- the conditions that no proof has come for: of the part at hand, and of those after it
abbrev pub conditions_due : Development → Walk → List Condition
conditions_due d w = map (condition_in w.terms) (drop w.place w.part.items) ++ conditions_left d w.stream

-- the table has the formulas of the part at hand
abbrev pub IsKnown : Walk → Type 0
IsKnown w = AreConditions w.terms (drop w.place w.part.items)

-- the next condition is in the part at hand
abbrev pub HasNext : Walk → Type 0
HasNext w = w.place < length w.part.items

-- these proofs proved the first conditions, one for each
pub record IsInTurn (d : Development) (taken : List Entry) (w : Walk) : Type 0 where
  pub done : List Condition
  pub all : conditions d ≡ done ++ conditions_due d w
  pub proved : ProveInTurn 0 taken done
  pub count : w.next ≡ length done
  pub known : IsKnown w

-- the same conditions are expected
pub record IsAtDue (d : Development) (before after : Walk) : Type 0 where
  pub due : conditions_due d after ≡ conditions_due d before
  pub known : IsKnown before → IsKnown after
  pub next : after.next ≡ before.next

-- it is at the first that is expected, if there is one
abbrev pub IsAdvanced : Development → Walk → Walk → Bool → Type 0
IsAdvanced d before after true = IsAtDue d before after × HasNext after
IsAdvanced d before after false = (conditions_due d before ≡ []) × (after.next ≡ before.next)

-- one proof more was taken, and one condition fewer is expected
pub record IsOneOn (d : Development) (e : Entry) (before after : Walk) : Type 0 where
  pub taken : (es : List Entry) → IsInTurn d es before → IsInTurn d (es ++ e ∷ []) after
  pub fewer : suc (length (conditions_due d after)) ≡ length (conditions_due d before)

-- the proof does not prove the next condition, and is refused so
abbrev pub IsNextUnproved : Development → Walk → Proof → Refusal → Type 0
IsNextUnproved d w p refusal = (c : Condition) × (cs : List Condition) × (conditions_due d w ≡ c ∷ cs) × IsUnproved w.next c (Some p) refusal

-- the proof was taken; or the reason is reported, and the same condition is next; nothing on `OutOfMemory`
abbrev pub IsProvenOn : Development → Proof → Walk → Walk → Result (Unit {0}) Fault → Type 0
IsProvenOn d p before after (Ok u) = IsOneOn d (record { number = before.next; proof = p }) before after
IsProvenOn d p before after (Err (Refused refusal)) = IsAtDue d before after × HasNext after × IsNextUnproved d before p refusal
IsProvenOn d p before after (Err OutOfMemory) = Unit {0}
