-- The condition of a number, found in the parts of the list.
use Rattle.std.proofs.Common.{◌≡◌, ℕ, zero, suc, ◌+◌, ◌<◌, ◌≤◌, List, [], ◌∷◌, ◌++◌, map, get_or, length, Some, None, slice_get, option_map, sym, ap, ap₂, ◌∙◌, arith}
use Rattle.std.proofs.lemmas.List.{length-map}
use Rattle.std.proofs.lemmas.Option.{slice_get-map}
use Rattle.lc_cond.specs.Conditions.{conditions}
use Rattle.lc_cond.specs.ConditionView.{condition_in}
use Rattle.lc_cond.specs.Stream.{IsEnd, IsPart, conditions_left, next_number}
use Rattle.lc_cond.specs.declared.condition.Condition.{Condition}
use Rattle.lc_cond.specs.declared.stream.ConditionStream.{ConditionStream}
use Rattle.lc_cond_text.specs.ConditionText.{condition_text}
use Rattle.lc_outline.specs.Development.{Development}
use Rattle.lc_table.specs.NodeTables.{Table}
use Rattle.lc_cond_text.specs.Shown.{line_at}

-- ---- places in lists

pub at_place : {X : Type 0} (xs : List X) (i : ℕ) (x : X) → i < length xs → x ≡ get_or xs i x → Some x ≡ slice_get xs i
at_place [] i x lt is = absurd (omega (arith, lt))
at_place (y ∷ xs) zero x lt is = ap Some is
at_place (y ∷ xs) (suc i) x lt is = at_place xs i x (omega (arith, lt)) is

behind : {X : Type 0} (xs ys : List X) (i j : ℕ) → length xs + j ≡ i → slice_get (xs ++ ys) i ≡ slice_get ys j
behind [] ys i j e = ap (slice_get ys) (omega (arith, e))
behind (x ∷ xs) ys zero j e = absurd (omega (arith, e))
behind (x ∷ xs) ys (suc i) j e = behind xs ys i j (omega (arith, e))

within : {X : Type 0} (xs ys : List X) (i : ℕ) (x : X) → Some x ≡ slice_get xs i → Some x ≡ slice_get (xs ++ ys) i
within [] ys i x is = absurd (let e : Some x ≡ None = is in cc)
within (y ∷ xs) ys zero x is = is
within (y ∷ xs) ys (suc i) x is = within xs ys i x is

-- ---- the stream

-- the condition of the number is among those that are left, if there is one
abbrev pub IsAhead : Development → ConditionStream → ℕ → Type 0
IsAhead D s k = (next_number s ≤ k) × ((j : ℕ) → next_number s + j ≡ k → slice_get (conditions_left D s) j ≡ slice_get (conditions D) k)

pub ahead_first : (D : Development) (s : ConditionStream) (k : ℕ) → conditions_left D s ≡ conditions D → next_number s ≡ 0 → IsAhead D s k
ahead_first D s k left number = (omega (arith, number), λ j e. ap₂ (λ (cs : List _) (i : ℕ). slice_get cs i) left (omega (arith, number, e)))

pub ahead_more : (D : Development) (ts : Table) (before after : ConditionStream) (cs : List Condition) (k j : ℕ) → IsPart D ts before after cs → IsAhead D before k → next_number before + j ≡ k
    → length cs ≤ j → IsAhead D after k
ahead_more D ts before after cs k j part ahead at beyond = (
  omega (arith, part.number, at, beyond),
  λ i e.
      let same : length (map (condition_in ts) cs) + i ≡ j = omega (arith, length-map cs (condition_in ts), part.number, at, e) in
      sym (behind (map (condition_in ts) cs) (conditions_left D after) j i same) ∙ sym (ap (λ l. slice_get l j) part.left) ∙ ahead.1 j at,
)

pub ahead_none : (D : Development) (before after : ConditionStream) (k j : ℕ) → IsEnd D before after → IsAhead D before k → next_number before + j ≡ k → None ≡ line_at D k
ahead_none D before after k j end ahead at =
    ap (option_map (condition_text D k)) (sym (ap (λ l. slice_get l j) end.nothing) ∙ ahead.1 j at)

pub ahead_found : (D : Development) (ts : Table) (before after : ConditionStream) (cs : List Condition) (c : Condition) (k j : ℕ) → IsPart D ts before after cs → IsAhead D before k
    → next_number before + j ≡ k → Some c ≡ slice_get cs j → Some (condition_text D k (condition_in ts c)) ≡ line_at D k
ahead_found D ts before after cs c k j part ahead at is =
    let shown : Some (condition_in ts c) ≡ slice_get (map (condition_in ts) cs) j = ap (option_map (condition_in ts)) is ∙ sym (slice_get-map (condition_in ts) cs j) in
    ap (option_map (condition_text D k))
    (within (map (condition_in ts) cs) (conditions_left D after) j (condition_in ts c) shown ∙ sym (ap (λ l. slice_get l j) part.left) ∙ ahead.1 j at)
