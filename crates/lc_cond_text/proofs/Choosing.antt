-- What is chosen, part by part.
use Rattle.std.proofs.Common.{◌≡◌, ℕ, suc, ◌+◌, Bool, true, false, List, [], ◌∷◌, ◌++◌, map, length, Option, sym, ap, ap₂, ◌∙◌, append_assoc, arith}
use Rattle.std.specs.Prelude.{if◌then◌else◌}
use Rattle.lc_cond.specs.Conditions as S
use Rattle.lc_cond.specs.Conditions.{conditions}
use Rattle.lc_cond.specs.ConditionView.{condition_in}
use Rattle.lc_cond.specs.Stream.{IsEnd, IsPart, conditions_left, next_number}
use Rattle.lc_cond.specs.declared.condition.Condition.{Condition}
use Rattle.lc_cond.specs.declared.stream.ConditionStream.{ConditionStream}
use Rattle.lc_cond_text.specs.ConditionText.{condition_text}
use Rattle.lc_outline.specs.Development.{Development}
use Rattle.lc_table.specs.NodeTables.{Table}
use Rattle.lc_cond_text.specs.Chosen.{chosen_count, chosen_from, is_chosen}
use Rattle.std.proofs.lemmas.List.{length-map}

-- ---- lists, one after the other

from_step : (point kind : Option (List ℕ)) (D : Development) (k n : ℕ) (x : S.Condition) (xs ys : List S.Condition) (t : Bool)
    → chosen_from point kind D (suc k) (xs ++ ys) ≡ chosen_from point kind D (suc k) xs ++ chosen_from point kind D n ys
    → (if t then condition_text D k x ++ 10 ∷ chosen_from point kind D (suc k) (xs ++ ys) else chosen_from point kind D (suc k) (xs ++ ys))
    ≡ (if t then condition_text D k x ++ 10 ∷ chosen_from point kind D (suc k) xs else chosen_from point kind D (suc k) xs) ++ chosen_from point kind D n ys
from_step point kind D k n x xs ys true rest =
    ap (λ l. condition_text D k x ++ 10 ∷ l) rest ∙ sym (append_assoc (condition_text D k x) (10 ∷ chosen_from point kind D (suc k) xs) (chosen_from point kind D n ys))
from_step point kind D k n x xs ys false rest = rest

from_both : (point kind : Option (List ℕ)) (D : Development) (k n : ℕ) (xs ys : List S.Condition) → n ≡ k + length xs
    → chosen_from point kind D k (xs ++ ys) ≡ chosen_from point kind D k xs ++ chosen_from point kind D n ys
from_both point kind D k n [] ys e = let same : n ≡ k = omega (arith, e) in ap (λ (i : ℕ). chosen_from point kind D i ys) (sym same)
from_both point kind D k n (x ∷ xs) ys e = from_step point kind D k n x xs ys (is_chosen point kind D x) (from_both point kind D (suc k) n xs ys (omega (arith, e)))

count_step : (t : Bool) (n m k : ℕ) → n ≡ m + k → (if t then suc n else n) ≡ (if t then suc m else m) + k
count_step true n m k rest = let more : suc n ≡ suc m + k = omega (arith, rest) in more
count_step false n m k rest = rest

count_both : (point kind : Option (List ℕ)) (D : Development) (xs ys : List S.Condition) → chosen_count point kind D (xs ++ ys) ≡ chosen_count point kind D xs + chosen_count point kind D ys
count_both point kind D [] ys = let same : chosen_count point kind D ys ≡ 0 + chosen_count point kind D ys = omega arith in same
count_both point kind D (x ∷ xs) ys =
    count_step (is_chosen point kind D x) (chosen_count point kind D (xs ++ ys)) (chosen_count point kind D xs) (chosen_count point kind D ys) (count_both point kind D xs ys)

-- ---- a condition more

-- what is written and counted, with what is left from number k on, is all
abbrev pub AreAll : (point kind : Option (List ℕ)) → Development → ℕ → List S.Condition → List ℕ → ℕ → List ℕ → ℕ → Type 0
AreAll point kind D k left text count lines total = (text ++ chosen_from point kind D k left ≡ lines) × (count + chosen_count point kind D left ≡ total)

pub one_chosen : (point kind : Option (List ℕ)) (D : Development) (k next : ℕ) (x : S.Condition) (left xs : List S.Condition) (text more : List ℕ) (count one_more : ℕ) (lines : List ℕ) (total : ℕ)
    → left ≡ x ∷ xs → next ≡ suc k → is_chosen point kind D x ≡ true → more ≡ text ++ (condition_text D k x ++ 10 ∷ []) → one_more ≡ suc count
    → AreAll point kind D k left text count lines total → AreAll point kind D next xs more one_more lines total
one_chosen point kind D k next x left xs text more count one_more lines total here number yes' written counted so =
    let line = condition_text D k x in
    let rest = chosen_from point kind D next xs in
    let first : chosen_from point kind D k left ≡ line ++ 10 ∷ rest =
    ap (chosen_from point kind D k) here ∙ ap (λ t. if t then line ++ 10 ∷ chosen_from point kind D (suc k) xs else chosen_from point kind D (suc k) xs) yes'
    ∙ ap (λ (i : ℕ). line ++ 10 ∷ chosen_from point kind D i xs) (sym number) in
    let count' : chosen_count point kind D left ≡ suc (chosen_count point kind D xs) =
    ap (chosen_count point kind D) here ∙ ap (λ t. if t then suc (chosen_count point kind D xs) else chosen_count point kind D xs) yes' in (
      ap (λ l. l ++ rest) written ∙ append_assoc text (line ++ 10 ∷ []) rest ∙ ap (λ l. text ++ l) (append_assoc line (10 ∷ []) rest ∙ sym first) ∙ so.0,
      omega (arith, counted, count', so.1),
    )

pub one_passed : (point kind : Option (List ℕ)) (D : Development) (k next : ℕ) (x : S.Condition) (left xs : List S.Condition) (text more : List ℕ) (count same : ℕ) (lines : List ℕ) (total : ℕ)
    → left ≡ x ∷ xs → next ≡ suc k → is_chosen point kind D x ≡ false → more ≡ text → same ≡ count
    → AreAll point kind D k left text count lines total → AreAll point kind D next xs more same lines total
one_passed point kind D k next x left xs text more count same lines total here number no' written counted so =
    let rest = chosen_from point kind D next xs in
    let first : chosen_from point kind D k left ≡ rest =
    ap (chosen_from point kind D k) here ∙ ap (λ t. if t then condition_text D k x ++ 10 ∷ chosen_from point kind D (suc k) xs else chosen_from point kind D (suc k) xs) no'
    ∙ ap (λ (i : ℕ). chosen_from point kind D i xs) (sym number) in
    let count' : chosen_count point kind D left ≡ chosen_count point kind D xs =
    ap (chosen_count point kind D) here ∙ ap (λ t. if t then suc (chosen_count point kind D xs) else chosen_count point kind D xs) no' in
    (ap (λ l. l ++ rest) written ∙ ap (λ l. text ++ l) (sym first) ∙ so.0, omega (arith, counted, count', so.1))

-- ---- the stream

-- the lines so far, with those of what is left, are those of all; and so are the counts
pub record IsSoFar (point kind : Option (List ℕ)) (D : Development) (s : ConditionStream) (text : List ℕ) (count : ℕ) : Type 0 where
  pub lines : chosen_from point kind D 0 (conditions D) ≡ text ++ chosen_from point kind D (next_number s) (conditions_left D s)
  pub counted : chosen_count point kind D (conditions D) ≡ count + chosen_count point kind D (conditions_left D s)

pub so_far_more : (point kind : Option (List ℕ)) (D : Development) (ts : Table) (before after : ConditionStream) (cs : List Condition) (text more : List ℕ) (count all : ℕ)
    → IsPart D ts before after cs → IsSoFar point kind D before text count
    → more ≡ text ++ chosen_from point kind D (next_number before) (map (condition_in ts) cs) → all ≡ count + chosen_count point kind D (map (condition_in ts) cs)
    → IsSoFar point kind D after more all
so_far_more point kind D ts before after cs text more count all part so is counted =
    let xs = map (condition_in ts) cs in
    let ys = conditions_left D after in
    let here = chosen_from point kind D (next_number before) xs in
    let behind = chosen_from point kind D (next_number after) ys in
    let number : next_number after ≡ next_number before + length xs = omega (arith, part.number, length-map cs (condition_in ts)) in
    let split = from_both point kind D (next_number before) (next_number after) xs ys number in
    let split' = count_both point kind D xs ys in
    let left = ap (chosen_count point kind D) part.left in
    let so' = so.counted in
    record {
      lines = so.lines ∙ ap (λ l. text ++ chosen_from point kind D (next_number before) l) part.left ∙ ap (λ l. text ++ l) split
          ∙ sym (append_assoc text here behind) ∙ ap (λ l. l ++ behind) (sym is);
      counted = omega (arith, so', left, split', counted);
    }
