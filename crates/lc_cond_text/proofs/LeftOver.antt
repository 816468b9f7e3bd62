-- What is left of the lines, step by step.
use Rattle.std.proofs.Common.{◌≡◌, ℕ, suc, ◌+◌, ◌<◌, ◌≤◌, List, [], ◌∷◌, ◌++◌, map, drop, length, get_or, sym, ap, subst, ◌∙◌, arith, append_assoc}
use Rattle.std.specs.Prelude.{Vec}
use Rattle.std.specs.declared.alloc.Global.{Global}
use Rattle.std.proofs.lemmas.List.{drop_more, drop_all}
use Rattle.lc_table.specs.NodeTables.{Table}
use Rattle.lc_outline.specs.Development.{Development}
use Rattle.lc_cond.specs.ConditionView.{condition_in, AreConditions}
use Rattle.lc_cond.specs.Stream.{conditions_left, parts_left, IsPart, IsEnd}
use Rattle.lc_cond.specs.declared.condition.Condition.{Condition}
use Rattle.lc_cond.specs.declared.stream.ConditionStream.{ConditionStream}
use Rattle.lc_cond_text.specs.ConditionText.{condition_text, spelled, text_from, total_line}
use Rattle.lc_cond_text.specs.LinesView.{conditions_unwritten, text_unwritten, GoesOn}
use Rattle.lc_cond_text.specs.Recalled.{Recalls}
use Rattle.lc_cond_text.specs.declared.lines.Left.{Left}
use Rattle.lc_cond_text.specs.declared.texts.FormulaTexts.{FormulaTexts}
use Rattle.lc_cond_text.proofs.LinesFrom.{part_passes}

abbrev left : ConditionStream → Table → FormulaTexts → ℕ → Vec Condition Global → ℕ → ℕ → Left
left s ts texts most part i n = record { stream = s; terms = ts; texts = texts; most = most; part = part; written = i; number = n }

-- the next condition of the part is one of the table
pub next_there : (ts : Table) (xs : List Condition) (i : ℕ) (x : Condition) → i < length xs → x ≡ get_or xs i x → AreConditions ts (drop i xs) → AreConditions ts (x ∷ drop (i + 1) xs)
next_there ts xs i x lt is are = subst (AreConditions ts) (drop_more xs i x lt ∙ ap (λ y. y ∷ drop (i + 1) xs) (sym is)) are

-- a line more is written
pub line_more : (d : Development) (s : ConditionStream) (ts : Table) (texts texts' : FormulaTexts) (most : ℕ) (part : Vec Condition Global) (i n j m : ℕ) (x : Condition) (old new : List ℕ) →
    i < length part.items → x ≡ get_or part.items i x → j ≡ i + 1 → m ≡ n + 1 → new ≡ (old ++ condition_text d n (condition_in ts x)) ++ 10 ∷ [] →
    AreConditions ts (drop i part.items) → Recalls (spelled d) ts texts' → GoesOn d old (left s ts texts most part i n) new (left s ts texts' most part j m)
line_more d s ts texts texts' most part i n j m x old new lt is next number feed are recalls =
    let xs = part.items in
    let split : drop i xs ≡ x ∷ drop j xs = drop_more xs i x lt ∙ ap (λ y. y ∷ drop (i + 1) xs) (sym is) ∙ ap (λ k. x ∷ drop k xs) (sym next) in
    let before = conditions_unwritten d (left s ts texts most part i n) in
    let after = conditions_unwritten d (left s ts texts' most part j m) in
    let all : before ≡ condition_in ts x ∷ after = ap (λ l. map (condition_in ts) l ++ conditions_left d s) split in
    let longer : length before ≡ suc (length after) = ap length all in
    record {
      text = part_passes d n m before (condition_in ts x ∷ []) after old new all number (feed ∙ append_assoc old (condition_text d n (condition_in ts x)) (10 ∷ []));
      fewer = omega (arith, longer);
      left = record { are = (subst (AreConditions ts) split are).1; recalls = recalls };
    }

-- the next part is made
pub part_made : (d : Development) (before after : ConditionStream) (t ts : Table) (texts texts' : FormulaTexts) (most most' : ℕ) (part part' : Vec Condition Global) (i n : ℕ) (old : List ℕ) →
    length part.items ≤ i → IsPart d ts before after part'.items → Recalls (spelled d) ts texts' → GoesOn d old (left before t texts most part i n) old (left after ts texts' most' part' 0 n)
part_made d before after t ts texts texts' most most' part part' i n old past is recalls =
    let all : conditions_unwritten d (left before t texts most part i n) ≡ conditions_unwritten d (left after ts texts' most' part' 0 n) =
    ap (λ l. map (condition_in t) l ++ conditions_left d before) (drop_all i part.items past) ∙ is.left in
    let same : length (conditions_unwritten d (left before t texts most part i n)) ≡ length (conditions_unwritten d (left after ts texts' most' part' 0 n)) = ap length all in
    let fewer : suc (parts_left d after) ≡ parts_left d before = is.fewer in
    record {
      text = ap (λ l. old ++ text_from d n l) all;
      fewer = omega (arith, same, fewer);
      left = record { are = is.are; recalls = recalls };
    }

-- nothing is left but the line of the count
pub only_count_left : (d : Development) (before after : ConditionStream) (t : Table) (texts : FormulaTexts) (most : ℕ) (part : Vec Condition Global) (i n : ℕ) (old new : List ℕ) →
    length part.items ≤ i → IsEnd d before after → new ≡ old ++ total_line n → new ≡ old ++ text_unwritten d (left before t texts most part i n)
only_count_left d before after t texts most part i n old new past is written =
    let none : conditions_unwritten d (left before t texts most part i n) ≡ [] = ap (λ l. map (condition_in t) l ++ conditions_left d before) (drop_all i part.items past) ∙ is.nothing in
    let same : n ≡ n + 0 = omega arith in
    written ∙ ap (λ k. old ++ total_line k) same ∙ sym (ap (λ l. old ++ text_from d n l) none)
