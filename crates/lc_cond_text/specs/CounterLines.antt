-- The conditions of the counter, as they are printed, and what conditions ask of marks of other calls and of notes.
use Rattle.std.specs.Prelude.{◌≡◌, ℕ, codes, List, [], ◌∷◌, Some, length, option_map, slice_get}
use Rattle.lc_term.specs.Lists.{numbered}
use Rattle.lc_term.specs.Syntax.{Variable}
use Rattle.lc_rider.specs.Rider.{Other, Note}
use Rattle.lc_rider.specs.Paths.{Named, Observing}
use Rattle.lc_cond.specs.Conditions.{Condition, Owed, conditions}
use Rattle.lc_cond_text.specs.ConditionText.{condition_text}
use Rattle.lc_cond.specs.Counter.{counter, counter_by}

abbrev pub counter_lines : List (List ℕ)
counter_lines =
    codes "(condition 0 init - - - 0 (vars 1) (hyps (<= 0 ?0)) (goal (= (rd (affine 0 0) 0) (rd (affine 0 0) 0))))" ∷
    codes "(condition 1 entry p0 - - 0 (vars 2) (hyps (<= 0 ?1) (<= (+ ?1 1) ?0) (= (rd pend ?1) 0) (= (rd c 0) (rd v 0))) (goal (= (rd c 0) (rd v 0))))" ∷
    codes "(condition 2 first p0 - - 0 (vars 2) (hyps (<= 0 ?1) (<= (+ ?1 1) ?0) (= (rd pend ?1) 0) (= (rd c 0) (rd v 0))) (goal (= (rd (store pend ?1 1) ?1) 1)))" ∷
    codes "(condition 3 entry q0 - - 0 (vars 2) (hyps (<= 0 ?1) (<= (+ ?1 1) ?0) (= (rd pend ?1) 0) (= (rd c 0) (rd v 0))) (goal (= (rd c 0) (rd v 0))))" ∷
    codes "(condition 4 first q0 - - 0 (vars 2) (hyps (<= 0 ?1) (<= (+ ?1 1) ?0) (= (rd pend ?1) 0) (= (rd c 0) (rd v 0))) (goal (= (rd (store pend ?1 1) ?1) 1)))" ∷
    codes "(condition 5 invariant p0 next 0 0 (vars 3) (hyps (<= 0 ?1) (<= (+ ?1 1) ?0) (<= 1 (rd pend ?1)) (<= (rd pend ?1) 2) (= (rd op ?1) 0) (= (rd c 0) (rd v 0)) (= (rd pend ?1) 1)) (goal (= (rd c 0) (rd v 0))))" ∷
    codes "(condition 6 next p0 next 0 0 (vars 3) (hyps (<= 0 ?1) (<= (+ ?1 1) ?0) (<= 1 (rd pend ?1)) (<= (rd pend ?1) 2) (= (rd op ?1) 0) (= (rd c 0) (rd v 0)) (= (rd pend ?1) 1)) (goal (= (rd pend ?1) 1)))" ∷
    codes "(condition 7 pend p1 then 0 0 (vars 3) (hyps (<= 0 ?1) (<= (+ ?1 1) ?0) (<= 1 (rd pend ?1)) (<= (rd pend ?1) 2) (= (rd op ?1) 0) (= (rd c 0) (rd v 0)) (= (rd pend ?1) 1) (= (rd c 0) ?2)) (goal (= (rd pend ?1) 1)))" ∷
    codes "(condition 8 enabled p1 then 0 0 (vars 3) (hyps (<= 0 ?1) (<= (+ ?1 1) ?0) (<= 1 (rd pend ?1)) (<= (rd pend ?1) 2) (= (rd op ?1) 0) (= (rd c 0) (rd v 0)) (= (rd pend ?1) 1) (= (rd c 0) ?2)) (goal (or (and))))" ∷
    codes "(condition 9 invariant p1 then 0 0 (vars 3) (hyps (<= 0 ?1) (<= (+ ?1 1) ?0) (<= 1 (rd pend ?1)) (<= (rd pend ?1) 2) (= (rd op ?1) 0) (= (rd c 0) (rd v 0)) (= (rd pend ?1) 1) (= (rd c 0) ?2) (and)) (goal (= (rd (store c 0 (+ ?2 1)) 0) (rd (store v 0 (+ (rd v 0) 1)) 0))))" ∷
    codes "(condition 10 next p1 then 0 0 (vars 3) (hyps (<= 0 ?1) (<= (+ ?1 1) ?0) (<= 1 (rd pend ?1)) (<= (rd pend ?1) 2) (= (rd op ?1) 0) (= (rd c 0) (rd v 0)) (= (rd pend ?1) 1) (= (rd c 0) ?2) (and)) (goal (= (rd (store pend ?1 2) ?1) 2)))" ∷
    codes "(condition 11 next p1 then 0 1 (vars 3) (hyps (<= 0 ?1) (<= (+ ?1 1) ?0) (<= 1 (rd pend ?1)) (<= (rd pend ?1) 2) (= (rd op ?1) 0) (= (rd c 0) (rd v 0)) (= (rd pend ?1) 1) (= (rd c 0) ?2) (and)) (goal (= (rd (store rep1 ?1 (rd v 0)) ?1) ?2)))" ∷
    codes "(condition 12 guard p1 then 0 - (vars 3) (hyps (<= 0 ?1) (<= (+ ?1 1) ?0) (<= 1 (rd pend ?1)) (<= (rd pend ?1) 2) (= (rd op ?1) 0) (= (rd c 0) (rd v 0)) (= (rd pend ?1) 1) (= (rd c 0) ?2) (and)) (goal (and (= (rd pend ?1) 1) (= (rd op ?1) 0))))" ∷
    codes "(condition 13 column p1 then 0 v (vars 3) (hyps (<= 0 ?1) (<= (+ ?1 1) ?0) (<= 1 (rd pend ?1)) (<= (rd pend ?1) 2) (= (rd op ?1) 0) (= (rd c 0) (rd v 0)) (= (rd pend ?1) 1) (= (rd c 0) ?2) (and)) (goal (forall b0 (= (rd (store v 0 (+ (rd v 0) 1)) b0) (rd (store v 0 (+ (rd v 0) 1)) b0)))))" ∷
    codes "(condition 14 column p1 then 0 c (vars 3) (hyps (<= 0 ?1) (<= (+ ?1 1) ?0) (<= 1 (rd pend ?1)) (<= (rd pend ?1) 2) (= (rd op ?1) 0) (= (rd c 0) (rd v 0)) (= (rd pend ?1) 1) (= (rd c 0) ?2) (and)) (goal (forall b0 (= (rd (store c 0 (+ ?2 1)) b0) (rd (store c 0 (+ (rd c 0) 1)) b0)))))" ∷
    codes "(condition 15 column p1 then 0 pend (vars 3) (hyps (<= 0 ?1) (<= (+ ?1 1) ?0) (<= 1 (rd pend ?1)) (<= (rd pend ?1) 2) (= (rd op ?1) 0) (= (rd c 0) (rd v 0)) (= (rd pend ?1) 1) (= (rd c 0) ?2) (and)) (goal (forall b0 (= (rd (store pend ?1 2) b0) (rd (store pend ?1 2) b0)))))" ∷
    codes "(condition 16 column p1 then 0 rep1 (vars 3) (hyps (<= 0 ?1) (<= (+ ?1 1) ?0) (<= 1 (rd pend ?1)) (<= (rd pend ?1) 2) (= (rd op ?1) 0) (= (rd c 0) (rd v 0)) (= (rd pend ?1) 1) (= (rd c 0) ?2) (and)) (goal (forall b0 (= (rd (store rep1 ?1 (rd v 0)) b0) (rd (store rep1 ?1 (rd v 0)) b0)))))" ∷
    codes "(condition 17 invariant p1 else 0 0 (vars 3) (hyps (<= 0 ?1) (<= (+ ?1 1) ?0) (<= 1 (rd pend ?1)) (<= (rd pend ?1) 2) (= (rd op ?1) 0) (= (rd c 0) (rd v 0)) (= (rd pend ?1) 1) (not (and (= (rd c 0) ?2)))) (goal (= (rd c 0) (rd v 0))))" ∷
    codes "(condition 18 next p1 else 0 0 (vars 3) (hyps (<= 0 ?1) (<= (+ ?1 1) ?0) (<= 1 (rd pend ?1)) (<= (rd pend ?1) 2) (= (rd op ?1) 0) (= (rd c 0) (rd v 0)) (= (rd pend ?1) 1) (not (and (= (rd c 0) ?2)))) (goal (= (rd pend ?1) 1)))" ∷
    codes "(condition 19 reply p2 next 0 - (vars 3) (hyps (<= 0 ?1) (<= (+ ?1 1) ?0) (<= 1 (rd pend ?1)) (<= (rd pend ?1) 2) (= (rd op ?1) 0) (= (rd c 0) (rd v 0)) (= (rd pend ?1) 2) (= (rd rep1 ?1) ?2)) (goal (or (and (= (rd pend ?1) 2) (= (rd rep1 ?1) ?2)) (and (= (rd pend ?1) 1) (= (rd noted ?1) 1) (= (rd note1 ?1) ?2)))))" ∷
    codes "(condition 20 invariant p2 next 0 0 (vars 3) (hyps (<= 0 ?1) (<= (+ ?1 1) ?0) (<= 1 (rd pend ?1)) (<= (rd pend ?1) 2) (= (rd op ?1) 0) (= (rd c 0) (rd v 0)) (= (rd pend ?1) 2) (= (rd rep1 ?1) ?2)) (goal (= (rd c 0) (rd v 0))))" ∷
    codes "(condition 21 pend q0 next 0 0 (vars 3) (hyps (<= 0 ?1) (<= (+ ?1 1) ?0) (<= 1 (rd pend ?1)) (<= (rd pend ?1) 2) (= (rd op ?1) 1) (= (rd c 0) (rd v 0)) (= (rd pend ?1) 1)) (goal (= (rd pend ?1) 1)))" ∷
    codes "(condition 22 enabled q0 next 0 0 (vars 3) (hyps (<= 0 ?1) (<= (+ ?1 1) ?0) (<= 1 (rd pend ?1)) (<= (rd pend ?1) 2) (= (rd op ?1) 1) (= (rd c 0) (rd v 0)) (= (rd pend ?1) 1)) (goal (or (and))))" ∷
    codes "(condition 23 invariant q0 next 0 0 (vars 3) (hyps (<= 0 ?1) (<= (+ ?1 1) ?0) (<= 1 (rd pend ?1)) (<= (rd pend ?1) 2) (= (rd op ?1) 1) (= (rd c 0) (rd v 0)) (= (rd pend ?1) 1) (and)) (goal (= (rd c 0) (rd v 0))))" ∷
    codes "(condition 24 next q0 next 0 0 (vars 3) (hyps (<= 0 ?1) (<= (+ ?1 1) ?0) (<= 1 (rd pend ?1)) (<= (rd pend ?1) 2) (= (rd op ?1) 1) (= (rd c 0) (rd v 0)) (= (rd pend ?1) 1) (and)) (goal (= (rd (store pend ?1 2) ?1) 2)))" ∷
    codes "(condition 25 next q0 next 0 1 (vars 3) (hyps (<= 0 ?1) (<= (+ ?1 1) ?0) (<= 1 (rd pend ?1)) (<= (rd pend ?1) 2) (= (rd op ?1) 1) (= (rd c 0) (rd v 0)) (= (rd pend ?1) 1) (and)) (goal (= (rd (store rep1 ?1 (rd v 0)) ?1) (rd c 0))))" ∷
    codes "(condition 26 guard q0 next 0 - (vars 3) (hyps (<= 0 ?1) (<= (+ ?1 1) ?0) (<= 1 (rd pend ?1)) (<= (rd pend ?1) 2) (= (rd op ?1) 1) (= (rd c 0) (rd v 0)) (= (rd pend ?1) 1) (and)) (goal (= (rd pend ?1) 1)))" ∷
    codes "(condition 27 column q0 next 0 pend (vars 3) (hyps (<= 0 ?1) (<= (+ ?1 1) ?0) (<= 1 (rd pend ?1)) (<= (rd pend ?1) 2) (= (rd op ?1) 1) (= (rd c 0) (rd v 0)) (= (rd pend ?1) 1) (and)) (goal (forall b0 (= (rd (store pend ?1 2) b0) (rd (store pend ?1 2) b0)))))" ∷
    codes "(condition 28 column q0 next 0 rep1 (vars 3) (hyps (<= 0 ?1) (<= (+ ?1 1) ?0) (<= 1 (rd pend ?1)) (<= (rd pend ?1) 2) (= (rd op ?1) 1) (= (rd c 0) (rd v 0)) (= (rd pend ?1) 1) (and)) (goal (forall b0 (= (rd (store rep1 ?1 (rd v 0)) b0) (rd (store rep1 ?1 (rd v 0)) b0)))))" ∷
    codes "(condition 29 reply q1 next 0 - (vars 3) (hyps (<= 0 ?1) (<= (+ ?1 1) ?0) (<= 1 (rd pend ?1)) (<= (rd pend ?1) 2) (= (rd op ?1) 1) (= (rd c 0) (rd v 0)) (= (rd pend ?1) 2) (= (rd rep1 ?1) ?2)) (goal (or (and (= (rd pend ?1) 2) (= (rd rep1 ?1) ?2)) (and (= (rd pend ?1) 1) (= (rd noted ?1) 1) (= (rd note1 ?1) ?2)))))" ∷
    codes "(condition 30 invariant q1 next 0 0 (vars 3) (hyps (<= 0 ?1) (<= (+ ?1 1) ?0) (<= 1 (rd pend ?1)) (<= (rd pend ?1) 2) (= (rd op ?1) 1) (= (rd c 0) (rd v 0)) (= (rd pend ?1) 2) (= (rd rep1 ?1) ?2)) (goal (= (rd c 0) (rd v 0))))" ∷
    codes "(condition 31 stable p0 add - 0 (vars 4) (hyps (<= 0 ?1) (<= (+ ?1 1) ?0) (<= 0 ?3) (<= (+ ?3 1) ?0) (not (= ?1 ?3)) (<= 1 (rd pend ?1)) (<= (rd pend ?1) 2) (= (rd op ?1) 0) (= (rd c 0) (rd v 0)) (= (rd pend ?1) 1) (and (= (rd pend ?3) 1) (= (rd op ?3) 0)) (= (rd (store c 0 (+ (rd c 0) 1)) 0) (rd (store v 0 (+ (rd v 0) 1)) 0))) (goal (= (rd (store pend ?3 2) ?1) 1)))" ∷
    codes "(condition 32 stable p0 look - 0 (vars 4) (hyps (<= 0 ?1) (<= (+ ?1 1) ?0) (<= 0 ?3) (<= (+ ?3 1) ?0) (not (= ?1 ?3)) (<= 1 (rd pend ?1)) (<= (rd pend ?1) 2) (= (rd op ?1) 0) (= (rd c 0) (rd v 0)) (= (rd pend ?1) 1) (= (rd pend ?3) 1) (= (rd c 0) (rd v 0))) (goal (= (rd (store pend ?3 2) ?1) 1)))" ∷
    codes "(condition 33 stable p0 enter - 0 (vars 8) (hyps (<= 0 ?1) (<= (+ ?1 1) ?0) (<= 0 ?3) (<= (+ ?3 1) ?0) (not (= ?1 ?3)) (<= 1 (rd pend ?1)) (<= (rd pend ?1) 2) (= (rd op ?1) 0) (= (rd c 0) (rd v 0)) (= (rd pend ?1) 1) (= (rd pend ?3) 0) (= (rd c 0) (rd v 0))) (goal (= (rd (store pend ?3 1) ?1) 1)))" ∷
    codes "(condition 34 stable p0 leave - 0 (vars 4) (hyps (<= 0 ?1) (<= (+ ?1 1) ?0) (<= 0 ?3) (<= (+ ?3 1) ?0) (not (= ?1 ?3)) (<= 1 (rd pend ?1)) (<= (rd pend ?1) 2) (= (rd op ?1) 0) (= (rd c 0) (rd v 0)) (= (rd pend ?1) 1) (not (= (rd pend ?3) 0)) (= (rd c 0) (rd v 0))) (goal (= (rd (store pend ?3 0) ?1) 1)))" ∷
    codes "(condition 35 stable p1 add - 0 (vars 4) (hyps (<= 0 ?1) (<= (+ ?1 1) ?0) (<= 0 ?3) (<= (+ ?3 1) ?0) (not (= ?1 ?3)) (<= 1 (rd pend ?1)) (<= (rd pend ?1) 2) (= (rd op ?1) 0) (= (rd c 0) (rd v 0)) (= (rd pend ?1) 1) (and (= (rd pend ?3) 1) (= (rd op ?3) 0)) (= (rd (store c 0 (+ (rd c 0) 1)) 0) (rd (store v 0 (+ (rd v 0) 1)) 0))) (goal (= (rd (store pend ?3 2) ?1) 1)))" ∷
    codes "(condition 36 stable p1 look - 0 (vars 4) (hyps (<= 0 ?1) (<= (+ ?1 1) ?0) (<= 0 ?3) (<= (+ ?3 1) ?0) (not (= ?1 ?3)) (<= 1 (rd pend ?1)) (<= (rd pend ?1) 2) (= (rd op ?1) 0) (= (rd c 0) (rd v 0)) (= (rd pend ?1) 1) (= (rd pend ?3) 1) (= (rd c 0) (rd v 0))) (goal (= (rd (store pend ?3 2) ?1) 1)))" ∷
    codes "(condition 37 stable p1 enter - 0 (vars 8) (hyps (<= 0 ?1) (<= (+ ?1 1) ?0) (<= 0 ?3) (<= (+ ?3 1) ?0) (not (= ?1 ?3)) (<= 1 (rd pend ?1)) (<= (rd pend ?1) 2) (= (rd op ?1) 0) (= (rd c 0) (rd v 0)) (= (rd pend ?1) 1) (= (rd pend ?3) 0) (= (rd c 0) (rd v 0))) (goal (= (rd (store pend ?3 1) ?1) 1)))" ∷
    codes "(condition 38 stable p1 leave - 0 (vars 4) (hyps (<= 0 ?1) (<= (+ ?1 1) ?0) (<= 0 ?3) (<= (+ ?3 1) ?0) (not (= ?1 ?3)) (<= 1 (rd pend ?1)) (<= (rd pend ?1) 2) (= (rd op ?1) 0) (= (rd c 0) (rd v 0)) (= (rd pend ?1) 1) (not (= (rd pend ?3) 0)) (= (rd c 0) (rd v 0))) (goal (= (rd (store pend ?3 0) ?1) 1)))" ∷
    codes "(condition 39 stable p2 add - 0 (vars 4) (hyps (<= 0 ?1) (<= (+ ?1 1) ?0) (<= 0 ?3) (<= (+ ?3 1) ?0) (not (= ?1 ?3)) (<= 1 (rd pend ?1)) (<= (rd pend ?1) 2) (= (rd op ?1) 0) (= (rd c 0) (rd v 0)) (= (rd pend ?1) 2) (= (rd rep1 ?1) ?2) (and (= (rd pend ?3) 1) (= (rd op ?3) 0)) (= (rd (store c 0 (+ (rd c 0) 1)) 0) (rd (store v 0 (+ (rd v 0) 1)) 0))) (goal (= (rd (store pend ?3 2) ?1) 2)))" ∷
    codes "(condition 40 stable p2 look - 0 (vars 4) (hyps (<= 0 ?1) (<= (+ ?1 1) ?0) (<= 0 ?3) (<= (+ ?3 1) ?0) (not (= ?1 ?3)) (<= 1 (rd pend ?1)) (<= (rd pend ?1) 2) (= (rd op ?1) 0) (= (rd c 0) (rd v 0)) (= (rd pend ?1) 2) (= (rd rep1 ?1) ?2) (= (rd pend ?3) 1) (= (rd c 0) (rd v 0))) (goal (= (rd (store pend ?3 2) ?1) 2)))" ∷
    codes "(condition 41 stable p2 enter - 0 (vars 8) (hyps (<= 0 ?1) (<= (+ ?1 1) ?0) (<= 0 ?3) (<= (+ ?3 1) ?0) (not (= ?1 ?3)) (<= 1 (rd pend ?1)) (<= (rd pend ?1) 2) (= (rd op ?1) 0) (= (rd c 0) (rd v 0)) (= (rd pend ?1) 2) (= (rd rep1 ?1) ?2) (= (rd pend ?3) 0) (= (rd c 0) (rd v 0))) (goal (= (rd (store pend ?3 1) ?1) 2)))" ∷
    codes "(condition 42 stable p2 leave - 0 (vars 4) (hyps (<= 0 ?1) (<= (+ ?1 1) ?0) (<= 0 ?3) (<= (+ ?3 1) ?0) (not (= ?1 ?3)) (<= 1 (rd pend ?1)) (<= (rd pend ?1) 2) (= (rd op ?1) 0) (= (rd c 0) (rd v 0)) (= (rd pend ?1) 2) (= (rd rep1 ?1) ?2) (not (= (rd pend ?3) 0)) (= (rd c 0) (rd v 0))) (goal (= (rd (store pend ?3 0) ?1) 2)))" ∷
    codes "(condition 43 stable p2 add - 1 (vars 4) (hyps (<= 0 ?1) (<= (+ ?1 1) ?0) (<= 0 ?3) (<= (+ ?3 1) ?0) (not (= ?1 ?3)) (<= 1 (rd pend ?1)) (<= (rd pend ?1) 2) (= (rd op ?1) 0) (= (rd c 0) (rd v 0)) (= (rd pend ?1) 2) (= (rd rep1 ?1) ?2) (and (= (rd pend ?3) 1) (= (rd op ?3) 0)) (= (rd (store c 0 (+ (rd c 0) 1)) 0) (rd (store v 0 (+ (rd v 0) 1)) 0))) (goal (= (rd (store rep1 ?3 (rd v 0)) ?1) ?2)))" ∷
    codes "(condition 44 stable p2 look - 1 (vars 4) (hyps (<= 0 ?1) (<= (+ ?1 1) ?0) (<= 0 ?3) (<= (+ ?3 1) ?0) (not (= ?1 ?3)) (<= 1 (rd pend ?1)) (<= (rd pend ?1) 2) (= (rd op ?1) 0) (= (rd c 0) (rd v 0)) (= (rd pend ?1) 2) (= (rd rep1 ?1) ?2) (= (rd pend ?3) 1) (= (rd c 0) (rd v 0))) (goal (= (rd (store rep1 ?3 (rd v 0)) ?1) ?2)))" ∷
    codes "(condition 45 stable p2 enter - 1 (vars 8) (hyps (<= 0 ?1) (<= (+ ?1 1) ?0) (<= 0 ?3) (<= (+ ?3 1) ?0) (not (= ?1 ?3)) (<= 1 (rd pend ?1)) (<= (rd pend ?1) 2) (= (rd op ?1) 0) (= (rd c 0) (rd v 0)) (= (rd pend ?1) 2) (= (rd rep1 ?1) ?2) (= (rd pend ?3) 0) (= (rd c 0) (rd v 0))) (goal (= (rd rep1 ?1) ?2)))" ∷
    codes "(condition 46 stable p2 leave - 1 (vars 4) (hyps (<= 0 ?1) (<= (+ ?1 1) ?0) (<= 0 ?3) (<= (+ ?3 1) ?0) (not (= ?1 ?3)) (<= 1 (rd pend ?1)) (<= (rd pend ?1) 2) (= (rd op ?1) 0) (= (rd c 0) (rd v 0)) (= (rd pend ?1) 2) (= (rd rep1 ?1) ?2) (not (= (rd pend ?3) 0)) (= (rd c 0) (rd v 0))) (goal (= (rd rep1 ?1) ?2)))" ∷
    codes "(condition 47 stable q0 add - 0 (vars 4) (hyps (<= 0 ?1) (<= (+ ?1 1) ?0) (<= 0 ?3) (<= (+ ?3 1) ?0) (not (= ?1 ?3)) (<= 1 (rd pend ?1)) (<= (rd pend ?1) 2) (= (rd op ?1) 1) (= (rd c 0) (rd v 0)) (= (rd pend ?1) 1) (and (= (rd pend ?3) 1) (= (rd op ?3) 0)) (= (rd (store c 0 (+ (rd c 0) 1)) 0) (rd (store v 0 (+ (rd v 0) 1)) 0))) (goal (= (rd (store pend ?3 2) ?1) 1)))" ∷
    codes "(condition 48 stable q0 look - 0 (vars 4) (hyps (<= 0 ?1) (<= (+ ?1 1) ?0) (<= 0 ?3) (<= (+ ?3 1) ?0) (not (= ?1 ?3)) (<= 1 (rd pend ?1)) (<= (rd pend ?1) 2) (= (rd op ?1) 1) (= (rd c 0) (rd v 0)) (= (rd pend ?1) 1) (= (rd pend ?3) 1) (= (rd c 0) (rd v 0))) (goal (= (rd (store pend ?3 2) ?1) 1)))" ∷
    codes "(condition 49 stable q0 enter - 0 (vars 8) (hyps (<= 0 ?1) (<= (+ ?1 1) ?0) (<= 0 ?3) (<= (+ ?3 1) ?0) (not (= ?1 ?3)) (<= 1 (rd pend ?1)) (<= (rd pend ?1) 2) (= (rd op ?1) 1) (= (rd c 0) (rd v 0)) (= (rd pend ?1) 1) (= (rd pend ?3) 0) (= (rd c 0) (rd v 0))) (goal (= (rd (store pend ?3 1) ?1) 1)))" ∷
    codes "(condition 50 stable q0 leave - 0 (vars 4) (hyps (<= 0 ?1) (<= (+ ?1 1) ?0) (<= 0 ?3) (<= (+ ?3 1) ?0) (not (= ?1 ?3)) (<= 1 (rd pend ?1)) (<= (rd pend ?1) 2) (= (rd op ?1) 1) (= (rd c 0) (rd v 0)) (= (rd pend ?1) 1) (not (= (rd pend ?3) 0)) (= (rd c 0) (rd v 0))) (goal (= (rd (store pend ?3 0) ?1) 1)))" ∷
    codes "(condition 51 stable q1 add - 0 (vars 4) (hyps (<= 0 ?1) (<= (+ ?1 1) ?0) (<= 0 ?3) (<= (+ ?3 1) ?0) (not (= ?1 ?3)) (<= 1 (rd pend ?1)) (<= (rd pend ?1) 2) (= (rd op ?1) 1) (= (rd c 0) (rd v 0)) (= (rd pend ?1) 2) (= (rd rep1 ?1) ?2) (and (= (rd pend ?3) 1) (= (rd op ?3) 0)) (= (rd (store c 0 (+ (rd c 0) 1)) 0) (rd (store v 0 (+ (rd v 0) 1)) 0))) (goal (= (rd (store pend ?3 2) ?1) 2)))" ∷
    codes "(condition 52 stable q1 look - 0 (vars 4) (hyps (<= 0 ?1) (<= (+ ?1 1) ?0) (<= 0 ?3) (<= (+ ?3 1) ?0) (not (= ?1 ?3)) (<= 1 (rd pend ?1)) (<= (rd pend ?1) 2) (= (rd op ?1) 1) (= (rd c 0) (rd v 0)) (= (rd pend ?1) 2) (= (rd rep1 ?1) ?2) (= (rd pend ?3) 1) (= (rd c 0) (rd v 0))) (goal (= (rd (store pend ?3 2) ?1) 2)))" ∷
    codes "(condition 53 stable q1 enter - 0 (vars 8) (hyps (<= 0 ?1) (<= (+ ?1 1) ?0) (<= 0 ?3) (<= (+ ?3 1) ?0) (not (= ?1 ?3)) (<= 1 (rd pend ?1)) (<= (rd pend ?1) 2) (= (rd op ?1) 1) (= (rd c 0) (rd v 0)) (= (rd pend ?1) 2) (= (rd rep1 ?1) ?2) (= (rd pend ?3) 0) (= (rd c 0) (rd v 0))) (goal (= (rd (store pend ?3 1) ?1) 2)))" ∷
    codes "(condition 54 stable q1 leave - 0 (vars 4) (hyps (<= 0 ?1) (<= (+ ?1 1) ?0) (<= 0 ?3) (<= (+ ?3 1) ?0) (not (= ?1 ?3)) (<= 1 (rd pend ?1)) (<= (rd pend ?1) 2) (= (rd op ?1) 1) (= (rd c 0) (rd v 0)) (= (rd pend ?1) 2) (= (rd rep1 ?1) ?2) (not (= (rd pend ?3) 0)) (= (rd c 0) (rd v 0))) (goal (= (rd (store pend ?3 0) ?1) 2)))" ∷
    codes "(condition 55 stable q1 add - 1 (vars 4) (hyps (<= 0 ?1) (<= (+ ?1 1) ?0) (<= 0 ?3) (<= (+ ?3 1) ?0) (not (= ?1 ?3)) (<= 1 (rd pend ?1)) (<= (rd pend ?1) 2) (= (rd op ?1) 1) (= (rd c 0) (rd v 0)) (= (rd pend ?1) 2) (= (rd rep1 ?1) ?2) (and (= (rd pend ?3) 1) (= (rd op ?3) 0)) (= (rd (store c 0 (+ (rd c 0) 1)) 0) (rd (store v 0 (+ (rd v 0) 1)) 0))) (goal (= (rd (store rep1 ?3 (rd v 0)) ?1) ?2)))" ∷
    codes "(condition 56 stable q1 look - 1 (vars 4) (hyps (<= 0 ?1) (<= (+ ?1 1) ?0) (<= 0 ?3) (<= (+ ?3 1) ?0) (not (= ?1 ?3)) (<= 1 (rd pend ?1)) (<= (rd pend ?1) 2) (= (rd op ?1) 1) (= (rd c 0) (rd v 0)) (= (rd pend ?1) 2) (= (rd rep1 ?1) ?2) (= (rd pend ?3) 1) (= (rd c 0) (rd v 0))) (goal (= (rd (store rep1 ?3 (rd v 0)) ?1) ?2)))" ∷
    codes "(condition 57 stable q1 enter - 1 (vars 8) (hyps (<= 0 ?1) (<= (+ ?1 1) ?0) (<= 0 ?3) (<= (+ ?3 1) ?0) (not (= ?1 ?3)) (<= 1 (rd pend ?1)) (<= (rd pend ?1) 2) (= (rd op ?1) 1) (= (rd c 0) (rd v 0)) (= (rd pend ?1) 2) (= (rd rep1 ?1) ?2) (= (rd pend ?3) 0) (= (rd c 0) (rd v 0))) (goal (= (rd rep1 ?1) ?2)))" ∷
    codes "(condition 58 stable q1 leave - 1 (vars 4) (hyps (<= 0 ?1) (<= (+ ?1 1) ?0) (<= 0 ?3) (<= (+ ?3 1) ?0) (not (= ?1 ?3)) (<= 1 (rd pend ?1)) (<= (rd pend ?1) 2) (= (rd op ?1) 1) (= (rd c 0) (rd v 0)) (= (rd pend ?1) 2) (= (rd rep1 ?1) ?2) (not (= (rd pend ?3) 0)) (= (rd c 0) (rd v 0))) (goal (= (rd rep1 ?1) ?2)))" ∷
    []

abbrev pub CounterIsPrinted : Type 0
CounterIsPrinted = numbered (condition_text counter) 0 (conditions counter) ≡ counter_lines

-- if the counter's mark is made of another client's call, the condition number 8 asks which operation that client is in
abbrev pub HelpersAreNamed : Type 0
HelpersAreNamed =
    (length (conditions (counter_by (Other (Variable 1) 0))) ≡ 60)
    × (option_map (λ (c : Condition). c.kind) (slice_get (conditions (counter_by (Other (Variable 1) 0))) 8) ≡ Some (Owed Named))

-- if it is a note, the condition number 9 asks that nothing is stored
abbrev pub NotesObserve : Type 0
NotesObserve = option_map (λ (c : Condition). c.kind) (slice_get (conditions (counter_by Note)) 9) ≡ Some (Owed Observing)
