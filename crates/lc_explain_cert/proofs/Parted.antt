-- The hypotheses at a step as they are shown: those of the goal come first.
use Rattle.std.proofs.Common.{◌≡◌, ℕ, zero, suc, ◌-◌, List, [], ◌∷◌, ◌++◌, take, drop, length, refl, sym, ap, ap₂, ◌∙◌, append_assoc, append-nil, arith}
use Rattle.std.proofs.lemmas.List.{length-drop, map-append, take_all, take-map, drop-map}
use Rattle.lc_kernel.specs.Proofs as P
use Rattle.lc_proof_state.specs.Standing.{Stands, stands_here, stands_below, StandsAmong, StandsGoal, in_first, in_later}
use Rattle.lc_term.specs.Syntax as S
use Rattle.lc_term.specs.View.{formula_of, formulas_of}
use Rattle.lc_term.specs.declared.formula.Formula.{Formula}
use Rattle.lc_text.specs.Spelling.{Spelled}
use Rattle.lc_explain_cert.specs.State.{ShowsState, group, shown_state}
use Rattle.lc_explain_cert.specs.declared.state.TheConstants.{GIVEN, NEGATED, ADDED}

first_of : {X : Type 0} (xs ys : List X) (n : ℕ) → length xs ≡ n → take n (xs ++ ys) ≡ xs
first_of [] ys zero is = refl
first_of [] ys (suc n) is = absurd (omega (arith, is))
first_of (x ∷ xs) ys zero is = absurd (omega (arith, is))
first_of (x ∷ xs) ys (suc n) is = ap (λ l. x ∷ l) (first_of xs ys n (omega (arith, is)))

rest_of : {X : Type 0} (xs ys : List X) (n : ℕ) → length xs ≡ n → drop n (xs ++ ys) ≡ ys
rest_of [] ys zero is = refl
rest_of [] ys (suc n) is = absurd (omega (arith, is))
rest_of (x ∷ xs) ys zero is = absurd (omega (arith, is))
rest_of (x ∷ xs) ys (suc n) is = rest_of xs ys n (omega (arith, is))

behind_next : {X : Type 0} (xs ys : List X) (y : X) (n : ℕ) → length xs ≡ n → drop (suc n) (xs ++ y ∷ ys) ≡ ys
behind_next [] ys y zero is = refl
behind_next [] ys y (suc n) is = absurd (omega (arith, is))
behind_next (x ∷ xs) ys y zero is = absurd (omega (arith, is))
behind_next (x ∷ xs) ys y (suc n) is = behind_next xs ys y n (omega (arith, is))

-- in three groups
pub in_groups : (by : Spelled) (fs : List Formula) (given behind : ℕ) (before : List S.Formula) (goal : S.Formula) (added : List S.Formula) (t0 t1 t2 t3 : List ℕ)
    → behind ≡ suc given → formulas_of fs ≡ before ++ goal ∷ added → length before ≡ given
    → t1 ≡ t0 ++ group GIVEN.now by 0 (formulas_of (take given fs)) → t2 ≡ t1 ++ group NEGATED.now by given (formulas_of (take (behind - given) (drop given fs)))
    → t3 ≡ t2 ++ group ADDED.now by behind (formulas_of (take (length fs - behind) (drop behind fs))) → t3 ≡ t0 ++ shown_state by before goal added
in_groups by fs given behind before goal added t0 t1 t2 t3 next is count e1 e2 e3 =
    let first : formulas_of (take given fs) ≡ before = sym (take-map formula_of given fs) ∙ ap (take given) is ∙ first_of before (goal ∷ added) given count in
    let one : behind - given ≡ 1 = omega (arith, next) in
    let second : formulas_of (take (behind - given) (drop given fs)) ≡ goal ∷ [] =
    ap (λ n. formulas_of (take n (drop given fs))) one ∙ sym (take-map formula_of 1 (drop given fs)) ∙ ap (take 1) (sym (drop-map formula_of given fs) ∙ ap (drop given) is ∙ rest_of before (goal ∷ added) given count) in
    let whole : take (length fs - behind) (drop behind fs) ≡ drop behind fs = take_all (length fs - behind) (drop behind fs) (let n = length-drop behind fs in omega (arith, n)) in
    let third : formulas_of (take (length fs - behind) (drop behind fs)) ≡ added = ap formulas_of whole ∙ sym (drop-map formula_of behind fs) ∙ ap₂ (λ (n : ℕ) (l : List S.Formula). drop n l) next is ∙ behind_next before added goal given count in
    let a = group GIVEN.now by 0 before in
    let b = group NEGATED.now by (length before) (goal ∷ []) in
    let d = group ADDED.now by (suc (length before)) added in
    let place : behind ≡ suc (length before) = omega (arith, next, count) in
    let s1 : t1 ≡ t0 ++ a = e1 ∙ ap (λ (l : List S.Formula). t0 ++ group GIVEN.now by 0 l) first in
    let s2 : t2 ≡ t1 ++ b = e2 ∙ ap₂ (λ (n : ℕ) (l : List S.Formula). t1 ++ group NEGATED.now by n l) (sym count) second in
    let s3 : t3 ≡ t2 ++ d = e3 ∙ ap₂ (λ (n : ℕ) (l : List S.Formula). t2 ++ group ADDED.now by n l) place third in
    s3 ∙ ap (λ l. l ++ d) s2 ∙ append_assoc t1 b d ∙ ap (λ l. l ++ (b ++ d)) s1 ∙ append_assoc t0 a (b ++ d)

-- ---- the hypotheses before the first step, and at each

pub with_negated : (fs all : List Formula) (negated : Formula) (H : List S.Formula) (g : S.Formula) → all ≡ fs ++ negated ∷ [] → formulas_of fs ≡ H → formula_of negated ≡ g → formulas_of all ≡ H ++ g ∷ []
with_negated fs all negated H g is same last = ap formulas_of is ∙ map-append formula_of fs (negated ∷ []) ∙ ap₂ (λ xs y. xs ++ y ∷ []) same last

-- the hypotheses at a step begin with those at the first
mutual
  grows : {v n u : ℕ} {H G : List S.Formula} {p q : P.Proof} → Stands v H p n u G q → (added : List S.Formula) × (G ≡ H ++ added)
  grows (stands_here {H = H}) = ([], sym (append-nil H))
  grows (stands_below g a) = grows_among a

  grows_among : {v n u : ℕ} {H G : List S.Formula} {bs : List (List S.Formula)} {ps : P.Proofs} {q : P.Proof} → StandsAmong v H bs ps n u G q → (added : List S.Formula) × (G ≡ H ++ added)
  grows_among (in_first {H = H} {b = b} st) = let r = grows st in (b ++ r.0, r.1 ∙ append_assoc H b r.0)
  grows_among (in_later a) = grows_among a

pub goal_shows_state : (by : Spelled) (H : List S.Formula) (g : S.Formula) (v n u given : ℕ) (G : List S.Formula) (p q : P.Proof) (fs : List Formula) (reason text : List ℕ)
    → ((before : List S.Formula) (goal : S.Formula) (added : List S.Formula) → formulas_of fs ≡ before ++ goal ∷ added → length before ≡ given → text ≡ reason ++ shown_state by before goal added)
    → StandsGoal v H g p n u G q → formulas_of fs ≡ G → length H ≡ given → ShowsState by H g G text
goal_shows_state by H g v n u given G p q fs reason text written st same count =
    let r = grows st in
    let all : G ≡ H ++ S.Not g ∷ r.0 = r.1 ∙ append_assoc H (S.Not g ∷ []) r.0 in
    record { added = r.0; reason = reason; all = all; text_is = written H (S.Not g) r.0 (same ∙ all) count }
