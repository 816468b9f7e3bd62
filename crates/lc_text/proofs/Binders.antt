-- The names of the quantifiers around a place, from the innermost.
use Rattle.std.proofs.Common.{◌≡◌, ℕ, ◌+◌, ◌-◌, ◌<◌, Bool, true, false, cond, List, [], ◌∷◌, ◌++◌, Option, Some, None, length, take, get_or, refl, sym, ap, ◌∙◌, arith}
use Rattle.std.proofs.lemmas.List.{map_more, length_push}
use Rattle.std.specs.Prelude.{option_map}
use Rattle.std.specs.Option.{option_or}
use Rattle.std.specs.Borrow.{Bor}
use Rattle.lc_reading.specs.Words.{names_in}
use Rattle.lc_reading.specs.Words.{is}
use Rattle.lc_text.specs.Terms.{bound_index}

behind_case : (b c : Bool) (o : Option ℕ) (n : ℕ) →
    option_or (cond b (Some 0) (option_map (λ k. k + 1) o)) (cond c (Some (n + 1)) None) ≡ cond b (Some 0) (option_map (λ k. k + 1) (option_or o (cond c (Some n) None)))
behind_case true c o n = refl
behind_case false c (Some k) n = refl
behind_case false true None n = refl
behind_case false false None n = refl

-- the innermost one comes after the others
pub bound_index-behind : (bound : List (List ℕ)) (b w : List ℕ) → bound_index (bound ++ b ∷ []) w ≡ cond (is w b) (Some 0) (option_map (λ k. k + 1) (bound_index bound w))
bound_index-behind [] b w = refl
bound_index-behind (x ∷ bound) b w =
    ap (λ o. option_or o (cond (is w x) (Some (length (bound ++ b ∷ []))) None)) (bound_index-behind bound b w)
    ∙ ap (λ n. option_or (cond (is w b) (Some 0) (option_map (λ k. k + 1) (bound_index bound w))) (cond (is w x) (Some n) None)) (length_push bound b)
    ∙ behind_case (is w b) (is w x) (bound_index bound w) (length bound)

-- the innermost one of those that are left
pub bound_index-left : (bound : List (Bor (List ℕ))) (w : List ℕ) (i : ℕ) (d : Bor (List ℕ)) → i < length bound →
    bound_index (names_in (take (length bound - i) bound)) w ≡
    cond (is w (get_or bound (length bound - 1 - i) d).now) (Some 0) (option_map (λ k. k + 1) (bound_index (names_in (take (length bound - (i + 1)) bound)) w))
bound_index-left bound w i d lt =
    let j = length bound - (i + 1) in
    let count : length bound - i ≡ j + 1 = omega arith in
    let index : length bound - 1 - i ≡ j = omega arith in
    ap (λ n. bound_index (names_in (take n bound)) w) count
    ∙ ap (λ ns. bound_index ns w) (map_more (λ (name : Bor (List ℕ)). name.now) bound j d (omega arith))
    ∙ bound_index-behind (names_in (take j bound)) (get_or bound j d).now w
    ∙ ap (λ n. cond (is w (get_or bound n d).now) (Some 0) (option_map (λ k. k + 1) (bound_index (names_in (take j bound)) w))) (sym index)

after_false : (b : Bool) (o : Option ℕ) (i : ℕ) → b ≡ false → option_map (λ k. k + i) (cond b (Some 0) (option_map (λ k. k + 1) o)) ≡ option_map (λ k. k + (i + 1)) o
after_false true o i e = cc
after_false false (Some k) i e = ap Some (omega arith)
after_false false None i e = refl

after_true : (b : Bool) (o : Option ℕ) (i : ℕ) → b ≡ true → option_map (λ k. k + i) (cond b (Some 0) (option_map (λ k. k + 1) o)) ≡ Some i
after_true true o i e = ap Some (omega arith)
after_true false o i e = cc

pub bound_index-passed : (bound : List (Bor (List ℕ))) (w : List ℕ) (i : ℕ) (d : Bor (List ℕ)) → i < length bound → is w (get_or bound (length bound - 1 - i) d).now ≡ false →
    bound_index (names_in bound) w ≡ option_map (λ k. k + i) (bound_index (names_in (take (length bound - i) bound)) w) →
    bound_index (names_in bound) w ≡ option_map (λ k. k + (i + 1)) (bound_index (names_in (take (length bound - (i + 1)) bound)) w)
bound_index-passed bound w i d lt other h =
    h ∙ ap (option_map (λ k. k + i)) (bound_index-left bound w i d lt) ∙ after_false _ _ i other

pub bound_index-met : (bound : List (Bor (List ℕ))) (w : List ℕ) (i : ℕ) (d : Bor (List ℕ)) → i < length bound → is w (get_or bound (length bound - 1 - i) d).now ≡ true →
    bound_index (names_in bound) w ≡ option_map (λ k. k + i) (bound_index (names_in (take (length bound - i) bound)) w) →
    bound_index (names_in bound) w ≡ Some i
bound_index-met bound w i d lt same h =
    h ∙ ap (option_map (λ k. k + i)) (bound_index-left bound w i d lt) ∙ after_true _ _ i same
