-- Riders one by one, by the columns that are stored in on the ways past them.
use Rattle.std.proofs.Common.{◌≡◌, ℕ, zero, suc, ◌+◌, ◌*◌, ◌<◌, ◌≤◌, Bool, true, false, List, [], ◌∷◌, ◌++◌, length, drop, get_or, Some, refl, sym, ap, ap₂, ◌∙◌, append-nil, arith}
use Rattle.std.proofs.Math.Nat.{mul_assoc}
use Rattle.std.proofs.Math.Seq.{drop-cons}
use Rattle.lc_outline_text.specs.declared.riders.Rider.{Rider}
use Rattle.lc_outline.specs.Sizes.{Way, no_way, different, way_count}
use Rattle.lc_outline_text.specs.Paths.{stands, common_way, leaves_choice, branching}
use Rattle.lc_outline_text.proofs.Counting.{product_capped}
use Rattle.lc_outline_text.proofs.Different.{same_different}
use Rattle.lc_outline_text.proofs.Paths.{same_paths, set_apart}
use Rattle.lc_outline_text.specs.StoredView.{none_stored, ways_of_deed, ways_of_rider, ways_of_riders}
use Rattle.lc_outline_text.specs.Views.{capped, count_cap}

-- ---- one rider after another

pub next_rider : (rs : List Rider) (i : ℕ) (r : Rider) → i < length rs → r ≡ get_or rs i r → ways_of_riders (drop i rs) ≡ ways_of_rider r ∷ ways_of_riders (drop (i + 1) rs)
next_rider rs i r below is =
    let step : suc i ≡ i + 1 = omega arith in
    ap ways_of_riders (drop-cons rs i r below ∙ ap₂ (λ x k. x ∷ drop k rs) (sym is) step)

-- ---- how many paths there are

pub number_next : (n new l p q all : ℕ) → new ≡ capped (n * l) → p ≡ l * q → capped (n * p) ≡ capped all → capped (new * q) ≡ capped all
number_next n new l p q all is split whole = ap (λ m. capped (m * q)) is ∙ product_capped (n * l) q ∙ ap capped (mul_assoc n l q) ∙ ap (λ m. capped (n * m)) (sym split) ∙ whole

-- ---- riders that leave a choice

pub choice_left : (ws : List Way) → (length ws ≡ 1 → ⊥) → leaves_choice ws ≡ true
choice_left [] h = refl
choice_left (w ∷ []) h = absurd (h refl)
choice_left (v ∷ w ∷ ws) h = refl

pub none_left : (ws : List Way) → length ws ≡ 1 → leaves_choice ws ≡ false
none_left [] h = absurd (omega (arith, h))
none_left (w ∷ []) h = refl
none_left (v ∷ w ∷ ws) h = absurd (omega (arith, h))

-- ---- the way at a place

no_more : (b : Bool) (j : ℕ) → get_or (none_stored b) j no_way ≡ no_way
no_more true zero = refl
no_more true (suc j) = refl
no_more false j = refl

-- on the way on which a rider's condition does not hold nothing is done
get_joined : (xs ys : List Way) (k : ℕ) → ((j : ℕ) → get_or ys j no_way ≡ no_way) → get_or (xs ++ ys) k no_way ≡ get_or xs k no_way
get_joined [] ys k all = all k
get_joined (x ∷ xs) ys zero all = refl
get_joined (x ∷ xs) ys (suc k) all = get_joined xs ys k all

pub deed_at : (r : Rider) (k : ℕ) → get_or (ways_of_rider r) k no_way ≡ get_or (ways_of_deed r.deed) k no_way
deed_at r k = get_joined (ways_of_deed r.deed) (none_stored r.is_conditional) k (no_more r.is_conditional)

-- some paths go on
pub some_left : (l q : ℕ) → 1 ≤ l * q → 1 ≤ q
some_left l zero h = absurd (omega (arith, h))
some_left l (suc q) h = omega arith

-- ---- the conditions of a path, and of all

pub next_path : (count s more new : ℕ) → count ≡ capped s → new ≡ capped (count + more) → new ≡ capped (s + more)
next_path count s more new h g = omega (arith, h, g)

pub past_cap : (count s all : ℕ) → count_cap ≤ count → count ≡ capped s → s ≤ all → count_cap ≡ capped all
past_cap count s all h g few = omega (arith, h, g, few)

-- as many as there are columns on it, and two more than are asked
pub told_on : (listed columns more : List ℕ) (asked way n stored count : ℕ) → stands listed ≡ stands (columns ++ more) → n ≡ different listed → stored ≡ 1 + n → count ≡ (asked + way) + stored
    → count ≡ way_count (Some []) [] (asked + way) (columns ++ more)
told_on listed columns more asked way n stored count h g k is =
    let same : different listed ≡ different ((columns ++ more) ++ []) = same_different listed (columns ++ more) h ∙ ap different (sym (append-nil (columns ++ more))) in
    omega (arith, g, k, is, same)

-- what is common to all paths is counted apart from the riders that leave a choice
pub told_apart : (action columns stored : List ℕ) (rs those : List (List Way)) (before asked : ℕ) → asked ≡ before + (common_way rs).asked → stands stored ≡ stands ((columns ++ action) ++ (common_way rs).columns) → those ≡ branching rs
    → way_count (Some []) those asked stored ≡ way_count (Some action) rs before columns
told_apart action columns stored rs those before asked is h same =
    let rest = branching rs in
    let all = (columns ++ action) ++ (common_way rs).columns in
    ap (λ l. way_count (Some []) l asked stored) same
    ∙ same_paths [] [] rest rest refl asked (before + (common_way rs).asked) stored all is (ap stands (append-nil stored) ∙ h ∙ ap stands (sym (append-nil all)))
    ∙ sym (set_apart [] rs before (columns ++ action))
    ∙ same_paths [] action rs rs refl before before (columns ++ action) columns refl (ap stands (append-nil (columns ++ action)))
