-- What stays of names by their numbers when one more is entered.
use Rattle.std.proofs.Common.{◌≡◌, ℕ, zero, suc, ◌<◌, true, List, [], ◌∷◌, ◌++◌, Some, None, Ok, Err, refl, sym, ap, ◌∙◌, cond, arith}
use Rattle.std.proofs.lemmas.Bool.{and_parts, ltb-true, lt-ltb}
use Rattle.std.proofs.lemmas.List.{map-append, length-map, length-append}
use Rattle.std.proofs.lemmas.List.Quantifiers.{position-Some}
use Rattle.std.specs.Borrow.{Bor}
use Rattle.std.specs.Option.{option_or}
use Rattle.std.specs.Map.{keys_of}
use Rattle.std.specs.Prelude.{length, nat_lt, ◌&&◌, position, get_or, Result, IfOk}
use Rattle.lc_reading.specs.Words.{is}
use Rattle.lc_reading.specs.Entries.{name_at, names_at, are_within}
use Rattle.lc_reading.specs.Listed.{place_of}
use Rattle.lc_reading.proofs.Places.{place_of_last}
use Rattle.lc_reading.proofs.Words.{is-true}

-- an entry keeps its name
name_at-kept : (es fs : List (Bor (List ℕ) × ℕ)) (k : ℕ) → k < length es → name_at (es ++ fs) k ≡ name_at es k
name_at-kept [] fs k h = absurd (omega (arith, h))
name_at-kept (e ∷ es) fs zero h = refl
name_at-kept (e ∷ es) fs (suc k) h = name_at-kept es fs k (omega (arith, h))

-- the one more has the last number
pub name_at-last : (es : List (Bor (List ℕ) × ℕ)) (n : Bor (List ℕ)) (p : ℕ) → name_at (es ++ (n, p) ∷ []) (length es) ≡ n.now
name_at-last [] n p = refl
name_at-last (e ∷ es) n p = name_at-last es n p

-- entries keep their names
pub names_at-kept : (es fs : List (Bor (List ℕ) × ℕ)) (ks : List ℕ) → are_within es ks ≡ true → names_at (es ++ fs) ks ≡ names_at es ks
names_at-kept es fs [] h = refl
names_at-kept es fs (k ∷ ks) h =
    let p = and_parts _ (are_within es ks) h in
    ap (λ n. n ∷ names_at (es ++ fs) ks) (name_at-kept es fs k (ltb-true k (length es) p.0)) ∙ ap (λ ns. name_at es k ∷ ns) (names_at-kept es fs ks p.1)

below_more : (es fs : List (Bor (List ℕ) × ℕ)) (k : ℕ) → nat_lt k (length es) ≡ true → nat_lt k (length (es ++ fs)) ≡ true
below_more es fs k h = lt-ltb k (length (es ++ fs)) (omega (arith, ltb-true k (length es) h, length-append es fs))

-- and their numbers
pub are_within-kept : (es fs : List (Bor (List ℕ) × ℕ)) (ks : List ℕ) → are_within es ks ≡ true → are_within (es ++ fs) ks ≡ true
are_within-kept es fs [] h = refl
are_within-kept es fs (k ∷ ks) h =
    let p = and_parts _ (are_within es ks) h in
    ap (λ b. b && are_within (es ++ fs) ks) (below_more es fs k p.0) ∙ are_within-kept es fs ks p.1

-- one name more
pub names_at-last : (es : List (Bor (List ℕ) × ℕ)) (ks : List ℕ) (k : ℕ) → names_at es (ks ++ k ∷ []) ≡ names_at es ks ++ name_at es k ∷ []
names_at-last es ks k = map-append (name_at es) ks (k ∷ [])

-- one number more
pub are_within-last : (es : List (Bor (List ℕ) × ℕ)) (ks : List ℕ) (k : ℕ) → are_within es ks ≡ true → k < length es → are_within es (ks ++ k ∷ []) ≡ true
are_within-last es [] k h low = ap (λ b. b && true) (lt-ltb k (length es) low)
are_within-last es (j ∷ ks) k h low =
    let p = and_parts _ (are_within es ks) h in
    ap (λ b. b && are_within es (ks ++ k ∷ [])) p.0 ∙ are_within-last es ks k p.1 low

-- one name more, by the number of its entry, and its first place
pub place_of_entered : (old new : List (Bor (List ℕ) × ℕ)) (ks : List ℕ) (k : ℕ) (name w : List ℕ) → names_at new ks ≡ names_at old ks → name_at new k ≡ name
    → option_or (place_of (names_at old ks) w) (cond (is w name) (Some (length ks)) None) ≡ place_of (names_at new (ks ++ k ∷ [])) w
place_of_entered old new ks k name w kept named =
    ap (λ n. option_or (place_of (names_at old ks) w) (cond (is w name) (Some n) None)) (sym (length-map ks (name_at old)))
    ∙ sym (place_of_last (names_at old ks) name w)
    ∙ ap (λ ns. place_of ns w) (sym (names_at-last new ks k ∙ ap (λ ns. ns ++ name_at new k ∷ []) kept ∙ ap (λ n. names_at old ks ++ n ∷ []) named))

name_at-key : (es : List (Bor (List ℕ) × ℕ)) (k : ℕ) (d : Bor (List ℕ)) → k < length (keys_of es) → name_at es k ≡ (get_or (keys_of es) k d).now
name_at-key [] k d h = absurd (omega (arith, h))
name_at-key (e ∷ es) zero d h = refl
name_at-key (e ∷ es) (suc k) d h = name_at-key es k d (omega (arith, h))

found_name : (es : List (Bor (List ℕ) × ℕ)) (n : Bor (List ℕ)) (k : ℕ) → position (λ (m : Bor (List ℕ)). is n.now m.now) (keys_of es) ≡ Some k → name_at es k ≡ n.now
found_name es n k h =
    let p = position-Some (λ (m : Bor (List ℕ)). is n.now m.now) (keys_of es) k n h in
    name_at-key es k n p.0 ∙ sym (is-true n.now _ p.1)

-- what is found has the name that was sought
pub name_at_found : {E : Type 0} (es : List (Bor (List ℕ) × ℕ)) (n : Bor (List ℕ)) (k : ℕ) (r : Result ℕ E) → position (λ (m : Bor (List ℕ)). is n.now m.now) (keys_of es) ≡ Some k
    → IfOk r (λ i. i ≡ k) → IfOk r (λ i. name_at es i ≡ n.now)
name_at_found es n k (Ok i) h same = ap (name_at es) same ∙ found_name es n k h
name_at_found es n k (Err fault) h same = same
