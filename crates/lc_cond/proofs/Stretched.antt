-- Stretches of the conjuncts that are asked to stay, and the conditions that come of them.
use Rattle.std.proofs.Common.{◌≡◌, ℕ, zero, suc, ◌+◌, ◌*◌, ◌-◌, ◌/◌, ◌<◌, ◌≤◌, Option, Some, None, List, [], ◌∷◌, ◌++◌, length, take, drop, slice_get, refl, sym, ap, ◌∙◌, subst, arith, add-zero, append_assoc}
use Rattle.std.specs.Prelude.{min}
use Rattle.std.proofs.Math.Nat.{lt-div-mul-add, div-mul-le_self, mul-le-mul_right, suc-mul, add-mul}
use Rattle.std.proofs.Math.Seq.{take-length}
use Rattle.std.proofs.lemmas.List.{length-drop, length-map, length-take-le, take-append-drop, drop-map}
use Rattle.lc_lemmas.proofs.Lists.{kept_left}
use Rattle.lc_base.specs.Limits.{condition_limit}
use Rattle.lc_term.specs.Lists.{Every, numbered, concat_places}
use Rattle.lc_term.specs.Syntax.{Formula}
use Rattle.lc_table.specs.NodeTables.{Table}
use Rattle.lc_table.specs.Tables.{formula_in, AreFormulas}
use Rattle.lc_table.specs.declared.node.FormulaId.{FormulaId}
use Rattle.lc_object.specs.Syntax as O
use Rattle.lc_object.specs.WellFormed.{variable_count}
use Rattle.lc_outline.specs.Development.{Development, first_system, invariant_of, all_actions, asserts_at, in_body, in_operation}
use Rattle.lc_outline.specs.Resolved.{IsResolved}
use Rattle.lc_cond.specs.Adding.{HasFormulas, Adds}
use Rattle.lc_cond.specs.Conditions as S
use Rattle.lc_cond.specs.Conditions.{body_frame, idle_frame, stable_under, stable_conditions, point_stability, idle_stability}
use Rattle.lc_cond.specs.Numbering.{AddsWith}
use Rattle.lc_cond.specs.Stretches.{IsWithin, stretch_of, stable_from, stable_stretch, point_stretch, idle_stretch}
use Rattle.lc_cond.specs.declared.condition.Condition.{Condition}
use Rattle.lc_cond.specs.declared.stretch.Stretch.{Stretch}
use Rattle.lc_cond.proofs.Adding.{first_formulas}
use Rattle.lc_cond.proofs.Sized.{stable_from_length, stable_length}
use Rattle.lc_term.proofs.Lists.{Every-take}

-- ---- the stretch that has a place

-- if each of some has as many places, it is one of them that has a place
pub conjunct_below : (place count each : ℕ) → place < count * each → place / each < count
conjunct_below place count each lt = by (count - place / each) refl
  where
    by : (m : ℕ) → count - place / each ≡ m → place / each < count
    by zero e =
        let most : count ≤ place / each = omega (arith, e) in
        let here = mul-le-mul_right each most in
        let low = div-mul-le_self place each in
        absurd (omega (arith, here, low, lt))
    by (suc m) e = omega (arith, e)

-- the stretch of that one has the place
pub stretch_has : (count each place conjunct size more : ℕ) → 1 ≤ each → 1 ≤ size → conjunct ≡ place / each → place / each < count → more ≡ min size (count - conjunct / size * size) →
    (conjunct / size * size * each ≤ place) × (place < (conjunct / size * size + more) * each)
stretch_has count each place conjunct size more some least is below far =
    let from = conjunct / size * size in
    let low : from ≤ conjunct = div-mul-le_self conjunct size in
    let high : conjunct < from + size = lt-div-mul-add (omega (arith, least)) in
    let within : suc conjunct ≤ from + more = omega (arith, far, low, high, is, below) in
    let before = mul-le-mul_right each low in
    let behind = mul-le-mul_right each within in
    let one = suc-mul conjunct each in
    let same : conjunct * each ≡ place / each * each = ap (λ q. q * each) is in
    let least_place : place / each * each ≤ place = div-mul-le_self place each in
    let most_place : place < place / each * each + each = lt-div-mul-add (omega (arith, some)) in
    (omega (arith, before, same, least_place), omega (arith, behind, one, same, most_place))

-- ---- what comes of a stretch

pub nothing_asked : {A : Type 0} (s : Stretch) (xs : List A) → s.from ≡ s.to → stretch_of s xs ≡ []
nothing_asked s xs none = (let zero : s.to - s.from ≡ 0 = omega (arith, none) in ap (λ n. take n (drop s.from xs)) zero)

-- what comes of some, and of others after them
places_both : {A B : Type 0} (f : ℕ → A → List B) (k : ℕ) (xs ys : List A) → concat_places f k (xs ++ ys) ≡ concat_places f k xs ++ concat_places f (k + length xs) ys
places_both f k [] ys = ap (λ n. concat_places f n ys) (sym (add-zero k))
places_both f k (x ∷ xs) ys =
    let e : suc k + length xs ≡ k + length (x ∷ xs) = omega arith in
    ap (λ l. f k x ++ l) (places_both f (suc k) xs ys ∙ ap (λ n. concat_places f (suc k) xs ++ concat_places f n ys) e)
    ∙ sym (append_assoc (f k x) (concat_places f (suc k) xs) (concat_places f (k + length (x ∷ xs)) ys))

pub stands_behind : {A : Type 0} (xs ys : List A) (j : ℕ) (x : A) → slice_get ys j ≡ Some x → slice_get (xs ++ ys) (length xs + j) ≡ Some x
stands_behind [] ys j x h = (let e : 0 + j ≡ j = omega arith in ap (slice_get ys) e ∙ h)
stands_behind (y ∷ xs) ys j x h = (let e : suc (length xs) + j ≡ suc (length xs + j) = omega arith in ap (slice_get (y ∷ (xs ++ ys))) e ∙ stands_behind xs ys j x h)

module _ {A : Type 0} (xs : List A) (s : Stretch) (h : IsWithin (length xs) s) where
  split : xs ≡ take s.from xs ++ (stretch_of s xs ++ drop (s.to - s.from) (drop s.from xs))
  split = sym (ap (λ l. take s.from xs ++ l) (take-append-drop (s.to - s.from) (drop s.from xs)) ∙ take-append-drop s.from xs)

  before_length : length (take s.from xs) ≡ s.from
  before_length = (let a = h.order in let b = h.few in length-take-le s.from xs (omega (arith, a, b)))

  pub stretch_length : length (stretch_of s xs) ≡ s.to - s.from
  stretch_length = (let d = length-drop s.from xs in let a = h.order in let b = h.few in length-take-le (s.to - s.from) (drop s.from xs) (omega (arith, d, a, b)))

  module _ {B : Type 0} (f : ℕ → A → List B) (each : ℕ) (alike : (k : ℕ) (l : List A) → length (concat_places f k l) ≡ length l * each) where
    -- it is after what comes of those before it
    stretch_at : (j : ℕ) (x : B) → slice_get (concat_places f s.from (stretch_of s xs)) j ≡ Some x → slice_get (concat_places f 0 xs) (s.from * each + j) ≡ Some x
    stretch_at j x at =
        let before = take s.from xs in
        let rest = drop (s.to - s.from) (drop s.from xs) in
        let place : 0 + length before ≡ s.from = (let e = before_length in omega (arith, e)) in
        let size : length (concat_places f 0 before) ≡ s.from * each = alike 0 before ∙ ap (λ n. n * each) before_length in
        let all = ap (concat_places f 0) split ∙ places_both f 0 before (stretch_of s xs ++ rest)
        ∙ ap (λ n. concat_places f 0 before ++ concat_places f n (stretch_of s xs ++ rest)) place
        ∙ ap (λ l. concat_places f 0 before ++ l) (places_both f s.from (stretch_of s xs) rest) in
        let there = stands_behind (concat_places f 0 before) _ j x (kept_left (concat_places f s.from (stretch_of s xs)) (concat_places f (s.from + length (stretch_of s xs)) rest) j x at) in
        ap (λ l. slice_get l (s.from * each + j)) all ∙ subst (λ n. slice_get (concat_places f 0 before ++ (concat_places f s.from (stretch_of s xs) ++ concat_places f (s.from + length (stretch_of s xs)) rest)) (n + j) ≡ Some x) size there

    stretch_ends : s.from * each + length (concat_places f s.from (stretch_of s xs)) ≡ s.to * each
    stretch_ends =
        let size : length (concat_places f s.from (stretch_of s xs)) ≡ (s.to - s.from) * each = alike s.from (stretch_of s xs) ∙ ap (λ n. n * each) stretch_length in
        let both = add-mul s.from (s.to - s.from) each in
        let a = h.order in
        let whole : s.from + (s.to - s.from) ≡ s.to = omega (arith, a) in
        let same = ap (λ n. n * each) whole in
        omega (arith, size, both, same)

-- all of them
all_stretch : {A : Type 0} (xs : List A) → take (length xs - 0) xs ≡ xs
all_stretch xs = (let e : length xs - 0 ≡ length xs = omega arith in ap (λ n. take n xs) e ∙ take-length xs)

-- ---- conditions

-- as many as they say
pub formulas_length : (ts : Table) (ks : List FormulaId) (fs : List Formula) → HasFormulas ts ks fs → length ks ≡ length fs
formulas_length ts ks fs h = sym (length-map ks (formula_in ts)) ∙ ap length h.trees

rest_are : (ts : Table) (ks : List FormulaId) (n : ℕ) → AreFormulas ts ks → AreFormulas ts (drop n ks)
rest_are ts ks zero h = h
rest_are ts [] (suc n) h = tt
rest_are ts (k ∷ ks) (suc n) h = rest_are ts ks n h.1

-- the numbers of a stretch of formulas
pub stretch_formulas : (ts : Table) (ks : List FormulaId) (fs : List Formula) (s : Stretch) → HasFormulas ts ks fs → HasFormulas ts (stretch_of s ks) (stretch_of s fs)
stretch_formulas ts ks fs s h =
    first_formulas ts (drop s.from ks) (drop s.from fs) (s.to - s.from)
    (record { are = rest_are ts ks s.from h.are; trees = sym (drop-map (formula_in ts) s.from ks) ∙ ap (drop s.from) h.trees })

every_behind : {A : Type 0} (P : A → Type 0) (n : ℕ) (xs : List A) → Every P xs → Every P (drop n xs)
every_behind P zero xs h = h
every_behind P (suc n) [] h = tt
every_behind P (suc n) (x ∷ xs) h = every_behind P n xs h.1

-- what holds of each holds of each in a stretch
pub stretch_every : {A : Type 0} (P : A → Type 0) (s : Stretch) (xs : List A) → Every P xs → Every P (stretch_of s xs)
stretch_every P s xs h = Every-take P (s.to - s.from) (drop s.from xs) (every_behind P s.from xs h)

-- of all conjuncts, `count` of them
abbrev pub whole : ℕ → Stretch
whole count = record { from = 0; to = count }

whole_stretch : (D : Development) (point : Option ℕ) (n : ℕ) (frame asserts : List Formula) (s : Stretch) → s ≡ whole (length asserts) → stable_stretch D point n frame asserts s ≡ stable_conditions D point n frame asserts
whole_stretch D point n frame asserts s is =
    ap (stable_stretch D point n frame asserts) is ∙ ap (stable_from D point n (frame ++ (invariant_of D ++ asserts)) 0) (all_stretch asserts)

pub whole_within : (count : ℕ) (s : Stretch) → s ≡ whole count → IsWithin count s
whole_within count s is = (let W : Stretch → Type 0 = IsWithin count in subst W (sym is) (record { order = omega arith; few = omega arith }))

pub whole_point : (D : Development) (p : ℕ) (point : O.Point) (s : Stretch) → s ≡ whole (length (asserts_at D p)) → point_stretch D p point s ≡ point_stability D p point
whole_point D p point s is =
    λ i. in_body D.object (λ o operation. whole_stretch D (Some p) (variable_count operation) (body_frame (first_system D) o (length operation.arguments)) (asserts_at D p) s is i) (Some point)

pub whole_idle : (D : Development) (s : Stretch) → s ≡ whole (length D.idle) → idle_stretch D s ≡ idle_stability D
whole_idle D s is = whole_stretch D None 2 (idle_frame (first_system D)) D.idle s is

-- of a stretch that has a place
module _ (D : Development) (R : IsResolved D) (before : List Condition) (ts : Table) (now : List Condition) (place first : ℕ) (s : Stretch) where
  abbrev each : ℕ
  each = length D.actions + 2

  abbrev Has : ℕ → Type 0
  Has count = place < count * each → (s.from * each ≤ place) × (place < s.to * each)

  stretch_few : (count : ℕ) → IsWithin count s → count * each ≤ condition_limit → first ≡ s.from * each → first ≤ condition_limit
  stretch_few count h few is =
      let a = h.order in
      let b = h.few in
      let below : s.from ≤ count = omega (arith, a, b) in
      let less = mul-le-mul_right each below in
      omega (arith, less, few, is)

  stretch_adds : (point : Option ℕ) (n : ℕ) (frame asserts : List Formula) → IsWithin (length asserts) s → length asserts * each ≤ condition_limit → first ≡ s.from * each → Has (length asserts)
      → Adds before ts now (stable_stretch D point n frame asserts s) → AddsWith before ts now (stable_conditions D point n frame asserts) place first
  stretch_adds point n frame asserts h few is has adds =
      let hs = frame ++ (invariant_of D ++ asserts) in
      let f = λ (j : ℕ) (g : Formula). numbered (stable_under D point n hs j g) 0 (all_actions D) in
      let alike = λ (k : ℕ) (l : List Formula). stable_from_length D R point n hs k l in
      let size = stable_length D R point n frame asserts in
      let ends = stretch_ends asserts s h f each alike in
      record {
        some = stable_stretch D point n frame asserts s;
        adds = adds;
        stand = λ j x at. ap (λ m. slice_get (stable_conditions D point n frame asserts) (m + j)) is ∙ stretch_at asserts s h f each alike j x at;
        has = λ lt. (let found = has (omega (arith, lt, size)) in
            let low = found.0 in
            let high = found.1 in
            (omega (arith, low, is), omega (arith, high, is, ends)));
        few = stretch_few (length asserts) h few is;
      }

  pub point_adds : (p : ℕ) (point : O.Point) → IsWithin (length (asserts_at D p)) s → length (asserts_at D p) * each ≤ condition_limit → first ≡ s.from * each → Has (length (asserts_at D p))
      → Adds before ts now (point_stretch D p point s) → AddsWith before ts now (point_stability D p point) place first
  point_adds p point h few is has adds = of (slice_get D.object.operations point.operation) adds
    where
      of : (x : Option O.Operation)
          → Adds before ts now (in_operation (λ o operation. stable_stretch D (Some p) (variable_count operation) (body_frame (first_system D) o (length operation.arguments)) (asserts_at D p) s) point.operation x)
          → AddsWith before ts now (in_operation (λ o operation. stable_conditions D (Some p) (variable_count operation) (body_frame (first_system D) o (length operation.arguments)) (asserts_at D p)) point.operation x) place first
      of None given = record { some = []; adds = given; stand = λ j x at. cc; has = λ lt. absurd (omega (arith, lt)); few = stretch_few (length (asserts_at D p)) h few is }
      of (Some o) given = stretch_adds (Some p) (variable_count o) (body_frame (first_system D) point.operation (length o.arguments)) (asserts_at D p) h few is has given

  pub idle_adds : IsWithin (length D.idle) s → length D.idle * each ≤ condition_limit → first ≡ s.from * each → Has (length D.idle) → Adds before ts now (idle_stretch D s) → AddsWith before ts now (idle_stability D) place first
  idle_adds h few is has adds = stretch_adds None 2 (idle_frame (first_system D)) D.idle h few is has adds

-- of all of a part
pub all_adds : (before : List Condition) (ts : Table) (now : List Condition) (cs : List S.Condition) (place : ℕ) → Adds before ts now cs → AddsWith before ts now cs place 0
all_adds before ts now cs place adds = record {
  some = cs;
  adds = adds;
  stand = λ j x at. (let e : 0 + j ≡ j = omega arith in ap (slice_get cs) e ∙ at);
  has = λ lt. (omega arith, omega (arith, lt));
  few = omega arith;
}
