-- The conditions of paths, path by path.
use Rattle.std.proofs.Common.{◌≡◌, ℕ, zero, suc, ◌+◌, ◌*◌, ◌/◌, ◌%◌, ◌-◌, ◌<◌, ◌≤◌, List, [], ◌∷◌, ◌++◌, map, length, get_or, take, append-nil, append_assoc, Some, refl, sym, ap, ap₂, ◌∙◌, subst, arith}
use Rattle.std.specs.Prelude.{sum_by}
use Rattle.std.proofs.Math.Nat.{mul_comm}
use Rattle.std.proofs.lemmas.Nat.{mod-mul-add, div-mul-add}
use Rattle.std.proofs.lemmas.List.{take_more, take_all}
use Rattle.std.proofs.lemmas.List.Sums.{sum_by-cons, sum_by_push}
use Rattle.lc_outline.specs.Sizes.{Way, no_way, way_count}
use Rattle.lc_outline_text.specs.Paths.{stands, way_kept, ways_kept, path_number, path_at, common_way, branching}
use Rattle.lc_outline_text.proofs.Different.{same_different, stands_swapped, joined_alike}

-- ---- it is enough to know what is in the columns

-- the conditions of paths that go on by a way
abbrev by_way : List ℕ → List (List Way) → ℕ → List ℕ → Way → ℕ
by_way action riders asked columns way = way_count (Some action) riders (asked + way.asked) (columns ++ way.columns)

-- a list after both, and the actions' after it
behind_both : (xs ys action acted us vs : List ℕ) → stands (xs ++ action) ≡ stands (ys ++ acted) → stands us ≡ stands vs → stands ((xs ++ us) ++ action) ≡ stands ((ys ++ vs) ++ acted)
behind_both xs ys action acted us vs h g =
    moved xs us action ∙ joined_alike us vs (xs ++ action) (ys ++ acted) g h ∙ sym (moved ys vs acted) where
      moved : (ks ls ms : List ℕ) → stands ((ks ++ ls) ++ ms) ≡ stands (ls ++ (ks ++ ms))
      moved ks ls ms = joined_alike (ks ++ ls) (ls ++ ks) ms ms (stands_swapped ks ls) refl ∙ ap stands (append_assoc ls ks ms)

-- paths that go on past these riders, if as much is asked and is stored in the same columns
abbrev GoAlike : List ℕ → List ℕ → List (List Way) → List (List Way) → Type 0
GoAlike action acted rs qs =
    (asked more : ℕ) (xs ys : List ℕ) → asked ≡ more → stands (xs ++ action) ≡ stands (ys ++ acted) → way_count (Some action) rs asked xs ≡ way_count (Some acted) qs more ys

each_alike : (action acted : List ℕ) (rs qs : List (List Way)) → GoAlike action acted rs qs → (asked more : ℕ) (xs ys : List ℕ) → asked ≡ more → stands (xs ++ action) ≡ stands (ys ++ acted)
    → (ws vs : List Way) → ways_kept ws ≡ ways_kept vs → sum_by (by_way action rs asked xs) ws ≡ sum_by (by_way acted qs more ys) vs
each_alike action acted rs qs go asked more xs ys f h [] [] g = refl
each_alike action acted rs qs go asked more xs ys f h [] (v ∷ vs) g = absurd (cc)
each_alike action acted rs qs go asked more xs ys f h (w ∷ ws) [] g = absurd (cc)
each_alike action acted rs qs go asked more xs ys f h (w ∷ ws) (v ∷ vs) g =
    let same : way_kept w ≡ way_kept v = cc in
    let asks : w.asked ≡ v.asked = ap (λ p. p.0) same in
    let stores : stands w.columns ≡ stands v.columns = ap (λ p. p.1) same in
    let first = go (asked + w.asked) (more + v.asked) (xs ++ w.columns) (ys ++ v.columns) (ap₂ (λ n m. n + m) f asks) (behind_both xs ys action acted w.columns v.columns h stores) in
    sum_by-cons (by_way action rs asked xs) w ws ∙ ap₂ (λ n m. n + m) first (each_alike action acted rs qs go asked more xs ys f h ws vs (cc)) ∙ sym (sum_by-cons (by_way acted qs more ys) v vs)

-- riders whose ways ask as much and store in the same columns
pub same_paths : (action acted : List ℕ) (rs qs : List (List Way)) → map ways_kept rs ≡ map ways_kept qs → GoAlike action acted rs qs
same_paths action acted [] [] e asked more xs ys f h = ap₂ (λ n m. n + suc m) f (same_different (xs ++ action) (ys ++ acted) h)
same_paths action acted [] (vs ∷ qs) e asked more xs ys f h = absurd (cc)
same_paths action acted (ws ∷ rs) [] e asked more xs ys f h = absurd (cc)
same_paths action acted (ws ∷ rs) (vs ∷ qs) e asked more xs ys f h = each_alike action acted rs qs (same_paths action acted rs qs (cc)) asked more xs ys f h ws vs (cc)

-- ---- riders that leave no choice

same_number : (asked n m : ℕ) → (asked + n) + m ≡ asked + (n + m)
same_number asked n m = omega arith

one_of : (f : Way → ℕ) (w : Way) → sum_by f (w ∷ []) ≡ f w
one_of f w = let e = sum_by-cons f w [] in omega (arith, e)

-- what is common to all paths may be done before a way
each_apart : (action : List ℕ) (rs : List (List Way))
    → ((asked : ℕ) (xs : List ℕ) → way_count (Some action) rs asked xs ≡ way_count (Some action) (branching rs) (asked + (common_way rs).asked) (xs ++ (common_way rs).columns))
    → (asked : ℕ) (xs : List ℕ) (ws : List Way) → sum_by (by_way action rs asked xs) ws ≡ sum_by (by_way action (branching rs) (asked + (0 + (common_way rs).asked)) (xs ++ (common_way rs).columns)) ws
each_apart action rs apart asked xs [] = refl
each_apart action rs apart asked xs (w ∷ ws) =
    sum_by-cons (by_way action rs asked xs) w ws ∙ ap₂ (λ n m. n + m) (apart (asked + w.asked) (xs ++ w.columns) ∙ one) (each_apart action rs apart asked xs ws)
    ∙ sym (sum_by-cons (by_way action (branching rs) (asked + (0 + common.asked)) (xs ++ common.columns)) w ws) where
      common : Way
      common = common_way rs

      one : way_count (Some action) (branching rs) ((asked + w.asked) + common.asked) ((xs ++ w.columns) ++ common.columns) ≡ by_way action (branching rs) (asked + (0 + common.asked)) (xs ++ common.columns) w
      one =
          same_paths action action (branching rs) (branching rs) refl ((asked + w.asked) + common.asked) ((asked + (0 + common.asked)) + w.asked) ((xs ++ w.columns) ++ common.columns) ((xs ++ common.columns) ++ w.columns) (omega arith)
          (ap (λ cs. stands (cs ++ action)) (append_assoc xs w.columns common.columns)
          ∙ joined_alike (xs ++ (w.columns ++ common.columns)) (xs ++ (common.columns ++ w.columns)) action action
          (joined_alike xs xs (w.columns ++ common.columns) (common.columns ++ w.columns) refl (stands_swapped w.columns common.columns)) refl
          ∙ ap (λ cs. stands (cs ++ action)) (sym (append_assoc xs common.columns w.columns)))

pub set_apart : (action : List ℕ) (rs : List (List Way)) (asked : ℕ) (xs : List ℕ) → way_count (Some action) rs asked xs
    ≡ way_count (Some action) (branching rs) (asked + (common_way rs).asked) (xs ++ (common_way rs).columns)
set_apart action [] asked xs = ap₂ (λ n cs. way_count (Some action) [] n cs) (omega arith) (sym (append-nil xs))
set_apart action ((w ∷ []) ∷ rs) asked xs =
    one_of (by_way action rs asked xs) w ∙ set_apart action rs (asked + w.asked) (xs ++ w.columns)
    ∙ ap₂ (way_count (Some action) (branching rs)) (same_number asked w.asked (common_way rs).asked) (append_assoc xs w.columns (common_way rs).columns)
set_apart action ([] ∷ rs) asked xs = refl
set_apart action ((v ∷ w ∷ ws) ∷ rs) asked xs = each_apart action rs (set_apart action rs) asked xs (v ∷ w ∷ ws)

pub number_apart : (rs : List (List Way)) → path_number (branching rs) ≡ path_number rs
number_apart [] = refl
number_apart ([] ∷ rs) = ap (λ n. 0 * n) (number_apart rs)
number_apart ((w ∷ []) ∷ rs) = let e = number_apart rs in omega (arith, e)
number_apart ((v ∷ w ∷ ws) ∷ rs) = ap (λ n. length (v ∷ w ∷ ws) * n) (number_apart rs)

-- ---- paths by their numbers

-- the sum of what is below
abbrev pub sum_below : (ℕ → ℕ) → ℕ → ℕ
sum_below f zero = 0
sum_below f (suc n) = sum_below f n + f n

-- the conditions of one path
abbrev pub on_path : List ℕ → List (List Way) → ℕ → List ℕ → ℕ → ℕ
on_path action riders asked columns n = way_count (Some action) [] (asked + (path_at riders n).asked) (columns ++ (path_at riders n).columns)

below_alike : (f g : ℕ → ℕ) (n : ℕ) → ((k : ℕ) → f k ≡ g k) → sum_below f n ≡ sum_below g n
below_alike f g zero h = refl
below_alike f g (suc n) h = ap₂ (λ a b. a + b) (below_alike f g n h) (h n)

below_joined : (f : ℕ → ℕ) (n m : ℕ) → sum_below f (n + m) ≡ sum_below f n + sum_below (λ k. f (n + k)) m
below_joined f n zero = let e : n + 0 ≡ n = omega arith in let s = ap (sum_below f) e in omega (arith, s)
below_joined f n (suc m) =
    let e : n + suc m ≡ suc (n + m) = omega arith in
    let s : sum_below f (n + suc m) ≡ sum_below f (n + m) + f (n + m) = ap (sum_below f) e in
    let rest = below_joined f n m in
    omega (arith, s, rest)

sums_joined : (f g : Way → ℕ) (ws : List Way) → sum_by (λ w. f w + g w) ws ≡ sum_by f ws + sum_by g ws
sums_joined f g [] = refl
sums_joined f g (w ∷ ws) =
    let a = sum_by-cons (λ (w : Way). f w + g w) w ws in
    let b = sum_by-cons f w ws in
    let c = sum_by-cons g w ws in
    let rest = sums_joined f g ws in
    omega (arith, a, b, c, rest)

-- the sum over a list, place by place
by_places : (f : Way → ℕ) (ws : List Way) (n : ℕ) → n ≤ length ws → sum_below (λ k. f (get_or ws k no_way)) n ≡ sum_by f (take n ws)
by_places f ws zero h = refl
by_places f ws (suc n) h =
    let e : n + 1 ≡ suc n = omega arith in
    let more : take (suc n) ws ≡ take n ws ++ get_or ws n no_way ∷ [] = ap (λ k. take k ws) (sym e) ∙ take_more ws n no_way (omega (arith, h)) in
    let sum = ap (sum_by f) more ∙ sum_by_push f (take n ws) (get_or ws n no_way) in
    let rest = by_places f ws n (omega (arith, h)) in
    omega (arith, sum, rest)

places_of : (f : Way → ℕ) (ws : List Way) → sum_below (λ k. f (get_or ws k no_way)) (length ws) ≡ sum_by f ws
places_of f ws = by_places f ws (length ws) (omega arith) ∙ ap (sum_by f) (take_all (length ws) ws (omega arith))

last_digit : (l m i : ℕ) → i < l → (l * m + i) % l ≡ i
last_digit l m i h = ap (λ n. (n + i) % l) (mul_comm l m) ∙ mod-mul-add m l i h

other_digits : (l m i : ℕ) → i < l → (l * m + i) / l ≡ m
other_digits l m i h = ap (λ n. (n + i) / l) (mul_comm l m) ∙ div-mul-add m l i h

below_within : (f g : ℕ → ℕ) (n : ℕ) → ((k : ℕ) → k < n → f k ≡ g k) → sum_below f n ≡ sum_below g n
below_within f g zero h = refl
below_within f g (suc n) h = ap₂ (λ a b. a + b) (below_within f g n (λ k few. h k (omega (arith, few)))) (h n (omega arith))

next_multiple : (l m : ℕ) → l * suc m ≡ l * m + l
next_multiple l m = omega arith

-- by last digits and the others
by_digits : (ws : List Way) (g : Way → ℕ → ℕ) (m : ℕ)
    → sum_by (λ w. sum_below (g w) m) ws ≡ sum_below (λ n. g (get_or ws (n % length ws) no_way) (n / length ws)) (length ws * m)
by_digits ws g zero = none ws ∙ ap (sum_below (λ n. g (get_or ws (n % length ws) no_way) (n / length ws))) (nothing (length ws)) where
  nothing : (l : ℕ) → 0 ≡ l * 0
  nothing l = omega arith

  none : (vs : List Way) → sum_by (λ (w : Way). 0) vs ≡ 0
  none [] = refl
  none (v ∷ vs) =
      let more = sum_by-cons (λ (w : Way). 0) v vs in
      let rest = none vs in
      omega (arith, more, rest)
by_digits ws g (suc m) =
    let l = length ws in
    let h : ℕ → ℕ = λ n. g (get_or ws (n % l) no_way) (n / l) in
    let all = sums_joined (λ w. sum_below (g w) m) (λ w. g w m) ws in
    let before = by_digits ws g m in
    let last : sum_below (λ k. h (l * m + k)) l ≡ sum_by (λ w. g w m) ws =
    below_within (λ k. h (l * m + k)) (λ k. g (get_or ws k no_way) m) l (λ k few. ap₂ (λ i j. g (get_or ws i no_way) j) (last_digit l m k few) (other_digits l m k few)) ∙ places_of (λ w. g w m) ws in
    let split : sum_below h (l * suc m) ≡ sum_below h (l * m) + sum_below (λ k. h (l * m + k)) l = ap (sum_below h) (next_multiple l m) ∙ below_joined h (l * m) l in
    omega (arith, all, before, last, split)

-- the conditions of a path past a rider and past others
path_more : (action : List ℕ) (ws : List Way) (rs : List (List Way)) (asked : ℕ) (xs : List ℕ) (n : ℕ)
    → (let w = get_or ws (n % length ws) no_way in on_path action rs (asked + w.asked) (xs ++ w.columns) (n / length ws)) ≡ on_path action (ws ∷ rs) asked xs n
path_more action ws rs asked xs n =
    let w = get_or ws (n % length ws) no_way in
    let q = path_at rs (n / length ws) in
    ap₂ (way_count (Some action) []) (same_number asked w.asked q.asked) (append_assoc xs w.columns q.columns)

each_path : (action : List ℕ) (rs : List (List Way)) → ((asked : ℕ) (xs : List ℕ) → way_count (Some action) rs asked xs ≡ sum_below (on_path action rs asked xs) (path_number rs))
    → (asked : ℕ) (xs : List ℕ) (ws : List Way) → sum_by (by_way action rs asked xs) ws ≡ sum_by (λ w. sum_below (on_path action rs (asked + w.asked) (xs ++ w.columns)) (path_number rs)) ws
each_path action rs each asked xs [] = refl
each_path action rs each asked xs (w ∷ ws) =
    let f : Way → ℕ = λ w. sum_below (on_path action rs (asked + w.asked) (xs ++ w.columns)) (path_number rs) in
    sum_by-cons (by_way action rs asked xs) w ws ∙ ap₂ (λ n m. n + m) (each (asked + w.asked) (xs ++ w.columns)) (each_path action rs each asked xs ws) ∙ sym (sum_by-cons f w ws)

-- the conditions of all paths are those of each
pub path_by_path : (action : List ℕ) (rs : List (List Way)) (asked : ℕ) (xs : List ℕ) → way_count (Some action) rs asked xs ≡ sum_below (on_path action rs asked xs) (path_number rs)
path_by_path action [] asked xs =
    let e : asked + 0 ≡ asked = omega arith in
    let one : on_path action [] asked xs 0 ≡ way_count (Some action) [] asked xs = ap₂ (way_count (Some action) []) e (append-nil xs) in
    omega (arith, one)
path_by_path action (ws ∷ rs) asked xs =
    each_path action rs (path_by_path action rs) asked xs ws
    ∙ by_digits ws (λ w. on_path action rs (asked + w.asked) (xs ++ w.columns)) (path_number rs)
    ∙ below_alike (λ n. (let w = get_or ws (n % length ws) no_way in on_path action rs (asked + w.asked) (xs ++ w.columns) (n / length ws))) (on_path action (ws ∷ rs) asked xs) (length ws * path_number rs) (path_more action ws rs asked xs)

-- each path has a condition
some_below : (f : ℕ → ℕ) (n : ℕ) → ((k : ℕ) → 1 ≤ f k) → n ≤ sum_below f n
some_below f zero h = omega arith
some_below f (suc n) h =
    let one = h n in
    let rest = some_below f n h in
    omega (arith, one, rest)

pub as_many_paths : (action : List ℕ) (rs : List (List Way)) (asked : ℕ) (xs : List ℕ) → path_number rs ≤ way_count (Some action) rs asked xs
as_many_paths action rs asked xs = subst (λ n. path_number rs ≤ n) (sym (path_by_path action rs asked xs)) (some_below (on_path action rs asked xs) (path_number rs) (λ k. omega arith))

-- those of the first paths are among them
pub below_more : (f : ℕ → ℕ) (n m : ℕ) → n ≤ m → sum_below f n ≤ sum_below f m
below_more f n m h =
    let e : n + (m - n) ≡ m = omega (arith, h) in
    let joined = below_joined f n (m - n) in
    subst (λ k. sum_below f n ≤ sum_below f k) e (omega (arith, joined))

pub below_next : (f : ℕ → ℕ) (n : ℕ) → sum_below f (n + 1) ≡ sum_below f n + f n
below_next f n =
    let e : n + 1 ≡ suc n = omega arith in
    ap (sum_below f) e
