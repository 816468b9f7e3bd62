-- A step takes at most one more variable into use, and opens as many branches as there are proofs below it.
use Rattle.std.proofs.Common.{◌≡◌, ℕ, suc, ◌≤◌, ◌&&◌, List, [], ◌∷◌, refl, sym, ap, ◌∙◌, arith}
use Rattle.std.specs.Prelude.{length}
use Rattle.lc_array.specs.Axioms.{written, same_index, affine_cell}
use Rattle.lc_term.specs.Places.{is_closed}
use Rattle.lc_term.specs.Substitution.{instantiated}
use Rattle.lc_term.specs.Syntax.{Variable, Formula, Not}
use Rattle.lc_kernel.proofs.Found.{opens_same, taking_opens, in_use_opens, branching_in_use, sum_gives_summed, opposite_gives_opposed, open_opens}
use Rattle.lc_kernel.specs.Below.{term_below, column_below, formula_below}
use Rattle.lc_kernel.specs.Proofs as S
use Rattle.lc_kernel.specs.Proofs.{Step}
use Rattle.lc_kernel.specs.Table.{opens, conjuncts, alternatives, less, pushed, for_all, for_some, apart, excess, each, InUse, Opens, Appends, QuotientGives, Gives}

same_count : (v w : ℕ) (bs cs : List (List Formula)) → opens w bs ≡ opens v cs → w ≤ suc v
same_count v w bs cs is = let e = (opens_same v w bs cs is).0 in omega arith

next_count : (v w : ℕ) (bs cs : List (List Formula)) → opens w bs ≡ opens (suc v) cs → w ≤ suc v
next_count v w bs cs is = let e = (opens_same (suc v) w bs cs is).0 in omega arith

pub Gives-grows : (v w : ℕ) (H : List Formula) (n : ℕ) (s : Step) (bs : List (List Formula)) → Gives v H n s (opens w bs) → w ≤ suc v
Gives-grows v w H n (S.Split h) bs is =
    let t = taking_opens w bs H h conjuncts n (λ fs. 1) (λ fs. Opens v (fs ∷ [])) is in same_count v w bs (t.part ∷ []) t.gives
Gives-grows v w H n (S.Cases h) bs is =
    let t = taking_opens w bs H h alternatives n (λ fs. length fs) (λ fs. Opens v (each fs)) is in same_count v w bs (each t.part) t.gives
Gives-grows v w H n (S.Push h) bs is =
    let t = taking_opens w bs H h pushed n (λ f. 1) (λ f. Appends v f) is in same_count v w bs ((t.part ∷ []) ∷ []) t.gives
Gives-grows v w H n (S.Instantiate h u) bs is =
    let t = taking_opens w bs H h for_all n (λ f. 1) (λ f. InUse (term_below v u && is_closed u) (Appends v (instantiated u f))) is in
    let g = in_use_opens w bs (term_below v u && is_closed u) (Appends v (instantiated u t.part)) t.gives in
    same_count v w bs ((instantiated u t.part ∷ []) ∷ []) g.1
Gives-grows v w H n (S.Fresh h) bs is =
    let t = taking_opens w bs H h for_some n (λ f. 1) (λ f. Appends (suc v) (instantiated (Variable v) f)) is in
    next_count v w bs ((instantiated (Variable v) t.part ∷ []) ∷ []) t.gives
Gives-grows v w H n (S.Cut f) bs is =
    let g = branching_in_use w bs n 2 (formula_below v f) (Opens v (each (Not f ∷ f ∷ []))) is in same_count v w bs (each (Not f ∷ f ∷ [])) g.1
Gives-grows v w H n (S.Written c i x j) bs is =
    let g = branching_in_use w bs n 1 (column_below v c && term_below v i && term_below v x && term_below v j) (Appends v (written c i x j)) is in
    same_count v w bs ((written c i x j ∷ []) ∷ []) g.1
Gives-grows v w H n (S.Same c i j) bs is =
    let g = branching_in_use w bs n 1 (column_below v c && term_below v i && term_below v j) (Appends v (same_index c i j)) is in
    same_count v w bs ((same_index c i j ∷ []) ∷ []) g.1
Gives-grows v w H n (S.Affine a b i) bs is =
    let g = branching_in_use w bs n 1 (term_below v i) (Appends v (affine_cell a b i)) is in same_count v w bs ((affine_cell a b i ∷ []) ∷ []) g.1
Gives-grows v w H n (S.Trichotomy h) bs is =
    let t = taking_opens w bs H h apart n (λ p. 2) (λ p. Opens v (each (less p.0 p.1 ∷ less p.1 p.0 ∷ []))) is in
    same_count v w bs (each (less t.part.0 t.part.1 ∷ less t.part.1 t.part.0 ∷ [])) t.gives
Gives-grows v w H n (S.Divide h k f) bs is =
    let t = taking_opens w bs H h excess n (λ t. 1) (λ t. InUse (formula_below v f) (QuotientGives v f t k)) is in
    let g = in_use_opens w bs (formula_below v f) (QuotientGives v f t.part k) t.gives in
    same_count v w bs ((f ∷ []) ∷ []) g.1.0
Gives-grows v w H n (S.Sum ms) bs is = same_count v w bs [] (sum_gives_summed v H n ms w bs is).gives.0
Gives-grows v w H n (S.Opposite h g) bs is = same_count v w bs [] (opposite_gives_opposed v H n h g w bs is).gives
Gives-grows v w H n S.Open bs is = absurd (open_opens v H n w bs is)

-- ---- branches

opens_count : (v w n m : ℕ) (bs cs : List (List Formula)) → Opens v cs (opens w bs) → n ≡ m → length cs ≡ m → length bs ≡ n
opens_count v w n m bs cs is counted count = ap length (opens_same v w bs cs is).1 ∙ count ∙ sym counted

each_count : (fs : List Formula) → length (each fs) ≡ length fs
each_count [] = refl
each_count (f ∷ fs) = ap suc (each_count fs)

-- a step that opens branches opens one for each proof below it
pub Gives-count : (v w : ℕ) (H : List Formula) (n : ℕ) (s : Step) (bs : List (List Formula)) → Gives v H n s (opens w bs) → length bs ≡ n
Gives-count v w H n (S.Split h) bs is =
    let t = taking_opens w bs H h conjuncts n (λ fs. 1) (λ fs. Opens v (fs ∷ [])) is in opens_count v w n 1 bs (t.part ∷ []) t.gives t.counted refl
Gives-count v w H n (S.Cases h) bs is =
    let t = taking_opens w bs H h alternatives n (λ fs. length fs) (λ fs. Opens v (each fs)) is in opens_count v w n (length t.part) bs (each t.part) t.gives t.counted (each_count t.part)
Gives-count v w H n (S.Push h) bs is =
    let t = taking_opens w bs H h pushed n (λ f. 1) (λ f. Appends v f) is in opens_count v w n 1 bs ((t.part ∷ []) ∷ []) t.gives t.counted refl
Gives-count v w H n (S.Instantiate h u) bs is =
    let t = taking_opens w bs H h for_all n (λ f. 1) (λ f. InUse (term_below v u && is_closed u) (Appends v (instantiated u f))) is in
    let g = in_use_opens w bs (term_below v u && is_closed u) (Appends v (instantiated u t.part)) t.gives in
    opens_count v w n 1 bs ((instantiated u t.part ∷ []) ∷ []) g.1 t.counted refl
Gives-count v w H n (S.Fresh h) bs is =
    let t = taking_opens w bs H h for_some n (λ f. 1) (λ f. Appends (suc v) (instantiated (Variable v) f)) is in
    opens_count (suc v) w n 1 bs ((instantiated (Variable v) t.part ∷ []) ∷ []) t.gives t.counted refl
Gives-count v w H n (S.Cut f) bs is =
    let g = branching_in_use w bs n 2 (formula_below v f) (Opens v (each (Not f ∷ f ∷ []))) is in opens_count v w n 2 bs (each (Not f ∷ f ∷ [])) g.1 g.2 refl
Gives-count v w H n (S.Written c i x j) bs is =
    let g = branching_in_use w bs n 1 (column_below v c && term_below v i && term_below v x && term_below v j) (Appends v (written c i x j)) is in
    opens_count v w n 1 bs ((written c i x j ∷ []) ∷ []) g.1 g.2 refl
Gives-count v w H n (S.Same c i j) bs is =
    let g = branching_in_use w bs n 1 (column_below v c && term_below v i && term_below v j) (Appends v (same_index c i j)) is in
    opens_count v w n 1 bs ((same_index c i j ∷ []) ∷ []) g.1 g.2 refl
Gives-count v w H n (S.Affine a b i) bs is =
    let g = branching_in_use w bs n 1 (term_below v i) (Appends v (affine_cell a b i)) is in opens_count v w n 1 bs ((affine_cell a b i ∷ []) ∷ []) g.1 g.2 refl
Gives-count v w H n (S.Trichotomy h) bs is =
    let t = taking_opens w bs H h apart n (λ p. 2) (λ p. Opens v (each (less p.0 p.1 ∷ less p.1 p.0 ∷ []))) is in
    opens_count v w n 2 bs (each (less t.part.0 t.part.1 ∷ less t.part.1 t.part.0 ∷ [])) t.gives t.counted refl
Gives-count v w H n (S.Divide h k f) bs is =
    let t = taking_opens w bs H h excess n (λ t. 1) (λ t. InUse (formula_below v f) (QuotientGives v f t k)) is in
    let g = in_use_opens w bs (formula_below v f) (QuotientGives v f t.part k) t.gives in
    opens_count v w n 1 bs ((f ∷ []) ∷ []) g.1.0 t.counted refl
Gives-count v w H n (S.Sum ms) bs is = let t = sum_gives_summed v H n ms w bs is in opens_count v w n 0 bs [] t.gives.0 t.counted refl
Gives-count v w H n (S.Opposite h g) bs is = let t = opposite_gives_opposed v H n h g w bs is in opens_count v w n 0 bs [] t.gives t.counted refl
Gives-count v w H n S.Open bs is = absurd (open_opens v H n w bs is)
