-- Cells of clients.
use Rattle.std.proofs.Common.{◌≡◌, ℕ, zero, suc, ◌<◌, ◌≤◌, List, [], ◌∷◌, ◌++◌, ℤ, take, drop, length, map, refl, ap, subst, sym, arith, append-nil, ◌∙◌}
use Rattle.lc_lemmas.proofs.Lists.{dropped_all}
use Rattle.lc_base.specs.declared.ids.ColId.{ColId}
use Rattle.lc_term.specs.Lists.{Every}
use Rattle.lc_term.specs.SystemColumns.{arg_columns, column_count}
use Rattle.lc_term.specs.Updates.{Write, cell_writes}
use Rattle.lc_term.proofs.Lists.{Every-take}

abbrev pub numbers_of : List ColId → List ℕ
numbers_of cs = map (λ c. c.0) cs

pub take-numbers : (k : ℕ) (cs : List ColId) → numbers_of (take k cs) ≡ take k (numbers_of cs)
take-numbers zero cs = refl
take-numbers (suc k) [] = refl
take-numbers (suc k) (c ∷ cs) = ap (λ xs. c.0 ∷ xs) (take-numbers k cs)

every-numbers : (n : ℕ) (cs : List ColId) → Every (λ c. c < n) (numbers_of cs) → Every (λ (c : ColId). c.0 < n) cs
every-numbers n [] h = tt
every-numbers n (c ∷ cs) h = (h.0, every-numbers n cs h.1)

-- the columns of arguments are there
pub arguments-there : (first n k : ℕ) (cs : List ColId) → numbers_of cs ≡ arg_columns first → column_count first ≤ n → Every (λ (c : ColId). c.0 < n) (take k cs)
arguments-there first n k cs e h =
    let all : Every (λ c. c < n) (arg_columns first) = (omega (arith, h), (omega (arith, h), (omega (arith, h), tt))) in
    Every-take (λ (c : ColId). c.0 < n) k cs (every-numbers n cs (subst (Every (λ c. c < n)) (sym e) all))

no-writes : (cs : List ℕ) (i : ℤ) → cell_writes cs i [] ≡ []
no-writes [] i = refl
no-writes (c ∷ cs) i = refl

-- if no number is left, nothing is left to write
pub writes-end : (cs : List ColId) (ns : List ℤ) (index : ℤ) (i : ℕ) (done all : List Write) → length ns ≤ i →
    done ++ cell_writes (numbers_of (drop i cs)) index (drop i ns) ≡ all → done ≡ all
writes-end cs ns index i done all past is =
    sym (append-nil done) ∙ (ap (λ ws. done ++ ws) (sym (ap (cell_writes (numbers_of (drop i cs)) index) (dropped_all ns i past) ∙ no-writes (numbers_of (drop i cs)) index)) ∙ is)
