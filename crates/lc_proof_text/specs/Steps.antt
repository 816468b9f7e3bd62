-- What a text reads as where the parts of a step before its proofs are expected.
use Rattle.std.specs.Prelude.{ℕ, ℤ, ◌+◌, List, []}
use Rattle.lc_sexp.specs.Trees.{Tree, Trees, list, none, ◌▸◌, item_count}
use Rattle.lc_term.specs.Syntax.{Term, Column}
use Rattle.lc_text.specs.Names.{Names}
use Rattle.lc_kernel.specs.Proofs as S
use Rattle.lc_kernel.specs.Proofs.{Step}
use Rattle.lc_reading.specs.Readings.{Reading, fine, wrong, mapped, both}
use Rattle.lc_reading.specs.Rows.{each_reading}
use Rattle.lc_reading.specs.declared.pass.Pass.TheVariants.{Shape}
use Rattle.lc_text.specs.Terms.{pair, number_reading, numbers_reading, term_reading, column_reading}
use Rattle.lc_text.specs.Formulas.{formula_reading}
use Rattle.lc_proof_text.specs.declared.head.Head.{Head}
use Rattle.lc_proof_text.specs.declared.head.Head.TheVariants.{Split, Cases, Push, Instantiate, Fresh, Cut, Written, Same, Affine, Trichotomy, Divide, Opposite, Open}

-- (h k), the item n
abbrev pub multiple_reading : ℕ → Tree → Reading (ℤ × ℤ)
multiple_reading n (list ts) = numbers_reading n (n + 1) ts
multiple_reading n _ = wrong Shape n

-- (h k) ..: the parts from m on
abbrev pub multiples_reading : ℕ → Trees → Reading (List (ℤ × ℤ))
multiples_reading m ts = each_reading multiple_reading m ts

-- two numbers
abbrev pub two_numbers : ℕ → Tree → ℕ → Tree → Reading (ℤ × ℤ)
two_numbers i t j u = both pair (number_reading i t) (number_reading j u)

-- two terms
abbrev pub two_terms : Names → ℕ → Tree → ℕ → Tree → Reading (Term × Term)
two_terms names i t j u = both pair (term_reading names [] i t) (term_reading names [] j u)

-- a column and an index, read by the list n
abbrev pub cell_reading : Names → ℕ → ℕ → Tree → ℕ → Tree → Reading (Column × Term)
cell_reading names n i t j u = both pair (column_reading names [] n i t) (term_reading names [] j u)

-- the step of a hypothesis alone
abbrev pub hypothesis_step : Head → ℤ → Step
hypothesis_step Split h = S.Split h
hypothesis_step Cases h = S.Cases h
hypothesis_step Push h = S.Push h
hypothesis_step Fresh h = S.Fresh h
hypothesis_step _ h = S.Trichotomy h

-- (split h ..), (cases h ..), (push h ..), (fresh h ..), (trich h ..): the list n, whose other parts are numbered from m on
abbrev pub hypothesis_reading : Head → ℕ → ℕ → Trees → Reading Step
hypothesis_reading h n m (t ▸ ts) = mapped (hypothesis_step h) (number_reading m t)
hypothesis_reading h n m none = wrong Shape n

-- (inst h T ..)
abbrev pub instantiate_reading : Names → ℕ → ℕ → Trees → Reading Step
instantiate_reading names n m (t ▸ u ▸ ts) = both S.Instantiate (number_reading m t) (term_reading names [] (m + item_count t) u)
instantiate_reading names n m _ = wrong Shape n

-- (cut F ..)
abbrev pub cut_reading : Names → ℕ → ℕ → Trees → Reading Step
cut_reading names n m (t ▸ ts) = mapped S.Cut (formula_reading names [] m t)
cut_reading names n m none = wrong Shape n

-- (written C i v j ..)
abbrev pub written_reading : Names → ℕ → ℕ → Trees → Reading Step
written_reading names n m (t ▸ u ▸ v ▸ w ▸ ts) =
    both (λ (p : Column × Term) (q : Term × Term). S.Written p.0 p.1 q.0 q.1)
    (cell_reading names n m t (m + item_count t) u)
    (two_terms names (m + item_count t + item_count u) v (m + item_count t + item_count u + item_count v) w)
written_reading names n m _ = wrong Shape n

-- (same C i j ..)
abbrev pub same_reading : Names → ℕ → ℕ → Trees → Reading Step
same_reading names n m (t ▸ u ▸ v ▸ ts) =
    both (λ (p : Column × Term) j. S.Same p.0 p.1 j) (cell_reading names n m t (m + item_count t) u) (term_reading names [] (m + item_count t + item_count u) v)
same_reading names n m _ = wrong Shape n

-- (affine a b i ..)
abbrev pub affine_reading : Names → ℕ → ℕ → Trees → Reading Step
affine_reading names n m (t ▸ u ▸ v ▸ ts) =
    both (λ (p : ℤ × ℤ) i. S.Affine p.0 p.1 i) (two_numbers m t (m + item_count t) u) (term_reading names [] (m + item_count t + item_count u) v)
affine_reading names n m _ = wrong Shape n

-- (divide h k F ..)
abbrev pub divide_reading : Names → ℕ → ℕ → Trees → Reading Step
divide_reading names n m (t ▸ u ▸ v ▸ ts) =
    both (λ (p : ℤ × ℤ) f. S.Divide p.0 p.1 f) (two_numbers m t (m + item_count t) u) (formula_reading names [] (m + item_count t + item_count u) v)
divide_reading names n m _ = wrong Shape n

-- (opposite h g)
abbrev pub opposite_reading : ℕ → ℕ → Trees → Reading Step
opposite_reading n m (t ▸ u ▸ ts) = both S.Opposite (number_reading m t) (number_reading (m + item_count t) u)
opposite_reading n m _ = wrong Shape n

-- the step of the list n that begins so, whose other parts are numbered from m on. Its proofs come after its own parts
abbrev pub step_reading : Names → Head → ℕ → ℕ → Trees → Reading Step
step_reading names Split = hypothesis_reading Split
step_reading names Cases = hypothesis_reading Cases
step_reading names Push = hypothesis_reading Push
step_reading names Instantiate = instantiate_reading names
step_reading names Fresh = hypothesis_reading Fresh
step_reading names Cut = cut_reading names
step_reading names Written = written_reading names
step_reading names Same = same_reading names
step_reading names Affine = affine_reading names
step_reading names Trichotomy = hypothesis_reading Trichotomy
step_reading names Divide = divide_reading names
step_reading names Opposite = opposite_reading
step_reading names Open = λ n m ts. fine S.Open
