-- What a text reads as where a proof is expected.
use Rattle.std.specs.Prelude.{ℕ, zero, suc, ◌+◌, codes, if◌then◌else◌, Option, Some, None}
use Rattle.lc_sexp.specs.Trees.{Tree, Trees, atom, list, none, ◌▸◌, item_count}
use Rattle.lc_text.specs.Names.{Names}
use Rattle.lc_kernel.specs.Proofs as S
use Rattle.lc_kernel.specs.Proofs.{Proof, Proofs, proof, more}
use Rattle.lc_reading.specs.Readings.{Reading, fine, wrong, mapped, both}
use Rattle.lc_reading.specs.Words.{is}
use Rattle.lc_reading.specs.declared.pass.Pass.TheVariants.{Shape}
use Rattle.lc_proof_text.specs.Heads.{head_of, own_parts, proofs_due, later, is_met, is_full}
use Rattle.lc_proof_text.specs.Steps.{multiples_reading, step_reading}
use Rattle.lc_proof_text.specs.declared.head.Head.{Head}
use Rattle.lc_proof_text.specs.declared.head.Due.{Due}

-- (sum (h k) ..), whose parts after the word are numbered from m on
abbrev pub sum_reading : ℕ → Trees → Reading Proof
sum_reading m ts = mapped (λ ms. proof (S.Sum ms) S.none) (multiples_reading m ts)

-- no further proof is in the list n
abbrev pub ended_proofs : ℕ → Due → Reading Proofs
ended_proofs n due = if is_met due then fine S.none else wrong Shape n

-- the list n that begins so, if its proofs read so
abbrev pub headed_reading : Names → ℕ → ℕ → Trees → Option Head → (Head → Reading Proofs) → Reading Proof
headed_reading names n m ts None proofs = wrong Shape n
headed_reading names n m ts (Some h) proofs = both proof (step_reading names h n m ts) (proofs h)

abbrev mutual
  -- the item n, where a proof is expected
  pub proof_reading : Names → ℕ → Tree → Reading Proof
  proof_reading names n (list (atom w ▸ ts)) =
      if is w (codes "sum") then sum_reading (n + 2) ts
      else headed_reading names n (n + 2) ts (head_of w) (λ h. proofs_reading names n (own_parts h) (proofs_due h) (n + 2) ts)
  proof_reading names n _ = wrong Shape n

  -- the proofs that are expected in the list n among its parts from m on, after k others. If any of those is missing, that is reported
  -- at the step
  pub proofs_reading : Names → ℕ → ℕ → Due → ℕ → Trees → Reading Proofs
  proofs_reading names n (suc k) due m none = fine S.none
  proofs_reading names n (suc k) due m (t ▸ ts) = proofs_reading names n k due (m + item_count t) ts
  proofs_reading names n zero due m none = ended_proofs n due
  proofs_reading names n zero due m (t ▸ ts) =
      if is_full due then wrong Shape m else both more (proof_reading names m t) (proofs_reading names n zero (later due) (m + item_count t) ts)

-- the list n that begins so, whose other parts are numbered from m on
abbrev pub with_proofs : Names → Head → ℕ → ℕ → Trees → Reading Proof
with_proofs names h n m ts = both proof (step_reading names h n m ts) (proofs_reading names n (own_parts h) (proofs_due h) m ts)
