-- What is left after a step's own parts.
use Rattle.std.proofs.Common.{◌≡◌, ℕ, ◌+◌, zero, suc, refl}
use Rattle.lc_sexp.specs.Trees.{Trees, none, ◌▸◌, item_count}
use Rattle.lc_sexp.specs.Shown.{rest_of, number_of}
use Rattle.lc_sexp.specs.declared.cursor.Cursor.{Cursor}
use Rattle.lc_text.specs.Names.{Names}
use Rattle.lc_kernel.specs.Proofs as S
use Rattle.lc_reading.specs.Readings.{fine}
use Rattle.lc_proof_text.specs.Own.{IsLeft, IsShort}
use Rattle.lc_proof_text.specs.Proofs.{proofs_reading}
use Rattle.lc_proof_text.specs.declared.head.Due.{Due}

-- the same proofs
proofs_same : (names : Names) (n : ℕ) (due : Due) (m k : ℕ) (ts us : Trees) → k ≡ m → us ≡ ts → proofs_reading names n zero due m ts ≡ proofs_reading names n zero due k us
proofs_same names n due m k ts us at same = rw (at, same) refl

-- the proofs come after them
pub left_proofs : (names : Names) (n k : ℕ) (due : Due) (m : ℕ) (ts : Trees) (rest : Cursor) → IsLeft k m ts rest
    → proofs_reading names n k due m ts ≡ proofs_reading names n zero due (number_of rest) (rest_of rest)
left_proofs names n zero due m ts rest (at, same) = proofs_same names n due m (number_of rest) ts (rest_of rest) at same
left_proofs names n (suc k) due m none rest h = absurd h
left_proofs names n (suc k) due m (t ▸ ts) rest h = left_proofs names n k due (m + item_count t) ts rest h

-- if own parts are missing, nothing is said about proofs
pub short_proofs : (names : Names) (n k : ℕ) (due : Due) (m : ℕ) (ts : Trees) → IsShort k ts → proofs_reading names n k due m ts ≡ fine S.none
short_proofs names n zero due m ts h = absurd h
short_proofs names n (suc k) due m none h = refl
short_proofs names n (suc k) due m (t ▸ ts) h = short_proofs names n k due (m + item_count t) ts h
