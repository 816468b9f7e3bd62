-- What readers return for the parts of a step that come before its proofs.
use Rattle.std.specs.Prelude.{◌≡◌, ℕ, ℤ, zero, suc, ◌+◌, List, map, Vec, Box, Result, Ok, Err}
use Rattle.std.specs.declared.alloc.Global.{Global}
use Rattle.lc_sexp.specs.Trees.{Tree, Trees, none, ◌▸◌, item_count}
use Rattle.lc_sexp.specs.Shown.{rest_of, number_of, owner_of}
use Rattle.lc_sexp.specs.declared.cursor.Cursor.{Cursor}
use Rattle.lc_sexp.specs.declared.misfit.Misfit.{Misfit}
use Rattle.lc_sexp.specs.declared.misfit.Misfit.TheVariants.{Shape as Misshapen}
use Rattle.lc_kernel.specs.Proofs as S
use Rattle.lc_kernel.specs.View.{multiple_of, step_of, proofs_of}
use Rattle.lc_kernel.specs.declared.proof.Multiple.{Multiple}
use Rattle.lc_kernel.specs.declared.proof.Proof.{Proof}
use Rattle.lc_kernel.specs.declared.proof.Step.{Step}
use Rattle.lc_reading.specs.Parts.{IsBehind}
use Rattle.lc_reading.specs.Readings.{Reading, fine, wrong}
use Rattle.lc_reading.specs.Results.{IsReading}
use Rattle.lc_reading.specs.declared.flaw.ReadFault.{ReadFault}
use Rattle.lc_term.specs.Syntax as T
use Rattle.lc_term.specs.View.{term_of}
use Rattle.lc_term.specs.declared.term.Term.{Term}
use Rattle.lc_text.specs.Terms.{number_reading}
use Rattle.lc_reading.specs.declared.pass.Pass.TheVariants.{Shape}

-- the list begins with this number, and this is the rest after it
abbrev pub BeginsWith : Cursor → ℤ → Cursor → Type 0
BeginsWith l z rest = (t : Tree) × (number_reading (number_of l) t ≡ fine z) × IsBehind l t rest

-- this is the rest after k parts
abbrev pub IsLeft : ℕ → ℕ → Trees → Cursor → Type 0
IsLeft zero m ts rest = (number_of rest ≡ m) × (rest_of rest ≡ ts)
IsLeft (suc k) m none rest = ⊥
IsLeft (suc k) m (t ▸ ts) rest = IsLeft k (m + item_count t) ts rest

-- there are fewer parts
abbrev pub IsShort : ℕ → Trees → Type 0
IsShort zero ts = ⊥
IsShort (suc k) none = Unit {0}
IsShort (suc k) (t ▸ ts) = IsShort k ts

-- the step that k parts read as, and the rest after them; or the list has fewer
abbrev pub IsOwn : Reading S.Step → ℕ → Cursor → Result (Result Step ReadFault × Cursor) Misfit → Type 0
IsOwn read k l (Ok r) = IsReading step_of read r.0 × IsLeft k (number_of l) (rest_of l) r.1
IsOwn read k l (Err misfit) = (misfit ≡ Misshapen (owner_of l)) × (read ≡ wrong Shape (owner_of l)) × IsShort k (rest_of l)

-- the same, with the list left at the rest
abbrev pub IsBegun : Reading S.Step → ℕ → Cursor → Result (Result Step ReadFault) Misfit → Cursor → Type 0
IsBegun read k old (Ok step) new = IsOwn read k old (Ok (step, new))
IsBegun read k old (Err misfit) new = IsOwn read k old (Err misfit)

-- the term in a box
abbrev pub boxed_term : Box Term Global → T.Term
boxed_term t = term_of t.value

-- the proofs of branches
abbrev pub branches_of : Vec Proof Global → S.Proofs
branches_of ps = S.proofs (proofs_of ps.items)

-- the numbers of hypotheses, and their multipliers
abbrev pub multiples_of : Vec Multiple Global → List (ℤ × ℤ)
multiples_of ms = map multiple_of ms.items
