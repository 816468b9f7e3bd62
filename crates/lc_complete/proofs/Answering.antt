-- What is answered to a file that is to be made whole, by what its parts answer.
use Rattle.std.proofs.Common.{◌≡◌, ℕ, inl, inr, List, Result, Ok, Err, refl, sym, subst}
use Rattle.std.specs.Result.{IsErrAnd}
use Rattle.lc_base.specs.declared.refusal.Fault.{Fault}
use Rattle.lc_base.specs.declared.refusal.Fault.TheVariants.{Refused, OutOfMemory}
use Rattle.lc_base.specs.declared.refusal.Refusal.TheVariants as R
use Rattle.lc_fill.specs.Plan.{no_plan}
use Rattle.lc_sexp.specs.Answers.{IsTextFault}
use Rattle.lc_sexp.specs.Reads.{ReadsAs, IsFirstFault}
use Rattle.lc_sexp.specs.Trees.{Trees}
use Rattle.lc_short.specs.Answers.{IsShortAnswer}
use Rattle.lc_short.specs.Completing.{IsCompleted}
use Rattle.lc_complete.specs.Making.{IsAnswer}
use Rattle.lc_complete.specs.declared.making.Made.{Made}

-- a fault of the text
fault_answers : (file : List ℕ) (fault : Fault) → IsTextFault fault (IsFirstFault file) → IsAnswer file (Err fault)
fault_answers file OutOfMemory h = tt
fault_answers file (Refused (R.Text offset)) h = inl (inl (offset, refl, h))
fault_answers file (Refused _) h = absurd h

pub text_answers : (file : List ℕ) (fault : Fault) (result : Result Made Fault) → IsTextFault fault (IsFirstFault file) → IsErrAnd result (λ f. f ≡ fault) → IsAnswer file result
text_answers file fault (Ok made) h told = absurd told
text_answers file fault (Err f) h told = subst (λ (g : Fault). IsAnswer file (Err g)) (sym told) (fault_answers file fault h)

-- a refusal as a short development
short_answers : (file : List ℕ) (fault : Fault) → IsShortAnswer file (Err fault) → IsAnswer file (Err fault)
short_answers file OutOfMemory h = tt
short_answers file (Refused r) h = inl h

pub refused_answers : (file : List ℕ) (fault : Fault) (result : Result Made Fault) → IsShortAnswer file (Err fault) → IsErrAnd result (λ f. f ≡ fault) → IsAnswer file result
refused_answers file fault (Ok made) h told = absurd told
refused_answers file fault (Err f) h told = subst (λ (g : Fault). IsAnswer file (Err g)) (sym told) (short_answers file fault h)

-- a refusal with nothing planned
plain_answers : (file : List ℕ) (forms : Trees) (fault : Fault) → ReadsAs file forms → IsCompleted file no_plan forms (Err fault) → IsAnswer file (Err fault)
plain_answers file forms OutOfMemory reads h = tt
plain_answers file forms (Refused r) reads h = inr (forms, reads, h)

pub unplanned_answers : (file : List ℕ) (forms : Trees) (fault : Fault) (result : Result Made Fault) → ReadsAs file forms → IsCompleted file no_plan forms (Err fault)
    → IsErrAnd result (λ f. f ≡ fault) → IsAnswer file result
unplanned_answers file forms fault (Ok made) reads h told = absurd told
unplanned_answers file forms fault (Err f) reads h told = subst (λ (g : Fault). IsAnswer file (Err g)) (sym told) (plain_answers file forms fault reads h)

-- out of memory
pub memory_answers : (file : List ℕ) (result : Result Made Fault) → IsErrAnd result (λ f. f ≡ OutOfMemory) → IsAnswer file result
memory_answers file (Ok made) told = absurd told
memory_answers file (Err f) told = subst (λ (g : Fault). IsAnswer file (Err g)) (sym told) tt
