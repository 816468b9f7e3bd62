-- Each file says one thing or has one first refusal, and never both.
use Rattle.std.proofs.Common.{◌≡◌, ℕ, ◌⊎◌, inl, inr, List, Ok, Err, refl, sym, ap, ◌∙◌}
use Rattle.std.specs.Prelude.{Result}
use Rattle.std.specs.Result.{IsErrAnd}
use Rattle.lc_base.specs.declared.refusal.Fault.{Fault}
use Rattle.lc_base.specs.declared.refusal.Fault.TheVariants.{Refused, OutOfMemory}
use Rattle.lc_base.specs.declared.refusal.Refusal.{Refusal}
use Rattle.lc_base.specs.declared.refusal.Refusal.TheVariants as R
use Rattle.lc_sexp.proofs.Exists.{reading_or_fault_lem}
use Rattle.lc_sexp.proofs.Faults.{no_fault_lem, one_fault_lem}
use Rattle.lc_sexp.proofs.Unique.{one_reading_lem}
use Rattle.lc_sexp.specs.Answers.{IsTextFault}
use Rattle.lc_sexp.specs.Reads.{ReadsAs, IsFirstFault}
use Rattle.lc_sexp.specs.Trees.{Trees}
use Rattle.lc_reading.specs.Files.{IsAnswerTo, Says, IsFirstRefusal}
use Rattle.lc_reading.specs.Flaws.{refusal_of}
use Rattle.lc_reading.specs.Results.{told as fault_of}
use Rattle.lc_reading.specs.Readings.{Reading, fine, flawed}
use Rattle.lc_reading.specs.Results.{IsReadFault}
use Rattle.lc_reading.specs.declared.flaw.Flaw.{Flaw}
use Rattle.lc_reading.specs.declared.flaw.ReadFault.{ReadFault}
use Rattle.lc_reading.specs.declared.flaw.ReadFault.TheVariants.{Flawed, OutOfMemory as NoMore}

-- a fault of the text
text_told : {T X : Type 0} (view : T → X) (read : Trees → Reading X) (bytes : List ℕ) (fault : Fault) → IsTextFault fault (IsFirstFault bytes) → IsAnswerTo view read bytes (Err fault)
text_told view read bytes OutOfMemory h = tt
text_told view read bytes (Refused (R.Text offset)) h = inl (offset, refl, h)
text_told view read bytes (Refused _) h = absurd h

pub text_fault : {T X : Type 0} (view : T → X) (read : Trees → Reading X) (bytes : List ℕ) (fault : Fault) (result : Result T Fault) → IsTextFault fault (IsFirstFault bytes) → IsErrAnd result (λ f. f ≡ fault)
    → IsAnswerTo view read bytes result
text_fault view read bytes fault (Ok value) h told = absurd told
text_fault view read bytes fault (Err f) h told = let same : f ≡ fault = told in rw same (text_told view read bytes fault h)

-- a flaw of the trees
trees_told : {T X : Type 0} (view : T → X) (read : Trees → Reading X) (bytes : List ℕ) (ts : Trees) (fault : ReadFault) → ReadsAs bytes ts → IsReadFault (read ts) fault
    → IsAnswerTo view read bytes (Err (fault_of fault))
trees_told view read bytes ts (Flawed f) reads h = inr (ts, f, reads, h, refl)
trees_told view read bytes ts NoMore reads h = tt

pub trees_fault : {T X : Type 0} (view : T → X) (read : Trees → Reading X) (bytes : List ℕ) (ts : Trees) (fault : ReadFault) (result : Result T Fault) → ReadsAs bytes ts → IsReadFault (read ts) fault
    → IsErrAnd result (λ f. f ≡ fault_of fault) → IsAnswerTo view read bytes result
trees_fault view read bytes ts fault (Ok value) reads h told = absurd told
trees_fault view read bytes ts fault (Err f) reads h told = let same : f ≡ fault_of fault = told in rw same (trees_told view read bytes ts fault reads h)

of_trees : {X : Type 0} (read : Trees → Reading X) (bytes : List ℕ) (ts : Trees) → ReadsAs bytes ts → (r : Reading X) → read ts ≡ r → ((x : X) × Says read bytes x) ⊎ ((refusal : Refusal) × IsFirstRefusal read bytes refusal)
of_trees read bytes ts reads (fine x) e = inl (x, (ts, reads, e))
of_trees read bytes ts reads (flawed f) e = inr (refusal_of f, inr (ts, f, reads, e, refl))

of_text : {X : Type 0} (read : Trees → Reading X) (bytes : List ℕ) → ((ts : Trees) × ReadsAs bytes ts) ⊎ ((offset : ℕ) × IsFirstFault bytes offset)
    → ((x : X) × Says read bytes x) ⊎ ((refusal : Refusal) × IsFirstRefusal read bytes refusal)
of_text read bytes (inl (ts, reads)) = of_trees read bytes ts reads (read ts) refl
of_text read bytes (inr (offset, fault)) = inr (R.Text offset, inl (offset, refl, fault))

pub says_or_refused : {X : Type 0} (read : Trees → Reading X) (bytes : List ℕ) → ((x : X) × Says read bytes x) ⊎ ((refusal : Refusal) × IsFirstRefusal read bytes refusal)
says_or_refused read bytes = of_text read bytes (reading_or_fault_lem bytes)

pub fine_not_flawed : {X : Type 0} (x : X) (f : Flaw) → fine x ≡ flawed f → ⊥
fine_not_flawed x f e = cc

pub says_not_refused : {X : Type 0} (read : Trees → Reading X) (bytes : List ℕ) (x : X) (refusal : Refusal) → Says read bytes x → IsFirstRefusal read bytes refusal → ⊥
says_not_refused read bytes x refusal (ts, reads, says) (inl (offset, e, fault)) = no_fault_lem bytes ts offset reads fault
says_not_refused read bytes x refusal (ts, reads, says) (inr (us, f, other, refused, e)) =
    fine_not_flawed x f (sym says ∙ ap read (one_reading_lem bytes ts us reads other) ∙ refused)

same_value : {X : Type 0} (x y : X) → fine x ≡ fine y → x ≡ y
same_value x y e = cc

pub says_one : {X : Type 0} (read : Trees → Reading X) (bytes : List ℕ) (x y : X) → Says read bytes x → Says read bytes y → x ≡ y
says_one read bytes x y (ts, reads, says) (us, other, says') = same_value x y (sym says ∙ ap read (one_reading_lem bytes ts us reads other) ∙ says')

pub same_flaw : {X : Type 0} (f g : Flaw) (r : Reading X) → r ≡ flawed f → r ≡ flawed g → f ≡ g
same_flaw f g r h k = let e : flawed f ≡ flawed g = sym h ∙ k in cc

pub refused_once : {X : Type 0} (read : Trees → Reading X) (bytes : List ℕ) (r s : Refusal) → IsFirstRefusal read bytes r → IsFirstRefusal read bytes s → r ≡ s
refused_once read bytes r s (inl (o, e, fault)) (inl (p, e', other)) = e ∙ ap R.Text (sym (one_fault_lem bytes o p fault other)) ∙ sym e'
refused_once read bytes r s (inl (o, e, fault)) (inr (us, f, reads, refused, e')) = absurd (no_fault_lem bytes us o reads fault)
refused_once read bytes r s (inr (us, f, reads, refused, e)) (inl (o, e', fault)) = absurd (no_fault_lem bytes us o reads fault)
refused_once read bytes r s (inr (ts, f, reads, refused, e)) (inr (us, g, other, refused', e')) =
    e ∙ ap refusal_of (same_flaw f g (read ts) refused (ap read (one_reading_lem bytes ts us reads other) ∙ refused')) ∙ sym e'
