-- What is returned for a file of hints.
use Rattle.std.proofs.Common.{◌≡◌, ℕ, List, Ok, Err, refl, ◌∙◌}
use Rattle.std.specs.Prelude.{Result}
use Rattle.std.specs.Result.{IsErrAnd}
use Rattle.lc_base.specs.declared.refusal.Fault.{Fault}
use Rattle.lc_base.specs.declared.refusal.Fault.TheVariants.{Refused, OutOfMemory}
use Rattle.lc_sexp.specs.Answers.{IsTextFault}
use Rattle.lc_sexp.specs.Reads.{ReadsAs, IsFirstFault}
use Rattle.lc_sexp.specs.Trees.{Trees}
use Rattle.lc_reading.proofs.Files.{text_fault, trees_fault}
use Rattle.lc_reading.specs.Files as R
use Rattle.lc_reading.specs.Results.{IsReadFault, told}
use Rattle.lc_reading.specs.declared.flaw.ReadFault.{ReadFault}
use Rattle.lc_outline.specs.Development.{Development}
use Rattle.lc_hints.specs.Files.{IsAnswerTo}
use Rattle.lc_hints.specs.Hints.{Hint}
use Rattle.lc_hints.specs.HintView.{IsGiven, HasHints, proofs_in, terms_in, formulas_in, proofs_given, terms_given, formulas_given}
use Rattle.lc_hints.specs.Readings.{hints_reading}
use Rattle.lc_hints.specs.declared.given.Given.{Given}
use Rattle.lc_hints.specs.declared.hints.Hints.{Hints}

-- a refusal as of any file
refused_alike : (D : Development) (bytes : List ℕ) (fault : Fault) → R.IsAnswerTo (λ (hs : List Hint). hs) (hints_reading D) bytes (Err fault) → IsAnswerTo D bytes (Err fault)
refused_alike D bytes (Refused refusal) h = h
refused_alike D bytes OutOfMemory h = h

-- a fault of the text, passed on
pub text_passed : (D : Development) (bytes : List ℕ) (fault : Fault) (result : Result Hints Fault) → IsTextFault fault (IsFirstFault bytes) → IsErrAnd result (λ f. f ≡ fault) → IsAnswerTo D bytes result
text_passed D bytes fault (Ok hints) is passed = absurd passed
text_passed D bytes fault (Err f) is passed = refused_alike D bytes f (text_fault (λ (hs : List Hint). hs) (hints_reading D) bytes fault (Err f) is passed)

-- what is wrong in the trees
pub trees_answered : (D : Development) (bytes : List ℕ) (ts : Trees) (fault : ReadFault) → ReadsAs bytes ts → IsReadFault (hints_reading D ts) fault → IsAnswerTo D bytes (Err (told fault))
trees_answered D bytes ts fault reads is = refused_alike D bytes (told fault) (trees_fault (λ (hs : List Hint). hs) (hints_reading D) bytes ts fault (Err (told fault)) reads is refl)

-- the hints that were read are had
pub given_had : (hs : List Hint) (g : Given) (h : Hints) → IsGiven hs g → proofs_in h ≡ proofs_given g → ((k : ℕ) → terms_in h k ≡ terms_given g k) → ((k : ℕ) → formulas_in h k ≡ formulas_given g k) → HasHints hs h
given_had hs g h is proofs terms formulas =
    record { proofs = proofs ∙ is.proofs; terms = λ k. terms k ∙ is.terms k; formulas = λ k. formulas k ∙ is.formulas k }
