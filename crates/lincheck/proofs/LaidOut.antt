-- What is laid out of a development's file, from the beginning of it that is read.
use Rattle.std.proofs.Common.{◌≡◌, ℕ, ◌≤◌, List, length, Option, Result, Ok, Err, refl, sym, subst, ap, ◌∙◌, inl, inr}
use Rattle.std.specs.Result.{IsErrAnd}
use Rattle.lc_base.specs.Line.{refusal_line_of}
use Rattle.lc_base.specs.Limits.{depth_limit, file_limit}
use Rattle.lc_base.specs.declared.refusal.Fault.{Fault}
use Rattle.lc_base.specs.declared.refusal.Fault.TheVariants.{Refused, OutOfMemory}
use Rattle.lc_base.specs.declared.refusal.Refusal.TheVariants as R
use Rattle.lc_layout.specs.Layout.{laid_out}
use Rattle.lc_outline.specs.Development.{Development}
use Rattle.lc_outline_text.specs.Developments.{file_reading}
use Rattle.lc_reading.proofs.Files.{says_not_refused, refused_once}
use Rattle.lc_reading.specs.Files.{Says, IsAnswerTo, IsFirstRefusal}
use Rattle.lc_sexp.proofs.Atoms.{read_atoms}
use Rattle.lc_sexp.proofs.Unique.{one_reading_lem}
use Rattle.lc_sexp.specs.Answers.{IsTextFault}
use Rattle.lc_sexp.specs.Reads.{ReadsAs, IsFirstFault}
use Rattle.lc_sexp.specs.Printed.{HaveAtoms}
use Rattle.lc_sexp.specs.Trees.{Trees, depth_of_all}
use Rattle.lincheck.specs.Answers.{ToldFault}
use Rattle.lincheck.specs.Lines.{AnswersLines, IsLaidOut, LaysOut}
use Rattle.lincheck.specs.Reading.{OfFile, within_limit, most_bytes}
use Rattle.lincheck.proofs.Read.{read_so}
use Rattle.lincheck.proofs.Truncated.{reading_of_whole, refusal_of_whole}

-- ---- what a reader was fed

fault_lays : {T : Type 0} (text_in : T → List ℕ) (bytes : List ℕ) (fault : Fault) → IsTextFault fault (IsFirstFault bytes) → LaysOut text_in bytes (Err fault)
fault_lays text_in bytes OutOfMemory h = tt
fault_lays text_in bytes (Refused (R.Text offset)) h = inl (offset, refl, h)
fault_lays text_in bytes (Refused _) h = absurd h

-- a fault of the text
pub text_lays : {T : Type 0} (text_in : T → List ℕ) (bytes : List ℕ) (fault : Fault) (result : Result T Fault) → IsTextFault fault (IsFirstFault bytes) → IsErrAnd result (λ f. f ≡ fault)
    → LaysOut text_in bytes result
text_lays text_in bytes fault (Ok text) h told = absurd told
text_lays text_in bytes fault (Err f) h told = subst (λ (g : Fault). LaysOut text_in bytes (Err g)) (sym told) (fault_lays text_in bytes fault h)

answer_lays : {S T : Type 0} (view : S → Development) (text_in : T → List ℕ) (bytes : List ℕ) (fault : Fault) → IsAnswerTo view file_reading bytes (Err fault) → LaysOut text_in bytes (Err fault)
answer_lays view text_in bytes OutOfMemory h = tt
answer_lays view text_in bytes (Refused refusal) h = h

-- what the development is refused for
pub refusal_lays : {S T : Type 0} (view : S → Development) (text_in : T → List ℕ) (bytes : List ℕ) (fault : Fault) (result : Result T Fault) → IsAnswerTo view file_reading bytes (Err fault)
    → IsErrAnd result (λ f. f ≡ fault) → LaysOut text_in bytes result
refusal_lays view text_in bytes fault (Ok text) h told = absurd told
refusal_lays view text_in bytes fault (Err f) h told = subst (λ (g : Fault). LaysOut text_in bytes (Err g)) (sym told) (answer_lays view text_in bytes fault h)

-- out of memory
pub memory_lays : {T : Type 0} (text_in : T → List ℕ) (bytes : List ℕ) (result : Result T Fault) → IsErrAnd result (λ f. f ≡ OutOfMemory) → LaysOut text_in bytes result
memory_lays text_in bytes (Ok text) told = absurd told
memory_lays text_in bytes (Err f) told = subst (λ (g : Fault). LaysOut text_in bytes (Err g)) (sym told) tt

-- the forms, if they say a development
pub forms_lay : (bytes : List ℕ) (forms : Trees) (D : Development) (text : List ℕ) → ReadsAs bytes forms → Says file_reading bytes D → text ≡ laid_out forms → IsLaidOut bytes text
forms_lay bytes forms D text reads (ts, reads', says) is = (ts, D, reads', says, is ∙ ap laid_out (one_reading_lem bytes forms ts reads reads'))

-- ---- the file

laid_of_whole : (file text : List ℕ) → IsLaidOut (within_limit file) text → IsLaidOut file text
laid_of_whole file text (forms, D, reads, says, is) = (forms, D, reading_of_whole most_bytes file forms refl reads, says, is)

pub lines_answered : {T : Type 0} (text_in : T → List ℕ) (known : Option (List ℕ)) (bytes : List ℕ) (text : T) → OfFile known (λ file. bytes ≡ within_limit file) → LaysOut text_in bytes (Ok text)
    → OfFile known (λ file. AnswersLines file (text_in text) 0)
lines_answered text_in known bytes text read lays = read_so known read (λ file read. inr (laid_of_whole file (text_in text) (subst (λ b. IsLaidOut b (text_in text)) read lays), refl))

pub lines_refused : {T : Type 0} (text_in : T → List ℕ) (known : Option (List ℕ)) (bytes : List ℕ) (fault : Fault) (text : List ℕ) (status : ℕ) → OfFile known (λ file. bytes ≡ within_limit file)
    → LaysOut text_in bytes (Err fault) → ToldFault fault text status → OfFile known (λ file. AnswersLines file text status)
lines_refused text_in known bytes (Refused refusal) text status read lays told = read_so known read (λ file read. inl (refusal, refusal_of_whole file_reading file refusal (subst (λ b. IsFirstRefusal file_reading b refusal) read lays), told))
lines_refused text_in known bytes OutOfMemory text status read lays told = absurd told

-- ---- printing again

laid_says : (file text : List ℕ) → IsLaidOut file text → (D : Development) × Says file_reading file D
laid_says file text (forms, D, reads, says, is) = (D, (forms, reads, says))

-- a file is laid out in one way
laid_once : (file text text' : List ℕ) → IsLaidOut file text → IsLaidOut file text' → text ≡ text'
laid_once file text text' (forms, D, reads, says, is) (forms', D', reads', says', is') = is ∙ ap laid_out (one_reading_lem file forms forms' reads reads') ∙ sym is'

pub one_layout : (file text text' : List ℕ) (status status' : ℕ) → AnswersLines file text status → AnswersLines file text' status' → (text ≡ text') × (status ≡ status')
one_layout file text text' status status' (inl (r, is, told)) (inl (s, is', told')) =
    (told.0 ∙ ap refusal_line_of (refused_once file_reading file r s is is') ∙ sym told'.0, told.1 ∙ sym told'.1)
one_layout file text text' status status' (inl (r, is, told)) (inr (laid, zero)) =
    let says = laid_says file text' laid in absurd (says_not_refused file_reading file says.0 r says.1 is)
one_layout file text text' status status' (inr (laid, zero)) (inl (r, is, told)) =
    let says = laid_says file text laid in absurd (says_not_refused file_reading file says.0 r says.1 is)
one_layout file text text' status status' (inr (laid, zero)) (inr (laid', zero')) = (laid_once file text text' laid laid', zero ∙ sym zero')

-- what is laid out of trees reads as them, as lc_layout has it
abbrev ReadsBack : Type 0
ReadsBack = (ts : Trees) → HaveAtoms ts → depth_of_all ts ≤ depth_limit → length (laid_out ts) ≤ file_limit → ReadsAs (laid_out ts) ts

-- what is laid out of a file reads as the file's forms
again : ReadsBack → (file text : List ℕ) (forms : Trees) → ReadsAs file forms → text ≡ laid_out forms → length text ≤ file_limit → ReadsAs text forms
again back file text forms reads is short =
    subst (λ t. ReadsAs t forms) (sym is) (back forms (read_atoms file forms reads) reads.nesting (subst (λ t. length t ≤ file_limit) is short))

laid_stays : ReadsBack → (file text : List ℕ) → IsLaidOut file text → length text ≤ file_limit → IsLaidOut text text
laid_stays back file text (forms, D, reads, says, is) short = (forms, D, again back file text forms reads is short, says, is)

laid_says_it : ReadsBack → (file text : List ℕ) (D : Development) → IsLaidOut file text → Says file_reading file D → length text ≤ file_limit → Says file_reading text D
laid_says_it back file text D (forms, D', reads, says, is) (ts, reads', says') short =
    (forms, again back file text forms reads is short, ap file_reading (one_reading_lem file forms ts reads reads') ∙ says')

-- so it is laid out as it is, and says what the file says
pub lines_stay : ReadsBack → (file text : List ℕ) → AnswersLines file text 0 → length text ≤ file_limit → AnswersLines text text 0
lines_stay back file text (inl (refusal, is, told)) short = absurd (let e : 0 ≡ 1 = told.1 in cc)
lines_stay back file text (inr (laid, zero)) short = inr (laid_stays back file text laid short, refl)

pub lines_say : ReadsBack → (file text : List ℕ) (D : Development) → AnswersLines file text 0 → Says file_reading file D → length text ≤ file_limit → Says file_reading text D
lines_say back file text D (inl (refusal, is, told)) says short = absurd (let e : 0 ≡ 1 = told.1 in cc)
lines_say back file text D (inr (laid, zero)) says short = laid_says_it back file text D laid says short
