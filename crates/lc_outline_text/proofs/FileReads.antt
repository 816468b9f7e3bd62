-- What is reported about a whole file.
use Rattle.std.proofs.Common.{◌≡◌, ℕ, Bool, true, false, inr, List, Ok, Err, refl, ap, ◌∙◌, arith}
use Rattle.std.proofs.lemmas.Bool.Decides.{nat_tests}
use Rattle.std.specs.Prelude.{Result, not, nat_lt, IfOk}
use Rattle.std.specs.Result.{IsErrAnd}
use Rattle.lc_base.specs.declared.refusal.Fault.{Fault}
use Rattle.lc_base.specs.Limits.{condition_limit}
use Rattle.lc_sexp.specs.Reads.{ReadsAs}
use Rattle.lc_sexp.specs.Trees.{Trees}
use Rattle.lc_object_text.specs.Sections.{sections_of}
use Rattle.lc_outline.specs.DevelopmentView.{development_view}
use Rattle.lc_outline.specs.PartsView.{parts_view}
use Rattle.lc_outline.specs.declared.development.Development.{Development}
use Rattle.lc_outline.specs.declared.parts.Parts.{Parts}
use Rattle.lc_reading.proofs.Listed.{limited_read}
use Rattle.lc_reading.specs.Files.{IsAnswerTo}
use Rattle.lc_reading.specs.Flaws.{at, lesser, refused_in, refusal_of}
use Rattle.lc_reading.specs.Readings.{Reading, flawed, limited}
use Rattle.lc_reading.specs.Results.{IsReading, limited_result, told}
use Rattle.lc_reading.specs.declared.flaw.Flaw.{Flaw}
use Rattle.lc_reading.specs.declared.flaw.ReadFault.{ReadFault}
use Rattle.lc_reading.specs.declared.flaw.ReadFault.TheVariants.{Flawed, OutOfMemory}
use Rattle.lc_reading.specs.declared.pass.Pass.{Pass}
use Rattle.lc_reading.specs.declared.pass.Pass.TheVariants.{Shape, Unknown, Repeated, Auxiliary, Bound}
use Rattle.lc_outline_text.specs.Declarations.{declarations_of}
use Rattle.lc_outline_text.specs.Developments.{forms_reading, file_reading}
use Rattle.lc_outline_text.specs.Sizes.{condition_count}
use Rattle.lc_outline_text.specs.Views.{capped, is_bound, is_told_before_limits, IsFileRead}

-- a flaw of an earlier pass is reported before item 0 is beyond a limit
earlier : (p : Pass) (n l : ℕ) → not (is_bound p) ≡ true → refused_in p n ≡ refusal_of (lesser (record { pass = p; item = n; least = l }) (at Bound 0))
earlier Shape n l h = refl
earlier Unknown n l h = refl
earlier Repeated n l h = refl
earlier Auxiliary n l h = refl
earlier Bound n l h = absurd (cc)

told_too : {X : Type 0} (b : Bool) (r : Reading X) (f : Flaw) → r ≡ flawed f → not (is_bound f.pass) ≡ true → (g : Flaw) × (limited b 0 r ≡ flawed g) × (refusal_of f ≡ refusal_of g)
told_too false r f e h = (f, e, refl)
told_too true r f e h = (lesser f (at Bound 0), ap (limited true 0) e, earlier f.pass f.item f.least h)

pub told_first : (ts : Trees) (parts : Result Parts ReadFault) → IsReading parts_view (forms_reading (declarations_of ts) (sections_of ts) 0 ts) parts → is_told_before_limits parts ≡ true → IsFileRead ts parts
told_first ts (Ok p) h e = absurd (cc)
told_first ts (Err (Flawed f)) h e = told_too (nat_lt condition_limit (condition_count (declarations_of ts) (sections_of ts))) (forms_reading (declarations_of ts) (sections_of ts) 0 ts) f h e
told_first ts (Err OutOfMemory) h e = tt

-- a count up to the cap is beyond the limit if the count is
same_test : (n : ℕ) → nat_lt condition_limit (capped n) ≡ nat_lt condition_limit n
same_test n = grind (arith, nat_tests)

as_read : (ts : Trees) (result : Result Parts ReadFault) → IsReading parts_view (file_reading ts) result → IsFileRead ts result
as_read ts (Ok p) h = h
as_read ts (Err (Flawed f)) h = (f, h, refl)
as_read ts (Err OutOfMemory) h = tt

pub told_limited : (ts : Trees) (parts result : Result Parts ReadFault) (count : ℕ) → IsReading parts_view (forms_reading (declarations_of ts) (sections_of ts) 0 ts) parts
    → count ≡ capped (condition_count (declarations_of ts) (sections_of ts)) → result ≡ limited_result (nat_lt condition_limit count) 0 parts → IsFileRead ts result
told_limited ts parts result count h e is =
    let whole = condition_count (declarations_of ts) (sections_of ts) in
    let same = is ∙ ap (λ b. limited_result b 0 parts) (ap (nat_lt condition_limit) e ∙ same_test whole) in
    as_read ts result (rw same (limited_read parts_view (nat_lt condition_limit whole) 0 (forms_reading (declarations_of ts) (sections_of ts) 0 ts) parts h))

-- what holds of a value that is read also holds of it if a limit is reported
pub limited_result_ok : (P : Parts → Type 0) (b : Bool) (parts result : Result Parts ReadFault) → result ≡ limited_result b 0 parts → IfOk parts P → IfOk result P
limited_result_ok P true (Ok p) result e h = rw e tt
limited_result_ok P true (Err f) result e h = rw e tt
limited_result_ok P false (Ok p) result e h = rw e h
limited_result_ok P false (Err f) result e h = rw e tt

-- the fault of a file
fault_told : (bytes : List ℕ) (ts : Trees) (fault : ReadFault) → ReadsAs bytes ts → IsFileRead ts (Err fault) → IsAnswerTo development_view file_reading bytes (Err (told fault))
fault_told bytes ts (Flawed f) reads (g, e, same) = inr (ts, g, reads, e, same)
fault_told bytes ts OutOfMemory reads h = tt

pub file_fault : (bytes : List ℕ) (ts : Trees) (fault : ReadFault) (result : Result Development Fault) → ReadsAs bytes ts → IsFileRead ts (Err fault) → IsErrAnd result (λ f. f ≡ told fault)
    → IsAnswerTo development_view file_reading bytes result
file_fault bytes ts fault (Ok d) reads h is = absurd is
file_fault bytes ts fault (Err f) reads h is = let same : f ≡ told fault = is in rw same (fault_told bytes ts fault reads h)
