-- Developments that are read are within the limit of conditions, and others are refused.
use Rattle.std.proofs.Common.{◌≡◌, ℕ, ◌≤◌, ◌<◌, true, false, List, inr, length, refl, sym, ap, ◌∙◌, subst, arith}
use Rattle.std.proofs.lemmas.Bool.Decides.{nat_tests}
use Rattle.std.specs.Prelude.{nat_lt}
use Rattle.lc_lemmas.proofs.Numbers.{at_most_from_test}
use Rattle.lc_base.specs.Limits.{condition_limit}
use Rattle.lc_sexp.proofs.Unique.{one_reading_lem}
use Rattle.lc_sexp.specs.Reads.{ReadsAs}
use Rattle.lc_sexp.specs.Trees.{Trees}
use Rattle.lc_reading.specs.Files.{Says, IsFirstRefusal}
use Rattle.lc_reading.specs.Flaws.{at}
use Rattle.lc_reading.specs.Readings.{fine, flawed, limited}
use Rattle.lc_reading.specs.declared.pass.Pass.TheVariants.{Bound}
use Rattle.lc_object_text.specs.Sections.{sections_of}
use Rattle.lc_outline.specs.Development.{Development}
use Rattle.lc_cond.specs.Conditions.{conditions}
use Rattle.lc_cond.proofs.Sized.{are_counted}
use Rattle.lc_outline_text.proofs.Assembled.{forms_resolved}
use Rattle.lc_outline_text.proofs.WholeCounted.{forms_sized}
use Rattle.lc_outline_text.specs.Declarations.{declarations_of}
use Rattle.lc_outline_text.specs.Developments.{forms_reading, file_reading}
use Rattle.lc_text_laws.specs.Counted.{counted, HasForms, too_many}
use Rattle.lc_outline_text.proofs.LimitsHold.{limited_parts}

-- as many conditions as are counted from the text
forms_counted : (ts : Trees) (D : Development) → forms_reading (declarations_of ts) (sections_of ts) 0 ts ≡ fine D → length (conditions D) ≡ counted ts
forms_counted ts D e = are_counted D (forms_resolved ts D e) ∙ forms_sized ts D e

few_is : (k limit : ℕ) → k ≤ limit → nat_lt limit k ≡ false
few_is k limit h = grind (arith, nat_tests)

many_is : (k limit : ℕ) → limit < k → nat_lt limit k ≡ true
many_is k limit h = grind (arith, nat_tests)

read_of : (ts : Trees) (D : Development) → file_reading ts ≡ fine D → (nat_lt condition_limit (counted ts) ≡ false) × (forms_reading (declarations_of ts) (sections_of ts) 0 ts ≡ fine D)
read_of ts D e = limited_parts (nat_lt condition_limit (counted ts)) 0 (forms_reading (declarations_of ts) (sections_of ts) 0 ts) D e

pub text_counted : (bytes : List ℕ) (ts : Trees) (D : Development) → ReadsAs bytes ts → Says file_reading bytes D → length (conditions D) ≡ counted ts
text_counted bytes ts D reads (us, others, e) =
    let same : us ≡ ts = one_reading_lem bytes us ts others reads in forms_counted us D (read_of us D e).1 ∙ ap counted same

pub has_forms : (bytes : List ℕ) (D : Development) → Says file_reading bytes D → HasForms bytes D
has_forms bytes D (ts, reads, e) = (ts, reads, (read_of ts D e).1)

pub few_conditions : (bytes : List ℕ) (D : Development) → Says file_reading bytes D → length (conditions D) ≤ condition_limit
few_conditions bytes D (ts, reads, e) =
    let read = read_of ts D e in subst (λ k. k ≤ condition_limit) (sym (forms_counted ts D read.1)) (at_most_from_test (counted ts) condition_limit read.0)

pub said_within : (bytes : List ℕ) (D : Development) → HasForms bytes D → length (conditions D) ≤ condition_limit → Says file_reading bytes D
said_within bytes D (ts, reads, e) few =
    let within : nat_lt condition_limit (counted ts) ≡ false = few_is (counted ts) condition_limit (subst (λ k. k ≤ condition_limit) (forms_counted ts D e) few) in
    (ts, reads, ap (λ b. limited b 0 (forms_reading (declarations_of ts) (sections_of ts) 0 ts)) within ∙ e)

pub refused_beyond : (bytes : List ℕ) (D : Development) → HasForms bytes D → condition_limit < length (conditions D) → IsFirstRefusal file_reading bytes too_many
refused_beyond bytes D (ts, reads, e) many =
    let forms = forms_reading (declarations_of ts) (sections_of ts) 0 ts in
    let beyond : nat_lt condition_limit (counted ts) ≡ true = many_is (counted ts) condition_limit (subst (λ k. condition_limit < k) (forms_counted ts D e) many) in
    let told : file_reading ts ≡ flawed (at Bound 0) = ap (λ b. limited b 0 forms) beyond ∙ ap (λ r. limited true 0 r) e in
    inr (ts, at Bound 0, reads, told, refl)
