-- All bytes are a certificate of a development or have one first refusal, and never both.
use Rattle.std.proofs.Common.{◌≡◌, ℕ, ◌⊎◌, inl, inr, List, Err, refl, sym, ap, ◌∙◌}
use Rattle.lc_base.specs.declared.refusal.Fault.{Fault}
use Rattle.lc_base.specs.declared.refusal.Fault.TheVariants.{Refused, OutOfMemory}
use Rattle.lc_base.specs.declared.refusal.Refusal.{Refusal}
use Rattle.lc_base.specs.declared.refusal.Refusal.TheVariants.{Text, CertText, CertShape}
use Rattle.lc_sexp.proofs.Exists.{reading_or_fault_lem}
use Rattle.lc_sexp.proofs.Faults.{no_fault_lem, one_fault_lem}
use Rattle.lc_sexp.proofs.Unique.{one_reading_lem}
use Rattle.lc_sexp.specs.Answers.{IsTextFault}
use Rattle.lc_sexp.specs.Reads.{ReadsAs, IsFirstFault}
use Rattle.lc_sexp.specs.Trees.{Trees}
use Rattle.lc_reading.specs.Readings.{Reading, fine, flawed}
use Rattle.lc_reading.specs.Results.{IsReadFault}
use Rattle.lc_reading.specs.declared.flaw.Flaw.{Flaw}
use Rattle.lc_reading.specs.declared.flaw.ReadFault.{ReadFault}
use Rattle.lc_reading.specs.declared.flaw.ReadFault.TheVariants.{Flawed, OutOfMemory as NoMemory}
use Rattle.lc_outline.specs.Development.{Development}
use Rattle.lc_cert.specs.Answers.{text_told, trees_told}
use Rattle.lc_cert.specs.Certificates.{Entry}
use Rattle.lc_cert.specs.Files.{Certifies, IsFirstRefusal, IsAnswerTo}
use Rattle.lc_cert.specs.Readings.{certificate_reading}
use Rattle.lc_reading.proofs.Files.{fine_not_flawed, same_flaw}

-- a fault of the text
pub text_refused : (D : Development) (bytes : List ℕ) (fault : Fault) → IsTextFault fault (IsFirstFault bytes) → IsAnswerTo D bytes (Err (text_told fault))
text_refused D bytes OutOfMemory h = tt
text_refused D bytes (Refused (Text offset)) h = inl (offset, refl, h)
text_refused D bytes (Refused _) h = absurd h

-- a flaw of the trees
pub trees_refused : (D : Development) (bytes : List ℕ) (ts : Trees) (fault : ReadFault) → ReadsAs bytes ts → IsReadFault (certificate_reading D ts) fault → IsAnswerTo D bytes (Err (trees_told fault))
trees_refused D bytes ts (Flawed f) reads h = inr (ts, f, reads, h, refl)
trees_refused D bytes ts NoMemory reads h = tt

of_trees : (D : Development) (bytes : List ℕ) (ts : Trees) → ReadsAs bytes ts → (r : Reading (List Entry)) → certificate_reading D ts ≡ r
    → ((es : List Entry) × Certifies D bytes es) ⊎ ((refusal : Refusal) × IsFirstRefusal D bytes refusal)
of_trees D bytes ts reads (fine es) e = inl (es, (ts, reads, e))
of_trees D bytes ts reads (flawed f) e = inr (CertShape f.least, inr (ts, f, reads, e, refl))

of_text : (D : Development) (bytes : List ℕ) → ((ts : Trees) × ReadsAs bytes ts) ⊎ ((offset : ℕ) × IsFirstFault bytes offset)
    → ((es : List Entry) × Certifies D bytes es) ⊎ ((refusal : Refusal) × IsFirstRefusal D bytes refusal)
of_text D bytes (inl (ts, reads)) = of_trees D bytes ts reads (certificate_reading D ts) refl
of_text D bytes (inr (offset, fault)) = inr (CertText offset, inl (offset, refl, fault))

pub read_or_refused : (D : Development) (bytes : List ℕ) → ((es : List Entry) × Certifies D bytes es) ⊎ ((refusal : Refusal) × IsFirstRefusal D bytes refusal)
read_or_refused D bytes = of_text D bytes (reading_or_fault_lem bytes)

pub not_read_and_refused : (D : Development) (bytes : List ℕ) (es : List Entry) (refusal : Refusal) → Certifies D bytes es → IsFirstRefusal D bytes refusal → ⊥
not_read_and_refused D bytes es refusal (ts, reads, says) (inl (offset, e, fault)) = no_fault_lem bytes ts offset reads fault
not_read_and_refused D bytes es refusal (ts, reads, says) (inr (us, f, other, refused, e)) =
    fine_not_flawed es f (sym says ∙ ap (certificate_reading D) (one_reading_lem bytes ts us reads other) ∙ refused)

pub refused_once : (D : Development) (bytes : List ℕ) (r s : Refusal) → IsFirstRefusal D bytes r → IsFirstRefusal D bytes s → r ≡ s
refused_once D bytes r s (inl (o, e, fault)) (inl (p, e', other)) = e ∙ ap CertText (sym (one_fault_lem bytes o p fault other)) ∙ sym e'
refused_once D bytes r s (inl (o, e, fault)) (inr (us, f, reads, refused, e')) = absurd (no_fault_lem bytes us o reads fault)
refused_once D bytes r s (inr (us, f, reads, refused, e)) (inl (o, e', fault)) = absurd (no_fault_lem bytes us o reads fault)
refused_once D bytes r s (inr (ts, f, reads, refused, e)) (inr (us, g, other, refused', e')) =
    e ∙ ap (λ (h : Flaw). CertShape h.least) (same_flaw f g (certificate_reading D ts) refused (ap (certificate_reading D) (one_reading_lem bytes ts us reads other) ∙ refused')) ∙ sym e'
