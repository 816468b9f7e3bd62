-- Two files have one verdict.
use Rattle.std.proofs.Common.{◌≡◌, ℕ, suc, ◌⊎◌, inl, inr, List, [], ◌∷◌, ◌++◌, length, Option, Some, None, refl, sym, subst, ap, ap₂, ◌∙◌, arith}
use Rattle.lc_base.specs.declared.refusal.Refusal.{Refusal}
use Rattle.lc_base.specs.declared.refusal.Refusal.TheVariants.{Missing, Extra}
use Rattle.lc_term.specs.Syntax.{Not}
use Rattle.lc_kernel.proofs.First.{DerivesOrFails, derives_or_fails, fails_not_derives, fails_once}
use Rattle.lc_kernel.specs.Proofs.{Proof}
use Rattle.lc_reading.proofs.Files.{says_or_refused, says_not_refused, says_one, refused_once}
use Rattle.lc_reading.specs.Files.{Says, IsFirstRefusal}
use Rattle.lc_outline.specs.Development.{Development}
use Rattle.lc_outline_text.specs.Developments.{file_reading}
use Rattle.lc_cert.proofs.Refusals as R
use Rattle.lc_cert.proofs.Rising.{certificate_rises}
use Rattle.lc_cert.specs.Certificates.{Entry}
use Rattle.lc_cert.specs.Files as C
use Rattle.lc_cert.specs.Files.{Certifies}
use Rattle.lc_cert.specs.Readings.{certificate_reading}
use Rattle.lc_cert.specs.Certificates.{proof_at}
use Rattle.lc_cond.specs.Conditions.{Condition, conditions}
use Rattle.lc_check.proofs.LeastExtra.{extra_or_none}
use Rattle.lc_check.specs.Verdicts.{IsProved, IsUnproved, flaw_told, AreProved, IsFirstUnproved, HasNoExtra, IsFirstExtra, ProvesAll, IsProofRefusal, IsProvenBy, IsAccepted, IsCertificateRefusal, IsRefused}

-- ---- a condition

by_outcome : (k : ℕ) (c : Condition) (p : Proof) → DerivesOrFails c.variables (c.hypotheses ++ Not c.goal ∷ []) p → IsProved c (Some p) ⊎ ((r : Refusal) × IsUnproved k c (Some p) r)
by_outcome k c p (inl d) = inl d
by_outcome k c p (inr (step, why, f)) = inr (flaw_told k step why, (step, why, f, refl))

proved_or_not : (k : ℕ) (c : Condition) (o : Option Proof) → IsProved c o ⊎ ((r : Refusal) × IsUnproved k c o r)
proved_or_not k c None = inr (Missing k, refl)
proved_or_not k c (Some p) = by_outcome k c p (derives_or_fails p c.variables (c.hypotheses ++ Not c.goal ∷ []))

pub not_proved_and_not : (k : ℕ) (c : Condition) (o : Option Proof) (r : Refusal) → IsProved c o → IsUnproved k c o r → ⊥
not_proved_and_not k c None r h u = h
not_proved_and_not k c (Some p) r h (step, why, f, e) = fails_not_derives f h

unproved_once : (k : ℕ) (c : Condition) (o : Option Proof) (r s : Refusal) → IsUnproved k c o r → IsUnproved k c o s → r ≡ s
unproved_once k c None r s h g = h ∙ sym g
unproved_once k c (Some p) r s (step, why, f, e) (step', why', g, e') =
    let once = fails_once f g in
    e ∙ ap₂ (flaw_told k) once.0 once.1 ∙ sym e'

-- ---- conditions

by_first : (es : List Entry) (k : ℕ) (c : Condition) (cs : List Condition) → IsProved c (proof_at es k) ⊎ ((r : Refusal) × IsUnproved k c (proof_at es k) r) → AreProved es (suc k) cs ⊎ ((r : Refusal) × IsFirstUnproved es (suc k) cs r)
    → AreProved es k (c ∷ cs) ⊎ ((r : Refusal) × IsFirstUnproved es k (c ∷ cs) r)
by_first es k c cs (inr (r, h)) others = inr (r, inl h)
by_first es k c cs (inl h) (inl hs) = inl (h, hs)
by_first es k c cs (inl h) (inr (r, hs)) = inr (r, inr (h, hs))

all_proved_or_not : (es : List Entry) (k : ℕ) (cs : List Condition) → AreProved es k cs ⊎ ((r : Refusal) × IsFirstUnproved es k cs r)
all_proved_or_not es k [] = inl tt
all_proved_or_not es k (c ∷ cs) = by_first es k c cs (proved_or_not k c (proof_at es k)) (all_proved_or_not es (suc k) cs)

not_all_and_not : (es : List Entry) (k : ℕ) (cs : List Condition) (r : Refusal) → AreProved es k cs → IsFirstUnproved es k cs r → ⊥
not_all_and_not es k [] r h u = u
not_all_and_not es k (c ∷ cs) r h (inl u) = not_proved_and_not k c (proof_at es k) r h.0 u
not_all_and_not es k (c ∷ cs) r h (inr (g, u)) = not_all_and_not es (suc k) cs r h.1 u

first_once : (es : List Entry) (k : ℕ) (cs : List Condition) (r s : Refusal) → IsFirstUnproved es k cs r → IsFirstUnproved es k cs s → r ≡ s
first_once es k [] r s h g = absurd h
first_once es k (c ∷ cs) r s (inl h) (inl g) = unproved_once k c (proof_at es k) r s h g
first_once es k (c ∷ cs) r s (inl h) (inr (p, g)) = absurd (not_proved_and_not k c (proof_at es k) r p h)
first_once es k (c ∷ cs) r s (inr (p, h)) (inl g) = absurd (not_proved_and_not k c (proof_at es k) s p g)
first_once es k (c ∷ cs) r s (inr (p, h)) (inr (q, g)) = first_once es (suc k) cs r s h g

-- ---- a certificate

extra_once : (n : ℕ) (es : List Entry) (r s : Refusal) → IsFirstExtra n es r → IsFirstExtra n es s → r ≡ s
extra_once n es r s (k, extra, least, e) (j, other, lower, e') =
    let there = least j other in
    let here = lower k extra in
    let same : k ≡ j = omega (arith, there, here) in
    e ∙ ap Extra same ∙ sym e'

by_extra : (es : List Entry) (cs : List Condition) → AreProved es 0 cs → HasNoExtra (length cs) es ⊎ ((r : Refusal) × IsFirstExtra (length cs) es r) → ProvesAll es cs ⊎ ((r : Refusal) × IsProofRefusal es cs r)
by_extra es cs h (inl none) = inl (h, none)
by_extra es cs h (inr (r, extra)) = inr (r, inr (h, extra))

by_conditions : (es : List Entry) (cs : List Condition) → AreProved es 0 cs ⊎ ((r : Refusal) × IsFirstUnproved es 0 cs r) → HasNoExtra (length cs) es ⊎ ((r : Refusal) × IsFirstExtra (length cs) es r)
    → ProvesAll es cs ⊎ ((r : Refusal) × IsProofRefusal es cs r)
by_conditions es cs (inl h) extra = by_extra es cs h extra
by_conditions es cs (inr (r, h)) extra = inr (r, inl h)

not_all_and_refused : (es : List Entry) (cs : List Condition) (r : Refusal) → ProvesAll es cs → IsProofRefusal es cs r → ⊥
not_all_and_refused es cs r h (inl u) = not_all_and_not es 0 cs r h.0 u
not_all_and_refused es cs r h (inr (p, (k, extra, least, e))) = h.1 k extra

proofs_once : (es : List Entry) (cs : List Condition) (r s : Refusal) → IsProofRefusal es cs r → IsProofRefusal es cs s → r ≡ s
proofs_once es cs r s (inl h) (inl g) = first_once es 0 cs r s h g
proofs_once es cs r s (inl h) (inr (p, g)) = absurd (not_all_and_not es 0 cs r p h)
proofs_once es cs r s (inr (p, h)) (inl g) = absurd (not_all_and_not es 0 cs s p g)
proofs_once es cs r s (inr (p, h)) (inr (q, g)) = extra_once (length cs) es r s h g

-- ---- a certificate file

by_proofs : (D : Development) (cert : List ℕ) (es : List Entry) → Certifies D cert es → ProvesAll es (conditions D) ⊎ ((r : Refusal) × IsProofRefusal es (conditions D) r)
    → IsProvenBy D cert ⊎ ((r : Refusal) × IsCertificateRefusal D cert r)
by_proofs D cert es says (inl h) = inl (es, says, h)
by_proofs D cert es says (inr (r, h)) = inr (r, inr (es, says, h))

by_certificate : (D : Development) (cert : List ℕ) → ((es : List Entry) × Certifies D cert es) ⊎ ((r : Refusal) × C.IsFirstRefusal D cert r)
    → IsProvenBy D cert ⊎ ((r : Refusal) × IsCertificateRefusal D cert r)
by_certificate D cert (inl (es, says)) =
    by_proofs D cert es says (by_conditions es (conditions D) (all_proved_or_not es 0 (conditions D)) (extra_or_none (length (conditions D)) es (certificate_rises D cert es says)))
by_certificate D cert (inr (r, first)) = inr (r, inl first)

one_certificate : (D : Development) (cert : List ℕ) (es fs : List Entry) → Certifies D cert es → Certifies D cert fs → es ≡ fs
one_certificate D = says_one (certificate_reading D)

pub not_certified_and_refused : (D : Development) (cert : List ℕ) (r : Refusal) → IsProvenBy D cert → IsCertificateRefusal D cert r → ⊥
not_certified_and_refused D cert r (es, says, h) (inl first) = R.not_read_and_refused D cert es r says first
not_certified_and_refused D cert r (es, says, h) (inr (fs, other, u)) =
    not_all_and_refused fs (conditions D) r (subst (λ l. ProvesAll l (conditions D)) (one_certificate D cert es fs says other) h) u

certificate_once : (D : Development) (cert : List ℕ) (r s : Refusal) → IsCertificateRefusal D cert r → IsCertificateRefusal D cert s → r ≡ s
certificate_once D cert r s (inl h) (inl g) = R.refused_once D cert r s h g
certificate_once D cert r s (inl h) (inr (fs, says, g)) = absurd (R.not_read_and_refused D cert fs r says h)
certificate_once D cert r s (inr (es, says, h)) (inl g) = absurd (R.not_read_and_refused D cert es s says g)
certificate_once D cert r s (inr (es, says, h)) (inr (fs, other, g)) =
    proofs_once fs (conditions D) r s (subst (λ l. IsProofRefusal l (conditions D) r) (one_certificate D cert es fs says other) h) g

-- ---- two files

one_development : (dev : List ℕ) (D E : Development) → Says file_reading dev D → Says file_reading dev E → D ≡ E
one_development = says_one file_reading

of_certificate : (dev cert : List ℕ) (D : Development) → Says file_reading dev D → IsProvenBy D cert ⊎ ((r : Refusal) × IsCertificateRefusal D cert r)
    → ((D : Development) × IsAccepted dev cert D) ⊎ ((r : Refusal) × IsRefused dev cert r)
of_certificate dev cert D says (inl h) = inl (D, (says, h))
of_certificate dev cert D says (inr (r, h)) = inr (r, inr (D, says, h))

of_development : (dev cert : List ℕ) → ((D : Development) × Says file_reading dev D) ⊎ ((r : Refusal) × IsFirstRefusal file_reading dev r)
    → ((D : Development) × IsAccepted dev cert D) ⊎ ((r : Refusal) × IsRefused dev cert r)
of_development dev cert (inl (D, says)) = of_certificate dev cert D says (by_certificate D cert (R.read_or_refused D cert))
of_development dev cert (inr (r, first)) = inr (r, inl first)

pub accepted_or_refused : (dev cert : List ℕ) → ((D : Development) × IsAccepted dev cert D) ⊎ ((r : Refusal) × IsRefused dev cert r)
accepted_or_refused dev cert = of_development dev cert (says_or_refused file_reading dev)

pub not_accepted_and_refused : (dev cert : List ℕ) (D : Development) (r : Refusal) → IsAccepted dev cert D → IsRefused dev cert r → ⊥
not_accepted_and_refused dev cert D r (says, h) (inl first) = says_not_refused file_reading dev D r says first
not_accepted_and_refused dev cert D r (says, h) (inr (E, other, u)) =
    not_certified_and_refused D cert r h (subst (λ (d : Development). IsCertificateRefusal d cert r) (one_development dev E D other says) u)

pub accepted_once : (dev cert : List ℕ) (D E : Development) → IsAccepted dev cert D → IsAccepted dev cert E → D ≡ E
accepted_once dev cert D E h g = one_development dev D E h.0 g.0

pub verdict_refused_once : (dev cert : List ℕ) (r s : Refusal) → IsRefused dev cert r → IsRefused dev cert s → r ≡ s
verdict_refused_once dev cert r s (inl h) (inl g) = refused_once file_reading dev r s h g
verdict_refused_once dev cert r s (inl h) (inr (D, says, g)) = absurd (says_not_refused file_reading dev D r says h)
verdict_refused_once dev cert r s (inr (D, says, h)) (inl g) = absurd (says_not_refused file_reading dev D s says g)
verdict_refused_once dev cert r s (inr (D, says, h)) (inr (E, other, g)) =
    certificate_once D cert r s h (subst (λ (d : Development). IsCertificateRefusal d cert s) (one_development dev E D other says) g)
