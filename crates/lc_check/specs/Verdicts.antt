-- The verdict on a development file and a certificate file.
use Rattle.std.specs.Prelude.{◌≡◌, ℕ, suc, ◌≤◌, ◌⊎◌, List, [], ◌∷◌, length, Option, Some, None}
use Rattle.lc_base.specs.declared.refusal.Refusal.{Refusal}
use Rattle.lc_base.specs.declared.refusal.Refusal.TheVariants.{Missing, Extra, Proof as InProof, Large as LargeIn}
use Rattle.lc_reading.specs.Files.{Says, IsFirstRefusal}
use Rattle.lc_kernel.specs.Derivation.{DerivesGoal, FailsGoal}
use Rattle.lc_kernel.specs.Proofs.{Proof}
use Rattle.lc_kernel.specs.Reasons.{code_of}
use Rattle.lc_kernel.specs.declared.reason.Flaw.{Flaw}
use Rattle.lc_kernel.specs.declared.reason.Flaw.TheVariants.{Bad, Large}
use Rattle.lc_outline.specs.Development.{Development}
use Rattle.lc_outline_text.specs.Developments.{file_reading}
use Rattle.lc_cert.specs.Certificates.{Entry, proof_at}
use Rattle.lc_cert.specs.Files as C
use Rattle.lc_cert.specs.Files.{Certifies}
use Rattle.lc_cond.specs.Conditions.{Condition, conditions}

-- ---- a condition, and the proof that the certificate has for it

-- the proof derives it
abbrev pub IsProved : Condition → Option Proof → Type 0
IsProved c None = ⊥
IsProved c (Some p) = DerivesGoal c.variables c.hypotheses c.goal p

-- the refusal for a flaw of this step in the proof of condition k
abbrev pub flaw_told : ℕ → ℕ → Flaw → Refusal
flaw_told k step (Bad reason) = InProof k step (code_of reason)
flaw_told k step Large = LargeIn k step

-- condition k is refused so: it has no proof; or this step of its proof is the first that does not hold
abbrev pub IsUnproved : ℕ → Condition → Option Proof → Refusal → Type 0
IsUnproved k c None refusal = refusal ≡ Missing k
IsUnproved k c (Some p) refusal = (step : ℕ) × (why : Flaw) × FailsGoal c.variables c.hypotheses c.goal p step why × (refusal ≡ flaw_told k step why)

-- ---- the proofs of a certificate, and conditions from number k on

-- each condition is proved
abbrev pub AreProved : List Entry → ℕ → List Condition → Type 0
AreProved es k [] = Unit {0}
AreProved es k (c ∷ cs) = IsProved c (proof_at es k) × AreProved es (suc k) cs

-- the least condition that is not proved is refused so
abbrev pub IsFirstUnproved : List Entry → ℕ → List Condition → Refusal → Type 0
IsFirstUnproved es k [] refusal = ⊥
IsFirstUnproved es k (c ∷ cs) refusal =
    IsUnproved k c (proof_at es k) refusal ⊎ (IsProved c (proof_at es k) × IsFirstUnproved es (suc k) cs refusal)

-- ---- a certificate, if there are n conditions

-- there is a proof for number k, and no such condition
pub record IsExtra (n : ℕ) (es : List Entry) (k : ℕ) : Type 0 where
  pub proof : Proof
  pub stands : proof_at es k ≡ Some proof
  pub behind : n ≤ k

abbrev pub HasNoExtra : ℕ → List Entry → Type 0
HasNoExtra n es = (k : ℕ) → IsExtra n es k → ⊥

-- the least extra number is reported
abbrev pub IsFirstExtra : ℕ → List Entry → Refusal → Type 0
IsFirstExtra n es refusal = (k : ℕ) × IsExtra n es k × ((j : ℕ) → IsExtra n es j → k ≤ j) × (refusal ≡ Extra k)

-- one derivation for each condition, and no other proof
abbrev pub ProvesAll : List Entry → List Condition → Type 0
ProvesAll es cs = AreProved es 0 cs × HasNoExtra (length cs) es

-- the first refusal of its proofs: the least condition that is not proved; else the least extra number
abbrev pub IsProofRefusal : List Entry → List Condition → Refusal → Type 0
IsProofRefusal es cs refusal = IsFirstUnproved es 0 cs refusal ⊎ (AreProved es 0 cs × IsFirstExtra (length cs) es refusal)

-- ---- the verdict

-- the file is a certificate of this development that proves all its conditions and nothing else
abbrev pub IsProvenBy : Development → List ℕ → Type 0
IsProvenBy D cert = (es : List Entry) × Certifies D cert es × ProvesAll es (conditions D)

-- the files are accepted: a development, and a certificate that proves it
abbrev pub IsAccepted : List ℕ → List ℕ → Development → Type 0
IsAccepted dev cert D = Says file_reading dev D × IsProvenBy D cert

-- the first refusal of a file that should be a certificate of this development: of its text, of its items, of its proofs
abbrev pub IsCertificateRefusal : Development → List ℕ → Refusal → Type 0
IsCertificateRefusal D cert refusal = C.IsFirstRefusal D cert refusal ⊎ ((es : List Entry) × Certifies D cert es × IsProofRefusal es (conditions D) refusal)

-- the files are refused so: the first refusal of the development file; else that of the certificate file
abbrev pub IsRefused : List ℕ → List ℕ → Refusal → Type 0
IsRefused dev cert refusal = IsFirstRefusal file_reading dev refusal ⊎ ((D : Development) × Says file_reading dev D × IsCertificateRefusal D cert refusal)
