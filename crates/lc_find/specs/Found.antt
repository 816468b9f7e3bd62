-- What is found of a development with hints.
use Rattle.std.specs.Prelude.{◌≡◌, ℕ, ◌<◌, ◌⊎◌, Bool, true, false, List, length, take, Vec, Result, Ok, Err, IfOk, IfErr}
use Rattle.std.specs.declared.alloc.Global.{Global}
use Rattle.lc_term.specs.Lists.{Every}
use Rattle.lc_outline.specs.Development.{Development}
use Rattle.lc_cert.specs.Certificates.{Entry as Proved, proof_at}
use Rattle.lc_cert.specs.CertificateView.{entries_in}
use Rattle.lc_cert.specs.EntryView.{entries_of}
use Rattle.lc_cert.specs.Files.{Certifies}
use Rattle.lc_cert.specs.Printed.{certificate_line, EntryReadsBack, IsPrintable}
use Rattle.lc_cert.specs.declared.certificate.Certificate.{Certificate}
use Rattle.lc_cert.specs.declared.entry.Entry.{Entry}
use Rattle.lc_cond.specs.Conditions.{Condition, conditions}
use Rattle.lc_check.specs.Verdicts.{AreProved, IsProvenBy}
use Rattle.lc_check.specs.Walking.{ProveInTurn}
use Rattle.lc_find.specs.Faults.{IsInRange, IsOkOrNoMemory}
use Rattle.lc_find.specs.Hinted.{IsHinted, IsFirstHint, IsFirstTaken, by_entries}
use Rattle.lc_find.specs.declared.fault.FindFault.{FindFault}
use Rattle.lc_find.specs.declared.fault.FindFault.TheVariants.{NotFound, Budget, Large, OutOfMemory}

-- ---- what is promised

-- each condition has the first proof that the hints have for it, if that holds
abbrev pub TakesFirst : Development → List Proved → List Proved → Type 0
TakesFirst D hs es = (k : ℕ) → IsHinted D hs k → proof_at es k ≡ proof_at hs k

-- the text of these proofs is no certificate with them
abbrev pub IsNoCertificate : Development → List Proved → Type 0
IsNoCertificate D es = Certifies D (certificate_line D es) es → ⊥

-- the hints prove the conditions below k, and not condition k
abbrev pub IsFirstUnhinted : Development → List Proved → ℕ → Type 0
IsFirstUnhinted D hs k = AreProved hs 0 (take k (conditions D)) × (IsHinted D hs k → ⊥)

-- the certificate of the first hints, which prove all; or the condition that they do not prove is reported, or that their text is no certificate
abbrev pub IsByHints : Development → List Proved → Result Certificate FindFault → Type 0
IsByHints D hs (Ok c) = AreProved hs 0 (conditions D) × (entries_in c ≡ by_entries hs 0 (conditions D))
IsByHints D hs (Err (NotFound k)) = ⊥
IsByHints D hs (Err (Budget k)) = IsFirstUnhinted D hs k ⊎ (AreProved hs 0 (conditions D) × IsNoCertificate D (by_entries hs 0 (conditions D)))
IsByHints D hs (Err (Large k)) = ⊥
IsByHints D hs (Err OutOfMemory) = Unit {0}

-- proofs of these conditions in turn, each the first hint if that holds, and without budget only those
pub record ArePassedTo (D : Development) (hs : List Proved) (budget : ℕ) (cs : List Condition) (es : List Proved) : Type 0 where
  pub in_turn : ProveInTurn 0 es cs
  pub first : Every (IsFirstTaken D hs) es
  pub hinted : budget ≡ 0 → Every (IsFirstHint hs) es

-- of all conditions
abbrev pub ArePassed : Development → List Proved → ℕ → List Proved → Type 0
ArePassed D hs budget es = ArePassedTo D hs budget (conditions D) es

-- condition k is the first without a proof: all below it have one, and its first hint does not hold
pub record IsFirstWithout (D : Development) (hs : List Proved) (budget k : ℕ) : Type 0 where
  pub range : k < length (conditions D)
  pub unhinted : IsHinted D hs k → ⊥
  pub below : (es : List Proved) × ArePassedTo D hs budget (take k (conditions D)) es

-- a fault names the first condition without a proof; or each has one, and their text is no certificate
abbrev pub NamesFirst : Development → List Proved → ℕ → FindFault → Type 0
NamesFirst D hs budget (NotFound k) = IsFirstWithout D hs budget k
NamesFirst D hs budget (Budget k) = IsFirstWithout D hs budget k ⊎ ((es : List Proved) × ArePassed D hs budget es × IsNoCertificate D es)
NamesFirst D hs budget (Large k) = IsFirstWithout D hs budget k
NamesFirst D hs budget OutOfMemory = Unit {0}

-- what is found if these proofs are tried first, and others sought in at most `budget` steps a condition: the text of a certificate is
-- accepted; a fault names an existing condition, the first without a proof; each condition has the first of these proofs that
-- there is for it, if that holds; if these hold for all, read back, and their text is within the limits of a file, nothing is
-- reported but `OutOfMemory`
pub record Finds (D : Development) (hs : List Proved) (budget : ℕ) (result : Result Certificate FindFault) : Type 0 where
  pub accepted : IfOk result (λ c. IsProvenBy D (certificate_line D (entries_in c)))
  pub range : IfErr result (IsInRange (length (conditions D)))
  pub without : IfErr result (NamesFirst D hs budget)
  pub first : IfOk result (λ c. TakesFirst D hs (entries_in c))
  pub by : Every (EntryReadsBack D) hs → AreProved hs 0 (conditions D) → IsPrintable D (by_entries hs 0 (conditions D)) → IsOkOrNoMemory result
  pub unbudgeted : budget ≡ 0 → IsByHints D hs result

-- ---- the proofs of all conditions

-- the first condition without a proof, and why it has none
abbrev pub IsUnfound : Development → List Proved → ℕ → FindFault → Type 0
IsUnfound D hs budget (NotFound k) = IsFirstWithout D hs budget k × (budget ≡ 0 → ⊥)
IsUnfound D hs budget (Budget k) = IsFirstWithout D hs budget k
IsUnfound D hs budget (Large k) = IsFirstWithout D hs budget k × (budget ≡ 0 → ⊥)
IsUnfound D hs budget OutOfMemory = Unit {0}

-- they are found, or the reason why not is reported
abbrev pub AreFound : Development → List Proved → ℕ → Result (Vec Entry Global) FindFault → Type 0
AreFound D hs budget (Ok es) = ArePassed D hs budget (entries_of es.items)
AreFound D hs budget (Err fault) = IsUnfound D hs budget fault

-- ---- the text that is read back

-- the text is said to be accepted exactly if it is
abbrev pub IsReadBack : Development → List ℕ → Bool → Type 0
IsReadBack D text true = IsProvenBy D text
IsReadBack D text false = IsProvenBy D text → ⊥

-- the certificate of these proofs, whose text is accepted; or it is reported for one of them that their text is no certificate
abbrev pub IsGivenBack : Development → List Proved → Result Certificate FindFault → Type 0
IsGivenBack D es (Ok c) = (entries_in c ≡ es) × IsProvenBy D (certificate_line D es)
IsGivenBack D es (Err (NotFound k)) = ⊥
IsGivenBack D es (Err (Budget k)) = (k < length (conditions D)) × IsNoCertificate D es
IsGivenBack D es (Err (Large k)) = ⊥
IsGivenBack D es (Err OutOfMemory) = Unit {0}
