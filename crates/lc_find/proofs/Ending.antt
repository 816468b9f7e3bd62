-- The certificate of proofs that were taken, or why none is given.
use Rattle.std.proofs.Common.{◌≡◌, ℕ, ◌+◌, inl, inr, List, [], ◌∷◌, ◌++◌, length, append-nil, None, take, sym, ◌∙◌, subst, arith}
use Rattle.std.specs.Prelude.{Result, Ok, Err, IfOk, IfErr, true}
use Rattle.lc_term.specs.Lists.{Every}
use Rattle.lc_outline.specs.Development.{Development}
use Rattle.lc_cert.specs.Certificates.{Entry, is_rising}
use Rattle.lc_cert.specs.CertificateView.{entries_in}
use Rattle.lc_cert.specs.Files.{Certifies}
use Rattle.lc_cert.specs.Printed.{certificate_line, EntryReadsBack, IsPrintable}
use Rattle.lc_cert.specs.declared.certificate.Certificate.{Certificate}
use Rattle.lc_cond.specs.Conditions as S
use Rattle.lc_cond.specs.Conditions.{conditions}
use Rattle.lc_check.proofs.InTurn.{proved_behind, extra_behind}
use Rattle.lc_check.specs.Verdicts.{AreProved, IsExtra, ProvesAll, IsProvenBy}
use Rattle.lc_check.specs.Walking.{ProveInTurn}
use Rattle.lc_find.proofs.FirstHints.{takes_first, hints_prove, hints_are, all_hints, hinted_each, hints_read}
use Rattle.lc_find.proofs.Passing.{rising_all}
use Rattle.lc_find.specs.Faults.{IsInRange, IsOkOrNoMemory}
use Rattle.lc_find.specs.Found.{TakesFirst, IsNoCertificate, IsByHints, Finds, ArePassed, IsFirstWithout, NamesFirst, IsUnfound, IsGivenBack}
use Rattle.lc_find.specs.Hinted.{by_entries, IsFirstHint}
use Rattle.lc_find.specs.declared.fault.FindFault.{FindFault}
use Rattle.lc_find.specs.declared.fault.FindFault.TheVariants.{NotFound, Budget, Large, OutOfMemory}
use Rattle.lc_check.proofs.Stepping.{nothing_extra}

-- ---- the text is read back

pub proves_all : (es : List Entry) (cs : List S.Condition) → ProveInTurn 0 es cs → ProvesAll es cs
proves_all es cs h =
    let proved = proved_behind 0 es [] cs [] h tt in
    let size : length cs ≡ 0 + length cs = omega arith in (
      subst (AreProved es 0) (append-nil cs) (subst (λ l. AreProved l 0 (cs ++ [])) (append-nil es) proved),
      λ j x. nothing_extra (length cs) j (extra_behind 0 (length cs) es [] cs j h size (subst (λ l. IsExtra (length cs) l j) (sym (append-nil es)) x)),
    )

-- a text that is refused is no certificate with these proofs
pub refused_back : (D : Development) (es : List Entry) → ProveInTurn 0 es (conditions D) → (IsProvenBy D (certificate_line D es) → ⊥) → IsNoCertificate D es
refused_back D es h not certifies = not (es, certifies, proves_all es (conditions D) h)

-- without conditions the certificate has no proofs
pub empty_back : (D : Development) (es : List Entry) → length es ≡ 0 → ProveInTurn 0 es (conditions D) → Certifies D (certificate_line D []) [] → IsProvenBy D (certificate_line D es)
empty_back D [] none h certifies = ([], certifies, proves_all [] (conditions D) h)
empty_back D (e ∷ es) none h certifies = absurd (omega (arith, none))

-- ---- what `find` answers of all proofs

accepted_back : (D : Development) (es : List Entry) (result : Result Certificate FindFault) → IsGivenBack D es result → IfOk result (λ c. IsProvenBy D (certificate_line D (entries_in c)))
accepted_back D es (Ok c) h = subst (λ l. IsProvenBy D (certificate_line D l)) (sym h.0) h.1
accepted_back D es (Err fault) h = tt

range_back : (D : Development) (es : List Entry) (result : Result Certificate FindFault) → IsGivenBack D es result → IfErr result (IsInRange (length (conditions D)))
range_back D es (Ok c) h = tt
range_back D es (Err (NotFound k)) h = absurd h
range_back D es (Err (Budget k)) h = h.0
range_back D es (Err (Large k)) h = absurd h
range_back D es (Err OutOfMemory) h = tt

without_back : (D : Development) (hs es : List Entry) (budget : ℕ) (result : Result Certificate FindFault) → ArePassed D hs budget es → IsGivenBack D es result → IfErr result (NamesFirst D hs budget)
without_back D hs es budget (Ok c) passed h = tt
without_back D hs es budget (Err (NotFound k)) passed h = absurd h
without_back D hs es budget (Err (Budget k)) passed h = inr (es, passed, h.1)
without_back D hs es budget (Err (Large k)) passed h = absurd h
without_back D hs es budget (Err OutOfMemory) passed h = tt

first_back : (D : Development) (hs es : List Entry) (budget : ℕ) (result : Result Certificate FindFault) → ArePassed D hs budget es → IsGivenBack D es result → IfOk result (λ c. TakesFirst D hs (entries_in c))
first_back D hs es budget (Ok c) passed h = subst (TakesFirst D hs) (sym h.0) (takes_first D hs es passed.in_turn passed.first)
first_back D hs es budget (Err fault) passed h = tt

-- the law that what is made is read back
abbrev pub IsMadeBack : Type 0
IsMadeBack = (D : Development) (es : List Entry) → is_rising None es ≡ true → Every (EntryReadsBack D) es → IsPrintable D es → Certifies D (certificate_line D es) es

by_back : (D : Development) (hs es : List Entry) (budget : ℕ) (result : Result Certificate FindFault) → IsMadeBack → ArePassed D hs budget es → IsGivenBack D es result
    → Every (EntryReadsBack D) hs → AreProved hs 0 (conditions D) → IsPrintable D (by_entries hs 0 (conditions D)) → IsOkOrNoMemory result
by_back D hs es budget (Ok c) made passed h read proved fits = tt
by_back D hs es budget (Err (NotFound k)) made passed h read proved fits = h
by_back D hs es budget (Err (Budget k)) made passed h read proved fits =
    let hints = all_hints D hs es passed.in_turn proved passed.first in
    let same = hints_are hs es 0 (conditions D) passed.in_turn hints in
    h.1 (made D es (rising_all es (conditions D) passed.in_turn) (hints_read D hs es read hints) (subst (IsPrintable D) same fits))
by_back D hs es budget (Err (Large k)) made passed h read proved fits = h
by_back D hs es budget (Err OutOfMemory) made passed h read proved fits = tt

unbudgeted_back : (D : Development) (hs es : List Entry) (result : Result Certificate FindFault) → ProveInTurn 0 es (conditions D) → Every (IsFirstHint hs) es → IsGivenBack D es result → IsByHints D hs result
unbudgeted_back D hs es (Ok c) turn hints h = (hints_prove hs es 0 (conditions D) turn hints, h.0 ∙ sym (hints_are hs es 0 (conditions D) turn hints))
unbudgeted_back D hs es (Err (NotFound k)) turn hints h = h
unbudgeted_back D hs es (Err (Budget k)) turn hints h = inr (hints_prove hs es 0 (conditions D) turn hints, subst (IsNoCertificate D) (sym (hints_are hs es 0 (conditions D) turn hints)) h.1)
unbudgeted_back D hs es (Err (Large k)) turn hints h = h
unbudgeted_back D hs es (Err OutOfMemory) turn hints h = tt

pub given_back : (D : Development) (hs es : List Entry) (budget : ℕ) (result : Result Certificate FindFault) → IsMadeBack → ArePassed D hs budget es → IsGivenBack D es result → Finds D hs budget result
given_back D hs es budget result made passed h = record {
  accepted = accepted_back D es result h;
  range = range_back D es result h;
  without = without_back D hs es budget result passed h;
  first = first_back D hs es budget result passed h;
  by = by_back D hs es budget result made passed h;
  unbudgeted = λ zero. unbudgeted_back D hs es result passed.in_turn (passed.hinted zero) h;
}

-- ---- what `find` answers when a condition has no proof

range_unfound : (D : Development) (hs : List Entry) (budget : ℕ) (fault : FindFault) → IsUnfound D hs budget fault → IsInRange (length (conditions D)) fault
range_unfound D hs budget (NotFound k) h = h.0.range
range_unfound D hs budget (Budget k) h = h.range
range_unfound D hs budget (Large k) h = h.0.range
range_unfound D hs budget OutOfMemory h = tt

without_unfound : (D : Development) (hs : List Entry) (budget : ℕ) (fault : FindFault) → IsUnfound D hs budget fault → NamesFirst D hs budget fault
without_unfound D hs budget (NotFound k) h = h.0
without_unfound D hs budget (Budget k) h = inl h
without_unfound D hs budget (Large k) h = h.0
without_unfound D hs budget OutOfMemory h = tt

not_all : (D : Development) (hs : List Entry) (budget k : ℕ) → IsFirstWithout D hs budget k → AreProved hs 0 (conditions D) → ⊥
not_all D hs budget k h proved = h.unhinted (hinted_each D hs k h.range proved)

by_unfound : (A : Type 0) (D : Development) (hs : List Entry) (budget : ℕ) (fault : FindFault) → IsUnfound D hs budget fault → AreProved hs 0 (conditions D) → IsOkOrNoMemory {A = A} (Err fault)
by_unfound A D hs budget (NotFound k) h proved = not_all D hs budget k h.0 proved
by_unfound A D hs budget (Budget k) h proved = not_all D hs budget k h proved
by_unfound A D hs budget (Large k) h proved = not_all D hs budget k h.0 proved
by_unfound A D hs budget OutOfMemory h proved = tt

unbudgeted_unfound : (D : Development) (hs : List Entry) (budget : ℕ) (fault : FindFault) → IsUnfound D hs budget fault → budget ≡ 0 → IsByHints D hs (Err fault)
unbudgeted_unfound D hs budget (NotFound k) h zero = h.1 zero
unbudgeted_unfound D hs budget (Budget k) h zero =
    let (es, passed) = h.below in
    inl (hints_prove hs es 0 (take k (conditions D)) passed.in_turn (passed.hinted zero), h.unhinted)
unbudgeted_unfound D hs budget (Large k) h zero = h.1 zero
unbudgeted_unfound D hs budget OutOfMemory h zero = tt

pub unfound_finds_fault : (D : Development) (hs : List Entry) (budget : ℕ) (fault : FindFault) → IsUnfound D hs budget fault → Finds D hs budget (Err fault)
unfound_finds_fault D hs budget fault h = record {
  accepted = tt;
  range = range_unfound D hs budget fault h;
  without = without_unfound D hs budget fault h;
  first = tt;
  by = λ read proved fits. by_unfound Certificate D hs budget fault h proved;
  unbudgeted = unbudgeted_unfound D hs budget fault h;
}
