-- What an old development's file, its certificate's and a new development's are answered, from the beginnings of them that are read.
use Rattle.std.proofs.Common.{◌≡◌, ℕ, List, [], ◌++◌, length, append-nil, Option, Some, None, IfSome, IfOk, IfErr, Result, Ok, Err, refl, sym, ap, subst, ◌∙◌, inl, inr}
use Rattle.std.specs.Prelude.{IsErr}
use Rattle.lc_base.specs.declared.refusal.Fault.{Fault}
use Rattle.lc_base.specs.declared.refusal.Fault.TheVariants.{Refused, OutOfMemory}
use Rattle.lc_base.specs.declared.refusal.Refusal.{Refusal}
use Rattle.lc_carry.specs.Carried.{carried}
use Rattle.lc_cert.specs.CertificateView.{entries_in}
use Rattle.lc_cert.specs.Certificates.{Entry}
use Rattle.lc_cert.specs.Files as C
use Rattle.lc_cert.specs.Files.{Certifies}
use Rattle.lc_cert.specs.Printed.{certificate_line}
use Rattle.lc_cert.specs.Readings.{certificate_reading}
use Rattle.lc_cert.specs.declared.certificate.Certificate.{Certificate}
use Rattle.lc_check.proofs.OneVerdict.{not_certified_and_refused}
use Rattle.lc_check.specs.VerdictView.{development_in}
use Rattle.lc_check.specs.Verdicts.{IsCertificateRefusal, IsProvenBy, ProvesAll}
use Rattle.lc_check.specs.declared.verdict.Accepted.{Accepted}
use Rattle.lc_cond.specs.Conditions.{conditions}
use Rattle.lc_find.specs.Faults.{IsInRange}
use Rattle.lc_find.specs.Found.{TakesFirst}
use Rattle.lc_find.specs.declared.fault.FindFault.{FindFault}
use Rattle.lc_hints.specs.HintView.{proofs_in}
use Rattle.lc_hints.specs.declared.hints.Hints.{Hints}
use Rattle.lc_outline.specs.Development.{Development}
use Rattle.lc_outline_text.specs.Developments.{file_reading}
use Rattle.lc_reading.proofs.Files.{says_not_refused, says_one}
use Rattle.lc_reading.specs.Files.{Says}
use Rattle.lincheck.specs.Answers.{ToldFault}
use Rattle.lincheck.specs.Carry.{AnswersSought, AnswersWith, AnswersChanged, AnswersProven, AnswersCarry, RefusesCertificate, OpensCertificate, OpensOld, IsCertified, hints_at, IsUnreadNew, IsUnreadCarry}
use Rattle.lincheck.specs.Check.{TellsRefusal}
use Rattle.lc_words.specs.Tasks.{CheckCertificate, carrying}
use Rattle.lincheck.specs.Execution.{AnswersTask, IsUnread}
use Rattle.lincheck.specs.Prove.{ToldFound, OpensHints}
use Rattle.lincheck.specs.Reading.{OfFile, within_limit}
use Rattle.lincheck.specs.declared.answer.Answer.{Answer}
use Rattle.lincheck.specs.declared.answer.Failure.{Failure}
use Rattle.lincheck.specs.declared.carry.Old.{Old}
use Rattle.lincheck.proofs.Opened.{refusal_of_certificate}
use Rattle.lincheck.proofs.Read.{read_known, read_so}
use Rattle.lincheck.proofs.Truncated.{said_of_whole}

-- ---- the certificate

-- the laws that files are certificates of one list of proofs, and none that is refused
abbrev pub IsOneCertificate : Type 0
IsOneCertificate = (D : Development) (bytes : List ℕ) (es fs : List Entry) → Certifies D bytes es → Certifies D bytes fs → es ≡ fs

abbrev pub IsNotRefused : Type 0
IsNotRefused = (D : Development) (bytes : List ℕ) (es : List Entry) (refusal : Refusal) → Certifies D bytes es → C.IsFirstRefusal D bytes refusal → ⊥

-- what is read of a file that proves all is what proves all
pub proofs_opened : (D d : Development) (file : List ℕ) (es : List Entry) → IsOneCertificate → IsProvenBy D file → d ≡ D → Certifies d file es → Certifies D file es × ProvesAll es (conditions D)
proofs_opened D d file es one (fs, certifies, proves) same read =
    let here = subst (λ x. Certifies x file es) same read in
    (here, subst (λ l. ProvesAll l (conditions D)) (one D file fs es certifies here) proves)

pub old_is_certified : (old : Old) (file : List ℕ) → Certifies (development_in old.accepted) file (entries_in old.certificate) × ProvesAll (entries_in old.certificate) (conditions (development_in old.accepted)) → IsCertified old
old_is_certified old file h = (file, h.0, h.1)

-- it is not refused
pub not_refused : (A : Type 0) (D d : Development) (file : List ℕ) (fault : Fault) (text : List ℕ) (status : ℕ) → IsNotRefused → IsProvenBy D file → d ≡ D → C.IsAnswerTo d file (Err fault) → ToldFault fault text status → A
not_refused A D d file (Refused refusal) text status not (fs, certifies, proves) same refused told = absurd (not D file fs refusal certifies (subst (λ x. C.IsFirstRefusal x file refusal) same refused))
not_refused A D d file OutOfMemory text status not proven same refused told = absurd told

-- what is opened is of the accepted development
pub opens_accepted : (D : Development) (accepted : Accepted) (file : List ℕ) (E : Type 0) (result : Result (Result Old Answer) E) → development_in accepted ≡ D → IfOk result (OpensCertificate (development_in accepted) file)
    → IfOk result (OpensCertificate D file)
opens_accepted D accepted file E result same h = subst (λ d. IfOk result (OpensCertificate d file)) same h

-- what the beginning of a file opens as, so does the file
pub certificate_opened : (D : Development) (known : Option (List ℕ)) (bytes seen : List ℕ) (opened : Result Old Answer) → OfFile known (λ file. bytes ≡ within_limit file) → seen ≡ bytes → OpensCertificate D seen opened
    → OfFile known (λ file. OpensCertificate D file opened)
certificate_opened D known bytes seen (Ok old) read same (is, certifies, proves) = read_so known read (λ file read. (is, said_of_whole (certificate_reading D) file (entries_in old.certificate) (subst (λ b. Certifies D b (entries_in old.certificate)) (same ∙ read) certifies), proves))
certificate_opened D known bytes seen (Err answer) read same (refusal, refuses, told) = read_so known read (λ file read. (refusal, refusal_of_certificate D file refusal (subst (λ b. IsCertificateRefusal D b refusal) (same ∙ read) refuses), told))

-- ---- the old development and its certificate

pub old_opened : (known certificate certificate' : Option (List ℕ)) (D : Development) (result : Result (Result Old Answer) Failure) → OfFile known (λ file. Says file_reading file D) → certificate' ≡ certificate
    → IfOk result (λ opened. OfFile certificate' (λ file. OpensCertificate D file opened)) → IfOk result (λ opened. OfFile known (λ file. OpensOld file certificate opened))
old_opened known certificate certificate' D (Ok opened) says keeps h = read_so known says (λ file says. inr (D, says, subst (λ c. OfFile c (λ f. OpensCertificate D f opened)) keeps h))
old_opened known certificate certificate' D (Err failure) says keeps h = tt

pub old_refused : (known certificate : Option (List ℕ)) (answer : Answer) → OfFile known (λ file. TellsRefusal file answer.text.items answer.status) → OfFile known (λ file. OpensOld file certificate (Err answer))
old_refused known certificate answer tells = read_so known tells (λ file tells. inl tells)

-- ---- the answer for a new development

-- what is found is the answer
pub sought_answered : (E : Development) (given : List Entry) (found : Result Certificate FindFault) (text : List ℕ) (status : ℕ) → IfOk found (λ c. IsProvenBy E (certificate_line E (entries_in c)))
    → IfErr found (IsInRange (length (conditions E))) → IfOk found (λ c. TakesFirst E given (entries_in c)) → ToldFound E found text status → AnswersSought E given text status
sought_answered E given (Ok c) text status accepted range first told = inl (record { proofs = entries_in c; line = told.0; accepted = subst (IsProvenBy E) (sym told.0) accepted; first = first }, told.1)
sought_answered E given (Err fault) text status accepted range first told = inr (fault, range, told)

-- without hints nothing comes after what is carried
pub alone_answered : (E : Development) (given hs : List Entry) (text : List ℕ) (status : ℕ) → hs ≡ [] → AnswersSought E (given ++ hs) text status → AnswersSought E given text status
alone_answered E given hs text status none h = subst (λ l. AnswersSought E l text status) (ap (λ l. given ++ l) none ∙ append-nil given) h

pub hints_answered : (E : Development) (given : List Entry) (known : Option (List ℕ)) (hints : Hints) (text : List ℕ) (status : ℕ) → OfFile known (λ file. OpensHints E file (Ok hints))
    → AnswersSought E (given ++ proofs_in hints) text status → AnswersWith (Some known) E given text status
hints_answered E given known hints text status opens h = read_so known opens (λ file (hs, says, has). inr (hs, says, subst (λ l. AnswersSought E (given ++ l) text status) has.proofs h))

pub hints_told : (E : Development) (given : List Entry) (known : Option (List ℕ)) (answer : Answer) → OfFile known (λ file. OpensHints E file (Err answer)) → AnswersWith (Some known) E given answer.text.items answer.status
hints_told E given known answer tells = read_so known tells (λ file tells. inl tells)

-- the bytes of the hints stay what they were
pub same_hints : (before after : List ℕ → Option (List ℕ)) (path : Option (List ℕ)) → ((other : List ℕ) → after other ≡ before other) → hints_at after path ≡ hints_at before path
same_hints before after None keeps = refl
same_hints before after (Some path) keeps = ap Some (keeps path)

pub new_answered : (D : Development) (es : List Entry) (known : Option (List ℕ)) (hints hints' : Option (Option (List ℕ))) (E : Development) (result : Result Answer Failure) → OfFile known (λ file. Says file_reading file E)
    → hints' ≡ hints → IfOk result (λ answer. AnswersWith hints' E (carried D es E) answer.text.items answer.status)
    → IfOk result (λ answer. OfFile known (λ file. AnswersChanged (AnswersWith hints) D es file answer.text.items answer.status))
new_answered D es known hints hints' E (Ok answer) says keeps h = read_so known says (λ file says. inr (E, says, subst (λ x. AnswersWith x E (carried D es E) answer.text.items answer.status) keeps h))
new_answered D es known hints hints' E (Err failure) says keeps h = tt

pub new_refused : (D : Development) (es : List Entry) (known : Option (List ℕ)) (hints : Option (Option (List ℕ))) (answer : Answer) → OfFile known (λ file. TellsRefusal file answer.text.items answer.status)
    → OfFile known (λ file. AnswersChanged (AnswersWith hints) D es file answer.text.items answer.status)
new_refused D es known hints answer tells = read_so known tells (λ file tells. inl tells)

-- ---- all files

-- the answers to what the files of old and new have
abbrev pub AnswersFiles : Option (Option (List ℕ)) → Option (List ℕ) → Option (List ℕ) → Option (List ℕ) → List ℕ → ℕ → Type 0
AnswersFiles hints old certificate new text status = OfFile old (λ file. AnswersCarry (AnswersWith hints) file certificate new text status)

carried_proven : (Answers : Development → List Entry → List ℕ → ℕ → Type 0) (certificate new new' : Option (List ℕ)) (D : Development) (old : Old) (text : List ℕ) (status : ℕ) → new' ≡ new
    → OfFile certificate (λ file. OpensCertificate D file (Ok old)) → OfFile new' (λ file. AnswersChanged Answers (development_in old.accepted) (entries_in old.certificate) file text status)
    → OfFile certificate (λ file. AnswersProven Answers D file new text status)
carried_proven Answers known new new' D old text status keeps opens h = read_so known opens (λ file (same, certifies, proves). inr (
  entries_in old.certificate,
  certifies,
  proves,
  subst (λ n. OfFile n (λ f. AnswersChanged Answers D (entries_in old.certificate) f text status)) keeps (subst (λ d. OfFile new' (λ f. AnswersChanged Answers d (entries_in old.certificate) f text status)) same h),
))

old_answered_at : (hints : Option (Option (List ℕ))) (file : List ℕ) (certificate new new' : Option (List ℕ)) (old : Old) (answer : Answer) → new' ≡ new → OpensOld file certificate (Ok old)
    → OfFile new' (λ file. AnswersChanged (AnswersWith hints) (development_in old.accepted) (entries_in old.certificate) file answer.text.items answer.status)
    → AnswersCarry (AnswersWith hints) file certificate new answer.text.items answer.status
old_answered_at hints file certificate new new' old answer keeps (inl never) h = absurd never
old_answered_at hints file certificate new new' old answer keeps (inr (D, says, opens)) h =
    inr (D, says, carried_proven (AnswersWith hints) certificate new new' D old answer.text.items answer.status keeps opens h)

old_answered : (hints : Option (Option (List ℕ))) (dev certificate new new' : Option (List ℕ)) (old : Old) (answer : Answer) → new' ≡ new → OfFile dev (λ file. OpensOld file certificate (Ok old))
    → OfFile new' (λ file. AnswersChanged (AnswersWith hints) (development_in old.accepted) (entries_in old.certificate) file answer.text.items answer.status) → AnswersFiles hints dev certificate new answer.text.items answer.status
old_answered hints dev certificate new new' old answer keeps opens h = read_so dev opens (λ file opens. old_answered_at hints file certificate new new' old answer keeps opens h)

pub all_answered : (hints hints' : Option (Option (List ℕ))) (dev certificate new new' : Option (List ℕ)) (old : Old) (result : Result Answer Failure) → new' ≡ new → hints' ≡ hints
    → OfFile dev (λ file. OpensOld file certificate (Ok old))
    → IfOk result (λ answer. OfFile new' (λ file. AnswersChanged (AnswersWith hints') (development_in old.accepted) (entries_in old.certificate) file answer.text.items answer.status))
    → IfOk result (λ answer. AnswersFiles hints dev certificate new answer.text.items answer.status)
all_answered hints hints' dev certificate new new' old (Ok answer) keeps same opens h =
    old_answered hints dev certificate new new' old answer keeps opens
    (subst (λ x. OfFile new' (λ file. AnswersChanged (AnswersWith x) (development_in old.accepted) (entries_in old.certificate) file answer.text.items answer.status)) same h)
all_answered hints hints' dev certificate new new' old (Err failure) keeps same opens h = tt

certificate_refused : (Answers : Development → List Entry → List ℕ → ℕ → Type 0) (certificate new : Option (List ℕ)) (D : Development) (answer : Answer) → OfFile certificate (λ file. OpensCertificate D file (Err answer))
    → OfFile certificate (λ file. AnswersProven Answers D file new answer.text.items answer.status)
certificate_refused Answers known new D answer h = read_so known h (λ file h. inl h)

all_refused_at : (hints : Option (Option (List ℕ))) (file : List ℕ) (certificate new : Option (List ℕ)) (answer : Answer) → OpensOld file certificate (Err answer)
    → AnswersCarry (AnswersWith hints) file certificate new answer.text.items answer.status
all_refused_at hints file certificate new answer (inl tells) = inl tells
all_refused_at hints file certificate new answer (inr (D, says, opens)) = inr (D, says, certificate_refused (AnswersWith hints) certificate new D answer opens)

pub all_refused : (hints : Option (Option (List ℕ))) (dev certificate new : Option (List ℕ)) (answer : Answer) → OfFile dev (λ file. OpensOld file certificate (Err answer))
    → AnswersFiles hints dev certificate new answer.text.items answer.status
all_refused hints dev certificate new answer h = read_so dev h (λ file refused. all_refused_at hints file certificate new answer refused)

-- the task of these paths is answered so
pub task_answered : (bytes_at : List ℕ → Option (List ℕ)) (old certificate new : List ℕ) (hints : Option (List ℕ)) (text : List ℕ) (status : ℕ)
    → AnswersFiles (hints_at bytes_at hints) (bytes_at old) (bytes_at certificate) (bytes_at new) text status → AnswersTask bytes_at (carrying old certificate new hints) text status
task_answered bytes_at old certificate new None text status h = h
task_answered bytes_at old certificate new (Some hints) text status h = h

pub task_answered_ok : (bytes_at : List ℕ → Option (List ℕ)) (old certificate new : List ℕ) (hints : Option (List ℕ)) (result : Result Answer Failure)
    → IfOk result (λ answer. AnswersFiles (hints_at bytes_at hints) (bytes_at old) (bytes_at certificate) (bytes_at new) answer.text.items answer.status)
    → IfOk result (λ answer. AnswersTask bytes_at (carrying old certificate new hints) answer.text.items answer.status)
task_answered_ok bytes_at old certificate new hints (Ok answer) h = task_answered bytes_at old certificate new hints answer.text.items answer.status h
task_answered_ok bytes_at old certificate new hints (Err failure) h = tt

-- ---- files that cannot be opened

-- what could not be opened after the first files cannot be later
pub later_unread : (CannotOpen CannotOpen' : List ℕ → Type 0) (before after : List ℕ → Option (List ℕ)) (new : List ℕ) (hints : Option (List ℕ)) → ((other : List ℕ) → after other ≡ before other)
    → ((other : List ℕ) → CannotOpen other → CannotOpen' other) → IsUnreadNew CannotOpen before new hints → IsUnreadNew CannotOpen' after new hints
later_unread CannotOpen CannotOpen' before after new None keeps closed unread = closed new unread
later_unread CannotOpen CannotOpen' before after new (Some hints) keeps closed (inl unread) = inl (closed new unread)
later_unread CannotOpen CannotOpen' before after new (Some hints) keeps closed (inr (file, E, known, says, unread)) = inr (file, E, keeps new ∙ known, says, closed hints unread)

-- the task of these paths, if a file of it cannot be opened
pub task_unread : (CannotOpen : List ℕ → Type 0) (bytes_at : List ℕ → Option (List ℕ)) (old certificate new : List ℕ) (hints : Option (List ℕ)) → IsUnread CannotOpen bytes_at (carrying old certificate new hints)
    → IsUnreadCarry CannotOpen bytes_at old certificate new hints
task_unread CannotOpen bytes_at old certificate new None unread = unread
task_unread CannotOpen bytes_at old certificate new (Some hints) unread = unread

-- if the first files are opened, it is one after them
pub unread_behind : (CannotOpen : List ℕ → Type 0) (bytes_at : List ℕ → Option (List ℕ)) (old certificate new : List ℕ) (hints : Option (List ℕ)) → (IsUnread CannotOpen bytes_at (CheckCertificate old certificate) → ⊥)
    → IsUnreadCarry CannotOpen bytes_at old certificate new hints → IsUnreadNew CannotOpen bytes_at new hints
unread_behind CannotOpen bytes_at old certificate new hints opens (inl closed) = absurd (opens (inl closed))
unread_behind CannotOpen bytes_at old certificate new hints opens (inr (file, D, known, says, inl closed)) = absurd (opens (inr (file, D, known, says, closed)))
unread_behind CannotOpen bytes_at old certificate new hints opens (inr (file, D, known, says, inr (proofs, there, proven, unread))) = unread

proven_refused : (D E : Development) (file proofs : List ℕ) (answer : Answer) → Says file_reading file D → Says file_reading file E → IsProvenBy D proofs → RefusesCertificate E proofs answer.text.items answer.status → ⊥
proven_refused D E file proofs answer says other proven (refusal, refuses, told) =
    not_certified_and_refused E proofs refusal (subst (λ d. IsProvenBy d proofs) (says_one file_reading file D E says other) proven) refuses

opens_refused : (D : Development) (file proofs : List ℕ) (answer : Answer) → Says file_reading file D → IsProvenBy D proofs → OpensOld file (Some proofs) (Err answer) → ⊥
opens_refused D file proofs answer says proven (inl tells) = says_not_refused file_reading file D tells.0 says tells.1
opens_refused D file proofs answer says proven (inr (E, other, refuses)) =
    proven_refused D E file proofs answer says other proven (read_known {known = Some proofs} {file = proofs} (λ f. OpensCertificate E f (Err answer)) refl refuses)

-- if the first files are refused, none is opened after them
pub none_behind : (CannotOpen : List ℕ → Type 0) (bytes_at : List ℕ → Option (List ℕ)) (old certificate new : List ℕ) (hints : Option (List ℕ)) (answer : Answer)
    → (IsUnread CannotOpen bytes_at (CheckCertificate old certificate) → ⊥) → OfFile (bytes_at old) (λ file. OpensOld file (bytes_at certificate) (Err answer))
    → IsUnreadCarry CannotOpen bytes_at old certificate new hints → ⊥
none_behind CannotOpen bytes_at old certificate new hints answer opens refused (inl closed) = opens (inl closed)
none_behind CannotOpen bytes_at old certificate new hints answer opens refused (inr (file, D, known, says, inl closed)) = opens (inr (file, D, known, says, closed))
none_behind CannotOpen bytes_at old certificate new hints answer opens refused (inr (file, D, known, says, inr (proofs, there, proven, unread))) =
    let dev = read_known (λ f. OpensOld f (bytes_at certificate) (Err answer)) known refused in
    opens_refused D file proofs answer says proven (subst (λ o. OpensOld file o (Err answer)) there dev)

-- if the new development is refused, the hints are not opened
pub refused_new : (CannotOpen : List ℕ → Type 0) (bytes_at : List ℕ → Option (List ℕ)) (new : List ℕ) (hints : Option (List ℕ)) (answer : Answer) → (CannotOpen new → ⊥)
    → OfFile (bytes_at new) (λ file. TellsRefusal file answer.text.items answer.status) → IsUnreadNew CannotOpen bytes_at new hints → ⊥
refused_new CannotOpen bytes_at new None answer opens tells unread = opens unread
refused_new CannotOpen bytes_at new (Some hints) answer opens tells (inl unread) = opens unread
refused_new CannotOpen bytes_at new (Some hints) answer opens tells (inr (file, E, known, says, closed)) =
    let refuses : TellsRefusal file answer.text.items answer.status = read_known (λ f. TellsRefusal f answer.text.items answer.status) known tells in
    says_not_refused file_reading file E refuses.0 says refuses.1

-- if it is read, it is the hints that cannot be opened
pub unread_hints : (CannotOpen CannotOpen' : List ℕ → Type 0) (bytes_at : List ℕ → Option (List ℕ)) (new : List ℕ) (hints : Option (List ℕ)) (result : Result Answer Failure) → (CannotOpen new → ⊥)
    → ((other : List ℕ) → CannotOpen other → CannotOpen' other) → (IfSome hints CannotOpen' → IfSome hints (λ path. IsErr result)) → IsUnreadNew CannotOpen bytes_at new hints → IsErr result
unread_hints CannotOpen CannotOpen' bytes_at new None result opens closed fails unread = absurd (opens unread)
unread_hints CannotOpen CannotOpen' bytes_at new (Some hints) result opens closed fails (inl unread) = absurd (opens unread)
unread_hints CannotOpen CannotOpen' bytes_at new (Some hints) result opens closed fails (inr (file, E, known, says, unread)) = fails (closed hints unread)
