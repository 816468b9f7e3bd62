-- What a development's file, its certificate's and a plan's are answered, from the beginnings of them that are read.
use Rattle.std.proofs.Common.{◌≡◌, ℕ, zero, suc, ◌+◌, ℤ, List, [], ◌∷◌, ◌++◌, codes, flat_map, length, Option, IfOk, Result, Ok, Err, Vec, refl, sym, ap, ap₂, subst, ◌∙◌, inl, inr, append-nil, append_assoc, arith}
use Rattle.std.proofs.lemmas.List.{length-map}
use Rattle.std.specs.Fmt.{decimal}
use Rattle.std.specs.declared.alloc.Global.{Global}
use Rattle.lc_base.specs.Line.{line_of}
use Rattle.lc_base.specs.declared.refusal.Fault.{Fault}
use Rattle.lc_base.specs.declared.refusal.Fault.TheVariants.{Refused, OutOfMemory}
use Rattle.lc_base.specs.declared.refusal.Refusal.{Refusal}
use Rattle.lc_cert.specs.Readings.{certificate_reading}
use Rattle.lc_check.proofs.OneVerdict.{not_certified_and_refused}
use Rattle.lc_check.specs.VerdictView.{IsVerdictOn, development_in}
use Rattle.lc_check.specs.Verdicts.{IsProvenBy}
use Rattle.lc_check.specs.declared.verdict.Accepted.{Accepted}
use Rattle.lc_check.specs.declared.verdict.Verdict.TheVariants.{Accepted as accepts, Refused as refuses}
use Rattle.lc_crew.specs.Ran.{IsRunOf}
use Rattle.lc_crew.specs.declared.ended.Ended.{Ended}
use Rattle.lc_crew.specs.declared.plan.Ran.{Ran}
use Rattle.lc_history.specs.Histories.{events_in}
use Rattle.lc_history.specs.View.{entries_view, entry_view}
use Rattle.lc_hist.specs.JsonWritten.{history_text}
use Rattle.lc_history.specs.declared.event.Done.{Done}
use Rattle.lc_outline.specs.Development.{Development}
use Rattle.lc_outline_text.specs.Developments.{file_reading}
use Rattle.lc_plan.specs.Plans as S
use Rattle.lc_plan.specs.Readings.{plan_reading}
use Rattle.lc_plan.specs.View.{plan_of}
use Rattle.lc_plan.specs.declared.plan.Plan.{Plan}
use Rattle.lc_reading.proofs.Files.{says_not_refused, says_one}
use Rattle.lc_reading.specs.Files.{Says, IsFirstRefusal, IsAnswerTo}
use Rattle.lc_run.specs.LabelView.{labels_of}
use Rattle.lc_seq.specs.declared.choice.Pick.{Pick}
use Rattle.lc_seq.specs.declared.text_call.TextCall.{TextCall}
use Rattle.lc_trace.specs.Traces.{TellsSteps}
use Rattle.lc_words.specs.declared.request.Turns.{Turns}
use Rattle.lincheck.specs.Answers.{ToldFault}
use Rattle.lincheck.specs.Carry.{RefusesCertificate}
use Rattle.lincheck.specs.Check.{TellsRefusal}
use Rattle.lincheck.specs.Reading.{OfFile, within_limit}
use Rattle.lincheck.specs.Run.{AnswersPlan, AnswersProvenRun, AnswersRun, IsUnreadPlan, IsUnreadRun, OpensAccepted, OpensPlan, RefusesPlan, RunsBy, TellsRun, TellsSeed, TellsSeeds, TellsTrace, TracesRan, end_text, ended_text, ran_text, run_text, seed_text, trace_text}
use Rattle.lincheck.specs.declared.answer.Answer.{Answer}
use Rattle.lincheck.specs.declared.answer.Failure.{Failure}
use Rattle.lincheck.proofs.Opened.{refusal_of_certificate}
use Rattle.lincheck.proofs.Read.{read_known, read_so}
use Rattle.lincheck.proofs.Truncated.{said_of_whole, refusal_of_whole}

-- ---- the certificate

accepted_of_whole : (D : Development) (file : List ℕ) (accepted : Accepted) → IsVerdictOn D (within_limit file) (accepts accepted) → OpensAccepted D file (Ok accepted)
accepted_of_whole D file accepted (same, (es, certifies, proves)) = (same, (es, said_of_whole (certificate_reading D) file es certifies, proves))

-- what is accepted by the beginning of a file is accepted by the file
pub accepted_opened : (D : Development) (known : Option (List ℕ)) (bytes : List ℕ) (accepted : Accepted) → OfFile known (λ file. bytes ≡ within_limit file) → IsVerdictOn D bytes (accepts accepted)
    → OfFile known (λ file. OpensAccepted D file (Ok accepted))
accepted_opened D known bytes accepted read is = read_so known read (λ file read. accepted_of_whole D file accepted (subst (λ b. IsVerdictOn D b (accepts accepted)) read is))

-- and what is refused is refused
pub certificate_told : (D : Development) (known : Option (List ℕ)) (bytes : List ℕ) (refusal : Refusal) (text : List ℕ) (status : ℕ) → OfFile known (λ file. bytes ≡ within_limit file)
    → IsVerdictOn D bytes (refuses refusal) → ToldFault (Refused refusal) text status → OfFile known (λ file. RefusesCertificate D file text status)
certificate_told D known bytes refusal text status read is told = read_so known read (λ file read. (refusal, refusal_of_certificate D file refusal (subst (λ b. IsVerdictOn D b (refuses refusal)) read is), told))

-- ---- the plan

pub plan_opened : (D : Development) (known : Option (List ℕ)) (bytes : List ℕ) (plan : Plan) → OfFile known (λ file. bytes ≡ within_limit file) → IsAnswerTo plan_of (plan_reading D) bytes (Ok plan)
    → OfFile known (λ file. OpensPlan D file (Ok plan))
plan_opened D known bytes plan read is = read_so known read (λ file read. said_of_whole (plan_reading D) file (plan_of plan) (subst (λ b. Says (plan_reading D) b (plan_of plan)) read is))

pub plan_refused : (D : Development) (known : Option (List ℕ)) (bytes : List ℕ) (fault : Fault) (text : List ℕ) (status : ℕ) → OfFile known (λ file. bytes ≡ within_limit file)
    → IsAnswerTo plan_of (plan_reading D) bytes (Err fault) → ToldFault fault text status → OfFile known (λ file. RefusesPlan D file text status)
plan_refused D known bytes (Refused refusal) text status read is told = read_so known read (λ file read. (refusal, refusal_of_whole (plan_reading D) file refusal (subst (λ b. IsFirstRefusal (plan_reading D) b refusal) read is), told))
plan_refused D known bytes OutOfMemory text status read is told = absurd told

-- ---- what has run

-- its text is its first line, the lines of its clients, and its history
pub ran_text_is : (D E : Development) (ran : Ran) (count : ℕ) (ends : List Ended) (order : List (Done TextCall Pick (Vec ℤ Global))) (first lines history whole text : List ℕ) → E ≡ D
    → count ≡ length ran.log.order.items → ends ≡ ran.ends.items → order ≡ ran.log.order.items → first ≡ line_of (codes "linearizable") (count ∷ []) → lines ≡ first ++ flat_map end_text ends
    → history ≡ history_text E.specification.operations (events_in ran.log.history) (entries_view order) → whole ≡ lines ++ history → text ≡ whole ++ 10 ∷ [] → text ≡ ran_text D ran
ran_text_is D E ran count ends order first lines history whole text same counted ended ordered is_first is_lines is_history is_whole is_text =
    is_text
    ∙ ap (λ x. x ++ 10 ∷ [])
    (is_whole
    ∙ ap₂ ◌++◌
    (is_lines
    ∙ ap₂ ◌++◌ (is_first ∙ ap (λ n. line_of (codes "linearizable") (n ∷ [])) (counted ∙ sym (length-map ran.log.order.items entry_view))) (ap (flat_map end_text) ended))
    (is_history ∙ ap₂ (λ (F : Development) o. history_text F.specification.operations (events_in ran.log.history) (entries_view o)) same ordered))

-- the report of its text is that of its labels
pub ran_told : (D : Development) (P : S.Plan) (ran : Ran) (text : List ℕ) → IsRunOf D P.clients P.phases ran → text ≡ ran_text D ran → TellsRun D P text
ran_told D P ran text is same = (
  labels_of ran.log.labels.items,
  ran.ends.items,
  is.ordered,
  same ∙ ap₂ (λ events entries. run_text D events entries ran.ends.items) is.events is.entries,
)

-- ---- the answers

pub planned_answered : (turns : Turns) (D : Development) (known : Option (List ℕ)) (plan : Plan) (text : List ℕ) (status : ℕ) → OfFile known (λ file. OpensPlan D file (Ok plan)) → RunsBy turns D (plan_of plan) text status
    → OfFile known (λ file. AnswersPlan turns D file text status)
planned_answered turns D known plan text status opens runs = read_so known opens (λ file opens. inr (plan_of plan, opens, runs))

pub planned_refused : (turns : Turns) (D : Development) (known : Option (List ℕ)) (answer : Answer) → OfFile known (λ file. OpensPlan D file (Err answer))
    → OfFile known (λ file. AnswersPlan turns D file answer.text.items answer.status)
planned_refused turns D known answer tells = read_so known tells (λ file tells. inl tells)

pub proven_answered : (turns : Turns) (D : Development) (known plan plan' : Option (List ℕ)) (accepted : Accepted) (result : Result Answer Failure) → OfFile known (λ file. OpensAccepted D file (Ok accepted)) → plan' ≡ plan
    → IfOk result (λ answer. OfFile plan' (λ file. AnswersPlan turns (development_in accepted) file answer.text.items answer.status))
    → IfOk result (λ answer. OfFile known (λ file. AnswersProvenRun turns D file plan answer.text.items answer.status))
proven_answered turns D known plan plan' accepted (Ok answer) opens keeps h = read_so known opens (λ file (same, proven). inr (proven, subst (λ p. OfFile p (λ f. AnswersPlan turns D f answer.text.items answer.status)) keeps (subst (λ d. OfFile plan' (λ f. AnswersPlan turns d f answer.text.items answer.status)) same h)))
proven_answered turns D known plan plan' accepted (Err failure) opens keeps h = tt

pub proven_refused : (turns : Turns) (D : Development) (known plan : Option (List ℕ)) (answer : Answer) → OfFile known (λ file. OpensAccepted D file (Err answer))
    → OfFile known (λ file. AnswersProvenRun turns D file plan answer.text.items answer.status)
proven_refused turns D known plan answer tells = read_so known tells (λ file tells. inl tells)

pub run_answered : (turns : Turns) (known certificate certificate' plan plan' : Option (List ℕ)) (D : Development) (result : Result Answer Failure) → OfFile known (λ file. Says file_reading file D) → certificate' ≡ certificate → plan' ≡ plan
    → IfOk result (λ answer. OfFile certificate' (λ file. AnswersProvenRun turns D file plan' answer.text.items answer.status))
    → IfOk result (λ answer. OfFile known (λ file. AnswersRun turns file certificate plan answer.text.items answer.status))
run_answered turns known certificate certificate' plan plan' D (Ok answer) says keeps keeps' h = read_so known says (λ file says. inr (
  D,
  says,
  subst (λ c. OfFile c (λ f. AnswersProvenRun turns D f plan answer.text.items answer.status)) keeps
      (subst (λ p. OfFile certificate' (λ f. AnswersProvenRun turns D f p answer.text.items answer.status)) keeps' h),
))
run_answered turns known certificate certificate' plan plan' D (Err failure) says keeps keeps' h = tt

pub run_refused : (turns : Turns) (known certificate plan : Option (List ℕ)) (answer : Answer) → OfFile known (λ file. TellsRefusal file answer.text.items answer.status)
    → OfFile known (λ file. AnswersRun turns file certificate plan answer.text.items answer.status)
run_refused turns known certificate plan answer tells = read_so known tells (λ file tells. inl tells)

-- ---- runs by seeds

-- one run more at the end
pub seeds_more : (D : Development) (P : S.Plan) (n seed : ℕ) (text line : List ℕ) → TellsSeeds D P n seed text → TellsSeed D P (seed + n) line → TellsSeeds D P (suc n) seed (text ++ line)
seeds_more D P zero seed text line none tells = (line, [], subst (λ k. TellsSeed D P k line) (let e : seed + 0 ≡ seed = omega arith in e) tells, refl, subst (λ t. t ++ line ≡ line ++ []) (sym none) (sym (append-nil line)))
seeds_more D P (suc n) seed text line (first, rest, one, others, is) tells = (
  first,
  rest ++ line,
  one,
  seeds_more D P n (suc seed) rest line others (subst (λ k. TellsSeed D P k line) (let e : seed + suc n ≡ suc seed + n = omega arith in e) tells),
  ap (λ t. t ++ line) is ∙ append_assoc first rest line,
)

regrouped : (a b c d : List ℕ) → a ++ (b ++ (c ++ d)) ≡ a ++ b ++ c ++ d
regrouped a b c d = simp append_assoc

-- the line of a run is its words, then its clients, then a line feed
pub seed_line_is : (seed entries : ℕ) (ends : List Ended) (words bytes line whole : List ℕ) → words ≡ codes "seed " ++ (decimal seed ++ (codes " linearizable " ++ decimal entries)) → bytes ≡ words
    → line ≡ bytes ++ flat_map ended_text ends → whole ≡ line ++ 10 ∷ [] → whole ≡ seed_text seed entries ends
seed_line_is seed entries ends words bytes line whole is_words is_bytes is_line is_whole =
    let begins = is_bytes ∙ (is_words ∙ regrouped (codes "seed ") (decimal seed) (codes " linearizable ") (decimal entries)) in
    is_whole ∙ ap (λ l. l ++ 10 ∷ []) (is_line ∙ ap (λ l. l ++ flat_map ended_text ends) begins)

-- the line of a run is that of its labels
pub seed_told : (D : Development) (P : S.Plan) (seed count : ℕ) (ran : Ran) (ends : List Ended) (line : List ℕ) → IsRunOf D P.clients P.phases ran → count ≡ length ran.log.order.items → ends ≡ ran.ends.items
    → line ≡ seed_text seed count ends → TellsSeed D P seed line
seed_told D P seed count ran ends line is counted ended same = (
  labels_of ran.log.labels.items,
  ran.ends.items,
  is.ordered,
  same ∙ ap₂ (seed_text seed) (counted ∙ sym (length-map ran.log.order.items entry_view) ∙ ap length is.entries) ended,
)

-- the trace of what has run is its words, then its clients, then its steps
pub trace_is : (D : Development) (n : ℕ) (ran : Ran) (count : ℕ) (ends : List Ended) (first heads lines text : List ℕ) → TellsSteps D n (labels_of ran.log.labels.items) lines → count ≡ length ran.log.order.items → ends ≡ ran.ends.items
    → first ≡ line_of (codes "linearizable") (count ∷ []) → heads ≡ first ++ flat_map end_text ends → text ≡ heads ++ lines → TracesRan D n ran text
trace_is D n ran count ends first heads lines text tells counted ended is_first is_heads is_text = (
  lines,
  tells,
  is_text ∙ ap (λ h. h ++ lines) (is_heads ∙ ap₂ (λ (h : List ℕ) es. h ++ flat_map end_text es) (is_first ∙ ap (λ k. line_of (codes "linearizable") (k ∷ [])) counted) ended),
)

-- and it is that of its labels
pub trace_told : (D : Development) (P : S.Plan) (ran : Ran) (text : List ℕ) → IsRunOf D P.clients P.phases ran → TracesRan D P.clients ran text → TellsTrace D P text
trace_told D P ran text is (lines, tells, same) = (
  labels_of ran.log.labels.items,
  ran.ends.items,
  lines,
  is.ordered,
  tells,
  same ∙ ap (λ k. trace_text k ran.ends.items lines) (sym (length-map ran.log.order.items entry_view) ∙ ap length is.entries),
)

-- if there is one
pub trace_answered : {X : Type 0} (D E : Development) (P : S.Plan) (ran : Ran) (r : Result (Vec ℕ Global) X) → E ≡ D → IsRunOf D P.clients P.phases ran → IfOk r (λ text. TracesRan E P.clients ran text.items)
    → IfOk r (λ text. TellsTrace D P text.items)
trace_answered D E P ran (Ok text) same is told = trace_told D P ran text.items is (subst (λ (F : Development). TracesRan F P.clients ran text.items) same told)
trace_answered D E P ran (Err e) same is told = tt

-- ---- files that cannot be opened

-- none is opened after a development that is refused
pub none_behind_refused : (CannotOpen : List ℕ → Type 0) (bytes_at : List ℕ → Option (List ℕ)) (development certificate plan : List ℕ) (answer : Answer) → (CannotOpen development → ⊥)
    → OfFile (bytes_at development) (λ file. TellsRefusal file answer.text.items answer.status) → IsUnreadRun CannotOpen bytes_at development certificate plan → ⊥
none_behind_refused CannotOpen bytes_at development certificate plan answer opens tells (inl closed) = opens closed
none_behind_refused CannotOpen bytes_at development certificate plan answer opens tells (inr (file, D, known, says, closed)) =
    let told : TellsRefusal file answer.text.items answer.status = read_known (λ f. TellsRefusal f answer.text.items answer.status) known tells in
    says_not_refused file_reading file D told.0 says told.1

-- one is opened after a development that is read, which is the one that was read
pub unread_behind_read : (CannotOpen CannotOpen' : List ℕ → Type 0) (bytes_at bytes_at' : List ℕ → Option (List ℕ)) (development certificate plan : List ℕ) (D : Development) → (CannotOpen development → ⊥)
    → OfFile (bytes_at development) (λ file. Says file_reading file D) → ((other : List ℕ) → bytes_at' other ≡ bytes_at other) → ((other : List ℕ) → CannotOpen other → CannotOpen' other)
    → IsUnreadRun CannotOpen bytes_at development certificate plan → IsUnreadPlan CannotOpen' bytes_at' D certificate plan
unread_behind_read CannotOpen CannotOpen' bytes_at bytes_at' development certificate plan D opens read keeps closed (inl never) = absurd (opens never)
unread_behind_read CannotOpen CannotOpen' bytes_at bytes_at' development certificate plan D opens read keeps closed (inr (file, E, known, says, inl unread)) = inl (closed certificate unread)
unread_behind_read CannotOpen CannotOpen' bytes_at bytes_at' development certificate plan D opens read keeps closed (inr (file, E, known, says, inr (proofs, there, proven, unread))) =
    let here : Says file_reading file D = read_known (λ f. Says file_reading f D) known read in
    inr (proofs, keeps certificate ∙ there, subst (λ x. IsProvenBy x proofs) (says_one file_reading file E D says here) proven, closed plan unread)

-- none is opened after a certificate that is refused
pub none_behind_unproven : (CannotOpen : List ℕ → Type 0) (bytes_at : List ℕ → Option (List ℕ)) (D : Development) (certificate plan : List ℕ) (answer : Answer) → (CannotOpen certificate → ⊥)
    → OfFile (bytes_at certificate) (λ file. OpensAccepted D file (Err answer)) → IsUnreadPlan CannotOpen bytes_at D certificate plan → ⊥
none_behind_unproven CannotOpen bytes_at D certificate plan answer opens tells (inl closed) = opens closed
none_behind_unproven CannotOpen bytes_at D certificate plan answer opens tells (inr (proofs, known, proven, closed)) =
    let told : RefusesCertificate D proofs answer.text.items answer.status = read_known (λ f. OpensAccepted D f (Err answer)) known tells in
    not_certified_and_refused D proofs told.0 proven told.1

-- the plan, after a certificate that is accepted
pub unread_plan : (CannotOpen CannotOpen' : List ℕ → Type 0) (bytes_at : List ℕ → Option (List ℕ)) (D : Development) (certificate plan : List ℕ) → (CannotOpen certificate → ⊥)
    → ((other : List ℕ) → CannotOpen other → CannotOpen' other) → IsUnreadPlan CannotOpen bytes_at D certificate plan → CannotOpen' plan
unread_plan CannotOpen CannotOpen' bytes_at D certificate plan opens closed (inl never) = absurd (opens never)
unread_plan CannotOpen CannotOpen' bytes_at D certificate plan opens closed (inr (proofs, known, proven, unread)) = closed plan unread
