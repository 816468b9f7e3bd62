-- A development's file and a history's have one answer.
use Rattle.std.proofs.Common.{◌≡◌, ℕ, ◌⊎◌, inl, inr, List, Some, Result, Ok, Err, refl, sym, ap, ◌∙◌, subst}
use Rattle.lc_base.specs.declared.refusal.Fault.{Fault}
use Rattle.lc_base.specs.declared.refusal.Fault.TheVariants.{Refused, OutOfMemory}
use Rattle.lc_base.specs.declared.refusal.Refusal.TheVariants.{Text, Shape, Unknown, Repeated, Auxiliary, Bound, CertText, CertShape, Missing, Extra, Proof, Large, HistoryShape, Order}
use Rattle.lc_hist.proofs.JsonOnce.{one_history, one_item, not_both}
use Rattle.lc_history.proofs.OneJudgement.{one_judgement}
use Rattle.lc_history.specs.History.{Event, Entry}
use Rattle.lc_hist.specs.JsonHistories.{SaysHistory, IsWrongItem}
use Rattle.lc_history.specs.Judged.{IsTold}
use Rattle.lc_history.specs.declared.judging.JudgeFault as F
use Rattle.lc_history.specs.declared.judging.JudgeFault.TheVariants as V
use Rattle.lc_reading.proofs.Files.{says_not_refused, says_one, refused_once}
use Rattle.lc_reading.specs.Files.{Says}
use Rattle.lc_spec_text.specs.Specifications.{first_reading}
use Rattle.lc_seq.specs.Specification.{Specification}
use Rattle.lc_seq.specs.TextStep.{text_step, TextFits, start_of}
use Rattle.lincheck.specs.Answers.{ToldFault}
use Rattle.lincheck.specs.Judge.{IsSpecified, IsJudgedSo, SaysSuch, IsJudgement, judgement_of, ToldJudgement, AnswersHistory, AnswersJudge}
use Rattle.lincheck.specs.Reading.{OfFile}
use Rattle.lincheck.specs.declared.judge.Judgement.{Judgement}
use Rattle.lincheck.specs.declared.judge.Judgement.TheVariants.{Linearizable, Overflow}
use Rattle.lincheck.proofs.Read.{read_known}

-- an item of the text is wrong, or its order is judged so
abbrev IsFound : Specification → List ℕ → Result Judgement Fault → Type 0
IsFound spec bytes judgement =
    ((item : ℕ) × (judgement ≡ Err (Refused (HistoryShape item))) × IsWrongItem spec.operations bytes item)
    ⊎ ((answer : Result (Unit {0}) F.JudgeFault) × IsTold answer × (judgement ≡ judgement_of answer) × SaysSuch (IsJudgedSo answer) spec bytes)

found : (spec : Specification) (bytes text : List ℕ) (status : ℕ) (judgement : Result Judgement Fault) → IsJudgement spec bytes judgement → ToldJudgement judgement text status → IsFound spec bytes judgement
found spec bytes text status (Ok Linearizable) is told = inr (Ok tt, tt, refl, is)
found spec bytes text status (Ok Overflow) is told = inr (Err V.Overflow, tt, refl, is)
found spec bytes text status (Err (Refused (HistoryShape item))) is told = inl (item, refl, is)
found spec bytes text status (Err (Refused (Order place number))) (reason, same, says) told =
    inr (Err (V.Order place reason), tt, ap (λ n. Err (Refused (Order place n))) same, says)
found spec bytes text status (Err (Refused (Text k))) is told = absurd is
found spec bytes text status (Err (Refused (Shape k))) is told = absurd is
found spec bytes text status (Err (Refused (Unknown k))) is told = absurd is
found spec bytes text status (Err (Refused (Repeated k))) is told = absurd is
found spec bytes text status (Err (Refused (Auxiliary k))) is told = absurd is
found spec bytes text status (Err (Refused (Bound k))) is told = absurd is
found spec bytes text status (Err (Refused (CertText k))) is told = absurd is
found spec bytes text status (Err (Refused (CertShape k))) is told = absurd is
found spec bytes text status (Err (Refused (Missing k))) is told = absurd is
found spec bytes text status (Err (Refused (Extra k))) is told = absurd is
found spec bytes text status (Err (Refused (Proof k m r))) is told = absurd is
found spec bytes text status (Err (Refused (Large k m))) is told = absurd is
found spec bytes text status (Err OutOfMemory) is told = absurd told

-- a text has one judgement
one_found : (spec : Specification) (bytes : List ℕ) (j k : Result Judgement Fault) → IsFound spec bytes j → IsFound spec bytes k → j ≡ k
one_found spec bytes j k (inl (item, is, wrong)) (inl (item', is', wrong')) =
    is ∙ ap (λ i. Err (Refused (HistoryShape i))) (one_item spec.operations bytes item item' wrong wrong') ∙ sym is'
one_found spec bytes j k (inl (item, is, wrong)) (inr (answer, told, is', (events, order, says, judged))) = absurd (not_both spec.operations bytes events order item says wrong)
one_found spec bytes j k (inr (answer, told, is, (events, order, says, judged))) (inl (item, is', wrong)) = absurd (not_both spec.operations bytes events order item says wrong)
one_found spec bytes j k (inr (answer, told, is, (events, order, says, judged))) (inr (answer', told', is', (events', order', says', judged'))) =
    let same = one_history spec.operations bytes events events' order order' says says' in
    let back : IsJudgedSo answer' spec events order = subst (λ l. IsJudgedSo answer' spec events l) (sym same.1) (subst (λ h. IsJudgedSo answer' spec h order') (sym same.0) judged') in
    let once = one_judgement (text_step spec.operations) (TextFits spec.operations) (start_of spec.columns) events order answer answer' judged told back told' in
    is ∙ ap judgement_of once ∙ sym is'

told_fault_once : (fault : Fault) (text text' : List ℕ) (status status' : ℕ) → ToldFault fault text status → ToldFault fault text' status' → (text ≡ text') × (status ≡ status')
told_fault_once (Refused refusal) text text' status status' h g = (h.0 ∙ sym g.0, h.1 ∙ sym g.1)
told_fault_once OutOfMemory text text' status status' h g = absurd h

told_once : (judgement : Result Judgement Fault) (text text' : List ℕ) (status status' : ℕ) → ToldJudgement judgement text status → ToldJudgement judgement text' status' → (text ≡ text') × (status ≡ status')
told_once (Ok Linearizable) text text' status status' h g = (h.0 ∙ sym g.0, h.1 ∙ sym g.1)
told_once (Ok Overflow) text text' status status' h g = (h.0 ∙ sym g.0, h.1 ∙ sym g.1)
told_once (Err fault) text text' status status' h g = told_fault_once fault text text' status status' h g

answered_once : (spec : Specification) (file text text' : List ℕ) (status status' : ℕ) → AnswersHistory spec file text status → AnswersHistory spec file text' status' → (text ≡ text') × (status ≡ status')
answered_once spec file text text' status status' (j, is, told) (k, is', told') =
    let same = one_found spec file j k (found spec file text status j is told) (found spec file text' status' k is' told') in
    told_once j text text' status status' told (subst (λ l. ToldJudgement l text' status') (sym same) told')

-- what is answered of a history that is known
of_history : (spec : Specification) (history text : List ℕ) (status : ℕ) → OfFile (Some history) (λ file. AnswersHistory spec file text status) → AnswersHistory spec history text status
of_history spec history text status answers = read_known {known = Some history} {file = history} (λ file. AnswersHistory spec file text status) refl answers

pub one_history_answer : (development history text text' : List ℕ) (status status' : ℕ) → AnswersJudge development (Some history) text status → AnswersJudge development (Some history) text' status'
    → (text ≡ text') × (status ≡ status')
one_history_answer development history text text' status status' (inl (r, first, told)) (inl (s, first', told')) =
    told_fault_once (Refused r) text text' status status' told (subst (λ t. ToldFault (Refused t) text' status') (sym (refused_once first_reading development r s first first')) told')
one_history_answer development history text text' status status' (inl (r, first, told)) (inr (spec, says, answers)) = absurd (says_not_refused first_reading development spec r says first)
one_history_answer development history text text' status status' (inr (spec, says, answers)) (inl (r, first, told)) = absurd (says_not_refused first_reading development spec r says first)
one_history_answer development history text text' status status' (inr (spec, says, answers)) (inr (spec', says', answers')) =
    let same = says_one first_reading development spec spec' says says' in
    answered_once spec history text text' status status' (of_history spec history text status answers) (subst (λ z. AnswersHistory z history text' status') (sym same) (of_history spec' history text' status' answers'))

accepted_by : (spec : Specification) (file text : List ℕ) (events : List Event) (order : List Entry) → AnswersHistory spec file text 0 → SaysHistory spec.operations file events order → IsSpecified spec events
accepted_by spec file text events order (Ok Linearizable, (events', order', says', judged), told) says =
    let same = one_history spec.operations file events events' order order' says says' in
    (order', (subst (λ h. IsJudgedSo (Ok tt) spec h order') (sym same.0) judged).0)
accepted_by spec file text events order (Ok Overflow, is, told) says = absurd (let e : 0 ≡ 1 = told.1 in cc)
accepted_by spec file text events order (Err (Refused r), is, told) says = absurd (let e : 0 ≡ 1 = told.1 in cc)
accepted_by spec file text events order (Err OutOfMemory, is, told) says = absurd told

pub accepted_is_linearizable : (development history text : List ℕ) → AnswersJudge development (Some history) text 0 →
    (spec : Specification) (events : List Event) (order : List Entry) → Says first_reading development spec → SaysHistory spec.operations history events order → IsSpecified spec events
accepted_is_linearizable development history text (inl (r, first, told)) spec events order says said = absurd (let e : 0 ≡ 1 = told.1 in cc)
accepted_is_linearizable development history text (inr (spec', says', answers)) spec events order says said =
    let same = says_one first_reading development spec' spec says' says in
    accepted_by spec history text events order (subst (λ z. AnswersHistory z history text 0) same (of_history spec' history text 0 answers)) said
