use Rattle.std.proofs.Common.{[], ◌∷◌, ◌++◌, List, true, false, sym, subst}
use Rattle.lc_kernel.specs.View.{proof_of}
use Rattle.lc_outline.specs.DevelopmentView.{development_view}
use Rattle.lc_cert.specs.Certificates.{Entry}
use Rattle.lc_cert.specs.EntryView.{entry_of}
use Rattle.lc_check.proofs.Stepping.{none_of, untold_in_turn, told_on, extra_certain, missing_at, on_ok}
use Rattle.lc_check.proofs.Walking.{went_on}
use Rattle.lc_check.specs.Progress.{IsProgress}
use Rattle.lc_check.specs.Walking.{IsInTurn, IsAdvanced}
use Rattle.lc_check.proofs.progress.Progress.take.Goals as goal

pub returns-then-is_some : goal.returns-then-is_some
returns-then-is_some g c = λ taken h. told_on (development_view c.args.development.now) taken (entry_of c.args.entry.now ∷ []) c.args.self.now c.if-is_some.ensures h

pub returns-then-not-branch : goal.returns-then-not-branch
returns-then-not-branch g c = λ taken h.
    let d = development_view c.args.development.now in
    let old = c.args.self.now in
    let here : IsAdvanced d old.walk c.advance.new.self false = subst (IsAdvanced d old.walk c.advance.new.self) c.if-not-branch.true c.in_ok-advance.ensures in
    extra_certain d taken old.walk (entry_of c.args.entry.now) (untold_in_turn d taken old (none_of old.told c.if-is_some.ensures) h) here.0

pub report_missing-requires-clause-known : goal.report_missing-requires-clause-known
report_missing-requires-clause-known g c =
    let d = development_view c.args.development.now in
    let old = c.args.self.now in
    let new = c.advance.new.self in
    let here : IsAdvanced d old.walk new true = subst (IsAdvanced d old.walk new) c.if-not-branch.false c.in_ok-advance.ensures in
    here.0.known (untold_in_turn d c.requires.known.0 old (none_of old.told c.if-is_some.ensures) c.requires.known.1).known

pub report_missing-requires-clause-stands : goal.report_missing-requires-clause-stands
report_missing-requires-clause-stands g c =
    let here : IsAdvanced (development_view c.args.development.now) c.args.self.now.walk c.advance.new.self true =
    subst (IsAdvanced (development_view c.args.development.now) c.args.self.now.walk c.advance.new.self) c.if-not-branch.false c.in_ok-advance.ensures in
    here.1

pub returns-then-entry-self : goal.returns-then-entry-self
returns-then-entry-self g c = λ taken h.
    let d = development_view c.args.development.now in
    let old = c.args.self.now in
    let new = c.advance.new.self in
    let here : IsAdvanced d old.walk new true = subst (IsAdvanced d old.walk new) c.if-not-branch.false c.in_ok-advance.ensures in
    missing_at d taken new (entry_of c.args.entry.now) here.1 (went_on d taken old.walk new (untold_in_turn d taken old (none_of old.told c.if-is_some.ensures) h) here.0) c.if-entry-self.true

pub prove_next-requires-clause-in_turn : goal.prove_next-requires-clause-in_turn
prove_next-requires-clause-in_turn g c =
    let d = development_view c.args.development.now in
    let old = c.args.self.now in
    let new = c.advance.new.self in
    let here : IsAdvanced d old.walk new true = subst (IsAdvanced d old.walk new) c.if-not-branch.false c.in_ok-advance.ensures in
    (c.requires.known.0, went_on d c.requires.known.0 old.walk new (untold_in_turn d c.requires.known.0 old (none_of old.told c.if-is_some.ensures) c.requires.known.1) here.0)

pub returns : goal.returns
returns g c =
    let d = development_view c.args.development.now in
    let old = c.args.self.now in
    let new = c.advance.new.self in
    let last = c.prove_next.new.self in
    let proof = proof_of c.args.entry.now.proof in
    let here : IsAdvanced d old.walk new true = subst (IsAdvanced d old.walk new) c.if-not-branch.false c.in_ok-advance.ensures in
    on_ok c.prove_next.result ((taken : List Entry) → IsInTurn d taken new → IsProgress d (taken ++ record { number = new.next; proof = proof } ∷ []) last)
    ((taken : List Entry) → IsProgress d taken old → IsProgress d (taken ++ entry_of c.args.entry.now ∷ []) last)
    (λ f taken h. (
    let all = f taken (went_on d taken old.walk new (untold_in_turn d taken old (none_of old.told c.if-is_some.ensures) h) here.0) in
    subst (λ n. IsProgress d (taken ++ record { number = n; proof = proof } ∷ []) last) (sym c.if-entry-self.false) all
    ))
    c.prove_next.ensures
