use Rattle.std.proofs.Common.{◌≡◌, ◌≤◌, [], ◌∷◌, ◌++◌, true, false, sym, ap, ◌∙◌, subst}
use Rattle.std.proofs.lemmas.List.{map-append}
use Rattle.lc_term.proofs.Stores.{Every-append}
use Rattle.lc_term.specs.Lists.{Every}
use Rattle.lc_outline.specs.DevelopmentView.{development_view}
use Rattle.lc_base.specs.Limits.{file_limit}
use Rattle.lc_cert.specs.Certificates.{Entry, HaveFewSteps}
use Rattle.lc_cert.specs.EntryView.{entry_of, entries_of}
use Rattle.lc_kernel.specs.Proofs.{size}
use Rattle.lc_check.proofs.Walking.{went_on}
use Rattle.lc_check.specs.Walking.{IsInTurn, IsAdvanced}
use Rattle.lc_find.proofs.Passing.{all_proved, none_taken}
use Rattle.lc_find.specs.FirstView.{all_of}
use Rattle.lc_find.specs.Found.{ArePassed, IsUnfound}
use Rattle.lc_find.specs.Hinted.{IsFirstHint, IsFirstTaken}
use Rattle.lc_hints.specs.HintView.{proofs_in}
use Rattle.lc_find.proofs.finding.found_entries.Goals as goal

pub returns-then-not-branch : goal.returns-then-not-branch
returns-then-not-branch g c =
    let d = development_view c.args.development.now in
    let old = c.conditions.walk in
    let hs = all_of c.in_ok-first.first in
    let es = entries_of c.conditions.entries.items in
    let same : hs ≡ entries_of c.args.given.now ++ proofs_in c.args.hints.now = c.in_ok-first.ensures ∙ ap (λ l. entries_of c.args.given.now ++ l) c.proofs.ensures.shown in
    let here : IsAdvanced d old c.advance.new.self false = subst (IsAdvanced d old c.advance.new.self) c.if-not-branch.true c.in_ok-advance.ensures in
    let inv = c.conditions.invariant in
    let passed : ArePassed d hs c.args.budget es = record { in_turn = all_proved d es old inv.in_turn here.0; first = inv.first; hinted = inv.hinted } in
    subst (λ l. ArePassed d l c.args.budget es) same passed

pub next_entry-requires-clause-steps : goal.next_entry-requires-clause-steps
next_entry-requires-clause-steps g c =
    let given = entries_of c.args.given.now in
    let hinted = entries_of c.proofs.result.now in
    subst HaveFewSteps (sym c.in_ok-first.ensures) (Every-append (λ (e : Entry). size e.proof ≤ file_limit) given hinted c.requires c.proofs.ensures.few)

pub returns-in-Err : goal.returns-in-Err
returns-in-Err g c =
    let d = development_view c.args.development.now in
    let old = c.conditions.walk in
    let mid = c.advance.new.self in
    let hs = all_of c.in_ok-first.first in
    let es = entries_of c.conditions.entries.items in
    let same : hs ≡ entries_of c.args.given.now ++ proofs_in c.args.hints.now = c.in_ok-first.ensures ∙ ap (λ l. entries_of c.args.given.now ++ l) c.proofs.ensures.shown in
    let here : IsAdvanced d old mid true = subst (IsAdvanced d old mid) c.if-not-branch.false c.in_ok-advance.ensures in
    let inv = c.conditions.invariant in
    subst (λ l. IsUnfound d l c.args.budget c.in-Err.fault) same
    (none_taken d hs es c.args.budget mid c.next_entry.new.walk c.in-Err.fault (went_on d es old mid inv.in_turn here.0) here.1 inv.first inv.hinted c.in-Err.ensures)

pub conditions-preserved : goal.conditions-preserved
conditions-preserved g c =
    let d = development_view c.args.development.now in
    let old = c.conditions.walk in
    let mid = c.advance.new.self in
    let hs = all_of c.in_ok-first.first in
    let items = c.conditions.entries.items in
    let es = entries_of items in
    let e = entry_of c.in-Ok.entry in
    let here : IsAdvanced d old mid true = subst (IsAdvanced d old mid) c.if-not-branch.false c.in_ok-advance.ensures in
    let inv = c.conditions.invariant in
    let taken = c.in-Ok.ensures in
    let more = sym (ap entries_of c.in_ok-push.ensures.items ∙ map-append entry_of items (c.in-Ok.entry ∷ [])) in
    record {
      in_turn = subst (λ l. IsInTurn d l c.next_entry.new.walk) more (taken.0.taken es (went_on d es old mid inv.in_turn here.0));
      first = subst (Every (IsFirstTaken d hs)) more (Every-append (IsFirstTaken d hs) es (e ∷ []) inv.first (taken.1, tt));
      hinted = λ zero. subst (Every (IsFirstHint hs)) more (Every-append (IsFirstHint hs) es (e ∷ []) (inv.hinted zero) (taken.2 zero, tt));
    }
