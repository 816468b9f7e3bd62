use Rattle.std.proofs.Common.{◌∷◌, [], sym, subst, codes, OnOk}
use Rattle.std.proofs.lemmas.Result.{on_ok_weaker}
use Rattle.lc_outline.specs.DevelopmentView.{development_view}
use Rattle.lc_cond_text.specs.ConditionText.{spelled}
use Rattle.lc_cond_text.specs.Waiting.{part_text, waiting_text, GoesOn}
use Rattle.lc_cond_text.proofs.Waiting.{behind_word}
use Rattle.lc_cond_text.proofs.term_text.go_on.Goals as goal

pub returns-in-Column : goal.returns-in-Column
returns-in-Column c =
    let ts = c.args.terms.now in
    let by = spelled (development_view c.args.development.now) in
    let d = c.args.depth in
    subst (λ w. OnOk c.begin_column.result (GoesOn by d ts c.args.out.now.items c.args.waiting.now.items (waiting_text by d ts (w ∷ [])) c.begin_column.new.out.items c.begin_column.new.waiting.items)) (sym c.in-Column.is)
    (c.begin_column.ensures d)

pub returns-in_ok-push_space-in-Spaced : goal.returns-in_ok-push_space-in-Spaced
returns-in_ok-push_space-in-Spaced c =
    let ts = c.args.terms.now in
    let by = spelled (development_view c.args.development.now) in
    let d = c.args.depth in
    let out = c.args.out.now.items in
    let ws = c.args.waiting.now.items in
    let new = c.begin_term-in-Spaced.new.out.items in
    let vs = c.begin_term-in-Spaced.new.waiting.items in
    subst (λ w. OnOk c.begin_term-in-Spaced.result (GoesOn by d ts out ws (part_text by d ts w) new vs)) (sym c.in-Spaced.is)
    (on_ok_weaker c.begin_term-in-Spaced.result (λ h. behind_word by d ts out ws (codes " ") _ _ new vs c.in_ok-push_space-in-Spaced.ensures h) (c.begin_term-in-Spaced.ensures (development_view c.args.development.now)))

pub returns-in-Term : goal.returns-in-Term
returns-in-Term c =
    let ts = c.args.terms.now in
    let by = spelled (development_view c.args.development.now) in
    let d = c.args.depth in
    subst (λ w. OnOk c.begin_term.result (GoesOn by d ts c.args.out.now.items c.args.waiting.now.items (waiting_text by d ts (w ∷ [])) c.begin_term.new.out.items c.begin_term.new.waiting.items)) (sym c.in-Term.is)
    (c.begin_term.ensures (development_view c.args.development.now))

pub returns-in-Stored : goal.returns-in-Stored
returns-in-Stored c =
    let ts = c.args.terms.now in
    let by = spelled (development_view c.args.development.now) in
    let d = c.args.depth in
    subst (λ w. OnOk c.begin_stored.result (GoesOn by d ts c.args.out.now.items c.args.waiting.now.items (waiting_text by d ts (w ∷ [])) c.begin_stored.new.out.items c.begin_stored.new.waiting.items)) (sym c.in-Stored.is)
    (c.begin_stored.ensures (development_view c.args.development.now))
