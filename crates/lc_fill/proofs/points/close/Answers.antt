use Rattle.std.proofs.Common.{sym, ap, ◌∙◌}
use Rattle.std.specs.Prelude.{codes}
use Rattle.lc_sexp.specs.Trees.{atom, none}
use Rattle.lc_fill.specs.Acts.{call_at}
use Rattle.lc_fill.specs.Filled.{as_is}
use Rattle.lc_fill.specs.Points.{closed, edge_word, put_call}
use Rattle.lc_fill.specs.Seen.{acts_view, onto}
use Rattle.lc_fill.proofs.Calls.{put-called, on-line}
use Rattle.lc_fill.proofs.points.close.Goals as goal

pub returns-in-None : goal.returns-in-None
returns-in-None c = ap (λ e. onto c.args.row.now (closed (acts_view c.args.acts.now) e c.args.place)) (sym c.in-None.is)

pub returns : goal.returns
returns c =
    let a = acts_view c.args.acts.now in
    let n = c.args.place in
    put-called a c.args.row.now c.put_call.new.self n c.in_ok-on.on c.is_lacking.result (as_is none) c.is_lacking.ensures c.in_ok-put_call.ensures
    ∙ ap (λ t. onto c.args.row.now (put_call a n t (as_is none))) (on-line c.in_ok-on.on c.in_ok-word.word c.in_ok-name.name c.in_ok-call.call (codes "on") (edge_word c.in-Some.edge) (call_at a n) c.in_ok-on.ensures c.in_ok-word.ensures c.in_ok-name.ensures c.in_ok-call.ensures)
    ∙ ap (λ e. onto c.args.row.now (closed a e n)) (sym c.in-Some.is)
