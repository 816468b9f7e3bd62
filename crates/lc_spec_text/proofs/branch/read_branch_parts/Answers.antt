use Rattle.std.proofs.Common.{[], refl}
use Rattle.lc_sexp.specs.Shown.{owner_of}
use Rattle.lc_term.specs.View.{formula_of}
use Rattle.lc_reading.proofs.Combined.{three_parts}
use Rattle.lc_text.specs.Formulas.{formula_reading}
use Rattle.lc_text.specs.Terms.{triple}
use Rattle.lc_spec_text.specs.Branches.{updates_reading, replies_reading, branch_parts_reading}
use Rattle.lc_spec_text.specs.ScopeView.{columns_view}
use Rattle.lc_spec_text.specs.Seen.{updates_of, terms_of}
use Rattle.lc_spec_text.proofs.branch.read_branch_parts.Goals as goal

pub returns : goal.returns
returns g c =
    let columns = columns_view c.args.columns in
    let names = g.S.Scope.names c.args.scope.now in
    three_parts formula_of updates_of terms_of triple (formula_reading names []) (updates_reading columns names) (replies_reading names c.args.count)
    (branch_parts_reading columns names c.args.count (owner_of c.args.list)) c.args.list c.in_ok-first.rest c.in_ok-first.first c.in_ok-first.second c.in_ok-first.third _ _ _ _ _ _
    c.in_ok-first.ensures c.read_formula-guard.ensures c.read_updates-updates.ensures c.read_replies-replies.ensures c.both.ensures c.both-2.ensures c.ended.ensures (λ m t u v ts. refl)
