use Rattle.std.proofs.Common.{refl}
use Rattle.lc_sexp.specs.Shown.{owner_of}
use Rattle.lc_reading.proofs.Combined.{two_parts}
use Rattle.lc_reading.specs.Words.{names_in}
use Rattle.lc_term.specs.View.{term_of}
use Rattle.lc_text.specs.Terms.{pair, term_reading, terms_reading}
use Rattle.lc_text.proofs.term.read_terms.Goals as goal

pub returns : goal.returns
returns g c =
    let names = g.S.Scope.names c.args.scope.now in
    let bound = names_in c.args.bound.now in
    two_parts term_of term_of pair (term_reading names bound) (term_reading names bound) (terms_reading names bound (owner_of c.args.list)) c.args.list c.in_ok-first.rest c.in_ok-first.first c.in_ok-first.second _ _ _ _
    c.in_ok-first.ensures c.read_bound_term-left.ensures c.read_bound_term-right.ensures c.both.ensures c.ended.ensures (λ m ts. refl)
