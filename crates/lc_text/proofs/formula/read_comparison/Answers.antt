use Rattle.lc_sexp.specs.Shown.{rest_of, number_of, owner_of}
use Rattle.lc_reading.specs.Words.{names_in}
use Rattle.lc_text.specs.Terms.{terms_reading}
use Rattle.lc_text.proofs.formula.read_comparison.Goals as goal

pub returns : goal.returns
returns g c =
    let names = g.S.Scope.names c.args.scope.now in
    let bound = names_in c.args.bound.now in
    c.made_comparison.ensures (terms_reading names bound (owner_of c.args.list) (number_of c.args.list) (rest_of c.args.list)) c.read_terms.ensures
