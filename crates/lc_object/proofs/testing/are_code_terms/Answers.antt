use Rattle.lc_object.proofs.Passing.{terms_test}
use Rattle.lc_object.proofs.testing.are_code_terms.Goals as goal

pub returns : goal.returns
returns c = terms_test c.args.variables c.args.terms.now c.all_are_code.result c.all_are_code.ensures
