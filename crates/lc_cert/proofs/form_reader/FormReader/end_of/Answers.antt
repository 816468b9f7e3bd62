use Rattle.std.proofs.Common.{◌++◌, subst}
use Rattle.lc_sexp.specs.Trees.{none}
use Rattle.lc_cert.specs.Pieces.{form_from, waiting_in, IsTold}
use Rattle.lc_cert.proofs.form_reader.FormReader.end_of.Goals as goal

pub returns-in-List : goal.returns-in-List
returns-in-List c = λ columns name taken.
    let f = c.args.self.now in
    subst (λ t. IsTold (form_from columns name taken f f.number none) (taken ++ waiting_in f) t c.end.result) c.in-List.ensures.tree (c.end.ensures columns name taken f.number)
