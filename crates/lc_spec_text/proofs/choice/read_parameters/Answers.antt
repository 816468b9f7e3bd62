use Rattle.std.proofs.Common.{◌+◌, ◌++◌, Some, length, append-nil, sym, ap, ◌∙◌, subst}
use Rattle.std.specs.Prelude.{IfOk}
use Rattle.lc_base.specs.Limits.{parameter_limit}
use Rattle.lc_sexp.specs.Shown.{rest_of, number_of}
use Rattle.lc_reading.proofs.Listed.{listed_reading-is}
use Rattle.lc_reading.specs.Listed.{declared_by}
use Rattle.lc_reading.specs.Naming.{name_reading}
use Rattle.lc_reading.specs.Parts.{tree_of, place_of}
use Rattle.lc_reading.specs.Results.{IsReading}
use Rattle.lc_reading.specs.Rows.{declared_reading}
use Rattle.lc_reading.specs.TableView.{listed}
use Rattle.lc_spec_text.proofs.Behind.{declared_reading-behind}
use Rattle.lc_spec_text.specs.Seen.{names_of}
use Rattle.lc_spec_text.proofs.choice.read_parameters.Goals as goal

pub returns-in-List-clause-read : goal.returns-in-List-clause-read
returns-in-List-clause-read c =
    let vs = listed c.args.variables.now in
    let read = name_reading (Some (parameter_limit + length vs)) in
    let l = c.in-List.list in
    subst (λ r. IfOk c.read_declared.result (λ x. IsReading names_of r x.1))
    (declared_reading-behind read declared_by vs (listed c.new-none.result) (number_of l) (rest_of l)
    ∙ ap (λ us. declared_reading read declared_by us (number_of l) (rest_of l)) (ap (λ us. vs ++ us) c.new-none.ensures ∙ append-nil vs)
    ∙ sym (listed_reading-is (λ n. declared_reading read declared_by vs) (place_of c.args.part) (tree_of c.args.part) l c.in-List.ensures.tree c.in-List.ensures.number c.in-List.ensures.placed))
    c.read_declared.ensures.read
