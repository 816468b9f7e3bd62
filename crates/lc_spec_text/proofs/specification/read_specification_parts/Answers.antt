use Rattle.std.proofs.Common.{ℕ, List, sym, ap, ◌∙◌, subst}
use Rattle.lc_base.specs.Name.{bytes_of}
use Rattle.lc_sexp.specs.Shown.{rest_of, number_of}
use Rattle.lc_reading.proofs.Combined.{both_read}
use Rattle.lc_reading.specs.Results.{IsReading}
use Rattle.lc_reading.specs.TableView.{listed}
use Rattle.lc_text.specs.Terms.{triple}
use Rattle.lc_seq.specs.Specification.{Column}
use Rattle.lc_spec_text.proofs.Parts.{specification_found}
use Rattle.lc_spec_text.specs.Scopes.{Columns}
use Rattle.lc_spec_text.specs.Specifications.{operations_reading}
use Rattle.lc_spec_text.specs.Seen.{columns_of, operations_of, specification_parts}
use Rattle.lc_spec_text.proofs.specification.read_specification_parts.Goals as goal

pub returns : goal.returns
returns c =
    let with_others : List (List ℕ) → Columns = λ own. record { own = own; others = listed c.args.others.now } in
    subst (λ r. IsReading specification_parts r c.both-2.result)
    (sym (specification_found (listed c.args.others.now) c.args.list c.next_part.new.list c.next_part-2.new.list c.next_part-3.new.list
    c.in_ok-name.name c.in_ok-section.section c.in_ok-next_part.field-0 c.in_ok-name.ensures c.in_ok-section.ensures c.in_ok-next_part.ensures))
    (rw (c.both-2.ensures, c.both.ensures)
    (both_read (λ p. (bytes_of p.0, columns_of p.1)) operations_of (λ (p : List ℕ × List Column) z. triple p.0 p.1 z) _ _ _ _
    (both_read bytes_of columns_of (λ x y. (x, y)) _ _ _ _ (rw c.new.ensures at c.read_name-name.ensures) c.in_ok-own.ensures.read)
    (subst (λ cs. IsReading operations_of (operations_reading cs (number_of c.next_part-2.new.list) (rest_of c.next_part-2.new.list)) c.read_operations-operations.result)
    (c.in_ok-declared.ensures ∙ ap with_others c.in_ok-own.ensures.names) c.read_operations-operations.ensures)))
