use Rattle.std.proofs.Common.{◌+◌, ◌++◌, ◌∷◌, Some, take, sym, ap, ◌∙◌, append_assoc, arith}
use Rattle.lc_base.specs.Limits.{argument_limit}
use Rattle.lc_base.specs.Name.{bytes_of}
use Rattle.lc_sexp.specs.Shown.{rest_of, number_of}
use Rattle.lc_reading.specs.Listed.{declared_by}
use Rattle.lc_reading.specs.Naming.{name_reading}
use Rattle.lc_reading.specs.Parts.{tree_of, place_of}
use Rattle.lc_reading.specs.Rows.{all_declared, declared_reading}
use Rattle.lc_reading.specs.TableView.{listed}
use Rattle.lc_reading.proofs.SoFar.{so_far_push, each_end}
use Rattle.lc_spec_text.proofs.Argued.{more_taken, one_more}
use Rattle.lc_spec_text.proofs.arguments.read_listed_arguments.Goals as goal

pub returns-in_default-clause-read : goal.returns-in_default-clause-read
returns-in_default-clause-read c =
    let read = declared_reading (name_reading (Some (1 + argument_limit))) declared_by in
    each_end bytes_of _ _ c.items.values (ap (read (take c.items.place (listed c.in_ok-names.names)) (number_of c.items.rest)) c.in_default.ensures.1) c.items.invariant.read

pub items-preserved : goal.items-preserved
items-preserved c =
    let (at, next) = c.in-Ok.ensures in
    let names = listed c.in_ok-names.names in
    let t = tree_of c.in-Ok.part in
    let left = all_declared declared_by (rest_of c.next_part.new.list) in
    let all = ap (λ ts. take c.items.place names ++ all_declared declared_by ts) (sym next.rest) ∙ c.items.invariant.names in
    let taken = more_taken names c.items.place (declared_by t) left c.items.invariant.within all in
    let took = ap (λ n. take n names) c.place_behind-place.ensures ∙ taken.0 in
    let more = one_more (name_reading (Some (1 + argument_limit))) declared_by (take c.items.place names) (take c.place_behind-place.result names) (number_of c.items.rest) (place_of c.in-Ok.part)
    (number_of c.next_part.new.list) t (rest_of c.next_part.new.list) (rest_of c.items.rest) next.rest at next.number took in
    record {
      within = omega (arith, c.place_behind-place.ensures, taken.1);
      names = ap (λ ns. ns ++ left) took ∙ append_assoc (take c.items.place names) (declared_by t) left ∙ all;
      read = so_far_push bytes_of (λ x xs. x ∷ xs) _ _ _ c.items.values c.read_argument-value.result c.pushed-values.result (rw more at c.items.invariant.read) c.read_argument-value.ensures c.pushed-values.ensures;
    }
