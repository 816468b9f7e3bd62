use Rattle.std.proofs.Common.{◌++◌, ◌∙◌, ap, ap₂, map, string_bytes}
use Rattle.std.specs.Prelude.{codes}
use Rattle.std.proofs.lemmas.Result.{on_ok_weaker}
use Rattle.lc_base.specs.Name.{bytes_of}
use Rattle.lc_object.specs.View.{operation_of}
use Rattle.lc_outline.specs.PartsView.{parts_view}
use Rattle.lc_reading.specs.Words.{names_in}
use Rattle.lc_sexp.specs.Printed.{printed_tree}
use Rattle.lc_outline_print.specs.Naming.{with_client, named_by}
use Rattle.lc_outline_print.specs.Objects.{body_with}
use Rattle.lc_outline_print.proofs.object.write_body.Goals as goal

pub returns : goal.returns
returns c =
    on_ok_weaker c.write_body_with.result
    (λ is. is ∙ ap₂ (λ columns variables. string_bytes c.args.out.now ++ codes " " ++ printed_tree (body_with (parts_view c.args.parts.now) (named_by columns variables) c.args.number (operation_of c.args.operation.now)))
    c.requires
    (ap names_in c.deref-3.ensures.value ∙ c.in_ok-variables.ensures ∙ ap₂ (λ arguments locals. with_client (map bytes_of arguments ++ map bytes_of locals)) c.deref.ensures.value c.deref-2.ensures.value))
    c.write_body_with.ensures
