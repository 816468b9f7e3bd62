use Rattle.std.proofs.Common.{Some, ap, ◌∙◌}
use Rattle.lc_base.specs.Limits.{operation_limit}
use Rattle.lc_reading.proofs.Listed.{limited_at}
use Rattle.lc_reading.specs.Naming.{is_full}
use Rattle.lc_seq.specs.SpecView.{operation_of}
use Rattle.lc_spec_text.proofs.operation.read_operation.Goals as goal

pub returns : goal.returns
returns c =
    limited_at operation_of c.is_full.result _ c.number.result _ _ c.read_form-operation.result c.limited.result
    c.read_form-operation.ensures c.limited.ensures (c.is_full.ensures ∙ ap (is_full (Some operation_limit)) c.len.ensures) c.number.ensures
