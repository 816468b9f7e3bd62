use Rattle.std.proofs.Common.{map, ap, ap₂, ◌∙◌}
use Rattle.lc_object_text.specs.Objects.{specification_of}
use Rattle.lc_seq.specs.Specification as Q
use Rattle.lc_outline_text.specs.Developments.{signature_seen}
use Rattle.lc_outline_text.proofs.made.text_seen.Goals as goal

pub returns : goal.returns
returns c =
    ap₂ specification_of (c.in_ok-abstracts.ensures ∙ ap (map (λ (x : Q.Column). x.name)) c.columns.ensures)
    (c.in_ok-signatures.ensures ∙ ap (map signature_seen) c.operations.ensures)
