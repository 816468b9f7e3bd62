use Rattle.std.proofs.Common.{◌≡◌, map, take}
use Rattle.lc_object_text.specs.Texts.{signature_view}
use Rattle.lc_seq.specs.SpecView.{operation_of}
use Rattle.lc_outline_text.specs.Developments.{signature_seen}
use Rattle.lc_outline_text.proofs.made.signatures_seen.Given as goal

-- the operations so far
abbrev pub invariant-loop-operation : goal.invariant-loop-operation
invariant-loop-operation l = map signature_view l.signatures.items ≡ map signature_seen (map operation_of (take l.operation-index l.operations))
