use Rattle.lc_outline_print.proofs.Forms.{invariant_text}
use Rattle.lc_outline_print.proofs.development.write_invariant.Goals as goal

pub returns : goal.returns
returns c =
    invariant_text _ _ _ _ _ _ _ _ c.requires c.conjuncts.ensures c.in_ok-push_str.ensures.bytes c.in_ok-write_conjuncts.ensures c.in_ok-push_str-2.ensures.bytes
