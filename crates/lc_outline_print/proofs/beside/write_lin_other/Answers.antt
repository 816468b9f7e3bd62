use Rattle.lc_outline_print.proofs.Printed.{written_mark}
use Rattle.lc_outline_print.proofs.beside.write_lin_other.Goals as goal

pub returns : goal.returns
returns g c =
    written_mark _ _ _ _ _ _ _ _ _ _ c.in_ok-write_mark_word.ensures c.in_ok-write_term_part.ensures c.in_ok-write_operation_name.ensures c.in_ok-write_choice.ensures c.in_ok-push_str.ensures.bytes
