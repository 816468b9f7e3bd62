use Rattle.std.proofs.Common.{ap, ◌∙◌}
use Rattle.lc_cert.specs.ColumnNames.{names_with}
use Rattle.lc_outline.specs.ColumnNames.{column_names}
use Rattle.lc_pool.specs.Desks.{development_in}
use Rattle.lc_pool.proofs.desk.Desk.new.Goals as goal

pub invariant_of-result : goal.invariant_of-result
invariant_of-result g c = record {
  numbering = c.requires.numbering;
  known = c.requires.known;
  reader_is = c.in_ok-reader.ensures ∙ ap (λ D. names_with (column_names D)) c.parts.ensures.shown;
  laid = c.nothing_laid-laid.ensures (development_in c.args.files);
}
