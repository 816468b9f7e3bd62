use Rattle.std.proofs.Common.{◌<◌, length, ◌∙◌, rules}
use Rattle.lc_term.specs.SystemColumns.{system_columns}
use Rattle.lc_seq.specs.Specification as Q
use Rattle.lc_seq.specs.SpecView.{column_of}
use Rattle.lc_outline.proofs.Names.{named_first}
use Rattle.lc_outline.proofs.columns.late_name.Goals as goal

pub returns-then-place-len : goal.returns-then-place-len
returns-then-place-len c =
    let items = c.args.parts.now.auxiliaries.items in
    let below : c.args.place < length items = search rules in
    c.as_str.ensures.text ∙ named_first (λ (x : Q.Column). x.name) column_of items system_columns c.args.place c.index.result.now below c.index.ensures
