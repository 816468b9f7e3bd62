use Rattle.std.proofs.Common.{sym, ap, ap₂, ◌∙◌}
use Rattle.lc_sexp.specs.Shown.{rest_of}
use Rattle.lc_object_text.specs.Sections.{sections_at}
use Rattle.lc_outline_text.proofs.FileReads.{told_first, told_limited, limited_result_ok}
use Rattle.lc_outline_text.proofs.LimitsHold.{read_limited}
use Rattle.lc_outline_text.specs.Declarations.{declarations_in}
use Rattle.lc_outline_text.specs.Sizes.{condition_count}
use Rattle.lc_outline_text.specs.Views.{capped}
use Rattle.lc_outline_text.proofs.file.read_file.Goals as goal

pub returns-then-is_told_before_limits : goal.returns-then-is_told_before_limits
returns-then-is_told_before_limits c =
    let ts = rest_of c.args.forms in
    let result = c.read_forms-parts.result in
    let read = told_first ts result c.read_forms-parts.ensures.read (sym c.is_told_before_limits.ensures ∙ c.if-is_told_before_limits.true) in
    record {
      read = read;
      resolved = c.read_forms-parts.ensures.resolved;
      limited = read_limited ts result read;
      initial = c.read_forms-parts.ensures.initial;
    }

pub returns : goal.returns
returns c =
    let ts = rest_of c.args.forms in
    let sections = c.find_sections-sections.ensures ∙ ap (λ n. sections_at (record { number = n; trees = ts })) c.requires.start in
    let declared = c.in_ok-declarations.ensures ∙ ap declarations_in sections in
    let parts = c.read_forms-parts.result in
    let read = told_limited ts parts c.limited.result c.in_ok-count.count c.read_forms-parts.ensures.read (c.in_ok-count.ensures ∙ ap₂ (λ d s. capped (condition_count d s)) declared sections) c.limited.ensures in
    record {
      read = read;
      resolved = limited_result_ok _ _ parts c.limited.result c.limited.ensures c.read_forms-parts.ensures.resolved;
      limited = read_limited ts c.limited.result read;
      initial = limited_result_ok _ _ parts c.limited.result c.limited.ensures c.read_forms-parts.ensures.initial;
    }
