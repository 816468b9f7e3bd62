use Rattle.std.proofs.Common.{◌≡◌, ◌≤◌}
use Rattle.lc_object_text.specs.Sections.{behind_forms}
use Rattle.lc_object_text.specs.Seen.{items_of, size}
use Rattle.lc_object_text.proofs.section_finding.behind_forms.Given as goal

-- what comes after the lists that are left
abbrev pub invariant-lists : goal.invariant-lists
invariant-lists l = record {
  items : behind_forms l.word (items_of l.fn.list) ≡ behind_forms l.word (items_of l.rest);
  smaller : size l.rest ≤ size l.fn.list;
}

abbrev pub decreases-lists : goal.decreases-lists
decreases-lists l = size l.rest
