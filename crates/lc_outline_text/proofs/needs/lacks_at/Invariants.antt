use Rattle.std.proofs.Common.{◌≡◌}
use Rattle.std.specs.Prelude.{codes, ◌||◌}
use Rattle.std.specs.List.{list_any}
use Rattle.lc_sexp.specs.Shown.{rest_of}
use Rattle.lc_object_text.specs.Sections.{forms_in}
use Rattle.lc_object_text.specs.Seen.{size}
use Rattle.lc_reading.specs.TableView.{listed}
use Rattle.lc_outline.specs.EdgeWords.{edge_word}
use Rattle.lc_outline_text.specs.Needs.{stores, rides, acts}
use Rattle.lc_outline_text.proofs.needs.lacks_at.Given as goal

-- what was found so far, and what is found in the lists that are left
abbrev pub invariant-lists : goal.invariant-lists
invariant-lists l = record {
  needed : (l.is_needed || list_any (rides (edge_word l.fn.kind)) (forms_in (codes "on") (rest_of l.rest))) ≡ (stores l.fn.word l.fn.kind || list_any (rides (edge_word l.fn.kind)) (forms_in (codes "on") (rest_of l.fn.list)));
  there : (l.is_there || list_any (acts (listed l.fn.actions) (edge_word l.fn.kind)) (forms_in (codes "on") (rest_of l.rest))) ≡ list_any (acts (listed l.fn.actions) (edge_word l.fn.kind)) (forms_in (codes "on") (rest_of l.fn.list));
  word : l.at ≡ edge_word l.fn.kind;
}

abbrev pub decreases-lists : goal.decreases-lists
decreases-lists l = size l.rest
