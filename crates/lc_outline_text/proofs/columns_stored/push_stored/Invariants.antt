use denote.Shadow.{shadow}
use denote.Text.{Utf8}
use Rattle.std.proofs.Common.{◌≡◌, ◌++◌, option_map}
use Rattle.lc_base.specs.declared.ids.ColId.{ColId}
use Rattle.lc_rider_text.specs.Scopes.{column_place}
use Rattle.lc_sexp.specs.Shown.{rest_of}
use Rattle.lc_object.specs.View.{columns_of}
use Rattle.lc_object_text.specs.Seen.{size}
use Rattle.lc_reading.specs.TableView.{listed}
use Rattle.lc_outline_text.specs.Sizes.{columns_stored}
use Rattle.lc_outline_text.proofs.columns_stored.push_stored.Given as goal

-- the columns so far, and those that are left, are all that will be there; the column is that of the name
abbrev pub invariant-updates : goal.invariant-updates
invariant-updates l =
    (columns_of l.all.items ++ columns_stored (listed l.columns) (rest_of l.rest) ≡ columns_of l.fn.stored.items ++ columns_stored (listed l.columns) (rest_of l.fn.list))
    × (option_map (λ (c : ColId). c.0) l.column ≡ column_place (listed l.columns) l.name) × shadow (Utf8 l.name)

abbrev pub decreases-updates : goal.decreases-updates
decreases-updates l = size l.rest
