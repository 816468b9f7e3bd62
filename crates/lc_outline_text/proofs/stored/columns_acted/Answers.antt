use Rattle.std.proofs.Common.{ap, ap₂, ◌∙◌}
use Rattle.lc_reading.specs.Listed.{place_of}
use Rattle.lc_reading.specs.TableView.{listed}
use Rattle.lc_outline_text.specs.Declarations.{form_at}
use Rattle.lc_outline_text.specs.DeclarationsView.{declarations_view}
use Rattle.lc_outline_text.specs.StoredView.{rows_kept, acted_kept, kept_at}
use Rattle.lc_outline_text.proofs.StoredThere.{acted_at}
use Rattle.lc_outline_text.proofs.stored.columns_acted.Goals as goal

pub returns : goal.returns
returns c =
    let d = declarations_view c.args.declarations.now in
    let place = place_of (listed c.args.declarations.now.action_names) c.args.name.now in
    c.row_at.ensures ∙ ap₂ (λ rows o. kept_at (rows_kept rows) o) c.deref.ensures.value c.place.ensures ∙ ap (λ rows. kept_at rows place) c.requires.actions ∙ acted_at d.declared.columns d.actions place
    ∙ ap (λ names. acted_kept d.declared.columns (form_at d.actions (place_of names c.args.name.now))) c.args.declarations.now.named
