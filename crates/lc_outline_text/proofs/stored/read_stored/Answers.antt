use Rattle.std.proofs.Common.{[], ◌∷◌, map, ap, ◌∙◌}
use Rattle.lc_outline_text.specs.DeclarationsView.{declarations_view}
use Rattle.lc_outline_text.specs.Rests.{rests_of, lists_of_rests}
use Rattle.lc_outline_text.specs.StoredView.{acted_kept, both_kept, by_branches, by_choices}
use Rattle.lc_outline_text.proofs.StoredThere.{chosen_each}
use Rattle.lc_outline_text.proofs.stored.read_stored.Goals as goal

pub returns-clause-stored : goal.returns-clause-stored
returns-clause-stored c =
    let d = declarations_view c.args.declarations.now in
    let columns = d.declared.columns in
    record {
      actions = c.in_ok-actions.ensures.rows ∙ ap (λ cs. map (acted_kept columns) (rests_of cs)) c.deref.ensures.value;
      branches = c.in_ok-branches.ensures.rows ∙ ap (λ cs. map (by_branches columns) (rests_of cs)) c.deref-2.ensures.value;
      choices = c.in_ok-choices.ensures.rows ∙ ap (λ cs. map (by_choices columns) (lists_of_rests cs)) c.deref-3.ensures.value
          ∙ ap (map (by_choices columns)) c.args.declarations.now.choices_found ∙ chosen_each columns d.operations;
      nothing = c.in_ok-nothing.ensures.rows ∙ ap (λ ts. both_kept columns (ts ∷ [])) c.empty.ensures.rest;
    }
