use Rattle.std.proofs.Common.{◌∙◌, ℕ, map, sym, ap, ap₂, subst}
use Rattle.lc_put.specs.PutNumbers.{columns_at, AreColumns, terms_in}
use Rattle.lc_term.specs.Said.{puts, said}
use Rattle.lc_term.specs.Syntax.{Column}
use Rattle.lc_table.specs.Tables.{term_in}
use Rattle.lc_seq.specs.SpecView.{branch_of}
use Rattle.lc_action.specs.ActionView.{first_of}
use Rattle.lc_rider.specs.MarkView.{marking_of}
use Rattle.lc_rider.specs.Paths.{mark_updates}
use Rattle.lc_rider.proofs.marked_columns.marked_columns.Goals as goal

pub store_marked-requires : goal.store_marked-requires
store_marked-requires c =
    let are = c.columns-columns.ensures.are c.args.terms.now c.requires.path in
    record {
      before = are;
      variables = c.requires.variables;
      columns = subst (AreColumns c.args.terms.now) (sym c.in_ok-stored.ensures.items) are;
    }

pub returns-clause-columns : goal.returns-clause-columns
returns-clause-columns c =
    let old = c.args.terms.now in
    let us = mark_updates (first_of c.args.mark.system) (marking_of c.args.mark.marking (term_in old c.args.mark.client)) (branch_of c.args.branch.now) in
    let τ = terms_in old c.args.variables.now in
    c.in_ok-store_marked.ensures.stored (term_in old c.args.mark.client)
    ∙ ap₂ (λ (ρ σ : ℕ → Column). puts ρ (map (said σ τ) us)) (ap (columns_at old) c.in_ok-stored.ensures.items ∙ c.columns-columns.ensures.trees old) (c.columns-columns.ensures.trees old)
