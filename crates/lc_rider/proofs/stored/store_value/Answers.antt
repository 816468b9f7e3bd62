use Rattle.std.proofs.Common.{◌≡◌, ℕ, OnOk, subst}
use Rattle.lc_put.specs.PutNumbers.{columns_at}
use Rattle.lc_term.specs.Syntax.{Column}
use Rattle.lc_term.specs.View.{term_of}
use Rattle.lc_rider.proofs.Saying.{value_stored}
use Rattle.lc_rider.proofs.stored.store_value.Goals as goal

pub returns-clause-stored : goal.returns-clause-stored
returns-clause-stored c =
    subst (λ (σ : ℕ → Column). OnOk c.store_in.result (columns_at c.store_in.new.terms c.store_in.new.columns.items ≡ σ))
    (value_stored c.args.terms.now c.enter_term.new.self c.put_in_term.new.table c.args.before.columns.now c.args.before.variables.now c.args.columns.now.items c.args.column c.args.index
    c.in_ok-value.value c.in_ok-value-2.value (term_of c.args.value.now) c.requires.before c.requires.variables c.requires.columns c.requires.index
    c.enter_term.ensures.kept c.put_in_term.ensures.kept c.in_ok-value.ensures.id c.in_ok-value-2.ensures.id)
    c.store_in.ensures.stored
