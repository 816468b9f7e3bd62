use Rattle.std.proofs.Common.{rules, ◌≡◌, ◌<◌, ◌++◌, ◌∷◌, []}
use Rattle.lc_term.specs.Syntax as S
use Rattle.lc_table.specs.Tables.{term_in, column_in, IsColumn}
use Rattle.lc_table.proofs.Chained.{one_down}
use Rattle.lc_copy.proofs.chains.node_chain.Goals as goal

pub stores-preserved : goal.stores-preserved
stores-preserved c =
    let ts = c.args.table.now in
    let items : c.push.new.self.items ≡ c.stores.stores.items ++ c.stores.base ∷ [] = search rules in
    let tree : column_in ts c.stores.base ≡ S.Store (column_in ts c.in-Store.below) (term_in ts c.in-Store.field-1) (term_in ts c.in-Store.field-2) = search rules in
    let is : IsColumn ts c.in-Store.below = search rules in
    let less : c.in-Store.below.0 < c.stores.base.0 = search rules in
    one_down ts c.args.column c.stores.stores.items c.push.new.self.items c.stores.base c.in-Store.below (term_in ts c.in-Store.field-1) (term_in ts c.in-Store.field-2) items tree is less c.stores.invariant
