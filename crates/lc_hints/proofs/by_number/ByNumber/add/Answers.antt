use Rattle.std.proofs.Common.{sym, ap, ◌∙◌}
use Rattle.std.specs.Prelude.{◌==◌, nat_eq}
use Rattle.std.proofs.lemmas.Bool.{eqb-true}
use Rattle.indexmap.specs.IndexMap.{get}
use Rattle.lc_hints.proofs.Joined.{at_added}
use Rattle.lc_hints.proofs.by_number.ByNumber.add.Goals as goal

pub returns : goal.returns
returns g c = λ k.
    let old = c.args.self.now.lists in
    at_added (c.args.number == k) c.in_ok-items.items c.args.items c.swap_remove-first.result (get nat_eq old k) (get nat_eq c.swap_remove-first.new.self k) (get nat_eq c.insert.new.self k)
    (λ e. ap (get nat_eq old) (sym (eqb-true c.args.number k e)) ∙ sym c.swap_remove-first.ensures.value)
    c.in_ok-items.ensures (c.swap_remove-first.ensures.updates.0 k) (c.in_ok-insert.ensures.updates.0 k)
