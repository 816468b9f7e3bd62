use Rattle.std.proofs.Common.{◌≡◌, Some, ◌++◌, ◌∷◌, [], ap, sym, subst, ◌∙◌, arith}
use Rattle.std.proofs.lemmas.List.{map-append}
use Rattle.json.specs.Json.{after_end_array}
use Rattle.json.specs.Token.{Token}
use Rattle.lc_history.specs.View.{entry_view, entries_view}
use Rattle.lc_hist.specs.JsonSeen.{all_of}
use Rattle.lc_hist.specs.JsonTokens.{Begins}
use Rattle.lc_hist.specs.JsonValues.{entry_in}
use Rattle.lc_hist.proofs.JsonLists.{all_in-push}
use Rattle.lc_hist.proofs.JsonTokens.{row_begins, row_next, row_ends, begins-shorter}
use Rattle.lc_hist.proofs.token_rows.next_order.Goals as goal

pub entries-init : goal.entries-init
entries-init c = ([], ap (λ order. Some (entries_view order)) (sym c.new-order.ensures.items), row_begins 3 c.begins_array.new.self)

pub entries-preserved : goal.entries-preserved
entries-preserved c =
    let l = c.entries in
    let ds = l.invariant.0 in
    let said = rw c.in-Some.is at c.in_ok-done.ensures in
    let d = said.0 in
    let rest = c.next_entry.new.reader in
    let same : c.take_end_array.new.self ≡ l.reader = grind arith in
    let begins : Begins 3 l.reader d rest = subst (λ ts. Begins 3 ts d rest) same said.2 in
    let entry = entry_view c.in-Some.done in
    let pushed : entries_view c.push.new.self.items ≡ entries_view l.order.items ++ entry ∷ [] = ap entries_view c.in_ok-push.ensures.items ∙ map-append entry_view l.order.items (c.in-Some.done ∷ []) in (
      ds ++ d ∷ [],
      all_in-push (entry_in (all_of c.args.operations.now)) ds d (entries_view l.order.items) entry l.invariant.1 said.1 ∙ ap Some (sym pushed),
      row_next 3 c.begins_array.new.self ds l.reader d rest l.invariant.2 begins,
    )

pub entries-smaller : goal.entries-smaller
entries-smaller c =
    let said = rw c.in-Some.is at c.in_ok-done.ensures in
    let d = said.0 in
    let rest = c.next_entry.new.reader in
    let same : c.take_end_array.new.self ≡ c.entries.reader = grind arith in
    let begins : Begins 3 c.entries.reader d rest = subst (λ ts. Begins 3 ts d rest) same said.2 in
    begins-shorter 3 c.entries.reader d rest begins

pub returns : goal.returns
returns c =
    let l = c.entries in
    let rest = c.take_end_array.new.self in
    let opens : c.args.reader.now ≡ Token.begin_array ∷ c.begins_array.new.self = grind arith in
    let ends : after_end_array l.reader ≡ Some rest = grind arith in
    (l.invariant.0, l.invariant.1, row_ends 3 c.args.reader.now c.begins_array.new.self l.invariant.0 l.reader rest opens l.invariant.2 ends)
