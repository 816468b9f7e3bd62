use Rattle.std.proofs.Common.{◌≡◌, ℕ, ◌+◌, List, ◌++◌, ◌∷◌, refl, sym, ap, ◌∙◌}
use Rattle.std.proofs.lemmas.List.{append_assoc, append-nil}
use Rattle.lc_sexp.specs.Trees.{Tree, Trees, ◌▸◌, item_count}
use Rattle.lc_sexp.specs.Shown.{rest_of, number_of}
use Rattle.lc_reading.specs.Parts.{tree_of, place_of}
use Rattle.lc_reading.specs.Readings.{Reading, both}
use Rattle.lc_reading.specs.Rows.{all_declared, declared_reading}
use Rattle.lc_reading.specs.TableView.{listed}
use Rattle.lc_reading.proofs.SoFar.{so_far_push, each_end}
use Rattle.lc_reading.proofs.declared.read_declared.Goals as goal

-- after one item, the others are left
one_more : {X : Type 0} (read : List (List ℕ) → ℕ → Tree → Reading X) (declares : Tree → List (List ℕ)) (before after : List (List ℕ)) (m i j : ℕ) (t : Tree) (ts us : Trees)
    → us ≡ t ▸ ts → i ≡ m → j ≡ m + item_count t → after ≡ before ++ declares t
    → declared_reading read declares before m us ≡ both (λ x xs. x ∷ xs) (read before i t) (declared_reading read declares after j ts)
one_more read declares before after m i j t ts us next at behind entered = rw (next, at, behind, entered) refl

pub returns-in_default : goal.returns-in_default
returns-in_default g c =
    let declares = g.D.Declares.declares in
    let end = c.in_default.ensures.1 in
    record {
      names = sym (append-nil (listed c.items.names)) ∙ ap (λ ts. listed c.items.names ++ all_declared declares ts) (sym end) ∙ c.items.invariant.names;
      read = each_end g.D.Declares.meaning _ _ c.items.values (ap (declared_reading (g.D.Declares.reading c.args.reader.now) declares (listed c.items.names) (number_of c.items.rest)) end) c.items.invariant.read;
    }

pub items-preserved : goal.items-preserved
items-preserved g c =
    let (at, next) = c.in-Ok.ensures in
    let declares = g.D.Declares.declares in
    let entered = c.in_ok-names-2.ensures in
    let t = tree_of c.in-Ok.part in
    let left = one_more (g.D.Declares.reading c.args.reader.now) declares (listed c.items.names) (listed c.in_ok-names-2.names) (number_of c.items.rest) (place_of c.in-Ok.part) (number_of c.next_part.new.list) t
    (rest_of c.next_part.new.list) (rest_of c.items.rest) next.rest at next.number entered in
    record {
      names = ap (λ vs. vs ++ all_declared declares (rest_of c.next_part.new.list)) entered
          ∙ append_assoc (listed c.items.names) (declares t) (all_declared declares (rest_of c.next_part.new.list))
          ∙ ap (λ ts. listed c.items.names ++ all_declared declares ts) (sym next.rest)
          ∙ c.items.invariant.names;
      read = so_far_push g.D.Declares.meaning (λ x xs. x ∷ xs) _ _ _ c.items.values c.read-value.result c.pushed-values.result
          (rw left at c.items.invariant.read) c.read-value.ensures c.pushed-values.ensures;
    }
