use Rattle.std.proofs.Common.{◌≡◌, ◌∷◌, ◌++◌}
use Rattle.lc_sexp.specs.Trees.{item_count_of_all}
use Rattle.lc_sexp.specs.Shown.{rest_of, number_of}
use Rattle.lc_reading.specs.Rows.{all_declared, declared_reading}
use Rattle.lc_reading.specs.TableView.{listed}
use Rattle.lc_reading.proofs.SoFar.{IsSoFar}
use Rattle.lc_reading.proofs.declared.read_declared.Given as goal

abbrev pub decreases-items : goal.decreases-items
decreases-items g l = item_count_of_all (rest_of l.rest)

abbrev pub invariant-items : goal.invariant-items
invariant-items g l =
    let declares = g.D.Declares.declares in
    let read = declared_reading (g.D.Declares.reading l.reader) declares in
    record {
      names : listed l.names ++ all_declared declares (rest_of l.rest) ≡ listed l.fn.before ++ all_declared declares (rest_of l.fn.list);
      read : IsSoFar g.D.Declares.meaning (λ x xs. x ∷ xs) (read (listed l.fn.before) (number_of l.fn.list) (rest_of l.fn.list)) (read (listed l.names) (number_of l.rest) (rest_of l.rest)) l.values;
    }
