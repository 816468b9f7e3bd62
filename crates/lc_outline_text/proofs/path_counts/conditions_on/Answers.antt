use Rattle.std.proofs.Common.{◌≡◌, ◌+◌, ◌++◌, refl, ap, ◌∙◌}
use Rattle.lc_object.specs.View.{columns_of}
use Rattle.lc_outline_text.specs.Paths.{stands, path_at}
use Rattle.lc_outline_text.specs.StoredView.{listed_in, ways_of_riders}
use Rattle.lc_outline_text.proofs.Different.{joined_alike}
use Rattle.lc_outline_text.proofs.RidersPassed.{told_on}
use Rattle.lc_outline_text.proofs.path_counts.conditions_on.Goals as goal

pub returns-clause-count : goal.returns-clause-count
returns-clause-count c =
    let path = path_at (ways_of_riders c.args.riders.now) c.args.number in
    let columns = columns_of c.args.columns.now in
    let first : stands (listed_in c.put_all.new.set) ≡ stands columns = c.in_ok-put_all.ensures.more ∙ ap (λ cs. stands (cs ++ columns)) c.in_ok-clear.ensures.none in
    told_on (listed_in c.put_path.new.set) columns path.columns c.args.asked path.asked c.len.result c.in_ok-stored.stored c.in_ok-count.count
    (c.in_ok-asked.ensures.stored ∙ joined_alike (listed_in c.put_all.new.set) columns path.columns path.columns first refl)
    c.len.ensures c.in_ok-stored.ensures (c.in_ok-count.ensures ∙ ap (λ n. n + c.in_ok-stored.stored) c.in_ok-asked.ensures.asked)
