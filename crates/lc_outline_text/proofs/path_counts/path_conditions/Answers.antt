use Rattle.std.proofs.Common.{◌≡◌, ◌++◌, refl, ap, ◌∙◌, arith}
use Rattle.lc_object.specs.View.{columns_of}
use Rattle.lc_outline_text.specs.Paths.{stands, path_number, common_way}
use Rattle.lc_outline_text.specs.StoredView.{listed_in, ways_of_riders}
use Rattle.lc_outline_text.specs.Views.{capped}
use Rattle.lc_outline_text.proofs.Different.{joined_alike}
use Rattle.lc_outline_text.proofs.Paths.{as_many_paths, number_apart}
use Rattle.lc_outline_text.proofs.RidersPassed.{told_apart, past_cap}
use Rattle.lc_outline_text.proofs.path_counts.path_conditions.Goals as goal

pub returns-then-paths-ge-COUNT_CAP-clause-count : goal.returns-then-paths-ge-COUNT_CAP-clause-count
returns-then-paths-ge-COUNT_CAP-clause-count c =
    let rs = ways_of_riders c.args.riders.now in
    past_cap c.path_number-paths.result (path_number rs) _ c.if-paths-ge-COUNT_CAP.true c.path_number-paths.ensures (as_many_paths (columns_of c.args.action.now) rs c.args.asked (columns_of c.args.columns.now))

pub conditions_on_all-requires-clause-all : goal.conditions_on_all-requires-clause-all
conditions_on_all-requires-clause-all c =
    let rs = ways_of_riders c.args.riders.now in
    let few = c.if-paths-ge-COUNT_CAP.false in
    let is = c.path_number-paths.ensures in
    let same : path_number (ways_of_riders c.deref.result.now) ≡ path_number rs = ap (λ xs. path_number (ways_of_riders xs)) c.deref.ensures.value ∙ ap path_number c.in_ok-those.ensures ∙ number_apart rs in
    omega (arith, few, is, same)

pub returns-clause-count : goal.returns-clause-count
returns-clause-count c =
    let rs = ways_of_riders c.args.riders.now in
    let columns = columns_of c.args.columns.now in
    let action = columns_of c.args.action.now in
    let common = (common_way rs).columns in
    let first : stands (listed_in c.put_all-2.new.set) ≡ stands (columns ++ action) =
    c.in_ok-put_all-2.ensures.more ∙ joined_alike (listed_in c.put_all.new.set) columns action action (c.in_ok-put_all.ensures.more ∙ ap (λ cs. stands (cs ++ columns)) c.in_ok-clear.ensures.none) refl in
    let all : stands (columns_of c.deref-2.result.now) ≡ stands ((columns ++ action) ++ common) =
    ap (λ xs. stands (columns_of xs)) c.deref-2.ensures.value ∙ ap stands c.in_ok-stored.ensures ∙ c.in_ok-asked.ensures.stored ∙ joined_alike (listed_in c.put_all-2.new.set) (columns ++ action) common common first refl in
    c.in_ok-count.ensures.count
    ∙ ap capped (told_apart action columns (columns_of c.deref-2.result.now) rs (ways_of_riders c.deref.result.now) c.args.asked c.in_ok-asked.asked c.in_ok-asked.ensures.asked all
    (ap ways_of_riders c.deref.ensures.value ∙ c.in_ok-those.ensures))
