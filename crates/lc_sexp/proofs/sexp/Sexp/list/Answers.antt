use Rattle.lc_sexp.specs.Trees.{list, row}
use Rattle.lc_sexp.specs.Built.{entries_in}
use Rattle.lc_sexp.proofs.Builds.{list_built}
use Rattle.lc_sexp.proofs.sexp.Sexp.list.Goals as goal

pub into_sexp-requires : goal.into_sexp-requires
into_sexp-requires c = (
  list (row c.args.items.now),
  list_built (entries_in c.new-built.result) (entries_in c.push_list.new.self) (entries_in c.put_all.new.built) c.in_ok-count_of_all.field-0 (row c.args.items.now)
      c.new-built.ensures c.in_ok-push_list.ensures c.in_ok-put_all.ensures c.in_ok-count_of_all.ensures,
)

pub returns : goal.returns
returns c =
    c.into_sexp.ensures (list (row c.args.items.now))
    (list_built (entries_in c.new-built.result) (entries_in c.push_list.new.self) (entries_in c.put_all.new.built) c.in_ok-count_of_all.field-0 (row c.args.items.now)
    c.new-built.ensures c.in_ok-push_list.ensures c.in_ok-put_all.ensures c.in_ok-count_of_all.ensures)
