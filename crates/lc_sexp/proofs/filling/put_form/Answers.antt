use Rattle.std.proofs.Common.{◌++◌, ap, ◌∙◌}
use Rattle.lc_sexp.specs.Trees.{row, item_count_of_all}
use Rattle.lc_sexp.specs.Entries.{entries_of_all}
use Rattle.lc_sexp.specs.Built.{entries_in}
use Rattle.lc_sexp.proofs.Fills.{atom_filled, list_filled}
use Rattle.lc_sexp.proofs.filling.put_form.Goals as goal

pub returns-in_ok-push_copy-in-Atom : goal.returns-in_ok-push_copy-in-Atom
returns-in_ok-push_copy-in-Atom c = λ es.
    atom_filled c.args.node _ _ c.in-Atom.is c.args.text.now (entries_in c.args.built.now) (entries_in c.push_copy.new.self) c.args.form es c.args.ready.now.items c.in_ok-push_copy-in-Atom.ensures

pub returns-in_ok-put_all-in-List : goal.returns-in_ok-put_all-in-List
returns-in_ok-put_all-in-List c = λ es.
    list_filled c.args.node _ c.in-List.is c.args.text.now (entries_in c.args.built.now) (entries_in c.push_list.new.self) (entries_in c.put_all.new.built) c.in_ok-count_of_all-in-List.field-0 c.args.form
    (row c.in_ok-sexps-in-List.sexps.items) es c.args.ready.now.items c.take_all_of.new.ready.items
    c.in_ok-push_list-in-List.ensures
    (c.in_ok-put_all-in-List.ensures ∙ ap (λ xs. entries_in c.push_list.new.self ++ entries_of_all (row xs)) c.deref-in-List.ensures.value)
    (c.in_ok-count_of_all-in-List.ensures ∙ ap (λ xs. item_count_of_all (row xs)) c.deref.ensures.value)
    c.in_ok-sexps-in-List.ensures.0 c.in_ok-sexps-in-List.ensures.1
