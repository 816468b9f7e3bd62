use Rattle.std.proofs.Common.{◌≡◌, ◌++◌, ap, ◌∙◌}
use Rattle.lc_sexp.specs.Trees.{list}
use Rattle.lc_sexp.specs.Entries.{entries_of}
use Rattle.lc_sexp.specs.Built.{entries_in}
use Rattle.lc_sexp.specs.Shown.{rest_of}
use Rattle.lc_sexp.proofs.Builds.{list_entries}
use Rattle.lc_sexp.proofs.cursor.Cursor.to_list.Goals as goal

whole : (c : goal.In_ok-push_row) → entries_in c.push_row.new.self ≡ entries_of (list (rest_of c.args.self.now))
unfolding rest_of
whole c =
    let rest = c.args.self.now in
    list_entries rest.text.now rest.nodes.now c.in_ok-short.field-0 (entries_in c.new-built.result) (entries_in c.push_list.new.self) (entries_in c.push_row.new.self)
    rest.flat c.in_ok-short.ensures c.in_ok-push_list.ensures c.in_ok-push_row.ensures
    ∙ ap (λ es. es ++ entries_of (list (rest_of rest))) c.new-built.ensures

pub into_sexp-requires : goal.into_sexp-requires
into_sexp-requires c = (list (rest_of c.args.self.now), whole c)

pub returns : goal.returns
returns c = c.into_sexp.ensures (list (rest_of c.args.self.now)) (whole c.before)
