use Rattle.std.proofs.Common.{◌≡◌, ℕ, [], ◌∷◌, vec_len, ◌+◌, ◌-◌, ◌++◌, length, take, ap, ◌∙◌, arith, rules}
use Rattle.lc_sexp.specs.Trees.{list, tokens_of}
use Rattle.lc_sexp.specs.Progress.{told_tokens}
use Rattle.lc_sexp.specs.Built.{entries_in}
use Rattle.lc_sexp.proofs.Builds.{list_built}
use Rattle.lc_sexp.proofs.Cuts.{list_cut, IsCut, flat_slice, entries_slice, under_way_at}
use Rattle.lc_sexp.specs.declared.machine.Machine.{Machine}
use Rattle.lc_sexp.proofs.machine.Machine.copy_list.Goals as goal

cut : (m : Machine) (at : ℕ) → m.holes.items ≡ at ∷ [] → m.start ≡ vec_len m.text → IsCut m.text.items m.start at m.nodes.items
cut m at e f = list_cut m.text.items m.start at m.nodes.items m.holes.items e (let k = m.text.ok.0 in omega (arith, k, f)) m.letters m.under_way

pub overflow_sub-count : goal.overflow_sub-count
overflow_sub-count c =
    let k = c.args.self.now.nodes.ok.0 in
    omega (arith, k, c.len.ensures, (cut c.args.self.now c.only_hole-at.result c.only_hole-at.ensures c.requires.ended).room)

pub overflow_sub-count-2 : goal.overflow_sub-count-2
overflow_sub-count-2 c =
    let k = c.args.self.now.nodes.ok.0 in
    omega (arith, k, c.len.ensures, (cut c.args.self.now c.only_hole-at.result c.only_hole-at.ensures c.requires.ended).room)

pub slice_bounds-push_row-count : goal.slice_bounds-push_row-count
slice_bounds-push_row-count c =
    omega (arith, ap length c.deref.ensures.value, (cut c.args.self.now c.only_hole-at.result c.only_hole-at.ensures c.requires.ended).room)

pub slice_bounds-push_row-start : goal.slice_bounds-push_row-start
slice_bounds-push_row-start c =
    omega (arith, ap length c.deref.ensures.value, (cut c.args.self.now c.only_hole-at.result c.only_hole-at.ensures c.requires.ended).room)

pub push_row-requires : goal.push_row-requires
push_row-requires c =
    flat_slice c.args.self.now.text.items c.deref-2.result.now c.args.self.now.nodes.items c.deref.result.now (c.only_hole-at.result + 1) c.deref-2.ensures.value c.deref.ensures.value
    (cut c.args.self.now c.only_hole-at.result c.only_hole-at.ensures c.requires.ended).inside

pub invariant_of-self-2-clause-under_way : goal.invariant_of-self-2-clause-under_way
invariant_of-self-2-clause-under_way c =
    under_way_at c.args.self.now.text.items c.args.self.now.start _ c.truncate.new.self.items _ c.clear.new.self.items c.truncate.ensures.items c.clear.ensures.items
    (cut c.args.self.now c.only_hole-at.result c.only_hole-at.ensures c.requires.ended).under_way

pub into_sexp-requires : goal.into_sexp-requires
into_sexp-requires c =
    let k = c.args.self.now.nodes.ok.0 in
    let cuts = cut c.args.self.now c.only_hole-at.result c.only_hole-at.ensures c.requires.ended in (
      list cuts.trees,
      list_built (entries_in c.in_ok-built.built) (entries_in c.push_list.new.self) (entries_in c.push_row.new.self) (c.len.result - c.only_hole-at.result - 1) cuts.trees
          c.in_ok-built.ensures c.in_ok-push_list.ensures
          (c.in_ok-push_row.ensures
          ∙ ap (λ es. entries_in c.push_list.new.self ++ es)
          (entries_slice c.args.self.now.text.items c.deref-2.result.now c.args.self.now.nodes.items c.deref.result.now (c.only_hole-at.result + 1) c.deref-2.ensures.value c.deref.ensures.value ∙ cuts.shown))
          (omega (arith, k, c.len.ensures, cuts.counted)),
    )

pub returns-clause-cut : goal.returns-clause-cut
returns-clause-cut c = record {
  told = λ tokens.
      let k = c.args.self.now.nodes.ok.0 in
      let cuts = cut c.args.self.now c.only_hole-at.result c.only_hole-at.ensures c.requires.ended in
      let is : c.into_sexp.result ≡ list cuts.trees =
      c.into_sexp.ensures (list cuts.trees)
      (list_built (entries_in c.in_ok-built.built) (entries_in c.push_list.new.self) (entries_in c.push_row.new.self) (c.len.result - c.only_hole-at.result - 1) cuts.trees
      c.in_ok-built.ensures c.in_ok-push_list.ensures
      (c.in_ok-push_row.ensures
      ∙ ap (λ es. entries_in c.push_list.new.self ++ es)
      (entries_slice c.args.self.now.text.items c.deref-2.result.now c.args.self.now.nodes.items c.deref.result.now (c.only_hole-at.result + 1) c.deref-2.ensures.value c.deref.ensures.value ∙ cuts.shown))
      (omega (arith, k, c.len.ensures, cuts.counted))) in
      c.drop_word.ensures.told (tokens_of c.into_sexp.result ++ tokens)
      ∙ ap (λ ns. told_tokens c.args.self.now.text.items ns (tokens_of c.into_sexp.result ++ tokens)) c.truncate.ensures.items
      ∙ ap (λ t. told_tokens c.args.self.now.text.items (take c.only_hole-at.result c.args.self.now.nodes.items) (tokens_of t ++ tokens)) is
      ∙ cuts.told tokens;
  ended = search rules;
  holes = search rules;
  nodes = search rules;
}

pub overflow_add-at : goal.overflow_add-at
overflow_add-at c =
    let m = c.args.self.now in
    let k = m.nodes.ok.0 in
    omega (arith, k, m.counted, m.begun, m.in_range, (cut m c.only_hole-at.result c.only_hole-at.ensures c.requires.ended).room)

pub offset_bounds-deref-at : goal.offset_bounds-deref-at
offset_bounds-deref-at c =
    let m = c.args.self.now in
    let k = m.nodes.ok.0 in
    omega (arith, k, m.counted, m.begun, m.in_range, (cut m c.only_hole-at.result c.only_hole-at.ensures c.requires.ended).room)
