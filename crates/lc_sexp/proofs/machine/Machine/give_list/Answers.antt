use Rattle.std.proofs.Common.{◌≡◌, ◌-◌, [], ◌∷◌, ◌++◌, vec_len, ap, ◌∙◌, arith, rules}
use Rattle.lc_sexp.specs.Trees.{tokens_of}
use Rattle.lc_sexp.proofs.Cuts.{list_cut, IsCut, list_given, told_none}
use Rattle.lc_sexp.specs.declared.machine.Machine.{Machine}
use Rattle.lc_sexp.proofs.machine.Machine.give_list.Goals as goal

cut : (m : Machine) → m.holes.items ≡ 0 ∷ [] → m.start ≡ vec_len m.text → IsCut m.text.items m.start 0 m.nodes.items
cut m e f = list_cut m.text.items m.start 0 m.nodes.items m.holes.items e (let k = m.text.ok.0 in omega (arith, k, f)) m.letters m.under_way

pub new-requires : goal.new-requires
new-requires c =
    let m = c.args.self.now in
    let cuts = cut m c.requires.first c.requires.ended in
    (list_given m.text.items c.replace-text.result.items m.start m.nodes.items c.replace-nodes.result.items (c.len-inside.result - 1) cuts
    (ap (λ v. v.items) c.replace-text.ensures.value) (ap (λ v. v.items) c.replace-nodes.ensures.value)
    (let k = m.nodes.ok.0 in omega (arith, k, c.len-inside.ensures, cuts.room)) m.letters).0

pub returns-clause-cut : goal.returns-clause-cut
returns-clause-cut c = record {
  told = λ tokens.
      let m = c.args.self.now in
      let cuts = cut m c.requires.first c.requires.ended in
      let is = c.new.ensures
      ∙ (list_given m.text.items c.replace-text.result.items m.start m.nodes.items c.replace-nodes.result.items (c.len-inside.result - 1) cuts
      (ap (λ v. v.items) c.replace-text.ensures.value) (ap (λ v. v.items) c.replace-nodes.ensures.value)
      (let k = m.nodes.ok.0 in omega (arith, k, c.len-inside.ensures, cuts.room)) m.letters).1 in
      told_none c.replace-text.new.dest.items c.replace-nodes.new.dest.items (tokens_of c.new.result ++ tokens)
      (ap (λ v. v.items) c.replace-nodes.ensures.after ∙ c.in_ok-next_nodes.ensures.items)
      ∙ ap (λ t. tokens_of t ++ tokens) is
      ∙ cuts.told tokens;
  ended = search rules;
  holes = search rules;
  nodes = search rules;
}
