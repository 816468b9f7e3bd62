use Rattle.std.proofs.Common.{◌≢◌, ◌++◌, length, ap, sym, refl, ◌∙◌, arith, rules, length-drop}
use Rattle.std.proofs.lemmas.List.{nil_from_length}
use Rattle.lc_sexp.specs.Trees.{tokens_of}
use Rattle.lc_sexp.specs.Flat.{is_rooted}
use Rattle.lc_sexp.specs.Progress.{told}
use Rattle.lc_sexp.proofs.Cuts.{rooted_none, told_cut_word}
use Rattle.lc_sexp.proofs.Splits.{part_step, atom_step}
use Rattle.lc_sexp.proofs.splitter.Splitter.end_begun_word.Goals as goal

pub returns-then-self-clause-word : goal.returns-then-self-clause-word
returns-then-self-clause-word c = record {
  splits = λ whole rest taken wordless h.
      let m = c.args.self.now.machine in
      let m' = c.drop_word.new.self in
      let n = m.holes.ok.0 in
      let t' = m'.text.ok.0 in
      let w = c.word-word.ensures in
      let t = m.text.ok.0 in
      let some : length c.word-word.result.now ≢ 0 = omega (arith, t, m.begun, ap length w.word, length-drop m.start m.text.items, c.requires.begun) in
      let no = nil_from_length m.holes.items (omega (arith, n, c.requires.outer)) in
      let none = rooted_none m.text.items m.start m.nodes.items m.holes.items no h.rooted m.under_way in
      let same = ap (λ v. v.items) c.drop_word.ensures.nodes in
      part_step whole rest rest taken c.args.self.now c.set_aside.new.self m' c.in_ok-sexp.sexp c.if-self.true
      c.set_aside.ensures.machine c.set_aside.ensures.in_list c.set_aside.ensures.ended c.set_aside.ensures.form c.in_ok-set_aside.ensures.item c.in_ok-set_aside.ensures.ready
      (λ x. told_cut_word m.text.items m'.text.items m.start m'.start m.nodes.items m'.nodes.items c.word-word.result.now (rest x) none same w.word some w.letters (omega (arith, t', c.drop_word.ensures.ended)) (wordless x)
      ∙ ap (λ s. tokens_of s ++ told m'.text.items m'.start m'.nodes.items (rest x)) (sym c.in_ok-sexp.ensures))
      (ap is_rooted same ∙ h.rooted) h;
  ended = search rules;
  room = search rules;
}

pub returns-clause-word : goal.returns-clause-word
returns-clause-word c = record {
  splits = λ whole rest taken wordless h.
      let m = c.args.self.now.machine in
      let m' = c.drop_word-2.new.self in
      let n = m.holes.ok.0 in
      let t' = m'.text.ok.0 in
      let w = c.word-word.ensures in
      let t = m.text.ok.0 in
      let some : length c.word-word.result.now ≢ 0 = omega (arith, t, m.begun, ap length w.word, length-drop m.start m.text.items, c.requires.begun) in
      let no = nil_from_length m.holes.items (omega (arith, n, c.requires.outer)) in
      let none = rooted_none m.text.items m.start m.nodes.items m.holes.items no h.rooted m.under_way in
      let same = ap (λ v. v.items) c.drop_word-2.ensures.nodes in
      atom_step whole rest taken c.args.self.now _ c.word-word.result.now c.if-self.false refl refl c.in_ok-push_atom.ensures c.in_ok-self.ensures c.in_ok-self-2.ensures
      (λ x. told_cut_word m.text.items m'.text.items m.start m'.start m.nodes.items m'.nodes.items c.word-word.result.now (rest x) none same w.word some w.letters (omega (arith, t', c.drop_word-2.ensures.ended)) (wordless x))
      (ap is_rooted same ∙ h.rooted) (ap (λ v. v.items) c.drop_word-2.ensures.holes ∙ no) h;
  ended = search rules;
  room = search rules;
}
