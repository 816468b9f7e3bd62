use Rattle.std.proofs.Common.{◌≡◌, true, codes, ◌==◌, sym, ◌∙◌}
use Rattle.lc_sexp.specs.Shown.{rest_of, text_of, part_count}
use Rattle.lc_reading.specs.Words.{is}
use Rattle.lc_pool.proofs.Frames.{gave_atom, two_alone}
use Rattle.lc_pool.proofs.framing.is_head_row.Goals as goal
use Rattle.lc_sexp.proofs.Pieced.{gave_list}

pub returns-then-eq : goal.returns-then-eq
returns-then-eq c = λ same.
    let outer = gave_list c.list.result c.cursor-forms.result c.list.new.self c.in-Ok.list c.in-Ok.is c.list.ensures in
    let first = gave_atom c.atom.result c.in-Ok.list c.atom.new.self c.in-Ok-atom.word c.in-Ok-atom.is c.atom.ensures in
    let second = gave_atom c.atom-2.result c.atom.new.self c.atom-2.new.self c.in-Ok-atom-2.named c.in-Ok-atom-2.is c.atom-2.ensures in
    let left : (part_count (rest_of c.atom-2.new.self) == 0) ≡ true = (let e = c.is_empty.ensures in let f = c.if-not-is_empty.false in cc) in
    let behind : (part_count (rest_of c.list.new.self) == 0) ≡ true = (let e = c.is_empty-else-not-is_empty.ensures in let f = c.if-not-is_empty-2.false in cc) in
    let word : is (text_of c.in-Ok-atom.word) (codes "certificate") ≡ true = (let e = c.eq.ensures in let f = c.if-eq.true in let g = c.text.ensures in cc) in
    let name : is (text_of c.in-Ok-atom-2.named) c.args.name.now ≡ true = (let e = c.eq-then-eq.ensures in let g = c.text-then-eq.ensures in cc) in
    record {
      word = text_of c.in-Ok-atom.word;
      named = text_of c.in-Ok-atom-2.named;
      is_word = word;
      is_name = name;
      row = sym c.cursor-forms.ensures.rest
          ∙ two_alone (rest_of c.cursor-forms.result) (rest_of c.in-Ok.list) (rest_of c.list.new.self) (rest_of c.atom.new.self) (rest_of c.atom-2.new.self) (text_of c.in-Ok-atom.word) (text_of c.in-Ok-atom-2.named) outer first second left behind;
    }
