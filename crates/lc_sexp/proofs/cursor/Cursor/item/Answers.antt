use Rattle.std.proofs.Common.{refl, ap, arith}
use Rattle.lc_sexp.specs.Trees.{item_count_of_all}
use Rattle.lc_sexp.specs.Flat.{trees_of}
use Rattle.lc_sexp.specs.Shown.{rest_of}
use Rattle.lc_sexp.proofs.Flats.{split_at_list, trees_at_list, count_at_list, letters_at_atom}
use Rattle.lc_sexp.proofs.Walks.{gives_list}
use Rattle.lc_sexp.proofs.cursor.Cursor.item.Goals as goal

pub invariant_of-result : goal.invariant_of-result
invariant_of-result c = record { letters = letters_at_atom _ _ _ _ c.in-Atom.start c.in-Atom.length _ c.in-Some.ensures.cases.0 c.in-Atom.is c.letters_at-text.ensures c.args.self.now.flat }

pub split_at-requires : goal.split_at-requires
split_at-requires c = (split_at_list _ _ _ _ _ c.in-Some.ensures.cases.0 c.in-List.is c.args.self.now.flat).room

pub invariant_of-self-in-List : goal.invariant_of-self-in-List
invariant_of-self-in-List c =
    let count = count_at_list _ _ _ _ _ c.in-Some.ensures.cases.0 c.in-List.is c.args.self.now.flat in
    let same = ap (λ ns. item_count_of_all (trees_of c.args.self.now.text.now ns)) c.split_at.ensures.back in
    record {
      flat = rw c.split_at.ensures.back (split_at_list _ _ _ _ _ c.in-Some.ensures.cases.0 c.in-List.is c.args.self.now.flat).behind;
      in_range = omega (arith, count, same, c.from.ensures, c.args.self.now.in_range);
    }

pub invariant_of-result-in-List : goal.invariant_of-result-in-List
invariant_of-result-in-List c =
    let count = count_at_list _ _ _ _ _ c.in-Some.ensures.cases.0 c.in-List.is c.args.self.now.flat in
    let split = split_at_list _ _ _ _ _ c.in-Some.ensures.cases.0 c.in-List.is c.args.self.now.flat in
    let same = ap (λ ns. item_count_of_all (trees_of c.args.self.now.text.now ns)) c.split_at.ensures.front in
    record {
      flat = rw c.split_at.ensures.front split.inside;
      in_range = omega (arith, count, same, split.counted, c.args.self.now.in_range);
    }

pub returns-in-List : goal.returns-in-List
unfolding rest_of
returns-in-List c =
    let split = split_at_list _ _ _ _ _ c.in-Some.ensures.cases.0 c.in-List.is c.args.self.now.flat in
    gives_list c.args.self.now _ _ _ _ (trees_at_list _ _ _ _ _ c.in-Some.ensures.cases.0 c.in-List.is c.args.self.now.flat)
    (record {
      rest = ap (trees_of c.args.self.now.text.now) c.split_at.ensures.front;
      first = refl;
      owner = refl;
    })
    (record {
      rest = ap (trees_of c.args.self.now.text.now) c.split_at.ensures.back;
      number = omega (arith, c.from.ensures, split.counted);
      owner = refl;
    })
