use Rattle.std.proofs.Common.{◌++◌, cond, length, sym, ap, ◌∙◌, arith}
use Rattle.std.specs.Result.{is_ok}
use Rattle.lc_sexp.proofs.Tokens.{letters_extended}
use Rattle.lc_sexp.proofs.Nodes.{under_way_extended, told_letters, refused_or_more}
use Rattle.lc_sexp.proofs.Runs.{one_listed}
use Rattle.lc_sexp.proofs.machine.Machine.push_letters.Goals as goal

pub invariant_of-self : goal.invariant_of-self
invariant_of-self c =
    let m = c.args.self.now in
    let w = c.args.letters.now in
    let k = m.text.ok.0 in
    let ok = is_ok c.push.result in
    let more = refused_or_more ok _ _ 1 c.push.ensures.len in
    let one = c.if-letters-eq1.true in
    let items = c.push.ensures.items ∙ ap (λ x. cond ok (m.text.items ++ x) m.text.items) (sym (one_listed w 0 one)) in
    record {
      under_way = under_way_extended ok m.text.items c.push.new.self.items m.start w m.nodes.items m.holes.items items (omega (arith, k, m.begun)) m.under_way;
      letters = letters_extended ok m.text.items c.push.new.self.items w items m.letters c.requires.letters;
      begun = omega (arith, more, m.begun);
      short = omega (arith, more, one, c.requires.short);
      counted = omega (arith, more, one, c.requires.room);
      in_range = m.in_range;
    }

pub invariant_of-self-else-letters-eq1 : goal.invariant_of-self-else-letters-eq1
invariant_of-self-else-letters-eq1 c =
    let m = c.args.self.now in
    let w = c.args.letters.now in
    let k = m.text.ok.0 in
    let ok = is_ok c.extend_from_slice.result in
    let more = refused_or_more ok _ _ (length w) c.extend_from_slice.ensures.len in
    record {
      under_way = under_way_extended ok m.text.items c.extend_from_slice.new.self.items m.start w m.nodes.items m.holes.items c.extend_from_slice.ensures.items (omega (arith, k, m.begun)) m.under_way;
      letters = letters_extended ok m.text.items c.extend_from_slice.new.self.items w c.extend_from_slice.ensures.items m.letters c.requires.letters;
      begun = omega (arith, more, m.begun);
      short = omega (arith, more, c.requires.short);
      counted = omega (arith, more, c.requires.room);
      in_range = m.in_range;
    }

pub returns-in_ok-push-clause-told : goal.returns-in_ok-push-clause-told
returns-in_ok-push-clause-told c = λ rest.
    let m = c.args.self.now in
    let w = c.args.letters.now in
    let k = m.text.ok.0 in
    told_letters m.text.items c.push.new.self.items m.start w m.nodes.items m.holes.items rest
    (c.in_ok-push.ensures.items ∙ ap (λ x. m.text.items ++ x) (sym (one_listed w 0 c.if-letters-eq1.true))) (omega (arith, k, m.begun)) m.under_way

pub returns-in_ok-extend_from_slice-clause-told : goal.returns-in_ok-extend_from_slice-clause-told
returns-in_ok-extend_from_slice-clause-told c = λ rest.
    let m = c.args.self.now in
    let k = m.text.ok.0 in
    told_letters m.text.items c.extend_from_slice.new.self.items m.start c.args.letters.now m.nodes.items m.holes.items rest
    c.in_ok-extend_from_slice.ensures.items (omega (arith, k, m.begun)) m.under_way
