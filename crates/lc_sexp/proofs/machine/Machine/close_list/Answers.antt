use Rattle.std.proofs.Common.{◌-◌, ◌++◌, ◌∙◌, ap, refl, arith}
use Rattle.std.specs.Option.{option_to_list}
use Rattle.lc_sexp.proofs.Nodes.{told_closed, closed_under_way, list_place}
use Rattle.lc_sexp.proofs.Cuts.{rooted_closed}
use Rattle.lc_sexp.proofs.machine.Machine.close_list.Goals as goal

pub overflow_sub-inside : goal.overflow_sub-inside
overflow_sub-inside c =
    let k = c.args.self.now.nodes.ok.0 in
    omega (arith, k, c.len.ensures, list_place _ _ _ _ _ c.unwrap-at.result _ c.pop.ensures.items c.unwrap-at.ensures c.args.self.now.under_way)

pub overflow_sub-inside-2 : goal.overflow_sub-inside-2
overflow_sub-inside-2 c =
    let k = c.args.self.now.nodes.ok.0 in
    omega (arith, k, c.len.ensures, list_place _ _ _ _ _ c.unwrap-at.result _ c.pop.ensures.items c.unwrap-at.ensures c.args.self.now.under_way)

pub index_mut-requires : goal.index_mut-requires
index_mut-requires c =
    let k = c.args.self.now.nodes.ok.0 in
    omega (arith, k, list_place _ _ _ _ _ c.unwrap-at.result _ c.pop.ensures.items c.unwrap-at.ensures c.args.self.now.under_way)

pub invariant_of-self-clause-under_way : goal.invariant_of-self-clause-under_way
invariant_of-self-clause-under_way c =
    let k = c.args.self.now.nodes.ok.0 in
    let n = c.len.result - c.unwrap-at.result - 1 in
    closed_under_way c.args.self.now.text.items c.args.self.now.start c.args.self.now.nodes.items _ c.args.self.now.holes.items c.pop.new.self.items c.unwrap-at.result n
    c.pop.result refl c.pop.ensures.items c.unwrap-at.ensures (omega (arith, k, c.len.ensures)) c.args.self.now.under_way

pub returns-clause-told : goal.returns-clause-told
returns-clause-told c = λ tokens.
    let k = c.args.self.now.nodes.ok.0 in
    let n = c.len.result - c.unwrap-at.result - 1 in
    told_closed c.args.self.now.text.items c.args.self.now.start c.args.self.now.nodes.items _ c.args.self.now.holes.items c.pop.new.self.items c.unwrap-at.result n
    c.pop.result tokens refl c.pop.ensures.items c.unwrap-at.ensures (omega (arith, k, c.len.ensures)) c.args.self.now.under_way

pub returns-clause-rooted : goal.returns-clause-rooted
returns-clause-rooted c = λ some r.
    let k = c.args.self.now.holes.ok.0 in
    rooted_closed c.args.self.now.text.items c.args.self.now.start c.args.self.now.nodes.items _ c.args.self.now.holes.items c.pop.new.self.items c.unwrap-at.result _
    refl (c.pop.ensures.items ∙ ap (λ o. c.pop.new.self.items ++ option_to_list o) c.unwrap-at.ensures) (omega (arith, k, some)) r c.args.self.now.under_way
