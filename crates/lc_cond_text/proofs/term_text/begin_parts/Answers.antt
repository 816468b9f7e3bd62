use Rattle.std.proofs.Common.{rules, ◌≡◌, ◌++◌, sym, subst, codes, OnOk, to_z, of_z, w64}
use Rattle.std.specs.Fmt.{signed_decimal}
use Rattle.lc_term.specs.Syntax as S
use Rattle.lc_table.specs.Tables.{term_in, IsTerm}
use Rattle.lc_text.specs.Spelled.{spaced, spelled_term}
use Rattle.lc_cond_text.specs.Waiting.{GoesOn}
use Rattle.lc_cond_text.proofs.term_text.begin_parts.Goals as goal

pub returns-in-Multiply : goal.returns-in-Multiply
returns-in-Multiply c by d =
    let ts = c.args.terms.now in
    let tree : term_in ts c.args.term ≡ S.Multiply c.in-Multiply.factor (term_in ts c.in-Multiply.term) = search rules in
    let is : IsTerm ts c.in-Multiply.term = search rules in
    let same : to_z w64 (of_z w64 c.in-Multiply.factor) ≡ c.in-Multiply.factor = search rules in
    let out = c.args.out.now.items in
    let ws = c.args.waiting.now.items in
    let new = c.begin_product.new.out.items in
    let vs = c.begin_product.new.waiting.items in
    let inner = spaced (spelled_term by d (term_in ts c.in-Multiply.term)) in
    subst (λ t. OnOk c.begin_product.result (GoesOn by d ts out ws (spelled_term by d t) new vs)) (sym tree)
    (subst (λ n. OnOk c.begin_product.result (GoesOn by d ts out ws (codes "(* " ++ signed_decimal n ++ inner ++ codes ")") new vs)) same (c.begin_product.ensures by d ts is c.requires.waiting))
