use Rattle.std.proofs.Common.{◌≡◌, rules, [], ◌∷◌, pos, map, ap, sym, ◌∙◌}
use Rattle.lc_term.specs.Syntax.{Number, Variable}
use Rattle.lc_term.specs.View.{term_of}
use Rattle.lc_cond.proofs.Counted.{padded_is, argument}
use Rattle.lc_cond.proofs.variables.enter_variables.Goals as goal

pub returns : goal.returns
returns c =
    let n = c.args.count in
    let o = c.args.operation.0 in
    let each : map term_of c.push-6.new.self.items ≡ Variable 0 ∷ Variable 1 ∷ Number (pos o) ∷ argument n 0 ∷ argument n 1 ∷ argument n 2 ∷ [] = search rules in
    each ∙ ap (λ l. Variable 0 ∷ Variable 1 ∷ Number (pos o) ∷ l) (sym (padded_is n))
