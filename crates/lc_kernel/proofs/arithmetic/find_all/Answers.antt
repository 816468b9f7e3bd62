use Rattle.std.proofs.Common.{rules, ◌≡◌, ◌∷◌, [], ◌++◌, get_or, pos, Some, subst, to_z, of_z}
use Rattle.std.specs.Int.{w64}
use Rattle.lc_table.specs.Tables.{formula_in}
use Rattle.lc_kernel.specs.Settings.{hypotheses_at}
use Rattle.lc_kernel.specs.Table.{hypothesis}
use Rattle.lc_kernel.specs.declared.proof.Multiple.{Multiple}
use Rattle.lc_kernel.proofs.Entries.{found_more}
use Rattle.lc_kernel.proofs.arithmetic.find_all.Goals as goal

-- after the last
abbrev none : Multiple
none = record { hypothesis = pos 0; multiplier = pos 0 }

pub loop-multiple-preserved : goal.loop-multiple-preserved
loop-multiple-preserved c =
    let ts = c.args.terms.now in
    let H = hypotheses_at ts c.args.setting in
    let ms = c.args.multiples.now in
    let i = c.loop-multiple.multiple-index in
    let k = c.in_ok-formula.formula in
    let items : c.push.new.self.items ≡ c.loop-multiple.found.items ++ (k, (get_or ms i none).multiplier) ∷ [] = search rules in
    let number : to_z w64 (of_z w64 (get_or ms i none).hypothesis) ≡ (get_or ms i none).hypothesis = search rules in
    let found = c.in_ok-formula.ensures in
    let there = subst (λ n. hypothesis H n ≡ Some (formula_in ts k)) number found.1 in
    found_more ts H ms i none k c.loop-multiple.found.items c.push.new.self.items c.loop-multiple-test.true items found.0 there c.loop-multiple.invariant
