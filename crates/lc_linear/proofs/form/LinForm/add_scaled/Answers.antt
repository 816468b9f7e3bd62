use Rattle.std.proofs.Common.{rules, ◌≡◌, ◌∙◌, ap, ap₂, sym, subst, map, Some, None, to_z, of_z}
use Rattle.std.specs.Prelude.{Err, ◌+ℤ◌, ◌*ℤ◌, FitsSigned}
use Rattle.std.specs.Int.{w128}
use Rattle.std.specs.Map.Iter.{deref_pair}
use Rattle.lc_linear.specs.Arithmetic.{CanAddScaled, added_scaled}
use Rattle.lc_linear.specs.LinForm.{numbers}
use Rattle.lc_linear.proofs.Adding.{Summed, ProductsFit, nothing_summed, no_products, one_more_summed, one_more_product, next_sum, next_fits, all_added, all_fit}
use Rattle.lc_linear.proofs.Distinct.{Turn, turn, turned, entry_found, one_more_entry}
use Rattle.lc_linear.proofs.Faults.{passed_on, too_large}
use Rattle.lc_linear.proofs.Numbers.{wide_number_kept, product_bits, product_kept, +ℤ-zero}
use Rattle.lc_linear.proofs.form.LinForm.add_scaled.Goals as goal
use Rattle.lc_linear.proofs.form.LinForm.add_scaled.Goals.{In-Some, In-None, In_ok-add_number}

pub returns-in_err-product : goal.returns-in_err-product
returns-in_err-product c = passed_on _ _ c.from_residual.result _ c.from_residual.ensures.1 (λ met can.
    let constant : FitsSigned w128 c.args.other.now.constant = search rules in
    too_large _ _ c.in_err-product.ensures met (subst (FitsSigned w128) (sym (product_bits c.args.multiplier c.args.other.now.constant c.ranges.multiplier constant)) (can None).0))

pub returns-in_err-add_number : goal.returns-in_err-add_number
returns-in_err-add_number c = passed_on _ _ c.from_residual-in_err-add_number.result _ c.from_residual-in_err-add_number.ensures.1 (λ met can.
    let constant : FitsSigned w128 c.args.other.now.constant = search rules in
    let product = product_kept c.in_ok-product.field-0 _ c.in_ok-product.ensures ∙ product_bits c.args.multiplier c.args.other.now.constant c.ranges.multiplier constant in
    c.in_err-add_number.ensures.large (ap Err met) (subst (λ n. FitsSigned w128 (numbers c.args.self None +ℤ n)) (sym product) (can None).1))

pub loop-atom-init : goal.loop-atom-init
loop-atom-init c = record { summed = nothing_summed _ _; products = no_products _ }

-- this turn of the loop
this : (c : In-Some) → Turn c.args.other.now.coefficients.entries (map deref_pair c.loop-atom.yielded) (deref_pair (c.in-Some.atom, c.in-Some.coefficient))
this c =
    turn c.args.other.now.coefficients.entries c.into_iter-atom-iterator.result c.loop-atom.atom-iterator c.next.new.self c.loop-atom.yielded c.next.result
    (c.into_iter-atom-iterator.ensures.into_iter_gives ∙ c.iter-atom-items.ensures.rest) c.loop-atom.yielded_by c.next.ensures.steps (c.in-Some.atom, c.in-Some.coefficient) c.in-Some.is c.iter-atom-items.ensures.unique

-- its coefficient
coefficient : (c : In-Some) → FitsSigned w128 c.in-Some.coefficient.now
coefficient c = subst (FitsSigned w128) (entry_found _ _ _ (this c)) (c.args.other.now.fits c.in-Some.atom.now)

-- if the multiple can be added, its product and sum fit
fits : (c : In-Some) → CanAddScaled (numbers c.args.self) c.args.multiplier (numbers c.args.other.now) →
    FitsSigned w128 (c.args.multiplier *ℤ c.in-Some.coefficient.now) × FitsSigned w128 (numbers c.args.self (Some c.in-Some.atom.now) +ℤ c.args.multiplier *ℤ c.in-Some.coefficient.now)
fits c can = next_fits (numbers c.args.self) c.args.other.now.constant _ _ _ _ _ (this c).whole (this c).fresh c.args.multiplier can

-- what was added before the loop
first_product : (c : In_ok-add_number) → to_z w128 (of_z w128 c.in_ok-product.field-0) ≡ to_z w128 (of_z w128 c.args.multiplier) *ℤ c.args.other.now.constant
first_product c =
    let constant : FitsSigned w128 c.args.other.now.constant = search rules in
    product_kept c.in_ok-product.field-0 _ c.in_ok-product.ensures ∙ ap (λ n. to_z w128 (of_z w128 c.args.multiplier) *ℤ n) (wide_number_kept c.args.other.now.constant constant)

pub returns-in_err-product-2 : goal.returns-in_err-product-2
returns-in_err-product-2 c = passed_on _ _ c.from_residual-in_err-product-2.result _ c.from_residual-in_err-product-2.ensures.1 (λ met can.
    let at = (goal.at.returns-in_err-product-2 c).In-Some in
    too_large _ _ c.in_err-product-2.ensures met (subst (FitsSigned w128) (sym (product_bits _ _ c.ranges.multiplier (coefficient at))) (fits at can).0))

pub loop-atom-preserved : goal.loop-atom-preserved
loop-atom-preserved c =
    let at = (goal.at.loop-atom-preserved c).In-Some in
    let k = to_z w128 (of_z w128 c.args.multiplier) in
    let es = (map deref_pair c.loop-atom.yielded) in
    let m = product_kept c.in_ok-product-2.field-0 _ c.in_ok-product-2.ensures ∙ ap (λ n. k *ℤ n) (wide_number_kept _ (coefficient at)) in
    let fit = subst (FitsSigned w128) (sym (product_kept c.in_ok-product-2.field-0 _ c.in_ok-product-2.ensures)) c.in_ok-product-2.ensures.0 in
    let ys = c.loop-atom.yielded in
    let snoc = sym (one_more_entry ys (c.in-Some.atom, c.in-Some.coefficient)) in
    record {
      summed = subst (Summed (numbers c.add_number.new.self) (numbers c.add_atom.new.self) k) snoc
          (one_more_summed k _ es _ c.in-Some.coefficient.now (this at).fresh m _ _ c.loop-atom.invariant.summed (numbers c.add_atom.new.self) c.in_ok-add_atom.ensures.ok);
      products = subst (ProductsFit k) snoc (one_more_product k _ es _ c.in-Some.coefficient.now (this at).fresh m c.loop-atom.invariant.products fit);
    }

pub returns-in_err-add_atom : goal.returns-in_err-add_atom
returns-in_err-add_atom c = passed_on _ _ c.from_residual-in_err-add_atom.result _ c.from_residual-in_err-add_atom.ensures.1 (λ met can.
    let at = (goal.at.returns-in_err-add_atom c).In-Some in
    let k = to_z w128 (of_z w128 c.args.multiplier) in
    let n = c.in-Some.coefficient.now in
    let x = c.in-Some.atom.now in
    let m = product_kept c.in_ok-product-2.field-0 _ c.in_ok-product-2.ensures ∙ ap (λ n. k *ℤ n) (wide_number_kept _ (coefficient at)) in
    let sum = next_sum k _ (map deref_pair c.loop-atom.yielded) x n (this at).fresh m (numbers c.add_number.new.self) (numbers c.loop-atom.sum) c.loop-atom.invariant.summed in
    let start : numbers c.add_number.new.self (Some x) ≡ numbers c.args.self (Some x) = c.in_ok-add_number.ensures.ok (Some x) ∙ +ℤ-zero (numbers c.args.self (Some x)) in
    let whole = ap₂ ◌+ℤ◌ (sum ∙ start) (m ∙ ap (λ b. b *ℤ n) (wide_number_kept _ c.ranges.multiplier)) in
    c.in_err-add_atom.ensures.large (ap Err met) (subst (FitsSigned w128) (sym whole) (fits at can).1))

-- all entries have been turned to
all : (c : In-None) → map deref_pair c.loop-atom.yielded ≡ c.args.other.now.coefficients.entries
all c =
    turned c.args.other.now.coefficients.entries c.into_iter-atom-iterator.result c.loop-atom.atom-iterator c.next.new.self c.loop-atom.yielded c.next.result
    (c.into_iter-atom-iterator.ensures.into_iter_gives ∙ c.iter-atom-items.ensures.rest) c.loop-atom.yielded_by c.next.ensures.steps c.in-None.is

whole : (c : In-None) → Summed (numbers c.add_number.new.self) (numbers c.loop-atom.sum) (to_z w128 (of_z w128 c.args.multiplier)) c.args.other.now.coefficients.entries
whole c = subst (λ l. Summed (numbers c.add_number.new.self) (numbers c.loop-atom.sum) (to_z w128 (of_z w128 c.args.multiplier)) l) (all c) c.loop-atom.invariant.summed

first_fits : (c : In_ok-add_number) → FitsSigned w128 (to_z w128 (of_z w128 c.in_ok-product.field-0))
first_fits c = subst (FitsSigned w128) (sym (product_kept c.in_ok-product.field-0 _ c.in_ok-product.ensures)) c.in_ok-product.ensures.0

pub returns : goal.returns
returns c =
    let at = (goal.at.returns c).In_ok-add_number in
    let f = numbers c.args.self in
    let g = numbers c.args.other.now in
    let multiplier = wide_number_kept _ c.ranges.multiplier in
    let products = subst (λ l. ProductsFit (to_z w128 (of_z w128 c.args.multiplier)) l) (all c) c.loop-atom.invariant.products in
    let can = all_fit f _ _ _ _ c.args.other.now.constant _ (first_product at) c.in_ok-add_number.ensures.ok (whole c) products (first_fits at) c.in_ok-add_number.ensures.fits c.loop-atom.sum.fits in (
      subst (λ k. CanAddScaled f k g) multiplier can,
      λ p. all_added f _ _ _ _ c.args.other.now.constant _ (first_product at) c.in_ok-add_number.ensures.ok (whole c) p ∙ ap (λ k. added_scaled f k g p) multiplier,
    )
