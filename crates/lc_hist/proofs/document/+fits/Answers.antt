use Rattle.std.proofs.Common.{◌≡◌, ◌-◌, ◌&&◌, true, false, is_some, sym, ap, ◌∙◌, arith}
use Rattle.serde_json.specs.View.{number_view}
use Rattle.lc_hist.proofs.JsonFits.{fits_json, fits_items, fits_members, some_mapped, array_fits, object_fits, array_too_deep, object_too_deep, item_fits, member_fits, no_items_fit, no_members_fit, number_fits, other_fits}
use Rattle.lc_hist.proofs.document.+fits.Goals as goal

pub returns-in-Some : goal.returns-in-Some
returns-in-Some t c j begins =
    c.is_some.ensures ∙ sym (some_mapped number_view c.number.result) ∙ ap is_some c.number.ensures ∙ sym (number_fits j c.args.levels c.in-Some.text.now (c.in-Some.ensures j begins))

pub returns-then-levels-eq0 : goal.returns-then-levels-eq0
returns-then-levels-eq0 t c j begins =
    let shape = c.in-Some-items.ensures j begins in
    sym (ap (λ i. fits_json i c.args.levels) shape.1 ∙ array_too_deep shape.0 c.args.levels (omega arith))

pub items-init : goal.items-init
items-init t c j begins =
    let shape = c.in-Some-items.ensures j begins in
    (shape.0, shape.2, ap (λ i. fits_json i c.args.levels) shape.1 ∙ array_fits shape.0 c.args.levels (omega arith))

pub returns-then-not-fits : goal.returns-then-not-fits
returns-then-not-fits t c j begins =
    let now = c.items.invariant j begins in
    let f = c.in-Some-next.ensures.value now.0 now.1 in
    let inner = c.args.levels - 1 in
    let wrong : fits_json f.0 inner ≡ false = sym (c.fits.ensures f.0 f.3) ∙ c.if-not-fits.true in
    sym (now.2 ∙ ap (λ js. fits_items js inner) f.2 ∙ item_fits f.0 f.1 inner ∙ ap (λ b. b && fits_items f.1 inner) wrong)

pub items-preserved : goal.items-preserved
items-preserved t c j begins =
    let now = c.items.invariant j begins in
    let f = c.in-Some-next.ensures.value now.0 now.1 in
    let inner = c.args.levels - 1 in
    let right : fits_json f.0 inner ≡ true = sym (c.fits.ensures f.0 f.3) ∙ c.if-not-fits.false in
    (f.1, f.4, now.2 ∙ ap (λ js. fits_items js inner) f.2 ∙ item_fits f.0 f.1 inner ∙ ap (λ b. b && fits_items f.1 inner) right)

pub returns-in-Some-items : goal.returns-in-Some-items
returns-in-Some-items t c j begins =
    let now = c.items.invariant j begins in
    let inner = c.args.levels - 1 in
    sym (now.2 ∙ ap (λ js. fits_items js inner) (c.in_default-next.ensures.value now.0 now.1) ∙ no_items_fit inner)

pub returns-then-levels-eq0-2 : goal.returns-then-levels-eq0-2
returns-then-levels-eq0-2 t c j begins =
    let shape = c.in-Some-members.ensures j begins in
    sym (ap (λ i. fits_json i c.args.levels) shape.1 ∙ object_too_deep shape.0 c.args.levels (omega arith))

pub members-init : goal.members-init
members-init t c j begins =
    let shape = c.in-Some-members.ensures j begins in
    (shape.0, shape.2, ap (λ i. fits_json i c.args.levels) shape.1 ∙ object_fits shape.0 c.args.levels (omega arith))

pub returns-then-not-fits-2 : goal.returns-then-not-fits-2
returns-then-not-fits-2 t c j begins =
    let now = c.members.invariant j begins in
    let f = c.in-Some-next-2.ensures.value now.0 now.1 in
    let inner = c.args.levels - 1 in
    let wrong : fits_json f.0 inner ≡ false = sym (c.fits-in-Some-next-2.ensures f.0 f.3) ∙ c.if-not-fits-2.true in
    sym (now.2 ∙ ap (λ ms. fits_members ms inner) f.2 ∙ member_fits _ f.0 f.1 inner ∙ ap (λ b. b && fits_members f.1 inner) wrong)

pub members-preserved : goal.members-preserved
members-preserved t c j begins =
    let now = c.members.invariant j begins in
    let f = c.in-Some-next-2.ensures.value now.0 now.1 in
    let inner = c.args.levels - 1 in
    let right : fits_json f.0 inner ≡ true = sym (c.fits-in-Some-next-2.ensures f.0 f.3) ∙ c.if-not-fits-2.false in
    (f.1, f.4, now.2 ∙ ap (λ ms. fits_members ms inner) f.2 ∙ member_fits _ f.0 f.1 inner ∙ ap (λ b. b && fits_members f.1 inner) right)

pub returns-in_default-next-2 : goal.returns-in_default-next-2
returns-in_default-next-2 t c j begins =
    let now = c.members.invariant j begins in
    let inner = c.args.levels - 1 in
    sym (now.2 ∙ ap (λ ms. fits_members ms inner) (c.in_default-next-2.ensures.value now.0 now.1) ∙ no_members_fit inner)

pub returns-in_default-members : goal.returns-in_default-members
returns-in_default-members t c j begins = sym (other_fits j c.args.levels (c.in_default.ensures j begins) (c.in_default-items.ensures j begins) (c.in_default-members.ensures j begins))
