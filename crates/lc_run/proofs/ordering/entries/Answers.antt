use Rattle.std.proofs.Common.{◌≡◌, ◌-◌, true, ◌∷◌, length, drop, sym, ap, subst, ◌∙◌, arith}
use Rattle.std.specs.List.{list_all}
use Rattle.lc_sound.specs.Happening.{counted}
use Rattle.lc_run.specs.Ordering.{order_entries, happening_of, happenings_of, returns_in, is_within, is_small}
use Rattle.lc_run.proofs.Happened.{next-left, behind-small, first-small, first-within, shown-reverse}
use Rattle.lc_run.proofs.ordering.entries.Goals as goal

pub push_counted-requires : goal.push_counted-requires
push_counted-requires c =
    let hs = c.args.happenings.now in
    let p = c.loop-place.place in
    let x = c.index-happenings-place.result in
    let left = next-left hs p x (omega arith) (omega arith) c.index-happenings-place.is in
    let small : list_all is_small (counted (happening_of x ∷ happenings_of (drop p hs))) ≡ true = sym (ap (λ ys. list_all is_small (counted ys)) left) ∙ behind-small (p - 1) hs c.requires.small in
    first-small (returns_in c.deref.result.now) (happening_of x) (happenings_of (drop p hs)) (λ d. ap (λ rs. returns_in rs d) c.deref.ensures.value ∙ c.loop-place.invariant.1 d) small

pub see-requires : goal.see-requires
see-requires c =
    let hs = c.args.happenings.now in
    let p = c.loop-place.place in
    let x = c.index-happenings-place.result in
    let left = next-left hs p x (omega arith) (omega arith) c.index-happenings-place.is in
    let size : length c.deref_mut.result.now ≡ c.args.clients = c.deref_mut.ensures.len ∙ c.loop-place.invariant.0 in
    subst (λ n. is_within n (happening_of x) ≡ true) (sym size) (first-within c.args.clients (p - 1) (happening_of x) (happenings_of (drop p hs)) hs left c.requires.within)

pub returns : goal.returns
returns c =
    let hs = c.args.happenings.now in
    let none : c.loop-place.place ≡ 0 = omega arith in
    ap order_entries c.reverse.ensures.items ∙ (shown-reverse c.loop-place.entries.items ∙ (c.loop-place.invariant.2 ∙ ap (λ k. counted (happenings_of (drop k hs))) none))
