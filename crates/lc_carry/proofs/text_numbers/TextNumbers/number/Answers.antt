use Rattle.std.proofs.Common.{◌≡◌, ℕ, Some, None, sym, ap, ◌∙◌}
use Rattle.std.specs.Map.{lookup}
use Rattle.std.specs.Prelude.{Vec, option_map}
use Rattle.std.specs.declared.alloc.Global.{Global}
use Rattle.lc_carry.proofs.Noted.{found_at, not_found}
use Rattle.lc_carry.specs.Pieces.{kept_in, key_of, pieces}
use Rattle.lc_carry.specs.TextNumbers.{number_of}
use Rattle.lc_reading.specs.Words.{is}
use Rattle.lc_carry.proofs.text_numbers.TextNumbers.number.Goals as goal

pub returns-in_default : goal.returns-in_default
returns-in_default c =
    let kept = kept_in c.self.inside.kept.keys in
    let none : key_of kept (pieces c.args.text.now) ≡ None = sym c.in_ok-key.ensures ∙ ap (option_map (λ (k : Vec ℕ Global). k.items)) c.in_default.is in
    sym (ap (λ l. number_of l c.args.text.now) (sym c.self.view_is) ∙ not_found kept c.self.inside.numbers.entries c.args.text.now c.self.invariant none)

pub returns : goal.returns
returns c =
    let kept = kept_in c.self.inside.kept.keys in
    let es = c.self.inside.numbers.entries in
    let key = c.in-Some.key.items in
    let here : key_of kept (pieces c.args.text.now) ≡ Some key = sym c.in_ok-key.ensures ∙ ap (option_map (λ (k : Vec ℕ Global). k.items)) c.in-Some.is in
    c.copied.ensures ∙ c.get.ensures.value ∙ ap (λ l. lookup (λ (k : Vec ℕ Global). is l k.items) es) c.as_slice.ensures.value
    ∙ found_at kept es c.args.text.now key c.self.invariant here ∙ ap (λ l. number_of l c.args.text.now) c.self.view_is
