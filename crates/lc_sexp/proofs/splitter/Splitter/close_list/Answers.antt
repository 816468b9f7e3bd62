use Rattle.std.proofs.Common.{◌≡◌, ℕ, ◌+◌, ◌<◌, Bool, ◌∷◌, List, [], true, false, cond, length, refl, ap, ◌∙◌, arith}
use Rattle.std.proofs.lemmas.List.{nil_from_length}
use Rattle.lc_sexp.specs.Trees.{close_list}
use Rattle.lc_sexp.proofs.Nodes.{lexed_close}
use Rattle.lc_sexp.proofs.Cuts.{rooted_take}
use Rattle.lc_sexp.specs.Flat.{is_rooted}
use Rattle.lc_sexp.proofs.Splits.{machine_step, part_step, bracket_taken, list_taken}
use Rattle.lc_sexp.proofs.splitter.Splitter.close_list.Goals as goal

in_form : (b : Bool) (n : ℕ) → 0 < n + cond b 1 0 → n ≡ 0 → b ≡ true
in_form true n h e = refl
in_form false n h e = absurd (omega (arith, h, e))

in_list_at : (b : Bool) (xs : List ℕ) → (b ≡ false → xs ≡ []) → length xs ≡ 1 → b ≡ true
in_list_at true xs h e = refl
in_list_at false xs h e = absurd (omega (arith, e, ap length (h refl)))

pub returns-in_ok-end_form-in-0-clause-splits : goal.returns-in_ok-end_form-in-0-clause-splits
returns-in_ok-end_form-in-0-clause-splits c = λ whole rest taken byte k h.
    let n = c.args.self.now.machine.holes.ok.0 in
    let w = c.in-0 in
    let d = c.depth.ensures in
    c.in_ok-end_form-in-0.ensures.splits whole rest taken byte k
    (in_form c.args.self.now.in_list _ c.requires.some (omega arith)) (nil_from_length c.args.self.now.machine.holes.items (omega arith)) h

pub returns-in_ok-set_aside-in-1-clause-splits : goal.returns-in_ok-set_aside-in-1-clause-splits
returns-in_ok-set_aside-in-1-clause-splits c = λ whole rest taken byte k h.
    let n = c.args.self.now.machine.holes.ok.0 in
    let t = c.args.self.now.machine.text.ok.0 in
    let t' = c.cut_list.new.self.text.ok.0 in
    let w = c.in-1 in
    let d = c.depth.ensures in
    let made = c.in_ok-sexp-in-1.ensures.cut in
    let root : is_rooted c.cut_list.new.self.nodes.items ≡ true = ap is_rooted made.nodes.1 ∙ rooted_take made.nodes.0 c.args.self.now.machine.nodes.items h.rooted in
    part_step whole (λ x. byte ∷ rest x) rest taken c.args.self.now c.set_aside.new.self c.cut_list.new.self c.in_ok-sexp-in-1.sexp
    (in_list_at c.args.self.now.in_list c.args.self.now.machine.holes.items h.outside (omega arith))
    c.set_aside.ensures.machine c.set_aside.ensures.in_list c.set_aside.ensures.ended c.set_aside.ensures.form c.in_ok-set_aside-in-1.ensures.item c.in_ok-set_aside-in-1.ensures.ready
    (λ x. list_taken c.args.self.now.machine c.cut_list.new.self made.nodes.0 c.in_ok-sexp-in-1.sexp byte (rest x) made.told
    (omega (arith, t, c.requires.ended)) (omega (arith, t', made.ended)) (lexed_close byte (rest x) k) made.holes root)
    root h

pub returns-in_default-clause-splits : goal.returns-in_default-clause-splits
returns-in_default-clause-splits c = λ whole rest taken byte k h.
    let n = c.args.self.now.machine.holes.ok.0 in
    let t = c.args.self.now.machine.text.ok.0 in
    let w = c.in_default in
    let d = c.depth.ensures in
    machine_step whole (λ x. byte ∷ rest x) rest taken c.args.self.now c.close_list.new.self
    (λ x. bracket_taken c.args.self.now.machine c.close_list.new.self close_list byte (rest x) c.close_list.ensures.told
    (omega (arith, t, c.requires.ended)) (omega (arith, t, c.requires.ended, c.close_list.ensures.start, ap (λ v. length v.items) c.close_list.ensures.text)) (lexed_close byte (rest x) k))
    (c.close_list.ensures.rooted (omega arith)) (λ e o. absurd (omega (arith, n, ap length o))) h
