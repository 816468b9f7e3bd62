use Rattle.std.proofs.lemmas.Result.{on_ok_weaker}
use Rattle.std.proofs.Common.{rules, ◌≡◌, ◌++◌, ◌∙◌, List, ℕ, [], ◌∷◌, true, codes, append_assoc, ap}
use Rattle.lc_table.specs.declared.node.TermId.{TermId}
use Rattle.lc_table.specs.Tables.{term_in}
use Rattle.lc_text.specs.Spelled.{spaced, spelled_term}
use Rattle.lc_cond_text.specs.declared.term_text.Waiting.TheVariants.{Term, Spaced, End}
use Rattle.lc_cond_text.specs.ConditionText.{spelled}
use Rattle.lc_cond_text.specs.Waiting.{stored_text}
use Rattle.lc_cond_text.proofs.Waiting.{goes_on, written_goes_on}
use Rattle.lc_cond_text.proofs.term_text.begin_stored.Goals as goal

both : (w a b e : List ℕ) → w ++ ((([] ++ a) ++ b) ++ e) ≡ ((w ++ a) ++ b) ++ e
both w a b e = simp append_assoc

second : (w a b e : List ℕ) → (w ++ (a ++ w)) ++ (([] ++ b) ++ e) ≡ ((w ++ a) ++ (w ++ b)) ++ e
second w a b e = simp append_assoc

behind : (o w a : List ℕ) → ((o ++ w) ++ a) ++ w ≡ o ++ (w ++ (a ++ w))
behind o w a = simp append_assoc

ended : (o w a b e : List ℕ) → ((((o ++ w) ++ a) ++ w) ++ b) ++ e ≡ o ++ (((w ++ a) ++ (w ++ b)) ++ e)
ended o w a b e = simp append_assoc

-- the index has parts, and waits
pub returns-then-not-branch : goal.returns-then-not-branch
returns-then-not-branch c d =
    let by = spelled d in
    let n = c.args.depth in
    let ts = c.args.terms.now in
    let text : TermId → List ℕ = λ t. spelled_term by n (term_in ts t) in
    let spaced_out : c.push_simple.new.out.items ≡ c.args.out.now.items ++ codes " " = search rules in
    goes_on by n ts _ _ (stored_text by n ts c.args.index c.args.value) _ _ (End ∷ Spaced c.args.value ∷ Term c.args.index ∷ []) (codes " ") c.requires.waiting
    (tt, (c.requires.value, (c.requires.index, tt))) spaced_out c.in_ok-extend_from_slice.ensures.items
    (both (codes " ") (text c.args.index) (spaced (text c.args.value)) (codes ")"))

-- the value has parts, and waits
pub returns-then-not-branch-2 : goal.returns-then-not-branch-2
returns-then-not-branch-2 c d =
    let by = spelled d in
    let n = c.args.depth in
    let ts = c.args.terms.now in
    let text : TermId → List ℕ = λ t. spelled_term by n (term_in ts t) in
    let out = c.args.out.now.items in
    let simple : c.in_ok-push_simple.field-0 ≡ true = search rules in
    let index = c.in_ok-push_simple.ensures.written d simple ∙ ap (λ l. l ++ text c.args.index) c.in_ok-push_space.ensures in
    let nothing : c.push_simple-2.new.out.items ≡ c.push_space-2.new.out.items = search rules in
    let so_far = nothing ∙ c.in_ok-push_space-2.ensures ∙ ap (λ l. l ++ codes " ") index ∙ behind out (codes " ") (text c.args.index) in
    goes_on by n ts _ _ (stored_text by n ts c.args.index c.args.value) _ _ (End ∷ Term c.args.value ∷ []) (codes " " ++ (text c.args.index ++ codes " ")) c.requires.waiting
    (tt, (c.requires.value, tt)) so_far c.in_ok-extend_from_slice-2.ensures.items
    (second (codes " ") (text c.args.index) (text c.args.value) (codes ")"))

-- neither has parts
pub returns : goal.returns
returns c d =
    let by = spelled d in
    let n = c.args.depth in
    let ts = c.args.terms.now in
    let text : TermId → List ℕ = λ t. spelled_term by n (term_in ts t) in
    let out = c.args.out.now.items in
    let new = c.push_end.new.out.items in
    let first : c.in_ok-push_simple.field-0 ≡ true = search rules in
    let last : c.in_ok-push_simple-2.field-0 ≡ true = search rules in
    let index = c.in_ok-push_simple.ensures.written d first ∙ ap (λ l. l ++ text c.args.index) c.in_ok-push_space.ensures in
    let value = c.in_ok-push_simple-2.ensures.written d last ∙ ap (λ l. l ++ text c.args.value) (c.in_ok-push_space-2.ensures ∙ ap (λ l. l ++ codes " ") index) in
    on_ok_weaker c.push_end.result
    (λ e. written_goes_on by n ts out c.args.waiting.now.items (stored_text by n ts c.args.index c.args.value) new c.requires.waiting
    (e ∙ ap (λ l. l ++ codes ")") value ∙ ended out (codes " ") (text c.args.index) (text c.args.value) (codes ")")))
    c.push_end.ensures
