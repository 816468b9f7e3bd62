use Rattle.std.proofs.Common.{◌≡◌, List, ℤ, pos, [], ◌∷◌, ◌++◌, ap, ◌∙◌, append_assoc, rules}
use Rattle.lc_machine.specs.View.{client_of}
use Rattle.lc_stages.specs.Stages.{numbers_at}
use Rattle.lc_blame.proofs.placing.joined_numbers.Goals as goal

pub returns : goal.returns
returns c = λ D w count.
    let actor = pos c.args.actor in
    let pushed : c.push.new.self.items ≡ c.in_ok-values.values.items ++ actor ∷ [] = search rules in
    let all : c.extend_from_slice.new.self.items ≡ c.push.new.self.items ++ c.args.given.now = search rules in
    all ∙ (ap (λ (l : List ℤ). l ++ c.args.given.now) (pushed ∙ ap (λ (l : List ℤ). l ++ actor ∷ []) (c.in_ok-values.ensures D w count))
    ∙ append_assoc (numbers_at D w c.args.number (client_of c.args.client.now)) (actor ∷ []) c.args.given.now)
