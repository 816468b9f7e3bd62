use Rattle.std.proofs.Common.{[], ◌∷◌, map, sym, subst}
use Rattle.std.proofs.lemmas.List.{map-append}
use Rattle.lc_hints.specs.HintView.{IsGiven}
use Rattle.lc_hints.specs.View.{hint_of}
use Rattle.lc_hints.proofs.given.gathered.Goals as goal

pub loop-hint-preserved : goal.loop-hint-preserved
loop-hint-preserved c =
    subst (λ hs. IsGiven hs c.add.new.self) (sym (map-append hint_of c.loop-hint.yielded (c.in-Some.hint ∷ []))) (c.in_ok-add.ensures (map hint_of c.loop-hint.yielded) c.loop-hint.invariant)
