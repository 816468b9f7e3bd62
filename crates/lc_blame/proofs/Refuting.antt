-- What is not valid.
use Rattle.std.proofs.Common.{◌≡◌, List, [], ◌∷◌, ℤ, subst}
use Rattle.lc_term.specs.Lists.{Every}
use Rattle.lc_term.specs.Meaning.{State, outside, Holds, EachHolds}
use Rattle.lc_term.specs.Syntax.{Formula}
use Rattle.lc_term.specs.Updates.{variable}
use Rattle.lc_look.specs.Looking.{look, Says, LooksAreRight}
use Rattle.lc_look.specs.declared.seen.Seen.{Seen}
use Rattle.lc_look.specs.declared.seen.Seen.TheVariants.{Yes, No}
use Rattle.lc_blame.specs.Blame.{BlamedIsNotValid}

said : (x y : Seen) (P : Type 0) → x ≡ y → Says x P → Says y P
said x y P e says = subst (λ z. Says z P) e says

each_holds : LooksAreRight → (tried : List ℤ) (m : State) (vs : List ℤ) (hs : List Formula) → Every (λ h. look tried m (variable vs) h ≡ Yes) hs → EachHolds m (variable vs) hs
each_holds looks tried m vs [] seen = tt
each_holds looks tried m vs (h ∷ hs) (here, rest) =
    (said (look tried m (variable vs) h) Yes (Holds m (variable vs) outside h) here (looks tried m (variable vs) h), each_holds looks tried m vs hs rest)

pub blamed_is_not_valid : LooksAreRight → BlamedIsNotValid
blamed_is_not_valid looks tried m vs k (goal, open_or_so) seen valid =
    said (look tried m (variable vs) k.goal) No (Holds m (variable vs) outside k.goal) goal (looks tried m (variable vs) k.goal)
    (valid.holds m (variable vs) (each_holds looks tried m vs k.hypotheses seen))
