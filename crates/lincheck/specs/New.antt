-- The answer to a name for which a development is to be begun.
use Rattle.std.specs.Prelude.{◌≡◌, ℕ, ◌⊎◌, List, ◌++◌}
use Rattle.lc_base.specs.declared.refusal.Fault.TheVariants.{Refused}
use Rattle.lc_base.specs.declared.refusal.Refusal.{Refusal}
use Rattle.lc_short.specs.Shorts.{Short, SaysShort, IsShortRefusal}
use Rattle.lincheck.specs.Answers.{ToldFault}
use Rattle.lincheck.specs.declared.new.TheConstants.{HEAD, MIDDLE, TAIL}

-- the text of the short development of this name
unfoldable pub template_of : List ℕ → List ℕ
template_of name = (((HEAD.now ++ name) ++ MIDDLE.now) ++ name) ++ TAIL.now

-- That text, which says a short development, with status 0; or its first refusal, as when the name is reserved
abbrev pub AnswersNew : List ℕ → List ℕ → ℕ → Type 0
AnswersNew name text status =
    ((r : Refusal) × IsShortRefusal (template_of name) r × ToldFault (Refused r) text status)
    ⊎ ((S : Short) × SaysShort text S × (text ≡ template_of name) × (status ≡ 0))
