-- A term put in for one variable, and a term moved below further quantifiers. Each is a replacement.
use Rattle.std.specs.Prelude.{ℕ, zero, suc, ◌+◌, ◌==◌, nat_lt, ℤ, List, [], ◌∷◌, if◌then◌else◌}
use Rattle.lc_term.specs.Syntax.{Term, Variable, Bound, Base, Formula}
use Rattle.lc_term.specs.Meaning.{Env, push}
use Rattle.lc_term.specs.Replacement.{Replacement, replacing, replace_term, replace}

-- u for the free variable v
abbrev pub putting : ℕ → Term → Replacement
putting v u = replacing Base (λ k. if k == v then u else Variable k)

-- the formula with u for its free variable v
abbrev pub substituted : ℕ → Term → Formula → Formula
substituted v u f = replace (putting v u) f

-- the variables with the number x for v
abbrev pub with_value : ℕ → ℤ → Env → Env
with_value v x e k = if k == v then x else e k

-- u for the innermost bound variable; the others point one quantifier less far
abbrev pub opened : Term → ℕ → Term
opened u zero = u
opened u (suc k) = Bound k

abbrev pub opening : Term → Replacement
opening u = record { columns = Base; variables = Variable; bounds = opened u }

-- the body of a quantifier with u for the quantifier's variable
abbrev pub instantiated : Term → Formula → Formula
instantiated u f = replace (opening u) f

-- from the cutoff on, bound variables point n quantifiers further
abbrev pub shifting : ℕ → ℕ → Replacement
shifting n cutoff = record { columns = Base; variables = Variable; bounds = λ k. if nat_lt k cutoff then Bound k else Bound (k + n) }

-- a term moved below n further quantifiers, which are outside the innermost ones, whose number is the cutoff
abbrev pub shifted_term : ℕ → ℕ → Term → Term
shifted_term n cutoff t = replace_term (shifting n cutoff) t

-- a formula moved below n further quantifiers, with the same cutoff
abbrev pub shifted : ℕ → ℕ → Formula → Formula
shifted n cutoff f = replace (shifting n cutoff) f

-- the bound variables below further quantifiers with these numbers, the innermost first
abbrev pub push_all : List ℤ → Env → Env
push_all [] b = b
push_all (x ∷ xs) b = push x (push_all xs b)
