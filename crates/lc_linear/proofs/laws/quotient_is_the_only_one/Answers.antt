use Rattle.lc_linear.proofs.Refutes.{IsDivided-Divides, IsDivided-unique}
use Rattle.lc_linear.proofs.laws.quotient_is_the_only_one.Goals as goal

pub returns-clause-divides : goal.returns-clause-divides
returns-clause-divides c = λ f g k d. IsDivided-Divides f k g d

pub returns-clause-same : goal.returns-clause-same
returns-clause-same c = λ f g h k d d'. IsDivided-unique f k g h d d'
