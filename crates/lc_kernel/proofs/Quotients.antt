-- Quotients of comparisons, by the forms that are kept.
use Rattle.std.specs.Prelude.{◌≡◌, ℤ, pos, ◌*ℤ◌, Option, Some, None, Ok, Err}
use Rattle.std.proofs.Common.{refl, sym, subst}
use Rattle.lc_lemmas.proofs.Numbers.{zero_scaled}
use Rattle.lc_table.specs.NodeTables.{Table}
use Rattle.lc_term.specs.Syntax.{Term, Formula}
use Rattle.lc_linear.specs.Divided.{IsRoundedUp, Divides, IsDivided}
use Rattle.lc_linear.specs.Form as T
use Rattle.lc_linear.specs.Form.{form_of, HasForm}
use Rattle.lc_linear.specs.LinForm.{numbers, Reads, IsFormIn}
use Rattle.lc_linear.specs.Numbered.{Form}
use Rattle.lc_linear.specs.declared.form.LinForm.{LinForm}
use Rattle.lc_linear.proofs.InTables.{each_atom_of_trees, each_atom_kept}
use Rattle.lc_linear.proofs.Refutes.{IsDivided-Divides, IsDivided-unique, IsDivided-same}
use Rattle.lc_kernel.specs.Answers.{GivesClaim, IsClaimed, TestsQuotient}
use Rattle.lc_kernel.specs.Table.{excess, CanCompare, IsQuotient}
use Rattle.lc_kernel.specs.declared.fault.StepFault.TheVariants.{Flawed}
use Rattle.lc_kernel.specs.declared.reason.Flaw.TheVariants.{Bad}
use Rattle.lc_kernel.specs.declared.reason.Reason.TheVariants.{NotDivisible, WrongQuotient}

-- what divides the form that is kept divides that of trees, and the other way round
module _ (ts : Table) (n m : Form) (f g : T.Form) (k : ℤ) (first : Reads ts n f) (second : Reads ts m g) where
  pub divides_kept : Divides k f → Divides k n
  divides_kept h = record { positive = h.positive; multiples = each_atom_kept ts n n f f first first (λ a b. (c : ℤ) × (a ≡ k *ℤ c)) (pos 0, zero_scaled k) h.multiples }

  pub divides_of_trees : Divides k n → Divides k f
  divides_of_trees h = record { positive = h.positive; multiples = each_atom_of_trees ts n n f f first first (λ a b. (c : ℤ) × (a ≡ k *ℤ c)) (pos 0, zero_scaled k) h.multiples }

  pub divided_of_trees : IsDivided n k m → IsDivided f k g
  divided_of_trees h = record {
    coefficients = each_atom_of_trees ts n m f g first second (λ a b. a ≡ k *ℤ b) (zero_scaled k) h.coefficients;
    constant = subst (λ c. IsRoundedUp c k (g None)) first.constant (subst (λ c. IsRoundedUp (n None) k c) second.constant h.constant);
  }

  pub divided_kept : IsDivided f k g → IsDivided n k m
  divided_kept h = record {
    coefficients = each_atom_kept ts n m f g first second (λ a b. a ≡ k *ℤ b) (zero_scaled k) h.coefficients;
    constant = subst (λ c. IsRoundedUp c k (m None)) (sym first.constant) (subst (λ c. IsRoundedUp (f None) k c) (sym second.constant) h.constant);
  }

can_compare : (ts : Table) (claim : Option Term) (claimed : Option LinForm) → GivesClaim ts claim (Ok claimed) → CanCompare claim
can_compare ts (Some t) (Some c) h = h.0
can_compare ts (Some t) None h = absurd h
can_compare ts None (Some c) h = absurd h
can_compare ts None None h = tt

module _ (ts : Table) (t : Term) (k : ℤ) (form : LinForm) (is : IsFormIn ts form (form_of t)) where
  pub not_divisible : (f : Formula) (claimed : Option LinForm) → HasForm t → GivesClaim ts (excess f) (Ok claimed) → (Divides k (numbers form) → ⊥) → TestsQuotient f t k (Err (Flawed (Bad NotDivisible)))
  not_divisible f claimed fits claim no' = (fits, can_compare ts (excess f) claimed claim, λ h. no' (divides_kept ts (numbers form) (numbers form) (form_of t) (form_of t) k is is h))

  -- the claim is the quotient exactly if its form is the form divided
  quotient_claimed : (divided : LinForm) (claim : Option Term) (claimed : Option LinForm) → GivesClaim ts claim (Ok claimed) → IsDivided (numbers form) k (numbers divided) →
      IsClaimed (numbers divided) claimed → IsQuotient t k claim
  quotient_claimed divided (Some q) (Some c) claim h same =
      divided_of_trees ts (numbers form) (numbers c) (form_of t) (form_of q) k is claim.1 (IsDivided-same (numbers form) (numbers form) k (numbers divided) (numbers c) (λ p. refl) (λ p. sym (same p)) h)
  quotient_claimed divided (Some q) None claim h same = absurd claim
  quotient_claimed divided None (Some c) claim h same = absurd claim
  quotient_claimed divided None None claim h same = absurd same

  claimed_quotient : (divided : LinForm) (claim : Option Term) (claimed : Option LinForm) → GivesClaim ts claim (Ok claimed) → IsDivided (numbers form) k (numbers divided) →
      IsQuotient t k claim → IsClaimed (numbers divided) claimed
  claimed_quotient divided (Some q) (Some c) claim h quotient =
      IsDivided-unique (numbers form) k (numbers c) (numbers divided) (divided_kept ts (numbers form) (numbers c) (form_of t) (form_of q) k is claim.1 quotient) h
  claimed_quotient divided (Some q) None claim h quotient = absurd claim
  claimed_quotient divided None claimed claim h quotient = absurd quotient

  pub wrong_quotient : (f : Formula) (divided : LinForm) (claimed : Option LinForm) → HasForm t → GivesClaim ts (excess f) (Ok claimed) → IsDivided (numbers form) k (numbers divided) →
      (IsClaimed (numbers divided) claimed → ⊥) → TestsQuotient f t k (Err (Flawed (Bad WrongQuotient)))
  wrong_quotient f divided claimed fits claim h no' = (
    fits,
    can_compare ts (excess f) claimed claim,
    divides_of_trees ts (numbers form) (numbers form) (form_of t) (form_of t) k is is (IsDivided-Divides (numbers form) k (numbers divided) h),
    λ quotient. no' (claimed_quotient divided (excess f) claimed claim h quotient),
  )

  pub right_quotient : (f : Formula) (divided : LinForm) (claimed : Option LinForm) → HasForm t → GivesClaim ts (excess f) (Ok claimed) → IsDivided (numbers form) k (numbers divided) →
      IsClaimed (numbers divided) claimed → HasForm t × CanCompare (excess f) × IsQuotient t k (excess f)
  right_quotient f divided claimed fits claim h same = (fits, can_compare ts (excess f) claimed claim, quotient_claimed divided (excess f) claimed claim h same)
