-- What the code answers of a step and of a proof, formulas being read in a table.
use Rattle.std.specs.Prelude.{◌≡◌, ℕ, ◌+◌, ℤ, pos, negsuc, slice_get, Bool, true, false, Option, Some, None, Result, Ok, Err, List, Vec}
use Rattle.std.specs.declared.alloc.Global.{Global}
use Rattle.lc_table.specs.NodeTables.{Table}
use Rattle.lc_term.specs.Syntax as S
use Rattle.lc_table.specs.Tables.{term_in, formula_in, formulas_in, IsTerm, IsFormula, AreFormulas}
use Rattle.lc_table.specs.declared.node.FormulaId.{FormulaId}
use Rattle.lc_table.specs.declared.node.TermId.{TermId}
use Rattle.lc_kernel.specs.Branches.{branches_in, AreBranches}
use Rattle.lc_kernel.specs.Settings.{hypotheses_at}
use Rattle.lc_kernel.specs.Proofs.{Step, Proof, Proofs, size, size_of_all}
use Rattle.lc_kernel.specs.Table.{Outcome, flawed, opens, Gives, excess, CanCompare, IsQuotient}
use Rattle.lc_kernel.specs.Derivation.{Derives, EachDerives, Fails, SomeFails, DerivesGoal, FailsGoal}
use Rattle.lc_kernel.specs.declared.reason.Flaw.{Flaw}
use Rattle.lc_kernel.specs.declared.reason.Flaw.TheVariants.{Bad, Large as LargeFlaw}
use Rattle.lc_kernel.specs.declared.reason.Reason.{Reason}
use Rattle.lc_kernel.specs.declared.reason.Reason.TheVariants.{NoHypothesis, NotDivisible, WrongQuotient}
use Rattle.lc_kernel.specs.declared.fault.StepFault.{StepFault}
use Rattle.lc_kernel.specs.declared.fault.StepFault.TheVariants.{Flawed, OutOfMemory}
use Rattle.lc_kernel.specs.declared.fault.ProofFault.{ProofFault}
use Rattle.lc_kernel.specs.declared.fault.ProofFault.TheVariants.{Bad as NotHolding, Large as TooLarge, OutOfMemory as NoMore}
use Rattle.lc_kernel.specs.declared.opened.Opened.{Opened}
use Rattle.lc_kernel.specs.declared.setting.Setting.{Setting}
use Rattle.lc_linear.specs.Closing.{Entry, entries_in, AreEntries}
use Rattle.lc_linear.specs.Divided.{Divides, IsDivided}
use Rattle.lc_linear.specs.Form.{form_of, HasForm}
use Rattle.lc_linear.specs.LinForm.{numbers, HasNumbers, IsFormIn}
use Rattle.lc_linear.specs.Numbered.{Form}
use Rattle.lc_linear.specs.declared.fault.LinFault.{LinFault}
use Rattle.lc_linear.specs.declared.fault.LinFault.TheVariants.{Large as LargeForm, OutOfMemory as NoMemory}
use Rattle.lc_linear.specs.declared.form.LinForm.{LinForm}

-- the fault of a step by that of a form
abbrev pub step_fault : LinFault → StepFault
step_fault LargeForm = Flawed LargeFlaw
step_fault NoMemory = OutOfMemory

-- what is opened, or what is wrong; nothing on `OutOfMemory`
abbrev pub Meets : Table → (Outcome → Type 0) → Result Opened StepFault → Type 0
Meets ts P (Ok opened) = AreBranches ts opened.branches × P (opens opened.variables (branches_in ts opened.branches))
Meets ts P (Err (Flawed why)) = P (flawed why)
Meets ts P (Err OutOfMemory) = Unit {0}

-- what a step comes to in this setting; its hypotheses are in the first table, its branches in the second
abbrev pub StepMeets : Table → Table → Setting → Step → Result Opened StepFault → Type 0
StepMeets old new at step result = Meets new (Gives at.variables (hypotheses_at old at) at.proofs step) result

-- a test that holds, or the reason that is reported if it fails
abbrev pub Tests : Bool → Reason → Result (Unit {0}) Flaw → Type 0
Tests holds reason (Ok u) = holds ≡ true
Tests holds reason (Err why) = (holds ≡ false) × (why ≡ Bad reason)

-- the number of hypothesis h, or that there is none
abbrev pub hypothesis_of : List FormulaId → ℤ → Option FormulaId
hypothesis_of ks (pos n) = slice_get ks n
hypothesis_of ks (negsuc n) = None

abbrev pub FindsNumber : List FormulaId → ℤ → Result FormulaId Flaw → Type 0
FindsNumber ks h (Ok k) = hypothesis_of ks h ≡ Some k
FindsNumber ks h (Err why) = (hypothesis_of ks h ≡ None) × (why ≡ Bad NoHypothesis)

-- the number of the formula that there is, or the reason that is reported if there is none
abbrev pub FindsIn : Table → Option S.Formula → Reason → Result FormulaId Flaw → Type 0
FindsIn ts found reason (Ok k) = IsFormula ts k × (found ≡ Some (formula_in ts k))
FindsIn ts found reason (Err why) = (found ≡ None) × (why ≡ Bad reason)

-- the same for two terms
abbrev pub FindsSides : Table → Option (S.Term × S.Term) → Reason → Result (TermId × TermId) Flaw → Type 0
FindsSides ts found reason (Ok p) = IsTerm ts p.0 × IsTerm ts p.1 × (found ≡ Some (term_in ts p.0, term_in ts p.1))
FindsSides ts found reason (Err why) = (found ≡ None) × (why ≡ Bad reason)

-- the same for two terms, with their difference found
abbrev pub FindsExcess : Table → Option S.Term → Reason → Result (TermId × TermId) Flaw → Type 0
FindsExcess ts found reason (Ok p) = IsTerm ts p.0 × IsTerm ts p.1 × (found ≡ Some (S.Subtract (term_in ts p.0) (term_in ts p.1)))
FindsExcess ts found reason (Err why) = (found ≡ None) × (why ≡ Bad reason)

-- the same for a formula; nothing on `OutOfMemory`
abbrev pub MakesIn : Table → Option S.Formula → Reason → Result FormulaId StepFault → Type 0
MakesIn ts made reason (Ok k) = IsFormula ts k × (made ≡ Some (formula_in ts k))
MakesIn ts made reason (Err (Flawed why)) = (made ≡ None) × (why ≡ Bad reason)
MakesIn ts made reason (Err OutOfMemory) = Unit {0}

-- the same for formulas
abbrev pub MakesAllIn : Table → Option (List S.Formula) → Reason → Result (Vec FormulaId Global) StepFault → Type 0
MakesAllIn ts made reason (Ok ks) = AreFormulas ts ks.items × (made ≡ Some (formulas_in ts ks.items))
MakesAllIn ts made reason (Err (Flawed why)) = (made ≡ None) × (why ≡ Bad reason)
MakesAllIn ts made reason (Err OutOfMemory) = Unit {0}

-- the same for the entries of a sum
abbrev pub MakesEntriesIn : Table → Option (List Entry) → Reason → Result (Vec (FormulaId × ℤ) Global) StepFault → Type 0
MakesEntriesIn ts made reason (Ok es) = AreEntries ts es.items × (made ≡ Some (entries_in ts es.items))
MakesEntriesIn ts made reason (Err (Flawed why)) = (made ≡ None) × (why ≡ Bad reason)
MakesEntriesIn ts made reason (Err OutOfMemory) = Unit {0}

-- the form of what a formula says is at most 0, if it is a `<=`
abbrev pub GivesClaim : Table → Option S.Term → Result (Option LinForm) LinFault → Type 0
GivesClaim ts (Some t) (Ok (Some form)) = HasForm t × IsFormIn ts form (form_of t)
GivesClaim ts (Some t) (Ok None) = ⊥
GivesClaim ts None (Ok (Some form)) = ⊥
GivesClaim ts None (Ok None) = Unit {0}
GivesClaim ts claim (Err LargeForm) = CanCompare claim → ⊥
GivesClaim ts claim (Err NoMemory) = Unit {0}

-- the form divided by k, if k divides it
abbrev pub DividesAs : Form → ℤ → Result LinForm Flaw → Type 0
DividesAs f k (Ok quotient) = IsDivided f k (numbers quotient)
DividesAs f k (Err why) = (why ≡ Bad NotDivisible) × (Divides k f → ⊥)

-- the form of a claim is f
abbrev pub IsClaimed : Form → Option LinForm → Type 0
IsClaimed f (Some claimed) = HasNumbers claimed f
IsClaimed f None = ⊥

-- the formula f is a `<=` of the form of t, divided by k; or the reason why not
abbrev pub TestsQuotient : S.Formula → S.Term → ℤ → Result (Unit {0}) StepFault → Type 0
TestsQuotient f t k (Ok u) = HasForm t × CanCompare (excess f) × IsQuotient t k (excess f)
TestsQuotient f t k (Err (Flawed LargeFlaw)) = HasForm t × CanCompare (excess f) → ⊥
TestsQuotient f t k (Err (Flawed (Bad NotDivisible))) = HasForm t × CanCompare (excess f) × (Divides k (form_of t) → ⊥)
TestsQuotient f t k (Err (Flawed (Bad WrongQuotient))) = HasForm t × CanCompare (excess f) × Divides k (form_of t) × (IsQuotient t k (excess f) → ⊥)
TestsQuotient f t k (Err (Flawed (Bad _))) = ⊥
TestsQuotient f t k (Err OutOfMemory) = Unit {0}

-- the proof holds, and its steps are counted from the first; or its first step that does not hold is reported
abbrev pub Checks : ℕ → List S.Formula → Proof → ℕ → Result ℕ ProofFault → Type 0
Checks v H p first (Ok next) = (next ≡ first + size p) × Derives v H p
Checks v H p first (Err (NotHolding step reason)) = (n : ℕ) × (step ≡ first + n) × Fails v H p n (Bad reason)
Checks v H p first (Err (TooLarge step)) = (n : ℕ) × (step ≡ first + n) × Fails v H p n LargeFlaw
Checks v H p first (Err NoMore) = Unit {0}

-- the same for the proofs of branches
abbrev pub ChecksEach : ℕ → List S.Formula → List (List S.Formula) → Proofs → ℕ → Result ℕ ProofFault → Type 0
ChecksEach v H bs ps first (Ok next) = (next ≡ first + size_of_all ps) × EachDerives v H bs ps
ChecksEach v H bs ps first (Err (NotHolding step reason)) = (n : ℕ) × (step ≡ first + n) × SomeFails v H bs ps n (Bad reason)
ChecksEach v H bs ps first (Err (TooLarge step)) = (n : ℕ) × (step ≡ first + n) × SomeFails v H bs ps n LargeFlaw
ChecksEach v H bs ps first (Err NoMore) = Unit {0}

-- the fault of a step by its number
abbrev pub fault_at : ℕ → StepFault → ProofFault
fault_at step (Flawed (Bad reason)) = NotHolding step reason
fault_at step (Flawed LargeFlaw) = TooLarge step
fault_at step OutOfMemory = NoMore

-- the proof derives the goal from the hypotheses; or the first step that does not hold is reported
abbrev pub Proves : ℕ → List S.Formula → S.Formula → Proof → Result (Unit {0}) ProofFault → Type 0
Proves v H goal p (Ok u) = DerivesGoal v H goal p
Proves v H goal p (Err (NotHolding step reason)) = FailsGoal v H goal p step (Bad reason)
Proves v H goal p (Err (TooLarge step)) = FailsGoal v H goal p step LargeFlaw
Proves v H goal p (Err NoMore) = Unit {0}
