-- What is answered of files whose bytes are known, and of others.
use Rattle.std.proofs.Common.{ℕ, List, Option, Some, inl, inr, subst}
use Rattle.lc_words.specs.Tasks.{Task}
use Rattle.lincheck.specs.Execution.{Ends}
use Rattle.lincheck.specs.Reading.{OfFile}

-- it holds of some file
pub some_file : (known : Option (List ℕ)) (Holds : List ℕ → Type 0) → OfFile known Holds → (file : List ℕ) × Holds file
some_file known Holds (file, same, h) = (file, h)

-- an answer in other words
pub ends_as : (task : Task) (A B : List ℕ → ℕ → Type 0) (before after : Option (List ℕ)) (status : ℕ) → ((text : List ℕ) (said : ℕ) → A text said → B text said) → Ends task A before after status → Ends task B before after status
ends_as task A B before after status f (inl failed) = inl failed
ends_as task A B before after status f (inr (text, said, is, printed)) = inr (text, said, f text said is, printed)

-- the answer to a file whose bytes are known
pub ends_known : (task : Task) (file : List ℕ) (Answers : List ℕ → List ℕ → ℕ → Type 0) (before after : Option (List ℕ)) (status : ℕ)
    → Ends task (λ text said. OfFile (Some file) (λ f. Answers f text said)) before after status → Ends task (Answers file) before after status
ends_known task file Answers before after status (inl failed) = inl failed
ends_known task file Answers before after status (inr (text, said, (read, same, is), printed)) = inr (text, said, subst (λ f. Answers f text said) same is, printed)
