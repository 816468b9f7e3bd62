-- What the file of a short development is answered, from the beginning of it that is read.
use Rattle.std.proofs.Common.{◌≡◌, ℕ, List, Option, inl, inr, refl, subst}
use Rattle.lc_base.specs.declared.refusal.Fault.{Fault}
use Rattle.lc_base.specs.declared.refusal.Fault.TheVariants.{Refused, OutOfMemory}
use Rattle.lc_base.specs.declared.refusal.Refusal.{Refusal}
use Rattle.lc_complete.specs.Making.{IsAnswer, IsMade, IsRefused}
use Rattle.lc_complete.specs.declared.making.Made.{Made}
use Rattle.lc_outline.specs.Development.{Development}
use Rattle.lc_outline.specs.DevelopmentView.{development_view}
use Rattle.lc_outline_text.specs.Developments.{file_reading}
use Rattle.lc_short.specs.Shorts.{IsShortRefusal}
use Rattle.std.specs.Prelude.{Ok, Err}
use Rattle.lincheck.specs.Answers.{ToldFault}
use Rattle.lincheck.specs.Complete.{AnswersComplete, TellsMade}
use Rattle.lincheck.specs.Reading.{OfFile, within_limit, most_bytes}
use Rattle.lincheck.proofs.Read.{read_so}
use Rattle.lincheck.proofs.Truncated.{fault_of_whole, reading_of_whole, refusal_of_whole}

-- what completes the beginning completes the file
made_of_whole : (file text : List ℕ) (D : Development) → IsMade (within_limit file) text D → IsMade file text D
made_of_whole file text D made = record {
  spelled = made.spelled;
  forms = made.forms;
  completes = record {
    trees = made.completes.trees;
    plan = made.completes.plan;
    read = reading_of_whole most_bytes file made.completes.trees refl made.completes.read;
    text_is = made.completes.text_is;
    says = made.completes.says;
  };
  read = made.read;
  marks = made.marks;
  text_is = made.text_is;
}

-- and what refuses it refuses the file
short_of_whole : (file : List ℕ) (r : Refusal) → IsShortRefusal (within_limit file) r → IsShortRefusal file r
short_of_whole file r (inl (offset, is, fault)) = inl (offset, is, fault_of_whole most_bytes file offset refl fault)
short_of_whole file r (inr (p, first, (ts, q, reads, refused, is))) =
    inr (p, refusal_of_whole file_reading file p first, (ts, q, reading_of_whole most_bytes file ts refl reads, refused, is))

refused_of_whole : (file : List ℕ) (r : Refusal) → IsRefused (within_limit file) r → IsRefused file r
refused_of_whole file r (inl is) = inl (short_of_whole file r is)
refused_of_whole file r (inr (forms, reads, is)) = inr (forms, reading_of_whole most_bytes file forms refl reads, is)

-- what is told of what was made answers the file
pub made_answered : (known : Option (List ℕ)) (bytes text : List ℕ) (status : ℕ) (made : Made) → OfFile known (λ file. bytes ≡ within_limit file) → IsAnswer bytes (Ok made)
    → TellsMade (development_view made.development) made.text.items text status → OfFile known (λ file. AnswersComplete file text status)
made_answered known bytes text status made read is told =
    read_so known read (λ file read. inr (
      development_view made.development,
      made.text.items,
      made_of_whole file made.text.items (development_view made.development) (subst (λ b. IsMade b made.text.items (development_view made.development)) read is),
      told,
    ))

-- and so does what is told of a refusal
pub refused_answered : (known : Option (List ℕ)) (bytes text : List ℕ) (status : ℕ) (fault : Fault) → OfFile known (λ file. bytes ≡ within_limit file) → IsAnswer bytes (Err fault)
    → ToldFault fault text status → OfFile known (λ file. AnswersComplete file text status)
refused_answered known bytes text status (Refused r) read is told =
    read_so known read (λ file read. inl (r, refused_of_whole file r (subst (λ b. IsRefused b r) read is), told))
refused_answered known bytes text status OutOfMemory read is told = absurd told
