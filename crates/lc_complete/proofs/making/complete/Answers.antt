use Rattle.std.proofs.Common.{ℕ, List, subst}
use Rattle.lc_sexp.specs.Reads.{ReadsAs}
use Rattle.lc_complete.proofs.Answering.{memory_answers, refused_answers, unplanned_answers}
use Rattle.lc_complete.proofs.making.complete.Goals as goal

pub returns-in_err-short : goal.returns-in_err-short
returns-in_err-short g c = λ bytes reads.
    refused_answers bytes _ c.from_residual.result (c.in_err-short.ensures bytes reads) c.from_residual.ensures.1

pub returns-in_err-completion : goal.returns-in_err-completion
returns-in_err-completion g c = λ bytes reads.
    unplanned_answers bytes c.args.forms.now _ c.from_residual-in_err-completion.result reads (c.in_err-completion.ensures bytes reads) c.from_residual-in_err-completion.ensures.1

pub returns-in_err-text : goal.returns-in_err-text
returns-in_err-text g c = λ bytes reads. memory_answers bytes c.from_residual-in_err-text.result c.from_residual-in_err-text.ensures.1

pub returns : goal.returns
returns g c = λ bytes reads.
    let (forms, marks, read, is) = c.in_ok-text.ensures in
    record {
      spelled = c.in_ok-completion.completion.text.items;
      forms = forms;
      completes = c.in_ok-completion.ensures bytes reads;
      read = subst (λ (s : List ℕ). ReadsAs s forms) c.deref.ensures.value read;
      marks = marks;
      text_is = is;
    }
