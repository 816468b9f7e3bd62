-- What a client's cells of the system columns say of its call.
use Rattle.std.proofs.Common.{◌≡◌, ℕ, ◌+◌, ◌≤◌, Bool, true, false, ◌==◌, cond, List, [], ◌∷◌, ℤ, pos, Some, length, take, refl, ap, sym, subst, ◌∙◌, inl, inr, arith}
use Rattle.lc_term.specs.Updates.{row}
use Rattle.lc_term.specs.Meaning.{State}
use Rattle.lc_seq.specs.Sequential.{Call}
use Rattle.lc_seq.specs.Specification.{Operation}
use Rattle.lc_history.specs.History.{Replied, Entry}
use Rattle.lc_seq.specs.Branches.{arity, op_replies}
use Rattle.lc_term.specs.SystemColumns.{pend, op_column, arg_columns, rep_columns, noted, note_columns}
use Rattle.lc_rider.specs.Rider.{IsJustified}
use Rattle.lc_sound.specs.Happening.{Happens, Marked, put}
use Rattle.lc_sound.specs.Lawful.{Phase, Free, Waiting, Noted, Done, Takes, returns_done, returns_noted, marks, marks_noted, notes, notes_again}
use Rattle.lc_sound.proofs.Kept.{call_in}

-- a client's cells of the system columns
pub record Row : Type 0 where
  pub pend : ℤ
  pub op : ℤ
  pub args : List ℤ
  pub reps : List ℤ
  pub noted : ℤ
  pub notes : List ℤ

abbrev pub row_of : ℕ → State → ℕ → Row
row_of first s c = record {
  pend = s (pend first) (pos c);
  op = s (op_column first) (pos c);
  args = row s (arg_columns first) (pos c);
  reps = row s (rep_columns first) (pos c);
  noted = s (noted first) (pos c);
  notes = row s (note_columns first) (pos c);
}

pub row_same : (first : ℕ) (t s : State) (d : ℕ) → ((k : ℕ) → first ≤ k → t k (pos d) ≡ s k (pos d)) → row_of first t d ≡ row_of first s d
row_same first t s d e = λ i. record {
  pend = e first (omega arith) i;
  op = e (1 + first) (omega arith) i;
  args = e (2 + first) (omega arith) i ∷ e (3 + first) (omega arith) i ∷ e (4 + first) (omega arith) i ∷ [];
  reps = e (5 + first) (omega arith) i ∷ e (6 + first) (omega arith) i ∷ e (7 + first) (omega arith) i ∷ [];
  noted = e (8 + first) (omega arith) i;
  notes = e (9 + first) (omega arith) i ∷ e (10 + first) (omega arith) i ∷ e (11 + first) (omega arith) i ∷ [];
}

pub record IsOfCall (operations : List Operation) (call : Call) (row : Row) : Type 0 where
  pub op : row.op ≡ pos call.op
  pub arguments : take (arity operations call.op) row.args ≡ call.numbers
  pub whole : length call.numbers ≡ arity operations call.op

-- these cells hold the reply
pub record Holds (operations : List Operation) (call : Call) (reply cells : List ℤ) : Type 0 where
  pub cells_are : take (length reply) cells ≡ reply
  pub whole : length reply ≡ op_replies operations call.op

abbrev pub Matches : List Operation → Phase → Row → Type 0
Matches operations Free row = row.pend ≡ pos 0
Matches operations (Waiting call) row = (row.pend ≡ pos 1) × IsOfCall operations call row × (row.noted ≡ pos 0)
Matches operations (Noted call reply) row = (row.pend ≡ pos 1) × IsOfCall operations call row × Holds operations call reply row.notes
Matches operations (Done call reply) row = (row.pend ≡ pos 2) × Holds operations call reply row.reps

pub same_reply : (operations : List Operation) (call : Call) (xs ys cells : List ℤ) → Holds operations call xs cells → take (length ys) cells ≡ ys → length ys ≡ op_replies operations call.op → xs ≡ ys
same_reply operations call xs ys cells holds is whole =
    sym holds.cells_are ∙ (ap (λ n. take n cells) (holds.whole ∙ sym whole) ∙ is)

-- a client with pend 1 is in a call
pub in_call : (operations : List Operation) (p : Phase) (row : Row) → Matches operations p row → row.pend ≡ pos 1 → (call : Call) × (call_in p ≡ Some call) × IsOfCall operations call row
in_call operations Free row m one = absurd (cc (m, one))
in_call operations (Waiting call) row m one = (call, refl, m.1)
in_call operations (Noted call reply) row m one = (call, refl, m.1)
in_call operations (Done call reply) row m one = absurd (cc (m.0, one))

pub takes_mark : (operations : List Operation) (p : Phase) (row : Row) (e : Entry) → Matches operations p row → row.pend ≡ pos 1 → call_in p ≡ Some e.call → Takes p (Marked false e) (Done e.call e.reply)
takes_mark operations Free row e m one is = absurd cc
takes_mark operations (Waiting call) row e m one is = let same : e.call ≡ call = cc in subst (λ k. Takes (Waiting k) (Marked false e) (Done e.call e.reply)) same marks
takes_mark operations (Noted call reply) row e m one is = let same : e.call ≡ call = cc in subst (λ k. Takes (Noted k reply) (Marked false e) (Done e.call e.reply)) same marks_noted
takes_mark operations (Done call reply) row e m one is = absurd (cc (m.0, one))

pub takes_note : (operations : List Operation) (p : Phase) (row : Row) (e : Entry) → Matches operations p row → row.pend ≡ pos 1 → call_in p ≡ Some e.call → Takes p (Marked true e) (Noted e.call e.reply)
takes_note operations Free row e m one is = absurd cc
takes_note operations (Waiting call) row e m one is = let same : e.call ≡ call = cc in subst (λ k. Takes (Waiting k) (Marked true e) (Noted e.call e.reply)) same notes
takes_note operations (Noted call reply) row e m one is = let same : e.call ≡ call = cc in subst (λ k. Takes (Noted k reply) (Marked true e) (Noted e.call e.reply)) same notes_again
takes_note operations (Done call reply) row e m one is = absurd (cc (m.0, one))

-- a justified return gives what was marked, or what was noted last
pub takes_return : (operations : List Operation) (first : ℕ) (s : State) (c : ℕ) (p : Phase) (numbers : List ℤ) (call : Call)
    → Matches operations p (row_of first s c) → IsJustified first s c numbers → call_in p ≡ Some call → length numbers ≡ op_replies operations call.op
    → Takes p (Happens (Replied c numbers)) Free
takes_return operations first s c Free numbers call m just is whole = absurd cc
takes_return operations first s c (Waiting k) numbers call m just is whole = elim just [ inl j ↦ absurd (cc (j.0, m.0)) | inr j ↦ absurd (cc (j.1, m.2)) ]
takes_return operations first s c (Noted k reply) numbers call m just is whole =
    let same : call ≡ k = cc in
    elim just [
      | inl j ↦ absurd (cc (j.0, m.0))
      | inr j ↦ subst (λ r. Takes (Noted k r) (Happens (Replied c numbers)) Free) (sym (same_reply operations k reply numbers (row s (note_columns first) (pos c)) m.2 j.2 (subst (λ (x : Call). length numbers ≡ op_replies operations x.op) same whole))) returns_noted
    ]
takes_return operations first s c (Done k reply) numbers call m just is whole =
    let same : call ≡ k = cc in
    elim just [
      | inl j ↦ subst (λ r. Takes (Done k r) (Happens (Replied c numbers)) Free) (sym (same_reply operations k reply numbers (row s (rep_columns first) (pos c)) m.1 j.1 (subst (λ (x : Call). length numbers ≡ op_replies operations x.op) same whole))) returns_done
      | inr j ↦ absurd (cc (j.0, m.0))
    ]
