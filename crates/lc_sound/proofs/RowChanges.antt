-- What an invocation, a mark, a note and a return make of the rows.
use Rattle.std.proofs.Common.{◌≡◌, ℕ, suc, ◌+◌, ◌<◌, ◌≤◌, List, [], ◌∷◌, ◌++◌, ℤ, pos, length, take, refl, sym, ap, ◌∙◌, arith}
use Rattle.std.proofs.lemmas.Int.{ints}
use Rattle.lc_base.specs.Limits.{argument_limit, reply_limit}
use Rattle.lc_term.specs.Updates.{Write, stored_all, row, cell_writes}
use Rattle.lc_term.specs.Meaning.{State}
use Rattle.lc_seq.specs.Sequential.{Call}
use Rattle.lc_seq.specs.Specification.{Operation}
use Rattle.lc_term.specs.Lists.{Every}
use Rattle.lc_seq.specs.Branches.{arity, op_replies}
use Rattle.lc_term.specs.SystemColumns.{pend, op_column, arg_columns, rep_columns, noted, note_columns}
use Rattle.lc_rider.specs.Rider.{argument, invocation_writes, mark_writes, note_writes, return_writes}
use Rattle.lc_sound.specs.Lawful.{Free, Waiting, Noted, Done}
use Rattle.lc_term.proofs.Stores.{Every-append, stored-append, writes_other, writes_away, cell_columns, cell_indexes, first_back, read_back, Distinct}
use Rattle.lc_sound.proofs.Rows.{row_of, row_same, IsOfCall, Matches}
use Rattle.lc_outline.proofs.Matched.{padded_back}

-- ---- elsewhere

-- these writes are at one client
abbrev pub AreAt : ℕ → List Write → Type 0
AreAt c ws = Every (λ (w : Write). w.index ≡ pos c) ws

-- these writes are to the first n columns
abbrev pub AreFirst : ℕ → List Write → Type 0
AreFirst n ws = Every (λ (w : Write). w.column < n) ws

not_there : (c d : ℕ) (ws : List Write) → (d ≡ c → ⊥) → AreAt c ws → Every (λ (w : Write). w.index ≡ pos d → ⊥) ws
not_there c d [] ne h = tt
not_there c d (w ∷ ws) ne h = ((λ e. ne (omega (arith, ints, h.0, e))), not_there c d ws ne h.1)

-- the rows of the others are as before
pub rows_away : (first : ℕ) (s : State) (c d : ℕ) (ws : List Write) → (d ≡ c → ⊥) → AreAt c ws → row_of first (stored_all s ws) d ≡ row_of first s d
rows_away first s c d ws ne h = row_same first (stored_all s ws) s d (λ k le. writes_away s ws k (pos d) (not_there c d ws ne h))

pub not_first : (n k : ℕ) (ws : List Write) → n ≤ k → AreFirst n ws → Every (λ (w : Write). w.column ≡ k → ⊥) ws
not_first n k [] le h = tt
not_first n k (w ∷ ws) le h = ((λ e. let lt = h.0 in omega arith), not_first n k ws le h.1)

-- writes to the specification's columns leave each row
pub rows_kept : (n first : ℕ) (s : State) (d : ℕ) (ws : List Write) → n ≤ first → AreFirst n ws → row_of first (stored_all s ws) d ≡ row_of first s d
rows_kept n first s d ws le h = row_same first (stored_all s ws) s d (λ k at. λ i. writes_other s ws k (not_first n k ws (omega arith) h) i (pos d))

-- and system columns leave the specification's
pub specification_kept : (n first : ℕ) (s : State) (ws : List Write) → n ≤ first → Every (λ (w : Write). first ≤ w.column) ws → (c : ℕ) → c < n → stored_all s ws c ≡ s c
specification_kept n first s ws le h c lt = writes_other s ws c (go ws h)
  where
    go : (ws : List Write) → Every (λ (w : Write). first ≤ w.column) ws → Every (λ (w : Write). w.column ≡ c → ⊥) ws
    go [] h = tt
    go (w ∷ ws) h = ((λ e. let l = h.0 in omega arith), go ws h.1)

module _ (first : ℕ) (c : ℕ) where
  pub invocation_at : (o : ℕ) (numbers : List ℤ) → AreAt c (invocation_writes first c o numbers)
  invocation_at o numbers = cell_indexes (λ i. i ≡ pos c) (pend first ∷ op_column first ∷ arg_columns first ++ noted first ∷ []) (pos c) (pos 1 ∷ pos o ∷ argument numbers 0 ∷ argument numbers 1 ∷ argument numbers 2 ∷ pos 0 ∷ []) refl

  pub mark_at : (reply : List ℤ) → AreAt c (mark_writes first c reply)
  mark_at reply = Every-append (λ (w : Write). w.index ≡ pos c) (cell_writes (rep_columns first) (pos c) reply) _ (cell_indexes (λ i. i ≡ pos c) (rep_columns first) (pos c) reply refl) (refl, tt)

  pub note_at : (reply : List ℤ) → AreAt c (note_writes first c reply)
  note_at reply = cell_indexes (λ i. i ≡ pos c) (noted first ∷ note_columns first) (pos c) (pos 1 ∷ reply) refl

  pub invocation_behind : (o : ℕ) (numbers : List ℤ) → Every (λ (w : Write). first ≤ w.column) (invocation_writes first c o numbers)
  invocation_behind o numbers =
      cell_columns (λ k. first ≤ k) (pend first ∷ op_column first ∷ arg_columns first ++ noted first ∷ []) (pos c) (pos 1 ∷ pos o ∷ argument numbers 0 ∷ argument numbers 1 ∷ argument numbers 2 ∷ pos 0 ∷ [])
      (omega arith, (omega arith, (omega arith, (omega arith, (omega arith, (omega arith, tt))))))

  pub mark_behind : (reply : List ℤ) → Every (λ (w : Write). first ≤ w.column) (mark_writes first c reply)
  mark_behind reply =
      Every-append (λ (w : Write). first ≤ w.column) (cell_writes (rep_columns first) (pos c) reply) _
      (cell_columns (λ k. first ≤ k) (rep_columns first) (pos c) reply (omega arith, (omega arith, (omega arith, tt)))) (omega arith, tt)

  pub note_behind : (reply : List ℤ) → Every (λ (w : Write). first ≤ w.column) (note_writes first c reply)
  note_behind reply = cell_columns (λ k. first ≤ k) (noted first ∷ note_columns first) (pos c) (pos 1 ∷ reply) (omega arith, (omega arith, (omega arith, (omega arith, tt))))

-- ---- the client's own

module _ (operations : List Operation) (first : ℕ) (s : State) (c : ℕ) where
  pub six_apart : Distinct (pend first ∷ op_column first ∷ arg_columns first ++ noted first ∷ [])
  six_apart = (
    ((λ e. omega arith), ((λ e. omega arith), ((λ e. omega arith), ((λ e. omega arith), ((λ e. omega arith), tt))))),
    (
      ((λ e. omega arith), ((λ e. omega arith), ((λ e. omega arith), ((λ e. omega arith), tt)))),
      (((λ e. omega arith), ((λ e. omega arith), ((λ e. omega arith), tt))), (((λ e. omega arith), ((λ e. omega arith), tt)), (((λ e. omega arith), tt), (tt, tt)))),
    ),
  )

  three_apart : (k : ℕ) → Distinct ((k + first) ∷ (suc k + first) ∷ (suc (suc k) + first) ∷ [])
  three_apart k = (((λ e. omega arith), ((λ e. omega arith), tt)), (((λ e. omega arith), tt), (tt, tt)))

  pub invoked_row : (o : ℕ) (numbers : List ℤ) → length numbers ≡ arity operations o → arity operations o ≤ argument_limit →
      Matches operations (Waiting (record { op = o; numbers = numbers })) (row_of first (stored_all s (invocation_writes first c o numbers)) c)
  invoked_row o numbers whole le =
      let six = read_back s (pend first ∷ op_column first ∷ arg_columns first ++ noted first ∷ []) (pos c) (pos 1 ∷ pos o ∷ argument numbers 0 ∷ argument numbers 1 ∷ argument numbers 2 ∷ pos 0 ∷ []) six_apart (omega arith) in
      let t : State = stored_all s (invocation_writes first c o numbers) in
      let one : t (pend first) (pos c) ≡ pos 1 = cc six in
      let op : t (op_column first) (pos c) ≡ pos o = cc six in
      let args : row t (arg_columns first) (pos c) ≡ argument numbers 0 ∷ argument numbers 1 ∷ argument numbers 2 ∷ [] = cc six in
      let no : t (noted first) (pos c) ≡ pos 0 = cc six in (
        one,
        record {
          op = op;
          arguments = ap (take (arity operations o)) args ∙ (ap (λ n. take n (argument numbers 0 ∷ argument numbers 1 ∷ argument numbers 2 ∷ [])) (sym whole) ∙ padded_back numbers (omega arith));
          whole = whole;
        },
        no,
      )

  -- replies, then `pend`
  pub marked_row : (call : Call) (reply : List ℤ) → length reply ≡ op_replies operations call.op → op_replies operations call.op ≤ reply_limit →
      Matches operations (Done call reply) (row_of first (stored_all s (mark_writes first c reply)) c)
  marked_row call reply whole le =
      let a : State = stored_all s (cell_writes (rep_columns first) (pos c) reply) in
      let split = stored-append s (cell_writes (rep_columns first) (pos c) reply) (cell_writes (pend first ∷ []) (pos c) (pos 2 ∷ [])) in
      let same : (k : ℕ) → first < k → stored_all s (mark_writes first c reply) k (pos c) ≡ a k (pos c) =
      λ k lt. (λ i. split i k (pos c)) ∙ (λ i. writes_other a (cell_writes (pend first ∷ []) (pos c) (pos 2 ∷ [])) k ((λ e. omega arith), tt) i (pos c)) in
      let cells : row (stored_all s (mark_writes first c reply)) (rep_columns first) (pos c) ≡ row a (rep_columns first) (pos c) =
      λ i. same (5 + first) (omega arith) i ∷ same (6 + first) (omega arith) i ∷ same (7 + first) (omega arith) i ∷ [] in (
        (λ i. split i (pend first) (pos c)) ∙ first_back a (pend first) [] (pos c) (pos 2) [] tt,
        record { cells_are = ap (take (length reply)) cells ∙ read_back s (rep_columns first) (pos c) reply (three_apart 5) (omega arith); whole = whole },
      )

  pub noted_row : (call : Call) (reply : List ℤ) → s (pend first) (pos c) ≡ pos 1 → IsOfCall operations call (row_of first s c) → length reply ≡ op_replies operations call.op → op_replies operations call.op ≤ reply_limit →
      Matches operations (Noted call reply) (row_of first (stored_all s (note_writes first c reply)) c)
  noted_row call reply one of whole le =
      let t : State = stored_all s (note_writes first c reply) in
      let u : State = stored_all s (cell_writes (noted first ∷ []) (pos c) (pos 1 ∷ [])) in
      let kept : (k : ℕ) → k < 8 + first → t k (pos c) ≡ s k (pos c) = λ k lt. (λ i. writes_other s (note_writes first c reply) k
      (cell_columns (λ j. j ≡ k → ⊥) (noted first ∷ note_columns first) (pos c) (pos 1 ∷ reply) ((λ e. omega arith), ((λ e. omega arith), ((λ e. omega arith), ((λ e. omega arith), tt))))) i (pos c)) in
      let args : row t (arg_columns first) (pos c) ≡ row s (arg_columns first) (pos c) = λ i. kept (2 + first) (omega arith) i ∷ kept (3 + first) (omega arith) i ∷ kept (4 + first) (omega arith) i ∷ [] in (
        kept (pend first) (omega arith) ∙ one,
        record { op = kept (op_column first) (omega arith) ∙ of.op; arguments = ap (take (arity operations call.op)) args ∙ of.arguments; whole = of.whole },
        record { cells_are = read_back u (note_columns first) (pos c) reply (three_apart 9) (omega arith); whole = whole },
      )

  pub free_row : Matches operations Free (row_of first (stored_all s (return_writes first c)) c)
  free_row = first_back s (pend first) [] (pos c) (pos 0) [] tt
