-- A bare step depends on the object's columns alone; an instrumented run stands over a bare one.
use Rattle.std.proofs.Common.{◌≡◌, ℕ, ◌+◌, ◌-◌, ◌<◌, ◌≤◌, ◌&&◌, ◌==◌, if◌then◌else◌, nat_lt, true, List, [], ◌∷◌, ℤ, Option, Some, None, length, refl, sym, ap, ap₂, ◌∙◌, subst, inl, inr, arith, ltb-true}
use Rattle.std.specs.Prelude.{slice_get, slice_set, nat_le, IsTrue}
use Rattle.std.specs.List.{list_all}
use Rattle.std.proofs.lemmas.Bool.Decides.{nat_tests}
use Rattle.lc_lemmas.proofs.Booleans.{left_true, right_true}
use Rattle.lc_lemmas.proofs.Lists.{at_all}
use Rattle.lc_term.specs.Updates.{variable, row, assigned}
use Rattle.lc_term.specs.Syntax.{Term, Formula}
use Rattle.lc_term.specs.Meaning.{State, outside, stored, Holds}
use Rattle.lc_term.specs.State.{with_cell}
use Rattle.lc_term.specs.Places.{known}
use Rattle.lc_term.proofs.Agree.{value-agree, Holds-agree}
use Rattle.lc_object.specs.Syntax.{Instr, Load, Store, Cas, Set, Faa, If, Return, Array, Object}
use Rattle.lc_object.specs.Syntax as O
use Rattle.lc_object.specs.Edges.{array_columns, columns_in}
use Rattle.lc_object.specs.WellFormed.{is_object, is_array, is_instruction, variable_count, is_code_term, are_code_terms, is_code_formula}
use Rattle.lc_object.specs.declared.instr.EdgeKind.{EdgeKind}
use Rattle.lc_machine.specs.World.{Client, Idle, In, World}
use Rattle.lc_machine.specs.Step.{number, numbers, with_row, Does, Outcome, Goes, Answers, Event, Invoked, Moved, Returned, IsClient, IsRunning, Steps, after, sums}
use Rattle.lc_machine.proofs.Known.{known_term, known_formula}
use Rattle.lc_machine.proofs.ArrayColumns.{arrays_pass}
use Rattle.lc_term.specs.Lists.{Every}
use Rattle.lc_machine.proofs.Bodies.{point_is_placed}

-- a column of the object
abbrev pub IsOwn : Object → ℕ → Type 0
IsOwn object c = (length object.abstracts ≤ c) × (c < length object.abstracts + length object.concretes)

-- two states that agree there
abbrev pub Agree : Object → State → State → Type 0
Agree object s t = (c : ℕ) → IsOwn object c → s c ≡ t c

own_columns : (first count : ℕ) (cs : List ℕ) → list_all (λ c. nat_le first c && nat_lt (c - first) count) cs ≡ true → Every (λ c. (first ≤ c) × (c < first + count)) cs
own_columns first count [] e = tt
own_columns first count (c ∷ cs) e =
    let here = left_true (nat_le first c && nat_lt (c - first) count) (list_all (λ c. nat_le first c && nat_lt (c - first) count) cs) e in
    let low = left_true (nat_le first c) (nat_lt (c - first) count) here in
    let high = right_true (nat_le first c) (nat_lt (c - first) count) here in
    ((grind (arith, nat_tests), grind (arith, nat_tests)), own_columns first count cs (right_true (nat_le first c && nat_lt (c - first) count) _ e))

pub array_own : (object : Object) → is_object object ≡ true → (a : ℕ) → Every (IsOwn object) (array_columns object a)
array_own object well a = by (slice_get object.arrays a) refl
  where
    by : (found : Option Array) → slice_get object.arrays a ≡ found → Every (IsOwn object) (columns_in found)
    by None e = tt
    by (Some array) e = own_columns (length object.abstracts) (length object.concretes) array.columns (right_true _ _ (at_all (is_array object) object.arrays a array (arrays_pass object well) e))

cell_agree : (s t : State) (c d : ℕ) (i v : ℤ) → s d ≡ t d → with_cell s c i v d ≡ with_cell t c i v d
cell_agree s t c d i v e = λ k. if c == d then stored (e k) i v else e k

row_agree : (s t : State) (cs : List ℕ) (i : ℤ) (ns : List ℤ) (d : ℕ) → s d ≡ t d → with_row s cs i ns d ≡ with_row t cs i ns d
row_agree s t [] i ns d e = e
row_agree s t (c ∷ cs) i [] d e = e
row_agree s t (c ∷ cs) i (x ∷ ns) d e = row_agree (with_cell s c i x) (with_cell t c i x) cs i ns d (cell_agree s t c d i x e)

module _ (object : Object) (well : is_object object ≡ true) (s t : State) (agree : Agree object s t) (op : ℕ) (o : O.Operation) (vs : List ℤ) where
  n : ℕ
  n = variable_count o

  no_column : (c : ℕ) → IsTrue ((known 0 (variable_count o)).columns c) → s c ≡ t c
  no_column c h = absurd (let lt = ltb-true c 0 h in omega arith)

  number_same : (x : Term) → is_code_term (variable_count o) x ≡ true → number s vs x ≡ number t vs x
  number_same x h = value-agree (known 0 (variable_count o)) s t (variable vs) (variable vs) no_column (λ k e. refl) outside x (known_term 0 (variable_count o) x h)

  numbers_same : (xs : List Term) → are_code_terms (variable_count o) xs ≡ true → numbers s vs xs ≡ numbers t vs xs
  numbers_same [] h = refl
  numbers_same (x ∷ xs) h = ap₂ (λ y ys. y ∷ ys) (number_same x (left_true _ (list_all (is_code_term (variable_count o)) xs) h)) (numbers_same xs (right_true (is_code_term (variable_count o) x) _ h))

  holds_same : (f : Formula) → is_code_formula (variable_count o) f ≡ true → Holds s (variable vs) outside f ≡ Holds t (variable vs) outside f
  holds_same f h = Holds-agree (known 0 (variable_count o)) s t (variable vs) (variable vs) no_column (λ k e. refl) outside 0 f (known_formula 0 (variable_count o) f h)

  row_same : (cs : List ℕ) (i : ℤ) → Every (IsOwn object) cs → row s cs i ≡ row t cs i
  row_same [] i h = refl
  row_same (c ∷ cs) i h = ap₂ (λ y ys. y ∷ ys) (λ k. agree c h.0 k i) (row_same cs i h.1)

  -- the row of an array at the number of a term
  read_same : (a : ℕ) (x : Term) → is_code_term (variable_count o) x ≡ true → row s (array_columns object a) (number s vs x) ≡ row t (array_columns object a) (number t vs x)
  read_same a x h = ap (row s (array_columns object a)) (number_same x h) ∙ row_same (array_columns object a) (number t vs x) (array_own object well a)

  put_same : (a : ℕ) (x : Term) (us : List Term) → is_code_term (variable_count o) x ≡ true → are_code_terms (variable_count o) us ≡ true →
      Agree object (with_row s (array_columns object a) (number s vs x) (numbers s vs us)) (with_row t (array_columns object a) (number t vs x) (numbers t vs us))
  put_same a x us h k c own =
      (λ i. with_row s (array_columns object a) (number_same x h i) (numbers_same us k i) c) ∙ row_agree s t (array_columns object a) (number t vs x) (numbers t vs us) c (agree c own)

  add_same : (a : ℕ) (x : Term) (ds : List Term) → is_code_term (variable_count o) x ≡ true → are_code_terms (variable_count o) ds ≡ true →
      Agree object (with_row s (array_columns object a) (number s vs x) (sums (row s (array_columns object a) (number s vs x)) (numbers s vs ds)))
      (with_row t (array_columns object a) (number t vs x) (sums (row t (array_columns object a) (number t vs x)) (numbers t vs ds)))
  add_same a x ds h k c own =
      (λ i. with_row s (array_columns object a) (number_same x h i) (sums (read_same a x h i) (numbers_same ds k i)) c)
      ∙ row_agree s t (array_columns object a) (number t vs x) (sums (row t (array_columns object a) (number t vs x)) (numbers t vs ds)) c (agree c own)

  pub does_over : (i : Instr) (k : EdgeKind) (s' : State) (out : Outcome) → is_instruction object op o i ≡ true → Does object s vs i k s' out → (t' : State) × Does object t vs i k t' out × Agree object s' t'
  does_over (Load a x rs l) k s' out h (ke, e, is) =
      (t, (ke, refl, is ∙ ap (λ ns. Goes l (assigned vs rs ns)) (read_same a x (right_true _ _ (left_true _ _ (left_true _ _ h))))), λ c own. (λ j. e j c) ∙ agree c own)
  does_over (Store a x us l) k s' out h (ke, e, is) =
      (_, (ke, refl, is), λ c own. (λ j. e j c) ∙ put_same a x us (right_true _ _ (left_true _ _ (left_true _ _ h))) (right_true _ _ (left_true _ _ h)) c own)
  does_over (Cas a x old new l m) k s' out h (inl (same, ke, e, is)) =
      let h5 = left_true _ _ (left_true _ _ h) in
      let x-code = right_true _ _ (left_true _ _ (left_true _ _ h5)) in
      let old-code = right_true _ _ (left_true _ _ h5) in
      let new-code = right_true _ _ h5 in
      (_, inl (sym (read_same a x x-code) ∙ (same ∙ numbers_same old old-code), ke, refl, is), λ c own. (λ j. e j c) ∙ put_same a x new x-code new-code c own)
  does_over (Cas a x old new l m) k s' out h (inr (differs, ke, e, is)) =
      let h5 = left_true _ _ (left_true _ _ h) in
      let x-code = right_true _ _ (left_true _ _ (left_true _ _ h5)) in
      let old-code = right_true _ _ (left_true _ _ h5) in
      (t, inr ((λ same. differs (read_same a x x-code ∙ (same ∙ sym (numbers_same old old-code)))), ke, refl, is), λ c own. (λ j. e j c) ∙ agree c own)
  does_over (Set rs us l) k s' out h (ke, e, is) =
      (t, (ke, refl, is ∙ ap (λ ns. Goes l (assigned vs rs ns)) (numbers_same us (right_true _ _ (left_true _ _ h)))), λ c own. (λ j. e j c) ∙ agree c own)
  does_over (Faa a x rs ds l) k s' out h (ke, e, is) =
      let x-code = right_true _ _ (left_true _ _ (left_true _ _ (left_true _ _ h))) in
      let ds-code = right_true _ _ (left_true _ _ h) in
      (_, (ke, refl, is ∙ ap (λ ns. Goes l (assigned vs rs ns)) (read_same a x x-code)), λ c own. (λ j. e j c) ∙ add_same a x ds x-code ds-code c own)
  does_over (If f l m) k s' out h (inl (holds, ke, e, is)) =
      (t, inl (subst (λ X. X) (holds_same f (left_true _ _ (left_true _ _ h))) holds, ke, refl, is), λ c own. (λ j. e j c) ∙ agree c own)
  does_over (If f l m) k s' out h (inr (fails, ke, e, is)) =
      (t, inr ((λ x. fails (subst (λ X. X) (sym (holds_same f (left_true _ _ (left_true _ _ h)))) x)), ke, refl, is), λ c own. (λ j. e j c) ∙ agree c own)
  does_over (Return us) k s' out h (ke, e, is) =
      (t, (ke, refl, is ∙ ap Answers (numbers_same us (right_true _ _ h))), λ c own. (λ j. e j c) ∙ agree c own)

-- the same for a whole step: it can also be taken over another world with the same clients
pub record IsStepOver (object : Object) (b : World) (c : ℕ) (what : Event) (w' : World) : Type 0 where
  pub to : World
  pub steps : Steps object b c what to
  pub clients : w'.clients ≡ to.clients
  pub columns : Agree object w'.columns to.columns

module _ (object : Object) (well : is_object object ≡ true) (w b : World) (clients : w.clients ≡ b.clients) (agree : Agree object w.columns b.columns) (c : ℕ) where
  there : (x : Client) → IsClient w c x → IsClient b c x
  there x h = ap (λ cs. slice_get cs c) (sym clients) ∙ h

  run_there : (p : ℕ) (vs : List ℤ) (i : Instr) → IsRunning object w c p vs i → IsRunning object b c p vs i
  run_there p vs i r = record { client = there (In p vs) r.client; code = r.code }

  gone : (p : ℕ) (vs : List ℤ) (i : Instr) (k : EdgeKind) (s : State) (out : Outcome) → IsRunning object w c p vs i → Does object w.columns vs i k s out → (t : State) × Does object b.columns vs i k t out × Agree object s t
  gone p vs i k s out r done =
      let pl = point_is_placed object well p r.code.0 r.code.1 in
      does_over object well w.columns b.columns agree (r.code.0).operation pl.operation vs i k s out (subst (λ j. is_instruction object (r.code.0).operation pl.operation j ≡ true) r.code.2 pl.instruction) done

  same_after : (s t : State) (x : Client) (w' : World) → w' ≡ after w s c x → w'.clients ≡ (after b t c x).clients
  same_after s t x w' e = ap (λ (y : World). y.clients) e ∙ ap (λ cs. slice_set cs c x) clients

  pub step_over : (what : Event) (w' : World) → Steps object w c what w' → IsStepOver object b c what w'
  step_over (Invoked o ns) w' (x, is, whole, idle, e) = record {
    to = after b b.columns c (In x.entry (Rattle.lc_machine.specs.World.first_variables (length b.clients) c x ns));
    steps = (x, is, whole, there Idle idle, refl);
    clients = ap (λ (y : World). y.clients) e ∙ (λ i. slice_set (clients i) c (In x.entry (Rattle.lc_machine.specs.World.first_variables (length (clients i)) c x ns)));
    columns = λ d own. (λ i. (e i).columns d) ∙ agree d own;
  }
  step_over (Moved p k) w' (vs, i, r, s, next, new, done, e) =
      let g = gone p vs i k s (Goes next new) r done in
      record {
        to = after b g.0 c (In next new);
        steps = (vs, i, run_there p vs i r, g.0, next, new, g.1, refl);
        clients = same_after s g.0 (In next new) w' e;
        columns = λ d own. (λ i. (e i).columns d) ∙ g.2 d own;
      }
  step_over (Returned ns) w' (p, vs, i, r, k, s, done, e) =
      let g = gone p vs i k s (Answers ns) r done in
      record {
        to = after b g.0 c Idle;
        steps = (p, vs, i, run_there p vs i r, k, g.0, g.1, refl);
        clients = same_after s g.0 Idle w' e;
        columns = λ d own. (λ i. (e i).columns d) ∙ g.2 d own;
      }
