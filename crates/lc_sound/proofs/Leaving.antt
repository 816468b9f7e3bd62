-- Riders leave the object's columns as they are; and what is known of the edge of a return.
use Rattle.std.proofs.Common.{◌≡◌, ℕ, ◌+◌, ◌<◌, ◌≤◌, true, List, [], ◌∷◌, ◌++◌, Option, Some, None, length, refl, sym, ap, ap₂, ◌∙◌, subst, inl, inr, arith, ltb-true}
use Rattle.std.specs.List.{list_all}
use Rattle.std.proofs.lemmas.Bool.{eqb-true}
use Rattle.lc_lemmas.proofs.Booleans.{left_true, right_true}
use Rattle.lc_term.specs.Updates.{Write, write_of, values_of}
use Rattle.lc_term.specs.Syntax.{Term, Formula}
use Rattle.lc_term.specs.Meaning.{State, Env, outside}
use Rattle.lc_term.specs.Places.{known}
use Rattle.lc_term.proofs.Agree.{value-agree}
use Rattle.lc_seq.specs.Sequential.{Choice, given_in}
use Rattle.lc_seq.specs.Specification.{chosen}
use Rattle.lc_seq.specs.TextStep.{call_env}
use Rattle.lc_object.specs.Syntax.{Instr, Load, Store, Cas, Set, Faa, If, Return, Operation, Object}
use Rattle.lc_object.specs.Edges.{Edge, edges_at}
use Rattle.lc_object.specs.WellFormed.{is_instruction, variable_count, is_code_term, are_code_terms}
use Rattle.lc_machine.specs.EdgeSteps.{IsIn}
use Rattle.lc_machine.proofs.Known.{known_term}
use Rattle.lc_term.specs.Lists.{Every}
use Rattle.lc_seq.specs.Branches.{op_branches, arity, op_replies}
use Rattle.lc_rider.specs.Rider.{Mark, Own, Other, Note, Deed, Assign, Marks, Rider, arguments_in, choice_at, IsSettled, IsDone, IsDoneWhere, RideAll, mark_writes, note_writes}
use Rattle.lc_outline.specs.Development.{Development, first_system}
use Rattle.lc_sound.specs.Instrumented.{IsConcrete}
use Rattle.lc_outline.specs.Resolved.{IsResolved, IsRiderResolved, IsDeedResolved}
use Rattle.lc_term.proofs.Stores.{Every-append, Every-map, writes_other}
use Rattle.lc_seq.proofs.Abstract.{run_is}
use Rattle.lc_outline.proofs.Matched.{branches_resolved, replies_resolved}
use Rattle.lc_sound.proofs.RowChanges.{mark_behind, note_behind}

pub behind_other : (first k : ℕ) (ws : List Write) → k < first → Every (λ (w : Write). first ≤ w.column) ws → Every (λ (w : Write). w.column ≡ k → ⊥) ws
behind_other first k [] lt h = tt
behind_other first k (w ∷ ws) lt h = ((λ e. let le = h.0 in omega arith), behind_other first k ws lt h.1)

module _ (D : Development) (R : IsResolved D) (k : ℕ) (own : IsConcrete D k) where
  leaves_settled : (m m' : State) (c o : ℕ) (choice : Choice) (ms : List Mark) → IsSettled D.specification.operations (first_system D) m c o choice ms m' → m' k ≡ m k
  leaves_settled m m' c o choice ms (ws, reply, one, is, ms-is, m-is) =
      (λ i. m-is i k) ∙ writes_other m (ws ++ mark_writes (first_system D) c reply) k
      (Every-append (λ (w : Write). w.column ≡ k → ⊥) ws (mark_writes (first_system D) c reply)
      (Every-map (λ (w : Write). w.column < length D.specification.columns) (λ (w : Write). w.column ≡ k → ⊥) ws (λ w lt e. let a = own.0 in omega arith)
      (run_is (length D.specification.columns) (2 + arity D.specification.operations o + length (given_in choice)) (op_replies D.specification.operations o) m (call_env c (arguments_in D.specification.operations (first_system D) m c o ++ given_in choice)) (chosen choice (op_branches D.specification.operations o)) ws reply
      (branches_resolved D R o choice) (replies_resolved D R o choice) is).columns)
      (behind_other (first_system D) k (mark_writes (first_system D) c reply) (let b = own.1 in omega arith) (mark_behind (first_system D) c reply)))

  leaves_done : (self o : ℕ) (e : Env) (m m' : State) (d : Deed) (ms : List Mark) → IsDeedResolved D o d → IsDone D.specification.operations (first_system D) self o e m d ms m' → m' k ≡ m k
  leaves_done self o e m m' (Assign u) ms h (none, is) = (λ i. is i k) ∙ writes_other m (write_of m e u ∷ []) k ((λ x. let a = h.0 in let b = own.1 in omega arith), tt)
  leaves_done self o e m m' (Marks Own by) ms h d = leaves_settled m m' self o (choice_at m e by) ms d
  leaves_done self o e m m' (Marks (Other t p) by) ms h (c, is, op, d) = leaves_settled m m' c p (choice_at m e by) ms d
  leaves_done self o e m m' (Marks Note by) ms h (reply, one, is, ms-is, m-is) =
      (λ i. m-is i k) ∙ writes_other m (note_writes (first_system D) self reply) k (behind_other (first_system D) k (note_writes (first_system D) self reply) (let b = own.1 in omega arith) (note_behind (first_system D) self reply))

  leaves_where : (self o : ℕ) (e : Env) (m m' : State) (c : Option Formula) (d : Deed) (ms : List Mark) → IsDeedResolved D o d → IsDoneWhere D.specification.operations (first_system D) c self o e m d ms m' → m' k ≡ m k
  leaves_where self o e m m' None d ms h t = leaves_done self o e m m' d ms h t
  leaves_where self o e m m' (Some f) d ms h (inl t) = leaves_done self o e m m' d ms h t.1
  leaves_where self o e m m' (Some f) d ms h (inr t) = λ i. t.2 i k

  pub rides_leave : (self o : ℕ) (e : Env) (rs : List Rider) (m m' : State) (ms : List Mark) → Every (IsRiderResolved D o) rs → RideAll D.specification.operations (first_system D) self o e m rs ms m' → m' k ≡ m k
  rides_leave self o e [] m m' ms h t = λ i. t.1 i k
  rides_leave self o e (r ∷ rs) m m' ms h (mid, now, later, ride, rest, is) =
      rides_leave self o e rs mid m' later h.1 rest ∙ leaves_where self o e m mid r.condition r.deed now h.0.1 ride

-- the edge of a return
pub record IsReturn (o : Operation) (e : Edge) : Type 0 where
  pub targets : e.targets ≡ []
  pub code : are_code_terms (variable_count o) e.replies ≡ true
  pub count : length e.replies ≡ o.replies

is_return : (o : Operation) (e x : Edge) → e ≡ x → IsReturn o x → IsReturn o e
is_return o e x is r = subst (IsReturn o) (sym is) r

no_return : (o : Operation) (e x : Edge) (l : ℕ) → e ≡ x → x.next ≡ Some l → e.next ≡ None → IsReturn o e
no_return o e x l is h n = absurd (cc (ap (λ (y : Edge). y.next) is, h, n))

pub return_edge : (object : Object) (p op : ℕ) (o : Operation) (i : Instr) (e : Edge) → is_instruction object op o i ≡ true → IsIn e (edges_at object p i) → e.next ≡ None → IsReturn o e
return_edge object p op o (Load a t rs l) e h (inl is) n = no_return o e _ l is refl n
return_edge object p op o (Load a t rs l) e h (inr none) n = absurd none
return_edge object p op o (Store a t us l) e h (inl is) n = no_return o e _ l is refl n
return_edge object p op o (Store a t us l) e h (inr none) n = absurd none
return_edge object p op o (Cas a t old new l m) e h (inl is) n = no_return o e _ l is refl n
return_edge object p op o (Cas a t old new l m) e h (inr (inl is)) n = no_return o e _ m is refl n
return_edge object p op o (Cas a t old new l m) e h (inr (inr none)) n = absurd none
return_edge object p op o (Set rs us l) e h (inl is) n = no_return o e _ l is refl n
return_edge object p op o (Set rs us l) e h (inr none) n = absurd none
return_edge object p op o (Faa a t rs ds l) e h (inl is) n = no_return o e _ l is refl n
return_edge object p op o (Faa a t rs ds l) e h (inr none) n = absurd none
return_edge object p op o (If f l m) e h (inl is) n = no_return o e _ l is refl n
return_edge object p op o (If f l m) e h (inr (inl is)) n = no_return o e _ m is refl n
return_edge object p op o (If f l m) e h (inr (inr none)) n = absurd none
return_edge object p op o (Return us) e h (inl is) n = is_return o e _ is (record { targets = refl; code = right_true _ _ h; count = eqb-true (length us) o.replies (left_true _ _ h) })
return_edge object p op o (Return us) e h (inr none) n = absurd none

-- the numbers of code do not depend on the columns
pub code_values : (s t : State) (v : Env) (n : ℕ) (ts : List Term) → are_code_terms n ts ≡ true → values_of s v ts ≡ values_of t v ts
code_values s t v n [] h = refl
code_values s t v n (x ∷ ts) h =
    ap₂ (λ y ys. y ∷ ys)
    (value-agree (known 0 n) s t v v (λ c k. absurd (let lt = ltb-true c 0 k in omega arith)) (λ j k. refl) outside x (known_term 0 n x (left_true _ (list_all (is_code_term n) ts) h)))
    (code_values s t v n ts (right_true (is_code_term n x) _ h))
