-- A step that is seen to be no instance of its action is none.
use Rattle.std.proofs.Common.{◌≡◌, inl, inr, ℕ, suc, ◌<◌, List, [], ◌∷◌, ◌++◌, ℤ, length, length-append, refl, sym, ap, ◌∙◌, subst, arith}
use Rattle.std.specs.Prelude.{Bool, Option, Some, None, Result, IfOk, slice_get}
use Rattle.std.proofs.lemmas.Option.{same_Some, slice_get_past}
use Rattle.lc_base.specs.declared.memory.OutOfMemory.{OutOfMemory}
use Rattle.lc_lemmas.proofs.Lists.{kept_left}
use Rattle.lc_term.specs.Lists.{Every}
use Rattle.lc_term.specs.Meaning.{State, outside, Holds}
use Rattle.lc_term.specs.SystemColumns.{column_count}
use Rattle.lc_term.specs.Updates.{Write, stored_all, writes_of, variable}
use Rattle.lc_look.specs.Looking.{look, Says, LooksAreRight}
use Rattle.lc_look.specs.declared.seen.Seen.{Seen}
use Rattle.lc_look.specs.declared.seen.Seen.TheVariants.{No}
use Rattle.lc_action.specs.Action.{Action, Acts, enter, leave}
use Rattle.lc_object.specs.declared.instr.EdgeKind.TheVariants.{Next}
use Rattle.lc_machine.specs.Step.{Event, Invoked, Moved, Returned}
use Rattle.lc_machine.specs.World.{World}
use Rattle.lc_outline.specs.Development.{Development, On, first_system, all_actions, on_at}
use Rattle.lc_sound.specs.Claims.{own, IsAction, IsEdgeAction}
use Rattle.lc_watch.specs.Watched.{Fails}
use Rattle.lc_acting.specs.Acting.{IsActing, IsAtReturn, IsOnEdge}
use Rattle.lc_acting.specs.Attempts.{IsOnly, SaysSo}
use Rattle.lc_acting.specs.NoAction.{IsUpdate, IsSeenApart, IsApartAt, IsUnsaid, IsSeenNoAction, SeenIsNoAction}
use Rattle.lc_acting.specs.declared.acting.Acting.{Acting}
use Rattle.lc_acting.proofs.Deciding.{says_as, says_ok}
use Rattle.lc_acting.proofs.Only.{same_place}

no_holds : (l : Seen) (P : Type 0) → Says l P → l ≡ No → P → ⊥
no_holds l P says is = subst (λ x. Says x P) is says

stands_first : {A : Type 0} (xs ys : List A) (y : A) → slice_get (xs ++ y ∷ ys) (length xs) ≡ Some y
stands_first [] ys y = refl
stands_first (x ∷ xs) ys y = stands_first xs ys y

stands_second : {A : Type 0} (xs ys : List A) (y z : A) → slice_get (xs ++ y ∷ z ∷ ys) (suc (length xs)) ≡ Some z
stands_second [] ys y z = refl
stands_second (x ∷ xs) ys y z = stands_second xs ys y z

-- ---- the actions of a development, by their places

module _ (D : Development) where
  pub enter_there : slice_get (all_actions D) (length D.actions) ≡ Some (enter (first_system D))
  enter_there = stands_first D.actions (leave (first_system D) ∷ []) (enter (first_system D))

  pub leave_there : slice_get (all_actions D) (suc (length D.actions)) ≡ Some (leave (first_system D))
  leave_there = stands_second D.actions [] (enter (first_system D)) (leave (first_system D))

  pub declared_there : (i : ℕ) (a : Action) → slice_get D.actions i ≡ Some a → slice_get (all_actions D) i ≡ Some a
  declared_there i a at = kept_left D.actions (enter (first_system D) ∷ leave (first_system D) ∷ []) i a at

  pub none_there : (i : ℕ) → suc (length D.actions) < i → slice_get (all_actions D) i ≡ None
  none_there i past = slice_get_past (all_actions D) i (omega (arith, past, length-append D.actions (enter (first_system D) ∷ leave (first_system D) ∷ [])))

-- ---- no instance

-- an action that is seen not to lead to columns does not
apart : LooksAreRight → (tried : List ℤ) (columns n c : ℕ) (args : List ℤ) (a : Action) (m m' : State) → IsSeenApart tried columns (own n c ++ args) a m m' → Acts n a c args m m' → ⊥
apart looks tried columns n c args a m m' (inl fails) acts =
    no_holds (look tried m (variable (own n c ++ args)) a.guard) (Holds m (variable (own n c ++ args)) outside a.guard) (looks tried m (variable (own n c ++ args)) a.guard) fails acts.0
apart looks tried columns n c args a m m' (inr (all, differ)) acts = differ acts.1

module _ (looks : LooksAreRight) (D : Development) (tried : List ℤ) (w w' : World) (c : ℕ) where
  -- so it is of the one at a place
  apart_at : (i : ℕ) (args : List ℤ) (a : Action) → IsApartAt D tried w c i args w'.columns → slice_get (all_actions D) i ≡ Some a → Acts (length w.clients) a c args w.columns w'.columns → ⊥
  apart_at i args a (b, at, seen) there acts =
      apart looks tried (column_count (first_system D)) (length w.clients) c args a w.columns w'.columns
      (subst (λ (x : Action). IsSeenApart tried (column_count (first_system D)) (own (length w.clients) c ++ args) x w.columns w'.columns) (same_Some b a (sym at ∙ there)) seen) acts

  -- what is said at an edge
  edge_apart : (vs : List ℤ) (x : On) (what : Event) (i : ℕ) (args : List ℤ) → IsOnEdge D w c (Some what) vs (Some x) i args → IsApartAt D tried w c i args w'.columns →
      IsEdgeAction D (length w.clients) c vs (Some x) what w.columns w'.columns → ⊥
  edge_apart vs x what i args (place, (all, given)) seen (a, at, acts) =
      apart_at i args a seen (subst (λ (k : ℕ). slice_get (all_actions D) k ≡ Some a) (sym place) (declared_there D x.action a at))
      (subst (λ (l : List ℤ). Acts (length w.clients) a c l w.columns w'.columns) (sym given) acts)

  acting_apart : (what : Event) (i : ℕ) (args : List ℤ) → IsActing D w c (Some what) (Some what) i args → IsApartAt D tried w c i args w'.columns → IsAction D (length w.clients) w c what w' → ⊥
  acting_apart (Invoked o ns) i args (place, given) seen acts =
      apart_at i args (enter (first_system D)) seen (ap (slice_get (all_actions D)) place ∙ enter_there D)
      (subst (λ (l : List ℤ). Acts (length w.clients) (enter (first_system D)) c l w.columns w'.columns) (sym given) acts)
  acting_apart (Moved p e) i args (vs, is, on) seen (us, there, acts) = by (on_at D p e) on (subst (λ (l : List ℤ). IsEdgeAction D (length w.clients) c l (on_at D p e) (Moved p e) w.columns w'.columns) ((same_place w c p p us vs there is).1) acts)
    where
      by : (o : Option On) → IsOnEdge D w c (Some (Moved p e)) vs o i args → IsEdgeAction D (length w.clients) c vs o (Moved p e) w.columns w'.columns → ⊥
      by None none h = none
      by (Some x) said h = edge_apart vs x (Moved p e) i args said seen h
  acting_apart (Returned ns) i args (p, vs, is, on) seen (q, us, there, acts) =
      let same = same_place w c q p us vs there is in
      by (on_at D p Next) on (subst (λ (k : ℕ). IsEdgeAction D (length w.clients) c vs (on_at D k Next) (Returned ns) w.columns w'.columns) (same.0)
      (subst (λ (l : List ℤ). IsEdgeAction D (length w.clients) c l (on_at D q Next) (Returned ns) w.columns w'.columns) (same.1) acts))
    where
      by : (o : Option On) → IsAtReturn D w c (Some (Returned ns)) vs o i args → IsEdgeAction D (length w.clients) c vs o (Returned ns) w.columns w'.columns → ⊥
      by None (place, given) h =
          apart_at i args (leave (first_system D)) seen (ap (slice_get (all_actions D)) place ∙ leave_there D)
          (subst (λ (l : List ℤ). Acts (length w.clients) (leave (first_system D)) c l w.columns w'.columns) (sym given) h)
      by (Some x) said h = edge_apart vs x (Returned ns) i args said seen h

  unsaid_apart : (what : Event) → IsUnsaid D w c (Some what) → (w'.columns ≡ w.columns → ⊥) → IsAction D (length w.clients) w c what w' → ⊥
  unsaid_apart (Invoked o ns) unsaid differ acts = unsaid
  unsaid_apart (Moved p e) (vs, is, none) differ (us, there, acts) =
      differ (subst (λ (o : Option On). IsEdgeAction D (length w.clients) c us o (Moved p e) w.columns w'.columns) none acts).1
  unsaid_apart (Returned ns) unsaid differ acts = unsaid

pub seen_no_action : LooksAreRight → SeenIsNoAction
seen_no_action looks D tried w w' c what (inl (unsaid, differ)) acts = unsaid_apart looks D tried w w' c what unsaid differ acts
seen_no_action looks D tried w w' c what (inr (i, args, is, seen)) acts = acting_apart looks D tried w w' c what i args is seen acts

-- ---- what was answered of it

-- of one action, whose guard is not seen not to hold and whose updates store these
pub says_of_action : (b : Bool) (tried : List ℤ) (columns : ℕ) (vs : List ℤ) (a : Action) (m m' : State) (ws : List Write) → (Fails tried m vs a.guard → ⊥) →
    Every (IsUpdate columns m vs) a.updates × (ws ≡ writes_of m (variable vs) a.updates) → SaysSo b (m' ≡ stored_all m ws → ⊥) → SaysSo b (IsSeenApart tried columns vs a m m')
says_of_action b tried columns vs a m m' ws holds (all, same) says =
    says_as b (m' ≡ stored_all m ws → ⊥) (IsSeenApart tried columns vs a m m') (λ differ. inr (all, λ e. differ (e ∙ ap (stored_all m) (sym same)))) back says
  where
    back : IsSeenApart tried columns vs a m m' → m' ≡ stored_all m ws → ⊥
    back (inl fails) e = holds fails
    back (inr (known, differ)) e = differ (e ∙ ap (stored_all m) same)

module _ (D : Development) (tried : List ℤ) (w : World) (c : ℕ) (m' : State) where
  -- one action is seen not to lead to them
  abbrev SeenFor : List ℤ → ℕ → ℕ → Action → Type 0
  SeenFor args k l x = IsSeenApart tried k (own l c ++ args) x w.columns m'

  -- of the action at a place
  pub says_at : (r : Result Bool OutOfMemory) (i columns n : ℕ) (args : List ℤ) (a : Action) → slice_get (all_actions D) i ≡ Some a → columns ≡ column_count (first_system D) → n ≡ length w.clients →
      IfOk r (λ b. SaysSo b (IsSeenApart tried columns (own n c ++ args) a w.columns m')) → IfOk r (λ b. SaysSo b (IsApartAt D tried w c i args m'))
  says_at r i columns n args a there count clients says =
      says_ok r (SeenFor args (column_count (first_system D)) (length w.clients) a) (IsApartAt D tried w c i args m') (λ seen. (a, there, seen))
      (λ h. subst (λ (x : Action). SeenFor args (column_count (first_system D)) (length w.clients) x) (same_Some h.0 a (sym h.1 ∙ there)) h.2)
      (subst (λ (k : ℕ). IfOk r (λ b. SaysSo b (SeenFor args (column_count (first_system D)) k a))) clients (subst (λ (k : ℕ). IfOk r (λ b. SaysSo b (SeenFor args k n a))) count says))

  pub none_at : (i : ℕ) (args : List ℤ) → suc (length D.actions) < i → IsApartAt D tried w c i args m' → ⊥
  none_at i args past h = (let e : Some h.0 ≡ None = sym h.1 ∙ none_there D i past in cc)

  -- no action is said where none is
  unsaid_is_no_action : (what : Option Event) (i : ℕ) (args : List ℤ) → IsUnsaid D w c what → IsActing D w c what what i args → ⊥
  unsaid_is_no_action None i args unsaid acting = unsaid
  unsaid_is_no_action (Some (Invoked o ns)) i args unsaid acting = unsaid
  unsaid_is_no_action (Some (Moved p e)) i args (vs, is, none) (us, there, on) = subst (λ (o : Option On). IsOnEdge D w c (Some (Moved p e)) us o i args) none on
  unsaid_is_no_action (Some (Returned ns)) i args unsaid acting = unsaid

  module _ (what : Option Event) where
    -- of a step at whose edge no action is said
    pub says_unsaid : (b : Bool) → IsUnsaid D w c what → SaysSo b (m' ≡ w.columns → ⊥) → SaysSo b (IsSeenNoAction D tried w c what m')
    says_unsaid b unsaid says = says_as b (m' ≡ w.columns → ⊥) (IsSeenNoAction D tried w c what m') (λ differ. inl (unsaid, differ)) back says
      where
        back : IsSeenNoAction D tried w c what m' → m' ≡ w.columns → ⊥
        back (inl (so, differ)) = differ
        back (inr (i, args, acting, seen)) = absurd (unsaid_is_no_action what i args unsaid acting)

    -- of one that is none of an action whose numbers are evaluated
    pub says_none : (IsUnsaid D w c what → ⊥) → ((i : ℕ) (args : List ℤ) → IsActing D w c what what i args → ⊥) → IsSeenNoAction D tried w c what m' → ⊥
    says_none said none (inl (unsaid, differ)) = said unsaid
    says_none said none (inr (i, args, acting, seen)) = none i args acting

    -- of one that is an action
    pub says_acting : (r : Result Bool OutOfMemory) (one : Acting) → (IsUnsaid D w c what → ⊥) → IsOnly (IsActing D w c what what) (Some one) → IfOk r (λ b. SaysSo b (IsApartAt D tried w c one.action one.numbers.items m')) →
        IfOk r (λ b. SaysSo b (IsSeenNoAction D tried w c what m'))
    says_acting r one said only says =
        says_ok r (IsApartAt D tried w c one.action one.numbers.items m') (IsSeenNoAction D tried w c what m') (λ seen. inr (one.action, one.numbers.items, only.0, seen)) back says
      where
        back : IsSeenNoAction D tried w c what m' → IsApartAt D tried w c one.action one.numbers.items m'
        back (inl (unsaid, differ)) = absurd (said unsaid)
        back (inr (i, args, acting, seen)) =
            let same = only.1 i args acting in
            subst (λ (l : List ℤ). IsApartAt D tried w c one.action l m') (same.1) (subst (λ (k : ℕ). IsApartAt D tried w c k args m') (same.0) seen)
