-- A condition is looked at with the numbers of clients, one after another.
use Rattle.std.proofs.Common.{◌≡◌, ◌⊎◌, inl, inr, ℕ, ◌<◌, ◌≤◌, ◌+◌, ℤ, pos, List, ◌∷◌, ◌++◌, length, refl, sym, subst, ◌∙◌, arith}
use Rattle.std.specs.Prelude.{Option, Some, None, slice_get}
use Rattle.std.proofs.lemmas.Option.{same_Some, slice_get_within}
use Rattle.lc_cond.specs.Conditions.{Condition, NoPassage, ByAction}
use Rattle.lc_lemmas.proofs.Numbers.{below_or_from}
use Rattle.lc_machine.specs.Step.{Event, Invoked, IsClient}
use Rattle.lc_machine.specs.World.{World, Client, In}
use Rattle.lc_outline.specs.Development.{Development}
use Rattle.lc_sound.specs.Claims.{own}
use Rattle.lc_stages.specs.Stages.{numbers_at}
use Rattle.lc_acting.specs.Attempts.{IsOnly}
use Rattle.lc_blame.specs.Attempts.{FailsAtEntry}
use Rattle.lc_acting.specs.Acting.{IsActing}
use Rattle.lc_blame.specs.Blame.{FailsWith, FailsAmong, HasBeside, HaveNumbers, point_of}
use Rattle.lc_acting.specs.declared.acting.Acting.{Acting}
use Rattle.lc_acting.proofs.Only.{same_place}

module _ (D : Development) (w : World) (c : ℕ) (what : Option Event) (tried : List ℤ) (k : Condition) where
  abbrev pub Fails : List ℤ → Type 0
  Fails vs = FailsWith tried w.columns vs k

  -- ---- at the start

  pub start_found : (u : ℕ) (vs : List ℤ) → u < length w.clients → vs ≡ own (length w.clients) u → Fails vs → FailsAmong tried w.columns (HaveNumbers D w c what NoPassage None) k
  start_found u vs lt e h = (vs, (u, lt, e), h)

  pub start_more : (i : ℕ) (vs : List ℤ) → vs ≡ own (length w.clients) i → (Fails vs → ⊥) → ((u : ℕ) → u < i → Fails (own (length w.clients) u) → ⊥) →
      (u : ℕ) → u < i + 1 → Fails (own (length w.clients) u) → ⊥
  start_more i vs e not none u lt h = by (below_or_from u i)
    where
      by : (u < i) ⊎ (i ≤ u) → ⊥
      by (inl below) = none u below h
      by (inr past) = not (subst (λ (ns : List ℤ). Fails ns) (sym e) (subst (λ (n : ℕ). Fails (own (length w.clients) n)) (let same : u ≡ i = omega (arith, lt, past) in same) h))

  pub start_none : (i : ℕ) → length w.clients ≤ i → ((u : ℕ) → u < i → Fails (own (length w.clients) u) → ⊥) → FailsAmong tried w.columns (HaveNumbers D w c what NoPassage None) k → ⊥
  start_none i past none (vs, (u, lt, e), h) = none u (omega (arith, past, lt)) (subst (λ (ns : List ℤ). Fails ns) e h)

  -- ---- where a call begins

  pub call_as : (p o : ℕ) (ns : List ℤ) → what ≡ Some (Invoked o ns) →
      (FailsAtEntry D w c tried p o ns k → FailsAmong tried w.columns (HaveNumbers D w c what NoPassage (Some p)) k)
      × (FailsAmong tried w.columns (HaveNumbers D w c what NoPassage (Some p)) k → FailsAtEntry D w c tried p o ns k)
  call_as p o ns is =
      (λ h. (own (length w.clients) c ++ ns, (ns, (o, h.0, is, h.1, h.2), refl), h.3), back)
    where
      back : FailsAmong tried w.columns (HaveNumbers D w c what NoPassage (Some p)) k → FailsAtEntry D w c tried p o ns k
      back (vs, (us, (q, x, other, at, entry), e), h) =
          let same : Some (Invoked q us) ≡ Some (Invoked o ns) = sym other ∙ is in
          let one : Invoked q us ≡ Invoked o ns = same_Some (Invoked q us) (Invoked o ns) same in
          let operation : q ≡ o = cc in
          let numbers : us ≡ ns = cc in
          (x, subst (λ (n : ℕ). slice_get D.object.operations n ≡ Some x) operation at, entry, subst (λ (l : List ℤ). Fails (own (length w.clients) c ++ l)) numbers (subst (λ (l : List ℤ). Fails l) e h))

  pub call_none : (p : ℕ) → ((o : ℕ) (ns : List ℤ) → what ≡ Some (Invoked o ns) → ⊥) → FailsAmong tried w.columns (HaveNumbers D w c what NoPassage (Some p)) k → ⊥
  call_none p none (vs, (us, (q, x, other, at, entry), e), h) = none q us other

  -- ---- on an edge

  pub edge_as : (p q : ℕ) (vs : List ℤ) → IsClient w c (In p vs) → p ≡ q → (FailsAmong tried w.columns (λ us. IsClient w c (In q us)) k → Fails vs) × (Fails vs → FailsAmong tried w.columns (λ us. IsClient w c (In q us)) k)
  edge_as p q vs is e =
      (λ h. subst (λ (ns : List ℤ). Fails ns) (sym ((same_place w c p q vs h.0 is h.1).1)) h.2, λ h. (vs, subst (λ (n : ℕ). IsClient w c (In n vs)) e is, h))

  pub edge_apart : (p q : ℕ) (vs : List ℤ) → IsClient w c (In p vs) → (p ≡ q → ⊥) → FailsAmong tried w.columns (λ us. IsClient w c (In q us)) k → ⊥
  edge_apart p q vs is apart h = apart ((same_place w c p q vs h.0 is h.1).0)

  -- ---- beside an action

  module _ (point : Option ℕ) (args : List ℤ) where
    abbrev pub NoneBefore : ℕ → Type 0
    NoneBefore i =
        (u : ℕ) (client : Client) → u < i → (u ≡ c → ⊥) → IsClient w u client → point_of client ≡ point → Fails (numbers_at D w u client ++ pos c ∷ args) → ⊥

    abbrev pub FailsOf : ℕ → Client → Type 0
    FailsOf u client = (u ≡ c → ⊥) × (point_of client ≡ point) × Fails (numbers_at D w u client ++ pos c ∷ args)

    pub beside_found : (u : ℕ) (client : Client) → IsClient w u client → FailsOf u client → FailsAmong tried w.columns (HasBeside D w c what point args) k
    beside_found u client is (other, there, h) = (numbers_at D w u client ++ pos c ∷ args, (u, client, other, is, there, refl), h)

    pub beside_more : (i : ℕ) (client : Client) → IsClient w i client → (FailsOf i client → ⊥) → NoneBefore i → NoneBefore (i + 1)
    beside_more i client is not none u other lt apart is-other there h = by (below_or_from u i)
      where
        by : (u < i) ⊎ (i ≤ u) → ⊥
        by (inl below) = none u other below apart is-other there h
        by (inr past) =
            let same : u ≡ i = omega (arith, lt, past) in
            let here : IsClient w i other = subst (λ (n : ℕ). IsClient w n other) same is-other in
            let one : other ≡ client = same_Some other client (sym here ∙ is) in
            let so : FailsOf i other = subst (λ (n : ℕ). FailsOf n other) same (apart, there, h) in
            not (subst (λ (x : Client). FailsOf i x) one so)

    pub beside_none : (i : ℕ) → length w.clients ≤ i → NoneBefore i → FailsAmong tried w.columns (HasBeside D w c what point args) k → ⊥
    beside_none i past none (vs, (u, client, apart, is, there, e), h) =
        let within : u < length w.clients = slice_get_within w.clients u client is in
        none u client (omega (arith, past, within)) apart is there (subst (λ (ns : List ℤ). Fails ns) e h)

  -- ---- under an action

  pub under_as : (point : Option ℕ) (i : ℕ) (a : Acting) → IsOnly (IsActing D w c what what) (Some a) → a.action ≡ i →
      (FailsAmong tried w.columns (HasBeside D w c what point a.numbers.items) k → FailsAmong tried w.columns (HaveNumbers D w c what (ByAction i) point) k)
      × (FailsAmong tried w.columns (HaveNumbers D w c what (ByAction i) point) k → FailsAmong tried w.columns (HasBeside D w c what point a.numbers.items) k)
  under_as point i a only e = (
    λ h. (h.0, (a.numbers.items, subst (λ (n : ℕ). IsActing D w c what what n a.numbers.items) e only.0, h.1), h.2),
    λ h. (h.0, subst (λ (ns : List ℤ). HasBeside D w c what point ns (h.0)) ((only.1 i (h.1.0) (h.1.1)).1) (h.1.2), h.2),
  )

  pub under_other : (point : Option ℕ) (i : ℕ) (a : Acting) → IsOnly (IsActing D w c what what) (Some a) → (a.action ≡ i → ⊥) → FailsAmong tried w.columns (HaveNumbers D w c what (ByAction i) point) k → ⊥
  under_other point i a only apart h = apart (sym ((only.1 i (h.1.0) (h.1.1)).0))

  pub under_none : (point : Option ℕ) (i : ℕ) → IsOnly (IsActing D w c what what) None → FailsAmong tried w.columns (HaveNumbers D w c what (ByAction i) point) k → ⊥
  under_none point i none h = none i (h.1.0) (h.1.1)
