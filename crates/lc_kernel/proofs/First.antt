-- A proof derives, or fails at one step for one flaw.
use Rattle.std.proofs.Common.{◌≡◌, ◌⊎◌, inl, inr, ℕ, suc, ◌+◌, List, [], ◌∷◌, ◌++◌, length, refl, ap, subst, arith}
use Rattle.lc_term.specs.Syntax.{Formula}
use Rattle.lc_kernel.proofs.Once.{gives_once, gives_some}
use Rattle.lc_kernel.proofs.Found.{opens_same}
use Rattle.lc_kernel.proofs.Grows.{Gives-count}
use Rattle.lc_kernel.specs.Derivation.{Derives, derives, EachDerives, all_closed, one_closed, Fails, fails_here, fails_below, SomeFails, first_fails, later_fails}
use Rattle.lc_kernel.specs.Proofs.{Step, Proof, proof, Proofs, none, more, proof_count, size}
use Rattle.lc_kernel.specs.Table.{Outcome, flawed, opens, Gives}
use Rattle.lc_kernel.specs.declared.reason.Flaw.{Flaw}

-- ---- what a step comes to decides the rest of the proof

flawed_or_opens : (v w : ℕ) (H : List Formula) (k : ℕ) (s : Step) (bs : List (List Formula)) (why : Flaw) → Gives v H k s (flawed why) → Gives v H k s (opens w bs) → ⊥
flawed_or_opens v w H k s bs why g g' = let same : flawed why ≡ opens w bs = gives_once v H k s (flawed why) (opens w bs) g g' in cc

flawed_once : (v : ℕ) (H : List Formula) (k : ℕ) (s : Step) (why why' : Flaw) → Gives v H k s (flawed why) → Gives v H k s (flawed why') → why ≡ why'
flawed_once v H k s why why' g g' = let same : flawed why ≡ flawed why' = gives_once v H k s (flawed why) (flawed why') g g' in cc

opens_once : (v w w' : ℕ) (H : List Formula) (k : ℕ) (s : Step) (bs bs' : List (List Formula)) → Gives v H k s (opens w bs) → Gives v H k s (opens w' bs') → (w' ≡ w) × (bs' ≡ bs)
opens_once v w w' H k s bs bs' g g' = opens_same w w' bs' bs (gives_once v H k s (opens w' bs') (opens w bs) g' g)

-- ---- derivations taken apart

-- what a derivation is made of
abbrev pub DerivesParts : ℕ → List Formula → Proof → Type 0
DerivesParts v H (proof s ps) = (w : ℕ) × (bs : List (List Formula)) × Gives v H (proof_count ps) s (opens w bs) × EachDerives w H bs ps

derives_parts : {v : ℕ} {H : List Formula} {p : Proof} → Derives v H p → DerivesParts v H p
derives_parts (derives {w = w} {bs = bs} g ds) = (w, bs, g, ds)

-- the same derivations and failures, of branches that are the same
each_derives_at : (w w' : ℕ) (H : List Formula) (bs bs' : List (List Formula)) (ps : Proofs) → w' ≡ w → bs' ≡ bs → EachDerives w' H bs' ps → EachDerives w H bs ps
each_derives_at w w' H bs bs' ps is is' d = subst (λ x. EachDerives x H bs ps) is (subst (λ x. EachDerives w' H x ps) is' d)

some_fails_at : (w w' : ℕ) (H : List Formula) (bs bs' : List (List Formula)) (ps : Proofs) (n : ℕ) (why : Flaw) → w' ≡ w → bs' ≡ bs → SomeFails w' H bs' ps n why → SomeFails w H bs ps n why
some_fails_at w w' H bs bs' ps n why is is' d = subst (λ x. SomeFails x H bs ps n why) is (subst (λ x. SomeFails w' H x ps n why) is' d)

-- and what those of branches are made of
abbrev pub EachParts : ℕ → List Formula → List (List Formula) → Proofs → Type 0
EachParts v H [] none = Unit {0}
EachParts v H (b ∷ bs) (more p ps) = Derives v (H ++ b) p × EachDerives v H bs ps
EachParts v H _ _ = ⊥

each_parts : {v : ℕ} {H : List Formula} {bs : List (List Formula)} {ps : Proofs} → EachDerives v H bs ps → EachParts v H bs ps
each_parts all_closed = tt
each_parts (one_closed d ds) = (d, ds)

-- ---- what fails has no derivation

mutual
  pub fails_not_derives : {v : ℕ} {H : List Formula} {p : Proof} {n : ℕ} {why : Flaw} → Fails v H p n why → Derives v H p → ⊥
  fails_not_derives (fails_here {v = v} {H = H} {s = s} {ps = ps} {why = why} g) d =
      let e = derives_parts d in flawed_or_opens v e.0 H (proof_count ps) s e.1 why g e.2
  fails_not_derives (fails_below {v = v} {w = w} {H = H} {s = s} {ps = ps} {bs = bs} g f) d =
      let e = derives_parts d in
      let same = opens_once v w e.0 H (proof_count ps) s bs e.1 g e.2 in
      some_fails_not_derives f (each_derives_at w e.0 H bs e.1 ps same.0 same.1 e.3)

  some_fails_not_derives : {v : ℕ} {H : List Formula} {bs : List (List Formula)} {ps : Proofs} {n : ℕ} {why : Flaw} → SomeFails v H bs ps n why → EachDerives v H bs ps → ⊥
  some_fails_not_derives (first_fails f) ds = fails_not_derives f (each_parts ds).0
  some_fails_not_derives (later_fails d f) ds = some_fails_not_derives f (each_parts ds).1

-- ---- what fails fails at one step, for one flaw

-- the same step, and the same flaw
abbrev pub SameFailure : ℕ → ℕ → Flaw → Flaw → Type 0
SameFailure n m why why' = (n ≡ m) × (why ≡ why')

mutual
  pub fails_once : {v : ℕ} {H : List Formula} {p : Proof} {n m : ℕ} {why why' : Flaw} → Fails v H p n why → Fails v H p m why' → SameFailure n m why why'
  fails_once (fails_here {v = v} {H = H} {s = s} {ps = ps} {why = why} g) (fails_here {why = why'} g') = (refl, flawed_once v H (proof_count ps) s why why' g g')
  fails_once (fails_here {v = v} {H = H} {s = s} {ps = ps} {why = why} g) (fails_below {w = w} {bs = bs} g' f) = absurd (flawed_or_opens v w H (proof_count ps) s bs why g g')
  fails_once (fails_below {v = v} {w = w} {H = H} {s = s} {ps = ps} {bs = bs} g f) (fails_here {why = why} g') = absurd (flawed_or_opens v w H (proof_count ps) s bs why g' g)
  fails_once (fails_below {v = v} {w = w} {H = H} {s = s} {ps = ps} {bs = bs} {n = n} {why = why} g f) (fails_below {w = w'} {bs = bs'} {n = m} {why = why'} g' f') =
      let same = opens_once v w w' H (proof_count ps) s bs bs' g g' in
      let e = some_fail_once f (some_fails_at w w' H bs bs' ps m why' same.0 same.1 f') in
      (ap suc e.0, e.1)

  some_fail_once : {v : ℕ} {H : List Formula} {bs : List (List Formula)} {ps : Proofs} {n m : ℕ} {why why' : Flaw} →
      SomeFails v H bs ps n why → SomeFails v H bs ps m why' → SameFailure n m why why'
  some_fail_once (first_fails f) (first_fails f') = fails_once f f'
  some_fail_once (first_fails f) (later_fails d f') = absurd (fails_not_derives f d)
  some_fail_once (later_fails d f) (first_fails f') = absurd (fails_not_derives f' d)
  some_fail_once (later_fails {p = p} d f) (later_fails d' f') =
      let e = some_fail_once f f' in
      (ap (λ k. size p + k) e.0, e.1)

-- ---- a proof derives or fails

abbrev pub DerivesOrFails : ℕ → List Formula → Proof → Type 0
DerivesOrFails v H p = Derives v H p ⊎ ((n : ℕ) × (why : Flaw) × Fails v H p n why)

abbrev pub EachOrSome : ℕ → List Formula → List (List Formula) → Proofs → Type 0
EachOrSome v H bs ps = EachDerives v H bs ps ⊎ ((n : ℕ) × (why : Flaw) × SomeFails v H bs ps n why)

-- by what its step comes to
by_branches : (v w : ℕ) (H : List Formula) (s : Step) (ps : Proofs) (bs : List (List Formula)) → Gives v H (proof_count ps) s (opens w bs) → EachOrSome w H bs ps → DerivesOrFails v H (proof s ps)
by_branches v w H s ps bs g (inl ds) = inl (derives g ds)
by_branches v w H s ps bs g (inr f) = inr (suc f.0, f.1, fails_below g f.2)

by_outcome : (v : ℕ) (H : List Formula) (s : Step) (ps : Proofs) (o : Outcome) → Gives v H (proof_count ps) s o → ((w : ℕ) (bs : List (List Formula)) → length bs ≡ proof_count ps → EachOrSome w H bs ps) →
    DerivesOrFails v H (proof s ps)
by_outcome v H s ps (flawed why) g below = inr (0, why, fails_here g)
by_outcome v H s ps (opens w bs) g below = by_branches v w H s ps bs g (below w bs (Gives-count v w H (proof_count ps) s bs g))

-- by what the first of them comes to, and the others
by_first : (v : ℕ) (H : List Formula) (b : List Formula) (bs : List (List Formula)) (p : Proof) (ps : Proofs) → DerivesOrFails v (H ++ b) p → EachOrSome v H bs ps → EachOrSome v H (b ∷ bs) (more p ps)
by_first v H b bs p ps (inl d) (inl ds) = inl (one_closed d ds)
by_first v H b bs p ps (inl d) (inr f) = inr (size p + f.0, f.1, later_fails d f.2)
by_first v H b bs p ps (inr f) e = inr (f.0, f.1, first_fails f.2)

mutual
  pub derives_or_fails : (p : Proof) (v : ℕ) (H : List Formula) → DerivesOrFails v H p
  derives_or_fails (proof s ps) v H = let g = gives_some v H (proof_count ps) s in by_outcome v H s ps g.0 g.1 (λ w bs same. each_or_some ps w H bs same)

  each_or_some : (ps : Proofs) (v : ℕ) (H : List Formula) (bs : List (List Formula)) → length bs ≡ proof_count ps → EachOrSome v H bs ps
  each_or_some none v H [] same = inl all_closed
  each_or_some none v H (b ∷ bs) same = absurd (omega (arith, same))
  each_or_some (more p ps) v H [] same = absurd (omega (arith, same))
  each_or_some (more p ps) v H (b ∷ bs) same = by_first v H b bs p ps (derives_or_fails p v (H ++ b)) (each_or_some ps v H bs (omega (arith, same)))
