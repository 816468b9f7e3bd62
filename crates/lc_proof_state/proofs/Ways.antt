-- What is at a step is what is found on the way.
use Rattle.std.proofs.Common.{◌≡◌, ℕ, suc, ◌+◌, ◌-◌, ◌<◌, ◌≤◌, ◌++◌, Bool, true, false, nat_lt, List, ◌∷◌, slice_get, Option, Some, None, refl, sym, ap, ap₂, ◌∙◌, subst, arith}
use Rattle.std.specs.Prelude.{option_map, option_and_then, if◌then◌else◌}
use Rattle.std.proofs.lemmas.Bool.{le-ltb, lt-ltb}
use Rattle.lc_term.specs.Syntax.{Formula}
use Rattle.lc_kernel.specs.Derivation.{Fails, fails_here, fails_below, SomeFails, first_fails, later_fails}
use Rattle.lc_kernel.specs.Proofs.{Step, Proof, proof, Proofs, none, more, proof_count, size, size_of_all}
use Rattle.lc_kernel.specs.Table.{flawed, Gives}
use Rattle.lc_kernel.specs.declared.reason.Flaw.{Flaw}
use Rattle.lc_proof_state.specs.Opened.{opened_by}
use Rattle.lc_proof_state.specs.Standing.{IsStanding, Stands, stands_here, stands_below, StandsAmong, in_first, in_later}
use Rattle.lc_proof_state.specs.Walk.{Spot, branch_in, spot_among, spot_at, spot_of}
use Rattle.lc_proof_state.specs.declared.standing.Standing.{Standing}
use Rattle.lc_proof_state.proofs.Steps.{added, opened_grows, opened_is}

-- ---- steps are counted through

some_steps : (p : Proof) → 0 < size p
some_steps (proof s ps) = omega arith

mutual
  within : {v n u : ℕ} {H G : List Formula} {p q : Proof} → Stands v H p n u G q → n < size p
  within (stands_here {p = p}) = some_steps p
  within (stands_below {ps = ps} g a) = let less = within_all a in omega (arith, less)

  within_all : {v n u : ℕ} {H G : List Formula} {bs : List (List Formula)} {ps : Proofs} {q : Proof} → StandsAmong v H bs ps n u G q → n < size_of_all ps
  within_all (in_first {p = p} {ps = ps} s) = let less = within s in omega (arith, less)
  within_all (in_later {p = p} {ps = ps} a) = let less = within_all a in omega (arith, less)

-- ---- what is found

abbrev pub spot : ℕ → List Formula → Proof → Spot
spot u G q = record { variables = u; hypotheses = G; part = q }

pub spot_first : (v : ℕ) (H : List Formula) (p : Proof) → spot_at v H p 0 ≡ Some (spot v H p)
spot_first v H (proof s ps) = refl

-- what each branch opens, from the one at place i on
abbrev OpensFrom : ℕ → List Formula → Step → ℕ → List (List Formula) → ℕ → Type 0
OpensFrom v H s w bs i = (j k : ℕ) (b : List Formula) → k ≡ i + j → slice_get bs j ≡ Some b → opened_by v H s k ≡ Some (w, b)

later_open : (v : ℕ) (H : List Formula) (s : Step) (w : ℕ) (b : List Formula) (bs : List (List Formula)) (i : ℕ) → OpensFrom v H s w (b ∷ bs) i → OpensFrom v H s w bs (suc i)
later_open v H s w b bs i open' = λ j k c e at. open' (suc j) k c (omega (arith, e)) at

in_this : (v : ℕ) (H : List Formula) (s : Step) (p : Proof) (ps : Proofs) (i n : ℕ) (o : ℕ × List Formula) → n < size p → opened_by v H s i ≡ Some o
    → spot_among v H s (more p ps) i n ≡ spot_at o.0 (H ++ o.1) p n
in_this v H s p ps i n o less is =
    ap (λ t. if t then option_and_then (λ o. spot_at o.0 (H ++ o.1) p n) (opened_by v H s i) else spot_among v H s ps (suc i) (n - size p)) (lt-ltb n (size p) less)
    ∙ ap (option_and_then (λ o. spot_at o.0 (H ++ o.1) p n)) is

behind_this : (v : ℕ) (H : List Formula) (s : Step) (p : Proof) (ps : Proofs) (i n m : ℕ) → n ≡ size p + m → spot_among v H s (more p ps) i n ≡ spot_among v H s ps (suc i) m
behind_this v H s p ps i n m e =
    let rest : n - size p ≡ m = omega (arith, e) in
    ap (λ t. if t then option_and_then (λ o. spot_at o.0 (H ++ o.1) p n) (opened_by v H s i) else spot_among v H s ps (suc i) (n - size p)) (le-ltb n (size p) (omega (arith, e)))
    ∙ ap (spot_among v H s ps (suc i)) rest

mutual
  pub spot_is : {v n u : ℕ} {H G : List Formula} {p q : Proof} → Stands v H p n u G q → spot_at v H p n ≡ Some (spot u G q)
  spot_is (stands_here {v = v} {H = H} {p = p}) = spot_first v H p
  spot_is (stands_below {v = v} {w = w} {H = H} {s = s} {ps = ps} {bs = bs} g a) =
      among_is v s 0 (λ j k b e at. opened_is v w (proof_count ps) k H s bs b g (ap (slice_get bs) (omega (arith, e)) ∙ at)) a

  among_is : {w n u : ℕ} {H G : List Formula} {bs : List (List Formula)} {ps : Proofs} {q : Proof} (v : ℕ) (s : Step) (i : ℕ) → OpensFrom v H s w bs i → StandsAmong w H bs ps n u G q
      → spot_among v H s ps i n ≡ Some (spot u G q)
  among_is v s i open' (in_first {v = w} {H = H} {b = b} {p = p} {ps = ps} {n = n} st) = in_this v H s p ps i n (w, b) (within st) (open' 0 i b (omega arith) refl) ∙ spot_is st
  among_is v s i open' (in_later {v = w} {H = H} {b = b} {bs = bs} {p = p} {ps = ps} {n = n} a) =
      behind_this v H s p ps i (size p + n) n refl ∙ among_is v s (suc i) (later_open v H s w b bs i open') a

pub found_is : (found : Option Standing) (u : ℕ) (G : List Formula) (q : Proof) → option_map spot_of found ≡ Some (spot u G q) → IsStanding u G q found
found_is None u G q is = cc
found_is (Some found) u G q is =
    let same : spot_of found ≡ spot u G q = cc in
    (ap (λ x. x.variables) same, ap (λ x. x.hypotheses) same, ap (λ x. x.part) same)

pub one_spot : {v n u u' : ℕ} {H G G' : List Formula} {p q q' : Proof} → Stands v H p n u G q → Stands v H p n u' G' q' → (u ≡ u') × (G ≡ G') × (q ≡ q')
one_spot {u = u} {u' = u'} {G = G} {G' = G'} {q = q} {q' = q'} st st' =
    let both : Some (spot u G q) ≡ Some (spot u' G' q') = sym (spot_is st) ∙ spot_is st' in
    let same : spot u G q ≡ spot u' G' q' = cc in
    (ap (λ x. x.variables) same, ap (λ x. x.hypotheses) same, ap (λ x. x.part) same)

-- ---- where a proof fails

-- the step at hand, and that its flaw is this
abbrev pub StandsFlawed : (ℕ → List Formula → Proof → Type 0) → Flaw → Type 0
StandsFlawed At why = (u : ℕ) × (G : List Formula) × (s : Step) × (ps : Proofs) × At u G (proof s ps) × Gives u G (proof_count ps) s (flawed why)

mutual
  pub flaw_stands : {v n : ℕ} {H : List Formula} {p : Proof} {why : Flaw} → Fails v H p n why → StandsFlawed (Stands v H p n) why
  flaw_stands (fails_here {v = v} {H = H} {s = s} {ps = ps} g) = (v, H, s, ps, stands_here, g)
  flaw_stands (fails_below g f) = let r = some_stand f in (r.0, r.1, r.2, r.3, stands_below g r.4, r.5)

  some_stand : {v n : ℕ} {H : List Formula} {bs : List (List Formula)} {ps : Proofs} {why : Flaw} → SomeFails v H bs ps n why → StandsFlawed (StandsAmong v H bs ps n) why
  some_stand (first_fails f) = let r = flaw_stands f in (r.0, r.1, r.2, r.3, in_first r.4, r.5)
  some_stand (later_fails d f) = let r = some_stand f in (r.0, r.1, r.2, r.3, in_later r.4, r.5)

-- ---- by the branch that has the step

abbrev pub by_branch : ℕ → List Formula → Step → Option (ℕ × ℕ × Proof) → Option Spot
by_branch v H s found = option_and_then (λ c. option_and_then (λ o. spot_at o.0 (H ++ o.1) c.2 c.1) (opened_by v H s c.0)) found

among_step : (v : ℕ) (H : List Formula) (s : Step) (p : Proof) (ps : Proofs) (i n : ℕ) (t : Bool)
    → spot_among v H s ps (suc i) (n - size p) ≡ by_branch v H s (branch_in ps (suc i) (n - size p))
    → (if t then option_and_then (λ o. spot_at o.0 (H ++ o.1) p n) (opened_by v H s i) else spot_among v H s ps (suc i) (n - size p))
    ≡ by_branch v H s (if t then Some (i, n, p) else branch_in ps (suc i) (n - size p))
among_step v H s p ps i n true rest = refl
among_step v H s p ps i n false rest = rest

among_by : (v : ℕ) (H : List Formula) (s : Step) (ps : Proofs) (i n : ℕ) → spot_among v H s ps i n ≡ by_branch v H s (branch_in ps i n)
among_by v H s none i n = refl
among_by v H s (more p ps) i n = among_step v H s p ps i n (nat_lt n (size p)) (among_by v H s ps (suc i) (n - size p))

-- the branch at a place, a step of it, and its proof
abbrev pub branch : ℕ → ℕ → Proof → Option (ℕ × ℕ × Proof)
branch i n p = Some (i, n, p)

smaller_step : (i n j m : ℕ) (p q : Proof) (ps : Proofs) (t : Bool) → (branch_in ps (suc i) (n - size q) ≡ branch j m p → size p ≤ size_of_all ps)
    → (if t then branch i n q else branch_in ps (suc i) (n - size q)) ≡ branch j m p → size p ≤ size q + size_of_all ps
smaller_step i n j m p q ps true rest e =
    let same : ◌≡◌ {A = ℕ × ℕ × Proof} (i, n, q) (j, m, p) = cc in
    subst (λ x. size x ≤ size q + size_of_all ps) (ap (λ x. x.2) same) (omega arith)
smaller_step i n j m p q ps false rest e = let less = rest e in omega (arith, less)

-- its proof has fewer steps than all
branch_smaller : (ps : Proofs) (i n j m : ℕ) (p : Proof) → branch_in ps i n ≡ branch j m p → size p ≤ size_of_all ps
branch_smaller none i n j m p is = cc
branch_smaller (more q ps) i n j m p is = smaller_step i n j m p q ps (nat_lt n (size q)) (branch_smaller ps (suc i) (n - size q) j m p) is

goes : (v n below : ℕ) (H : List Formula) (p : Proof) (s : Step) (ps : Proofs) → p ≡ proof s ps → n ≡ suc below → spot_at v H p n ≡ by_branch v H s (branch_in ps 0 below)
goes v n below H p s ps is e = ap₂ (spot_at v H) is e ∙ among_by v H s ps 0 below

pub nothing_within : (v n below : ℕ) (H : List Formula) (p : Proof) (s : Step) (ps : Proofs) → p ≡ proof s ps → n ≡ suc below → branch_in ps 0 below ≡ None → None ≡ spot_at v H p n
nothing_within v n below H p s ps is e nothing = sym (goes v n below H p s ps is e ∙ ap (by_branch v H s) nothing)

pub nothing_opened : (v n below i m : ℕ) (H : List Formula) (p q : Proof) (s : Step) (ps : Proofs) → p ≡ proof s ps → n ≡ suc below → branch_in ps 0 below ≡ branch i m q
    → opened_by v H s i ≡ None → None ≡ spot_at v H p n
nothing_opened v n below i m H p q s ps is e at nothing =
    sym (goes v n below H p s ps is e ∙ ap (by_branch v H s) at ∙ ap (option_and_then (λ o. spot_at o.0 (H ++ o.1) q m)) nothing)

pub found_within : (v n below i m w : ℕ) (H b : List Formula) (p q : Proof) (s : Step) (ps : Proofs) → p ≡ proof s ps → n ≡ suc below → branch_in ps 0 below ≡ branch i m q
    → opened_by v H s i ≡ added w b → spot_at w (H ++ b) q m ≡ spot_at v H p n
found_within v n below i m w H b p q s ps is e at opened =
    sym (goes v n below H p s ps is e ∙ ap (by_branch v H s) at ∙ ap (option_and_then (λ o. spot_at o.0 (H ++ o.1) q m)) opened)

-- fewer steps are left, for no more variables than steps are passed
pub fewer_within : (v below i m w : ℕ) (H b : List Formula) (p q : Proof) (s : Step) (ps : Proofs) → p ≡ proof s ps → branch_in ps 0 below ≡ branch i m q → opened_by v H s i ≡ added w b
    → (size q < size p) × (w + size q ≤ v + size p)
fewer_within v below i m w H b p q s ps is at opened =
    let less = branch_smaller ps 0 below i m q at in
    let grows = opened_grows v w i H s b opened in
    let all : size p ≡ suc (size_of_all ps) = ap size is in
    (omega (arith, less, all), omega (arith, less, all, grows))
