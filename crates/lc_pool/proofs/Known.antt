-- What is known of each number, gathered.
use Rattle.std.proofs.Common.{◌≡◌, ℕ, zero, suc, ◌+◌, ◌<◌, List, [], ◌∷◌, ◌++◌, length, drop, Some, slice_get, refl, sym, ap, ◌∙◌, subst, arith, append-nil}
use Rattle.lc_outline.specs.Development.{Development}
use Rattle.lc_cert.specs.Certificates.{Entry}
use Rattle.lc_cert.specs.ColumnNames.{names_with}
use Rattle.lc_cert.specs.OneByOne.{AreReadAlone, IsFrame, ReadAloneIsReadWhole}
use Rattle.lc_cond.specs.Conditions.{Condition, conditions}
use Rattle.lc_outline.specs.ColumnNames.{column_names}
use Rattle.lc_check.proofs.InTurn.{proved_behind, extra_behind}
use Rattle.lc_check.specs.Verdicts.{AreProved, IsExtra, ProvesAll}
use Rattle.lc_check.specs.Walking.{ProveInTurn}
use Rattle.lc_pool.specs.Known.{IsKnown, KnownIsProven}
use Rattle.lc_check.proofs.Stepping.{nothing_extra}

-- a list from a place on, if this is at the place
drop_cons : (cs : List Condition) (k : ℕ) (c : Condition) → slice_get cs k ≡ Some c → drop k cs ≡ c ∷ drop (suc k) cs
drop_cons [] k c h = cc
drop_cons (x ∷ cs) zero c h = let e : x ≡ c = cc in ap (λ y. y ∷ cs) e
drop_cons (x ∷ cs) (suc k) c h = drop_cons cs k c h

drop_all : (cs : List Condition) → drop (length cs) cs ≡ []
drop_all [] = refl
drop_all (c ∷ cs) = drop_all cs

-- The entries from number k on, which are as many as conditions are left.
record AreGathered (D : Development) (file : List ℕ) (at items : ℕ → ℕ) (j k : ℕ) : Type 0 where
  entries : List Entry
  count : length entries ≡ j
  alone : AreReadAlone (names_with (column_names D)) file at items k entries
  prove : ProveInTurn k entries (drop k (conditions D))

gathered : (D : Development) (file : List ℕ) (at items : ℕ → ℕ) (j k : ℕ) → k + j ≡ length (conditions D)
    → ((i : ℕ) → i < length (conditions D) → IsKnown D file at items i) → AreGathered D file at items j k
gathered D file at items zero k e known =
    let here : k ≡ length (conditions D) = omega (arith, e) in
    record {
      entries = [];
      count = refl;
      alone = tt;
      prove = subst (λ cs. ProveInTurn k [] cs) (sym (ap (λ i. drop i (conditions D)) here ∙ drop_all (conditions D))) tt;
    }
gathered D file at items (suc j) k e known =
    let h = known k (omega (arith, e)) in
    let rest = gathered D file at items j (suc k) (omega (arith, e)) known in
    record {
      entries = h.entry ∷ rest.entries;
      count = ap suc rest.count;
      alone = (h.alone, rest.alone);
      prove = subst (λ cs. ProveInTurn k (h.entry ∷ rest.entries) cs) (sym (drop_cons (conditions D) k h.derived.condition h.derived.due)) (h.alone.number, h.derived.derives, rest.prove);
    }

proves_all : (es : List Entry) (cs : List Condition) → ProveInTurn 0 es cs → ProvesAll es cs
proves_all es cs h =
    let proved : AreProved (es ++ []) 0 (cs ++ []) = proved_behind 0 es [] cs [] h tt in
    let left : AreProved es 0 (cs ++ []) = subst (λ x. AreProved x 0 (cs ++ [])) (append-nil es) proved in (
      subst (AreProved es 0) (append-nil cs) left,
      λ k x. nothing_extra (length cs) k (extra_behind 0 (length cs) es [] cs k h (omega arith) (subst (λ y. IsExtra (length cs) y k) (sym (append-nil es)) x)),
    )

pub known_is_proven : ReadAloneIsReadWhole → KnownIsProven
known_is_proven read_whole D file at items frame first known =
    let g = gathered D file at items (length (conditions D)) 0 (omega arith) known in
    let whole : IsFrame D file (at 0) (at (length g.entries)) = subst (λ n. IsFrame D file (at 0) (at n)) (sym g.count) frame in
    (g.entries, read_whole D file at items g.entries whole first g.alone, proves_all g.entries (conditions D) g.prove)
