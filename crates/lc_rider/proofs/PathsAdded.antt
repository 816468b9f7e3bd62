-- Paths that the code adds to those that it has, in later tables.
use Rattle.std.proofs.Common.{◌≡◌, List, [], ◌∷◌, ◌++◌, length, refl, sym, subst, ap, ap₂, ◌∙◌, append_assoc, append-nil}
use Rattle.std.proofs.lemmas.List.{map-append}
use Rattle.lc_table.specs.NodeTables.{Table}
use Rattle.lc_table.specs.Tables.{Keeps}
use Rattle.lc_term.proofs.Stores.{Every-append}
use Rattle.lc_rider.specs.Paths as S
use Rattle.lc_rider.specs.PathView.{path_in, IsPath, HasPath, HavePaths}
use Rattle.lc_rider.specs.PathsAdded.{AddsPaths}
use Rattle.lc_rider.specs.declared.path.Path.{Path}
use Rattle.lc_rider.proofs.PathLater.{is_path_later, path_still, have_paths_later}

-- ---- one path

-- a path as it was
pub is_later : (old new : Table) (p : Path) → IsPath old p → Keeps old new → HasPath new p (path_in old p)
is_later old new p h kept = record { is = is_path_later old new p h kept; path = path_still old new p h kept }

pub has_same : (ts : Table) (p : Path) (x y : S.Path) → HasPath ts p x → x ≡ y → HasPath ts p y
has_same ts p x y h e = record { is = h.is; path = h.path ∙ e }

-- ---- lists of paths

pub paths_joined : (ts : Table) (ps qs : List Path) (xs ys : List S.Path) → HavePaths ts ps xs → HavePaths ts qs ys → HavePaths ts (ps ++ qs) (xs ++ ys)
paths_joined ts ps qs xs ys a b = record {
  are = Every-append (IsPath ts) ps qs a.are b.are;
  paths = map-append (path_in ts) ps qs ∙ ap₂ (λ (x y : List S.Path). x ++ y) a.paths b.paths;
}

pub path_alone : (ts : Table) (p : Path) (x : S.Path) → HasPath ts p x → HavePaths ts (p ∷ []) (x ∷ [])
path_alone ts p x h = record { are = (h.is, tt); paths = ap (λ (q : S.Path). q ∷ []) h.path }

-- these paths are those
pub have_same : (ts : Table) (ps : List Path) (xs ys : List S.Path) → HavePaths ts ps xs → xs ≡ ys → HavePaths ts ps ys
have_same ts ps xs ys h e = record { are = h.are; paths = h.paths ∙ e }

-- ---- paths after others

pub adds_none : (before : List Path) (ts : Table) → AddsPaths before ts before []
adds_none before ts = record { added = []; behind = sym (append-nil before); have = record { are = tt; paths = refl } }

pub adds_one : (before now : List Path) (ts : Table) (p : Path) (x : S.Path) → now ≡ before ++ p ∷ [] → HasPath ts p x → AddsPaths before ts now (x ∷ [])
adds_one before now ts p x pushed h = record { added = p ∷ []; behind = pushed; have = path_alone ts p x h }

-- some paths, and others after them, which are added later
pub adds_on : (a b c : List Path) (old new : Table) (xs ys : List S.Path) → AddsPaths a old b xs → Keeps old new → AddsPaths b new c ys → AddsPaths a new c (xs ++ ys)
adds_on a b c old new xs ys h kept k = record {
  added = h.added ++ k.added;
  behind = k.behind ∙ ap (λ (l : List Path). l ++ k.added) h.behind ∙ append_assoc a h.added k.added;
  have = paths_joined new h.added k.added xs ys (have_paths_later old new h.added xs h.have kept) k.have;
}

pub adds_same : (before now : List Path) (ts : Table) (xs ys : List S.Path) → AddsPaths before ts now xs → xs ≡ ys → AddsPaths before ts now ys
adds_same before now ts xs ys h e = record { added = h.added; behind = h.behind; have = have_same ts h.added xs ys h.have e }

-- all that there are
pub adds_to_none : (ts : Table) (now : List Path) (xs : List S.Path) → AddsPaths [] ts now xs → HavePaths ts now xs
adds_to_none ts now xs h = (let P : List Path → Type 0 = λ ps. HavePaths ts ps xs in subst P (sym h.behind) h.have)

pub no_paths : (ps : List Path) → length ps ≡ 0 → ps ≡ []
no_paths [] e = refl
no_paths (p ∷ ps) e = absurd (cc)
