-- Proofs that are read one after another.
use Rattle.std.proofs.Common.{◌≡◌, ℕ, List, [], ◌∷◌, Ok, Err, refl, sym, ap, ◌∙◌, subst}
use Rattle.std.specs.Prelude.{Result, Vec}
use Rattle.std.specs.declared.alloc.Global.{Global}
use Rattle.lc_reading.specs.declared.pass.Pass.TheVariants.{Shape}
use Rattle.lc_kernel.specs.Proofs.{Proof, Proofs, none, more, proofs}
use Rattle.lc_proof_text.specs.Own.{branches_of}
use Rattle.lc_kernel.specs.View.{proof_of, proofs_of}
use Rattle.lc_kernel.specs.declared.proof.Proof.{Proof as SeenProof}
use Rattle.lc_reading.proofs.SoFar.{IsSoFar, front, flawed_before}
use Rattle.lc_reading.specs.Flaws.{at}
use Rattle.lc_reading.specs.Readings.{Reading, fine, flawed, mapped}
use Rattle.lc_reading.specs.Results.{IsReading, misshapen_too}
use Rattle.lc_reading.specs.declared.flaw.Flaw.{Flaw}
use Rattle.lc_reading.specs.declared.flaw.ReadFault.{ReadFault}
use Rattle.lc_reading.specs.declared.flaw.ReadFault.TheVariants.{Flawed, OutOfMemory}

front_proofs : (ps : List Proof) → front more ps (fine none) ≡ fine (proofs ps)
front_proofs [] = refl
front_proofs (p ∷ ps) = ap (mapped (more p)) (front_proofs ps)

-- all are read
pub proofs_end : (whole rest : Reading Proofs) (a : Result (Vec SeenProof Global) ReadFault) → rest ≡ fine none → IsSoFar proof_of more whole rest a → IsReading branches_of whole a
proofs_end whole rest (Ok ps) e h = h ∙ ap (front more (proofs_of ps.items)) e ∙ front_proofs (proofs_of ps.items)
proofs_end whole rest (Err (Flawed g)) e h = h ∙ ap (flawed_before g) e
proofs_end whole rest (Err OutOfMemory) e h = tt

front_flawed : (ps : List Proof) (g : Flaw) → front more ps (flawed g) ≡ flawed g
front_flawed [] g = refl
front_flawed (p ∷ ps) g = ap (mapped (more p)) (front_flawed ps g)

-- what is left is misshapen
pub proofs_wrong : (whole rest : Reading Proofs) (n : ℕ) (a b : Result (Vec SeenProof Global) ReadFault) → rest ≡ flawed (at Shape n) → b ≡ misshapen_too n a → IsSoFar proof_of more whole rest a → IsReading branches_of whole b
proofs_wrong whole rest n (Ok ps) b e is h = subst (IsReading branches_of whole) (sym is) (h ∙ ap (front more (proofs_of ps.items)) e ∙ front_flawed (proofs_of ps.items) (at Shape n))
proofs_wrong whole rest n (Err (Flawed g)) b e is h = subst (IsReading branches_of whole) (sym is) (h ∙ ap (flawed_before g) e)
proofs_wrong whole rest n (Err OutOfMemory) b e is h = subst (IsReading branches_of whole) (sym is) tt
