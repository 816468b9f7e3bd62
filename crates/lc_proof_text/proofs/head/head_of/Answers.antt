use Rattle.std.proofs.Common.{◌≡◌, ℕ, List, length, sym, ap, ◌∙◌, rules, arith}
use Rattle.std.specs.Prelude.{codes}
use Rattle.std.proofs.lemmas.Slice.Eq.{HasBytesAt, text_from_reads}
use Rattle.lc_proof_text.specs.Heads.{head_of}
use Rattle.lc_proof_text.proofs.head.head_of.Goals as goal

-- what a word says whose bytes are those of one that is known
said : (word bytes known : List ℕ) → bytes ≡ word → length bytes ≡ length known → HasBytesAt bytes 0 known → head_of known ≡ head_of word
said word bytes known same long has = ap head_of (sym (text_from_reads bytes known long has) ∙ same)

pub returns-in-affine : goal.returns-in-affine
returns-in-affine c = said _ _ (codes "affine") c.as_bytes.ensures.value (omega arith) (search rules)

pub returns-in-divide : goal.returns-in-divide
returns-in-divide c = said _ _ (codes "divide") c.as_bytes.ensures.value (omega arith) (search rules)

pub returns-in-written : goal.returns-in-written
returns-in-written c = said _ _ (codes "written") c.as_bytes.ensures.value (omega arith) (search rules)

pub returns-in-opposite : goal.returns-in-opposite
returns-in-opposite c = said _ _ (codes "opposite") c.as_bytes.ensures.value (omega arith) (search rules)
