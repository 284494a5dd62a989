-- What a cut of the plain store leaves is a block.
use Rattle.std.proofs.Common.{◌≡◌, ℕ, List, length, ap, ◌∙◌}
use Rattle.std.proofs.lemmas.List.{length-replicate}
use Rattle.store.specs.declared.plain.CutPlan.{CutPlan}
use Rattle.store.specs.declared.plain.Residue.{Residue}
use Rattle.store.specs.declared.plain.Residue.TheVariants.{Old, New, Repeated}
use Rattle.store.specs.Memory.{filled}
use Rattle.store.specs.Plain.{residue_of, plain_cutting}

-- a filled block has 512 bytes
pub length-filled : (byte : ℕ) → length (filled byte) ≡ 512
unfolding filled
length-filled byte = length-replicate {A = ℕ} 512 byte

-- so has each residue
length_residue : (leaves : Residue) (old new : List ℕ) → length old ≡ 512 → length new ≡ 512 → length (residue_of leaves old new) ≡ 512
length_residue Old old new o n = o
length_residue New old new o n = n
length_residue (Repeated byte) old new o n = length-filled byte

-- and what a plan of the plain store leaves
pub plain_sized : (plan : CutPlan) (old new torn : List ℕ) → length old ≡ 512 → length new ≡ 512 → plain_cutting.Cuts plan old new torn → length torn ≡ 512
plain_sized plan old new torn o n q = ap length q.1 ∙ length_residue plan.leaves old new o n
