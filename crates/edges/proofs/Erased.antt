-- Erased blocks.
use Rattle.std.proofs.Common.{◌≡◌, ℕ, ◌/◌, ◌≤◌, List, replicate, sym, refl, ap, ◌∙◌, arith}
use Rattle.std.proofs.lemmas.List.{length-replicate, get_or-replicate, take-replicate}
use Rattle.control.specs.Blocks.{size_of, Stands}
use Rattle.control.specs.Crc.{crc_of}
use Rattle.control.specs.declared.kind.Control.{Control}
use Rattle.control.specs.declared.kind.Control.TheVariants as control
use Rattle.control.proofs.Formed.{checked_from_formed}

sizes : (kind : Control) → size_of kind ≤ 510
sizes control.Pointer = omega arith
sizes control.Vectors = omega arith
sizes control.Flag = omega arith
sizes control.BufferPointer = omega arith

-- in a block of one byte that stands, this byte is the high byte of the check of the others
pub repeated : (byte : ℕ) (kind : Control) → Stands kind (replicate 512 byte) → byte ≡ crc_of (replicate 510 byte) / 256
repeated byte kind stands =
    let check = checked_from_formed (size_of kind) (replicate 512 byte) (sizes kind) (length-replicate {A = ℕ} 512 byte) stands in
    sym (get_or-replicate 512 510 byte 0 (omega arith)) ∙ check.0 ∙ ap (λ (l : List ℕ). crc_of l / 256) (take-replicate 510 512 byte (omega arith))

pub zeros_check : crc_of (replicate 510 0) ≡ 17591
zeros_check = refl

pub ones_check : crc_of (replicate 510 0xFF) ≡ 11554
ones_check = refl

pub zeros_fall : (kind : Control) → Stands kind (replicate 512 0) → ⊥
zeros_fall kind stands = omega (arith, repeated 0 kind stands, zeros_check)

pub ones_fall : (kind : Control) → Stands kind (replicate 512 0xFF) → ⊥
ones_fall kind stands = omega (arith, repeated 0xFF kind stands, ones_check)
