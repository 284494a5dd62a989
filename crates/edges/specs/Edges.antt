-- The edges of the rules, on one board: an image of 46 bytes and version 7 runs from block 4 on, in a store of 8 blocks.
use Rattle.std.specs.Prelude.{◌≡◌, ℕ, false, List, length, replicate, Some, None, codes, Option}
use Rattle.std.proofs.Common.{lit≤}
use Rattle.layout.specs.Address.{Addressed, address_of, blocks_of, entry}
use Rattle.layout.specs.declared.place.Place.{Place}
use Rattle.layout.specs.Image.{IsImage, length_of}
use Rattle.layout.specs.Placing.{Open, GoesPast, Share, Newer}
use Rattle.control.specs.Blocks.{Stands}
use Rattle.control.specs.Crc.{crc_of}
use Rattle.control.specs.declared.kind.Control.{Control}
use Rattle.watch.specs.declared.cycle.Cycle.{Cycle}
use Rattle.watch.specs.declared.cycle.Verdict.TheVariants as verdict
use Rattle.watch.specs.declared.cycle.Watch.TheVariants as watch
use Rattle.watch.specs.Rules.{Judges}

abbrev pub running : Option Place
running = Some (record { first = 4; len = 46; lies = (lit≤ tt, lit≤ tt, lit≤ tt) })

-- A cycle that executes at this address; one at the entry in which the core writes to it, or DMA.
abbrev pub executes : ℕ → Cycle
executes pc = record { pc = pc; write_at = None; dma_at = None; interrupt = false }

abbrev pub writes : ℕ → Cycle
writes address = record { pc = 10252; write_at = Some address; dma_at = None; interrupt = false }

abbrev pub moves : ℕ → Cycle
moves address = record { pc = 10252; write_at = None; dma_at = Some address; interrupt = false }

-- The watch, outside TCR, lets a cycle pass, or resets.
abbrev pub Passes : Cycle → Type 0
Passes c = Judges running watch.Outside c verdict.Pass watch.Outside

abbrev pub Resets : Cycle → Type 0
Resets c = Judges running watch.Outside c verdict.Reset watch.Reset

pub record Edges : Type 0 where
  -- The last block with addresses is 111, from 65024 to 65535.
  pub last_block : Addressed 111 × (Addressed 112 → ⊥)
  pub last_block_from : address_of 111 0 ≡ 65024
  pub last_block_to : address_of 111 511 ≡ 65535
  pub program_begins : entry 4 ≡ 10252
  -- The image is executable to its last byte, and guarded to the end of its block; the control blocks to the flag.
  pub last_byte : Passes (executes 10285)
  pub past_last_byte : Resets (executes 10286)
  pub tail : Resets (writes 10751)
  pub past_tail : Passes (writes 10752)
  pub flag : Resets (moves 9216)
  pub past_flag : Passes (moves 9728)
  pub one_block : blocks_of 512 ≡ 1
  pub two_blocks : blocks_of 513 ≡ 2
  -- Blocks 4 to 7 may be staged or offered, and no other.
  pub control_block : Open 8 3 → ⊥
  pub first_open : Open 8 4
  pub last_open : Open 8 7
  pub no_block : Open 8 8 → ⊥
  pub past_end : GoesPast 8 7 513
  pub at_end : GoesPast 8 7 512 → ⊥
  pub too_short : (bytes : List ℕ) → length_of bytes ≡ 45 → IsImage bytes → ⊥
  pub long_enough : (bytes : List ℕ) → length bytes ≡ 46 → length_of bytes ≡ 46 → IsImage bytes
  pub same_version : Newer 7 7 → ⊥
  pub next_version : Newer 8 7
  -- An image at block 4 reaches one that runs at block 6 with its third block.
  pub shared : Share 4 1025 6 46
  pub unshared : Share 4 1024 6 46 → ⊥
  -- The published check value of the CRC.
  pub published : crc_of (codes "123456789") ≡ 0x29B1
  -- Erased blocks are no control blocks, of any kind.
  pub zeros : (kind : Control) → Stands kind (replicate 512 0) → ⊥
  pub ones : (kind : Control) → Stands kind (replicate 512 0xFF) → ⊥
