-- Legal pointers.
use Rattle.std.proofs.Common.{◌≡◌, ℕ, ◌+◌, ◌*◌, ◌≤◌, List, length, sym, ap, ◌∙◌, arith}
use Rattle.layout.specs.Header.{header_of}
use Rattle.layout.specs.Image.{length_of, version_of}
use Rattle.layout.specs.declared.header.Header.{Header}
use Rattle.layout.specs.declared.place.Place.{Place}
use Rattle.control.specs.Blocks.{Points}
use Rattle.control.proofs.Held.{points_once}
use Rattle.store.specs.Medium.{Medium, Whole, held}
use Rattle.board.specs.Calls.{LegalAt, RunsBy}
use Rattle.board.proofs.Images.{image_version}

module _ (m : Medium) (p : ℕ) (place : Place) (block : List ℕ) (h : Header) (at : block ≡ held m place.first) (is : h ≡ header_of block)
    (points : Points (length m.blocks) (held m p) place.first place.len) where
  -- the image gives itself another length
  pub illegal : (h.len ≡ place.len → ⊥) → LegalAt m p → ⊥
  illegal other legal =
      let once = points_once (held m p) (length m.blocks) place.first place.len (length m.blocks) legal.0 legal.1 points legal.2.0 in
      other (ap (λ (x : Header). x.len) is ∙ (ap length_of (at ∙ ap (held m) once.0) ∙ (legal.2.1 ∙ sym once.1)))

  -- it gives itself that length
  pub legal : Whole m.blocks → h.len ≡ place.len → RunsBy m p (record { place = place; version = h.version })
  legal w same =
      let room : 512 * place.first + place.len ≤ 512 * length m.blocks = omega (arith, points.1.2) in (
        (points, sym (ap length_of at) ∙ (sym (ap (λ (x : Header). x.len) is) ∙ same)),
        ap (λ (x : Header). x.version) is ∙ (ap version_of at ∙ sym (image_version m.blocks w place.first place.len room points.1.1)),
      )
