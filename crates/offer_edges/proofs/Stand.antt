-- Each edge of an offer stands.
use Rattle.std.proofs.Common.{arith}
use Rattle.authenticator.specs.Meaning.{Meaning}
use Rattle.offer_edges.specs.Edges.{board, higher, OfferEdges}
use Rattle.offer_edges.proofs.Offered.{out_of_range, bad_image, past_length, running_block, past_blocks, not_newer, past_version}

pub edges : (a : Meaning) (key : a.Key) → OfferEdges a key
edges a key = record {
  control_block = λ x. out_of_range a key board 3 x (λ h. omega arith);
  no_block = λ x. out_of_range a key board 8 x (λ h. omega arith);
  past_end = λ x e. bad_image a key board 7 x (omega arith, omega arith) (λ h. h.1 (omega (arith, e)));
  at_end = λ x e. past_length a key board 7 x (omega arith, omega arith) (omega (arith, e)) (λ h. omega (arith, e, h));
  too_short = λ x e. bad_image a key board 7 x (omega arith, omega arith) (λ h. omega (arith, e, h.0));
  long_enough = λ x e. past_length a key board 7 x (omega arith, omega arith) (omega (arith, e)) (λ h. omega (arith, e, h));
  same_version = λ x e v.
      not_newer a key board 7 x (omega arith, omega arith) (omega (arith, e)) (λ h. omega (arith, e, h))
      (λ h. omega (arith, h.1.0, h.2.1)) (λ h. omega (arith, v, h));
  next_version = λ x e v.
      past_version a key board 7 x (omega arith, omega arith) (omega (arith, e)) (λ h. omega (arith, e, h))
      (λ h. omega (arith, h.1.0, h.2.1)) (omega (arith, v));
  shared = λ x e.
      running_block a key higher 4 x (omega arith, omega arith) (omega (arith, e)) (λ h. omega (arith, e, h))
      (6, (omega arith, omega (arith, e)), (omega arith, omega arith));
  unshared = λ x e.
      past_blocks a key higher 4 x (omega arith, omega arith) (omega (arith, e)) (λ h. omega (arith, e, h))
      (λ h. omega (arith, e, h.1.1, h.2.0));
}
