-- Each edge stands.
use Rattle.std.proofs.Common.{refl, inl, inr, arith, rules}
use Rattle.edges.specs.Edges.{Edges}
use Rattle.edges.proofs.Erased.{zeros_fall, ones_fall}

pub edges : Edges
edges = record {
  last_block = (omega arith, (λ h. omega arith));
  last_block_from = refl;
  last_block_to = refl;
  program_begins = refl;
  last_byte = search rules;
  past_last_byte = search rules;
  tail = (inl (omega arith, (10751, inl refl, inr (omega arith, omega arith))), refl);
  past_tail = search rules;
  flag = (inl (omega arith, (9216, inr refl, inl (omega arith, omega arith))), refl);
  past_flag = search rules;
  one_block = refl;
  two_blocks = refl;
  control_block = λ h. omega arith;
  first_open = (omega arith, omega arith);
  last_open = (omega arith, omega arith);
  no_block = λ h. omega arith;
  past_end = omega arith;
  at_end = λ h. omega arith;
  too_short = λ bytes e h. omega arith;
  long_enough = λ bytes n e. (omega arith, omega arith, omega arith);
  same_version = λ h. omega arith;
  next_version = omega arith;
  shared = (6, (omega arith, omega arith), (omega arith, omega arith));
  unshared = λ h. omega arith;
  published = refl;
  zeros = zeros_fall;
  ones = ones_fall;
}
