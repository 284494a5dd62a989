-- The tag of the fed block algorithm is CMAC, for every key and every message.
use Rattle.std.proofs.Common.{◌≡◌, ℕ, zero, suc, ◌+◌, ◌-◌, ◌*◌, ◌/◌, max, List, [], length, take, drop, sym, refl, ap, ◌∙◌, arith, lit<, lit≤}
use Rattle.authenticator.specs.Meaning.{tag}
use Rattle.authenticator.specs.Feeding.{stepped, fed}
use Rattle.authenticator.proofs.Views.{ahead, bytes_seen}
use Rattle.aes.specs.Cipher.{cipher}
use Rattle.cmac.specs.Blocks.{zeros, xored}
use Rattle.cmac.specs.Cmac.{chained, closed, cmac}
use Rattle.cmac.specs.Chains.{cmac_chaining}

-- the chain over the first n blocks
stepped_blocks : (n : ℕ) (key x message : List ℕ) → stepped 16 (cmac_chaining.step key) n x message ≡ chained n key x message
unfolding chained
stepped_blocks zero key x message = refl
stepped_blocks (suc n) key x message = stepped_blocks n key (cipher key (xored x (take 16 message))) (drop 16 message)

-- the blocks ahead of the last are those that a byte follows
before_last : (n : ℕ) → ahead 16 n ≡ max 1 ((n + 15) / 16) - 1
before_last n = omega arith

pub cmac_law : (key message : List ℕ) → tag (fed 16 cmac_chaining) key message ≡ cmac key message
unfolding cmac
cmac_law key message =
    let n = ahead 16 (length message) in
    ap (λ h. closed key h.value h.waiting) (bytes_seen 16 (cmac_chaining.step key) (lit< tt) zeros [] message (lit≤ tt))
    ∙ ap (λ x. closed key x (drop (16 * n) message)) (stepped_blocks n key zeros message)
    ∙ ap (λ m. closed key (chained m key zeros message) (drop (16 * m) message)) (before_last (length message))

-- the same of an authenticator that holds the key
pub keyed_law : (k key message : List ℕ) → k ≡ key → tag (fed 16 cmac_chaining) k message ≡ cmac key message
keyed_law k key message e = ap (λ q. tag (fed 16 cmac_chaining) q message) e ∙ cmac_law key message

pub length-cmac : (key message : List ℕ) → length (cmac key message) ≡ 16
length-cmac key message =
    let M = fed 16 cmac_chaining in
    ap length (sym (cmac_law key message)) ∙ M.sized key (M.feeds key (M.begin key) message)
