-- The tag of the fed block algorithm is HMAC, for every message.
use Rattle.std.proofs.Common.{Ok, Err, Result, MatchResult, IfOk, ◌≡◌, ℕ, zero, suc, ◌+◌, ◌-◌, ◌*◌, ◌%◌, ◌^◌, ◌≤◌, List, [], ◌++◌, length, take, drop, sym, ap, ◌∙◌, arith, lit<, lit≤, length-append, length-drop}
use native.Mathlib.Nat.{mod-add-mod, mul-div-le}
use Rattle.authenticator.specs.Meaning.{tag, padded}
use Rattle.authenticator.specs.Feeding.{Held, stepped, fed}
use Rattle.authenticator.proofs.Padding.{padded-whole}
use Rattle.authenticator.proofs.Views.{ahead, bytes_seen}
use Rattle.sha256.specs.Compression.{compressed}
use Rattle.sha256.specs.Hash.{initial, chained, finished, sha256}
use Rattle.sha256.proofs.Blocks.{finished_block, finished_blocks, length-sha256}
use Rattle.hmac.specs.Hmac.{pad, inner_pad, outer_pad, hmac}
use Rattle.hmac.specs.Chains.{Chains, Progress, chains_of, hmac_chaining}
use Rattle.hmac.proofs.Pads.{length-pad}

-- n blocks more: the chaining value over them, and 512 bits for each
stepped_blocks : (k : Chains) (n : ℕ) (words : List ℕ) (bits : ℕ) (message : List ℕ)
    → stepped 64 (hmac_chaining.step k) n (record { words = words; bits = bits % 2 ^ 64 }) message
    ≡ record { words = chained n words message; bits = (bits + 512 * n) % 2 ^ 64 }
unfolding chained
stepped_blocks k zero words bits message =
    let same : bits ≡ bits + 512 * zero = omega arith in
    ap (λ b. record { words = words; bits = b % 2 ^ 64 }) same
stepped_blocks k (suc n) words bits message =
    let more : (bits + 512) + 512 * n ≡ bits + 512 * suc n = omega arith in
    ap (λ b. stepped 64 (hmac_chaining.step k) n (record { words = compressed words (take 64 message); bits = b }) (drop 64 message)) (mod-add-mod bits (2 ^ 64) 512)
    ∙ stepped_blocks k n (compressed words (take 64 message)) (bits + 512) (drop 64 message)
    ∙ ap (λ b. record { words = chained n (compressed words (take 64 message)) (drop 64 message); bits = b % 2 ^ 64 }) more

-- a key pad ahead of a message is its first block
hashed : (pad message : List ℕ) → length pad ≡ 64
    → sha256 (pad ++ message) ≡ finished (compressed initial pad) message ((512 + 8 * length message) % 2 ^ 64)
unfolding sha256
hashed pad message e =
    let long : length (pad ++ message) ≡ length pad + length message = length-append pad message in
    let count : 8 * length (pad ++ message) ≡ 512 + 8 * length message = omega arith in
    finished_block initial pad message (8 * length (pad ++ message) % 2 ^ 64) e
    ∙ ap (λ n. finished (compressed initial pad) message (n % 2 ^ 64)) count

-- the inner hash, from what the feeder holds at the end of a message
inner : (k : Chains) (message : List ℕ)
    → (let n = ahead 64 (length message) in
    let rest = drop (64 * n) message in
    finished (chained n k.inner message) rest (((512 + 512 * n) % 2 ^ 64 + 8 * length rest) % 2 ^ 64))
    ≡ finished k.inner message ((512 + 8 * length message) % 2 ^ 64)
inner k message =
    let n = ahead 64 (length message) in
    let rest = drop (64 * n) message in
    let fits : 64 * n ≤ length message - 1 = mul-div-le (length message - 1) 64 in
    let left : length rest ≡ length message - 64 * n = length-drop (64 * n) message in
    let count : (512 + 512 * n) + 8 * length rest ≡ 512 + 8 * length message = omega arith in
    ap (λ b. finished (chained n k.inner message) rest b) (mod-add-mod (512 + 512 * n) (2 ^ 64) (8 * length rest) ∙ ap (λ b. b % 2 ^ 64) count)
    ∙ sym (finished_blocks n k.inner message ((512 + 8 * length message) % 2 ^ 64) (omega arith))

pub hmac_law : (key message : List ℕ) → length key ≡ 32 → tag (fed 64 hmac_chaining) (chains_of key) message ≡ hmac key message
unfolding hmac
hmac_law key message e =
    let k = chains_of key in
    let step = hmac_chaining.step k in
    let n = ahead 64 (length message) in
    let rest = drop (64 * n) message in
    let digest = sha256 (inner_pad key ++ message) in
    let outer : sha256 (outer_pad key ++ digest) ≡ finished k.outer digest 768 =
    hashed (outer_pad key) digest (length-pad 0x5c key e)
    ∙ ap (λ m. finished k.outer digest ((512 + 8 * m) % 2 ^ 64)) (length-sha256 (inner_pad key ++ message)) in
    ap (λ h. hmac_chaining.finish k h.value h.waiting) (bytes_seen 64 step (lit< tt) (hmac_chaining.start k) [] message (lit≤ tt))
    ∙ ap (λ v. hmac_chaining.finish k v rest) (stepped_blocks k n k.inner 512 message)
    ∙ ap (λ i. finished k.outer i 768) (inner k message ∙ sym (hashed (inner_pad key) message (length-pad 0x36 key e)))
    ∙ sym outer

-- the same of each authenticator that is made, which holds the key's chaining values
pub keyed_law : {A E : Type 0} (r : Result A E) (held : A → Chains) (Q : E → Type 0) (R : A → Type 0) (key : List ℕ)
    → MatchResult r (λ _. length key ≡ 32) Q → IfOk r (λ h. (held h ≡ chains_of key) × R h)
    → IfOk r (λ h. (message : List ℕ) → tag (fed 64 hmac_chaining) (held h) message ≡ hmac key message)
keyed_law (Ok h) held Q R key long made = λ message. ap (λ k. tag (fed 64 hmac_chaining) k message) made.0 ∙ hmac_law key message long
keyed_law (Err e) held Q R key long made = made

-- what closing writes, after a new authenticator was fed the message
pub told : (k k₂ : Chains) (s s₂ : Held Progress) (key message out : List ℕ)
    → k₂ ≡ k → s ≡ (fed 64 hmac_chaining).begin k → s₂ ≡ (fed 64 hmac_chaining).feeds k s message
    → tag (fed 64 hmac_chaining) k message ≡ hmac key message
    → out ≡ padded ((fed 64 hmac_chaining).closes k₂ s₂) → out ≡ hmac key message
told k k₂ s s₂ key message out ek es es₂ law e =
    let M = fed 64 hmac_chaining in
    e ∙ padded-whole (M.closes k₂ s₂) (M.sized k₂ s₂)
    ∙ ap (λ q. M.closes q s₂) ek
    ∙ ap (M.closes k) (es₂ ∙ ap (λ q. M.feeds k q message) es)
    ∙ law

pub length-hmac : (key message : List ℕ) → length (hmac key message) ≡ 32
unfolding hmac
length-hmac key message = length-sha256 (outer_pad key ++ sha256 (inner_pad key ++ message))
