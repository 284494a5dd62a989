-- From what was made of a key to what a command answers.
use Rattle.std.proofs.Common.{string_bytes, ◌≡◌, ℕ, List, ◌∷◌, length, take, Ok, Err, Result, refl, sym, ap, subst, ◌∙◌, inl, inr, MatchResult, ◌≢◌, arith}
use Rattle.std.specs.declared.alloc.AllocError.{AllocError}
use Rattle.std.specs.declared.string.String.{String}
use Rattle.authenticator.specs.Meaning.{padded}
use Rattle.authenticator.proofs.Padding.{front_padded}
use Rattle.refusal.specs.declared.Refusal.{Refusal}
use Rattle.layout.specs.declared.header.Header.{Header}
use Rattle.layout.specs.Header.{header_of}
use Rattle.layout.specs.Image.{IsImage, vectors_of}
use Rattle.cmac.proofs.Law.{length-cmac}
use Rattle.hmac.proofs.Law.{length-hmac}
use Rattle.commands.specs.declared.failure.Failure.{Failure}
use Rattle.commands.specs.declared.failure.Failure.TheVariants.{Cause, Memory}
use Rattle.commands.specs.declared.key.KeyFault.{KeyFault}
use Rattle.commands.specs.declared.kinds.Kind.{Kind}
use Rattle.commands.specs.declared.kinds.Kind.TheVariants.{Hmac, Cmac}
use Rattle.commands.specs.Failure.{IsCause}
use Rattle.commands.specs.Key.{key_of, Read}
use Rattle.commands.specs.Kind.{tag_length, tag_of}
use Rattle.commands.specs.Report.{token_text, Reports, Judges, Ends}
use Rattle.commands.specs.Token.{token, confirmed, Checks}

length-tag : (kind : Kind) (key message : List ℕ) → length (tag_of kind key message) ≡ tag_length kind
length-tag Hmac key message = length-hmac key message
length-tag Cmac key message = length-cmac key message

-- without a key, whatever is told comes with status 1
without_key : {Z : Type 0} (Y : Type 0) (len : ℕ) (file : List ℕ) (failure : Failure KeyFault) (r : Result (String Z) (Failure (String Z)))
    (Says : Result (List ℕ) KeyFault → ℕ → List ℕ → Type 0) → Read {Z = Y} len file (Err failure)
    → Ends r (λ status text. (status ≡ 1) × IsCause failure) → ((fault : KeyFault) (text : List ℕ) → Says (Err fault) 1 text)
    → Ends r (Says (key_of len file))
without_key Y len file failure (Ok text) Says none told says = absurd (omega (arith, told.0))
without_key Y len file (Cause fault) (Err (Cause text)) Says none told says = subst (λ k. Says k 1 (string_bytes text)) (sym none) (says fault (string_bytes text))
without_key Y len file (Memory e) (Err (Cause text)) Says none told says = absurd told.1
without_key Y len file failure (Err (Memory e)) Says none told says = tt

pub unreported : {Z : Type 0} (Y : Type 0) (kind : Kind) (len : ℕ) (file image : List ℕ) (failure : Failure KeyFault) (r : Result (String Z) (Failure (String Z)))
    → Read {Z = Y} len file (Err failure) → Ends r (λ status text. (status ≡ 1) × IsCause failure) → Ends r (Reports kind (key_of len file) image)
unreported Y kind len file image failure r none told =
    without_key Y len file failure r (λ k. Reports kind k image) none told (λ fault text. refl)

pub unjudged : {Z : Type 0} (Y : Type 0) (kind : Kind) (len : ℕ) (file : List ℕ) (version : ℕ) (nonce confirmation : List ℕ) (failure : Failure KeyFault)
    (r : Result (String Z) (Failure (String Z)))
    → Read {Z = Y} len file (Err failure) → Ends r (λ status text. (status ≡ 1) × IsCause failure) → Ends r (Judges kind (key_of len file) version nonce confirmation)
unjudged Y kind len file version nonce confirmation failure r none told =
    without_key Y len file failure r (λ k. Judges kind k version nonce confirmation) none told (λ fault text. inr ((λ a. a), refl))

-- with one, the token is told
pub reported : (kind : Kind) (k : Result (List ℕ) KeyFault) (key image image' made vectors text : List ℕ) (header : Header) (n : ℕ)
    → k ≡ Ok key → IsImage image → image' ≡ image → made ≡ padded (token kind key image') → header ≡ header_of image' → vectors ≡ vectors_of image'
    → n ≡ tag_length kind → text ≡ token_text kind header vectors (take n made) → Reports kind k image 0 text
reported kind k key image image' made vectors text header n is image_is same told eh ev en e =
    let mac = token kind key image' in
    let front : take n made ≡ mac =
    ap (λ i. take i made) en ∙ ap (take (tag_length kind)) told ∙ front_padded mac (tag_length kind) (length-tag kind key (0 ∷ image')) in
    let whole : text ≡ token_text kind (header_of image') (vectors_of image') mac =
    e ∙ ap (λ h. token_text kind h vectors (take n made)) eh ∙ ap (λ v. token_text kind (header_of image') v (take n made)) ev ∙ ap (token_text kind (header_of image') (vectors_of image')) front in
    subst (λ r. Reports kind r image 0 text) (sym is)
    (inl (image_is, refl, subst (λ i. text ≡ token_text kind (header_of i) (vectors_of i) (token kind key i)) same whole))

-- a confirmation that was refused is not the right one
refused : (size : ℕ) (right confirmation : List ℕ) (e : Refusal) → length right ≡ size → Checks size right confirmation (Err e) → confirmation ≢ right
refused size right confirmation e long (inl (is, other)) same = other (ap length same ∙ long)
refused size right confirmation e long (inr (is, len, other)) same = other same

pub judged_no : (kind : Kind) (k : Result (List ℕ) KeyFault) (key : List ℕ) (version : ℕ) (nonce confirmation text : List ℕ) (e : Refusal)
    → k ≡ Ok key → Checks (tag_length kind) (confirmed kind key version nonce) confirmation (Err e) → Judges kind k version nonce confirmation 1 text
judged_no kind k key version nonce confirmation text e is wrong =
    subst (λ r. Judges kind r version nonce confirmation 1 text) (sym is)
    (inr (refused (tag_length kind) (confirmed kind key version nonce) confirmation e (length-tag kind key _) wrong, refl))

-- a text that tells why comes with status 1
pub tells_why : {Z : Type 0} (text : Result (String Z) AllocError) (r : Result (String Z) (Failure (String Z))) (Says : ℕ → List ℕ → Type 0)
    → MatchResult text (λ t. r ≡ Err (Cause t)) (λ e. r ≡ Err (Memory e)) → ((t : List ℕ) → Says 1 t) → Ends r Says
tells_why (Ok t) r Says is says = subst (λ x. Ends x Says) (sym is) (says _)
tells_why (Err e) r Says is says = subst (λ x. Ends x Says) (sym is) tt
