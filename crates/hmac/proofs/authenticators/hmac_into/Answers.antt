use Rattle.std.proofs.lemmas.Result.{MatchResult-weaker}
use Rattle.hmac.specs.Keyed.{chains_in, held_in}
use Rattle.hmac.proofs.Law.{told}
use Rattle.hmac.proofs.authenticators.hmac_into.Goals as goal

pub returns-clause-out : goal.returns-clause-out
returns-clause-out c =
    let made = c.in_ok-authenticator.ensures in
    let a = c.in_ok-authenticator.authenticator in
    let fed = c.feed.new.self in
    MatchResult-weaker c.close.result c.close.ensures.out
    (λ _ e. told (chains_in a) (chains_in fed) (held_in a) (held_in fed) c.args.key.now c.args.message.now _ c.feed.ensures.key made.made.1 c.feed.ensures.state (made.law c.args.message.now) e)
    (λ _ e. e)
