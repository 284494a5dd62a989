use Rattle.std.proofs.Common.{sym, refl, ◌∙◌, inr}
use Rattle.std.proofs.lemmas.Bool.{both_ways}
use Rattle.planner.proofs.Tags.{front_confirmed}
use Rattle.planner.proofs.requests.Request.verify.Goals as goal

pub returns-then-same-clause-answer : goal.returns-then-same-clause-answer
returns-then-same-clause-answer g c =
    sym (c.same.ensures.yes c.if-same.true)
    ∙ front_confirmed g.K.Authenticator.means _ c.args.self.version c.args.self.nonce _ _ c.tag_len-2.ensures.value c.in_ok-confirm.ensures.out

pub returns-else-same-clause-answer : goal.returns-else-same-clause-answer
returns-else-same-clause-answer g c =
    let front = front_confirmed g.K.Authenticator.means _ c.args.self.version c.args.self.nonce _ _ c.tag_len-2.ensures.value c.in_ok-confirm.ensures.out in
    inr (refl, c.if-confirmation-tag_len.false ∙ c.tag_len.ensures.value, λ e. both_ways c.same.result c.if-same.false (c.same.ensures.no (front ∙ sym e)))
