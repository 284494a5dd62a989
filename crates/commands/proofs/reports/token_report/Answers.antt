use Rattle.std.proofs.Common.{Global, ap, sym, subst, ◌∙◌}
use Rattle.authenticator.specs.Meaning.{padded}
use Rattle.commands.specs.Key.{key_of}
use Rattle.commands.specs.Token.{token}
use Rattle.commands.specs.Report.{Reports, Ends}
use Rattle.commands.proofs.Reported.{reported, unreported}
use Rattle.commands.proofs.reports.token_report.Goals as goal

pub returns-in-Err : goal.returns-in-Err
returns-in-Err c =
    subst (λ n. Ends c.keyless.result (Reports c.args.kind (key_of n c.args.key_file.now) c.args.image.now)) c.key_len.ensures
    (unreported Global c.args.kind c.key_len.result c.args.key_file.now c.args.image.now c.in-Err.failure c.keyless.result c.in-Err.ensures.value c.keyless.ensures)

pub returns : goal.returns
returns c =
    reported c.args.kind _ _ c.args.image.now c.in-Ok-read.image.bytes.now c.make_token-token.result c.vectors.result.now _ c.header.result c.tag_len.result
    (ap (λ n. key_of n c.args.key_file.now) (sym c.key_len.ensures) ∙ c.in-Ok.ensures.value) c.in-Ok-read.ensures.0 c.in-Ok-read.ensures.1
    (c.make_token-token.ensures ∙ ap (λ k. padded (token c.args.kind k c.in-Ok-read.image.bytes.now)) c.as_slice.ensures.value) c.header.ensures c.vectors.ensures c.tag_len.ensures c.in_ok-token_text.ensures
