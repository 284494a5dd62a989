use Rattle.std.proofs.Common.{Global, ap, sym, subst, ◌∙◌, Err}
use Rattle.commands.specs.Key.{key_of}
use Rattle.commands.specs.Kind.{tag_length}
use Rattle.commands.specs.Token.{confirmed, Checks}
use Rattle.commands.specs.Report.{Judges, Ends}
use Rattle.commands.proofs.Reported.{judged_no, unjudged, tells_why}
use Rattle.commands.proofs.reports.verify_report.Goals as goal

pub returns-in-Err : goal.returns-in-Err
returns-in-Err c =
    subst (λ n. Ends c.keyless.result (Judges c.args.kind (key_of n c.args.key_file.now) c.args.request.version c.args.request.nonce c.args.confirmation.now)) c.key_len.ensures
    (unjudged Global c.args.kind c.key_len.result c.args.key_file.now c.args.request.version c.args.request.nonce c.args.confirmation.now c.in-Err.failure c.keyless.result c.in-Err.ensures.value c.keyless.ensures)

pub returns : goal.returns
returns c =
    tells_why c.refusal_text.result c.failed.result _ c.failed.ensures
    (λ t. judged_no c.args.kind _ _ c.args.request.version c.args.request.nonce c.args.confirmation.now t c.in-Err-check_confirmation.refusal
    (ap (λ n. key_of n c.args.key_file.now) (sym c.key_len.ensures) ∙ c.in-Ok.ensures.value)
    (subst (λ k. Checks (tag_length c.args.kind) (confirmed c.args.kind k c.args.request.version c.args.request.nonce) c.args.confirmation.now (Err c.in-Err-check_confirmation.refusal))
    c.as_slice.ensures.value c.in-Err-check_confirmation.ensures))
