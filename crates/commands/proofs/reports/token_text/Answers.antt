use Rattle.std.proofs.Common.{◌++◌, string_bytes, refl, ap, ◌∙◌}
use Rattle.commands.specs.Hex.{hex_of}
use Rattle.commands.specs.Report.{numbers_text, token_text}
use Rattle.commands.proofs.Joined.{eight_pieces}
use Rattle.commands.proofs.reports.token_text.Goals as goal

pub returns : goal.returns
unfolding token_text
returns c =
    eight_pieces (numbers_text c.args.header.now) _ _ _ _ _ _ _ _ _ (hex_of c.args.header.now.nonce) _ _ _ _ _ _ _ refl
    c.in_ok-text.ensures c.in_ok-push_str.ensures.bytes
    c.in_ok-push_hex.ensures.bytes c.in_ok-push_str-2.ensures.bytes
    (c.in_ok-push_str-3.ensures.bytes ∙ ap (λ n. string_bytes c.push_str-2.new.self ++ n) c.name.ensures)
    c.in_ok-push_str-4.ensures.bytes
    c.in_ok-push_hex-2.ensures.bytes c.in_ok-push_str-5.ensures.bytes
