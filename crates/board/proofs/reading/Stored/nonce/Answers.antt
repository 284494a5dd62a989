use Rattle.std.proofs.Common.{sym, ap, ◌∙◌, arith}
use Rattle.layout.specs.Image.{nonce_of}
use Rattle.layout.specs.declared.header.Header.{Header}
use Rattle.board.proofs.Images.{image_nonce}
use Rattle.board.proofs.reading.Stored.nonce.Goals as goal

pub returns : goal.returns
returns g c =
    let image = c.args.self.now in
    ap (λ (h : Header). h.nonce) c.header.ensures
    ∙ (ap nonce_of c.fetch.ensures ∙ sym (image_nonce _ image.reader.readable.1 image.place.first image.place.len (omega arith) (omega arith)))
