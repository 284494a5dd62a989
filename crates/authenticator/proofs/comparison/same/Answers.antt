use Rattle.std.proofs.Common.{refl, rules}
use Rattle.std.specs.List.{zip}
use Rattle.std.proofs.lemmas.Bool.{eqb-true, eq-eqb}
use Rattle.std.proofs.lemmas.Iterator.{YieldsList-from_slice, YieldsList-from_zip, zips}
use Rattle.std.proofs.lemmas.Fn.{fronts, fold_over}
use Rattle.authenticator.proofs.Equal.{Found, found_more, found_all}
use Rattle.authenticator.proofs.comparison.same.Goals as goal

pub returns : goal.returns
returns c =
    let a = c.args.a.now in
    let b = c.args.b.now in
    let found : Found (zip a b) c.fold-differ.result =
    fold_over (zips fronts fronts) (λ p. (p.0.now, p.1.now)) _ Found _ (λ ps d p e f j k. (found_more ps d e (p.0.now, p.1.now) (search rules) j, search rules)) c.zip.result (zip a b) 0 _
    (YieldsList-from_zip {s = c.zip.result} (YieldsList-from_slice a cc) (YieldsList-from_slice b cc)).runs (λ e. tt, λ s. refl) c.fold-differ.ensures.ran in
    let all = found_all a b c.fold-differ.result c.if-a-b.false found in
    record { yes = λ e. all.0 (eqb-true c.fold-differ.result 0 e); no = λ e. eq-eqb c.fold-differ.result 0 (all.1 e) }
