use Rattle.std.proofs.Common.{◌≡◌, length, ap, ◌∙◌, arith, min, take}
use Rattle.std.proofs.lemmas.List.{take_min}
use Rattle.lens_rows.proofs.told.front.Goals as goal

pub returns-clause-value : goal.returns-clause-value
returns-clause-value c =
    let bytes = c.args.bytes.now in
    let same : c.min.result ≡ min 256 (length bytes) = omega (arith, c.min.ensures) in
    ap (λ n. take n bytes) same ∙ take_min 256 bytes
