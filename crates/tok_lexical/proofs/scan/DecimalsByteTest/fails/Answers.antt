use Rattle.std.proofs.Common.{refl, leb, cond}
use Rattle.tok_lexical.specs.Numbers.{is_digit_or_underscore}
use Rattle.tok_lexical.proofs.Lanes.{bits_by_table, lanewise, splat, with_splat}
use Rattle.tok_lexical.proofs.scan.DecimalsByteTest.fails.Goals as goal

pub returns : goal.returns
returns c =
    let load = c.args.bytes in
    let long = c.fits-bytes.0 in
    bits_by_table (is_digit_or_underscore 10) load _ _ long c.fits-bytes.1
    (lanewise _ _ _ load
    (lanewise (λ a b. cond (leb a b) 255 0) _ _ load (splat load 16 10 long)
    (with_splat _ load 16 48 long)) (with_splat _ load 16 95 long)) refl
