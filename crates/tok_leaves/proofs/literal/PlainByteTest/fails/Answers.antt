use Rattle.std.proofs.Common.{refl, ltb, cond}
use Rattle.std.proofs.lemmas.Simd.{zip2_splat_left}
use Rattle.tok_lexical.proofs.Lanes.{bits_by_table, lanewise, with_splat}
use Rattle.tok_leaves.specs.Private.Plain.{is_plain}
use Rattle.tok_leaves.proofs.literal.PlainByteTest.fails.Goals as goal

pub returns : goal.returns
returns c =
    let load = c.args.bytes in
    let long = c.fits-bytes.0 in
    bits_by_table is_plain load _ _ long c.fits-bytes.1
    (lanewise _ _ _ load
    (lanewise _ _ _ load
    (lanewise _ _ _ load (with_splat _ load 16 32 long)
    (zip2_splat_left (λ a b. cond (ltb a b) 255 0) 126 16 load long))
    (with_splat _ load 16 34 long)) (with_splat _ load 16 92 long)) refl
