use Rattle.std.proofs.Common.{refl}
use Rattle.tok_lexical.proofs.Lanes.{bits_by_table, lanewise, with_splat}
use Rattle.tok_leaves.specs.Private.Plain.{is_unescaped}
use Rattle.tok_leaves.proofs.literal.UnescapedByteTest.fails.Goals as goal

pub returns : goal.returns
returns c =
    let load = c.args.bytes in
    let long = c.fits-bytes.0 in
    bits_by_table is_unescaped load _ _ long c.fits-bytes.1
    (lanewise _ _ _ load
    (lanewise _ _ _ load
    (lanewise _ _ _ load
    (lanewise _ _ _ load
    (lanewise _ _ _ load (with_splat _ load 16 34 long) (with_splat _ load 16 92 long))
    (with_splat _ load 16 10 long)) (with_splat _ load 16 13 long)) (with_splat _ load 16 9 long))
    (with_splat _ load 16 0 long)) refl
