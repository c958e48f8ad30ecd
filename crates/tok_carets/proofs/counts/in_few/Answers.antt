use Rattle.std.proofs.Common.{◌∙◌, ap, arith, eqb, w8}
use Rattle.std.specs.Prelude.{count_ones}
use Rattle.memchr.specs.Find.{is_byte}
use Rattle.std.specs.Simd.Lanes.{chunk}
use Rattle.std.proofs.lemmas.Simd.{bitmask_splat, length-chunk, ones-mask_l}
use Rattle.tok_carets.proofs.Lanes.{count_more}
use Rattle.tok_carets.proofs.counts.in_few.Goals as goal

pub returns : goal.returns
returns c =
    let bytes = c.args.bytes.now in
    let lanes = chunk c.args.at 16 bytes in
    let long = length-chunk c.args.at 16 bytes (omega arith) in
    let mask = bitmask_splat w8 eqb lanes 16 10 long (omega arith) in
    let ones = ap count_ones mask ∙ ones-mask_l (is_byte 10) lanes in
    let more = count_more (is_byte 10) bytes c.args.at 16 in
    omega arith
