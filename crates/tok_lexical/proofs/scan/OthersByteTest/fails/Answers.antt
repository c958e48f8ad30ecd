use Rattle.std.proofs.Common.{◌≡◌, Bool, true, false, refl, not, cond, bit_or}
use Rattle.std.specs.Prelude.{◌==◌, ◌||◌}
use lib.Lanes.{top}
use Rattle.tok_lexical.specs.Pieces.{is_neither}
use Rattle.tok_lexical.proofs.Lanes.{bits_of, lanewise, with_splat}
use Rattle.tok_lexical.proofs.scan.OthersByteTest.fails.Goals as goal

-- a lane of two comparisons is set where either holds
either_set : (a b : Bool) → top 7 (bit_or (cond a 255 0) (cond b 255 0)) ≡ not (not (a || b))
either_set true true = refl
either_set true false = refl
either_set false true = refl
either_set false false = refl

pub returns : goal.returns
returns c =
    let one = c.args.self.now.one in
    let other = c.args.self.now.other in
    let load = c.args.bytes in
    let long = c.fits-bytes.0 in
    bits_of (is_neither one other) load _ _ long c.fits-bytes.1
    (lanewise _ _ _ load (with_splat _ load 16 one long) (with_splat _ load 16 other long))
    (λ x l. either_set (x == one) (x == other))
