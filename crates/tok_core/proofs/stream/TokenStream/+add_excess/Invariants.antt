use Rattle.std.proofs.Common.{◌≡◌, ◌+◌, ◌≤◌, min, drop}
use Rattle.tok_core.specs.Seen.{trees_of}
use Rattle.tok_core.specs.Private.Excess.{excess}
use Rattle.tok_core.proofs.stream.TokenStream.+add_excess.Given as goal

abbrev pub invariant-loop-next : goal.invariant-loop-next
invariant-loop-next l =
    (min (l.sum + excess (trees_of (drop l.next-index l.next-items))) 0xffff_ffff_ffff_ffff
    ≡ min (l.counted + excess l.self) 0xffff_ffff_ffff_ffff)
    × (trees_of l.next-items ≡ l.self)
    × (l.sum ≤ 0xffff_ffff_ffff_ffff)
