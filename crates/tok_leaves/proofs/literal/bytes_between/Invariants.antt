use Rattle.std.proofs.Common.{◌≡◌, ◌++◌, take, string_bytes}
use Rattle.std.specs.List.{flat_map}
use Rattle.tok_leaves.specs.Quoting.{escaped_byte}
use Rattle.tok_leaves.proofs.literal.bytes_between.Given as goal

abbrev pub invariant-loop-byte : goal.invariant-loop-byte
invariant-loop-byte l =
    string_bytes l.out ≡ l.fn.opening ++ flat_map escaped_byte (take l.byte-index l.fn.bytes)
