use Rattle.std.proofs.Common.{◌≡◌, ◌++◌, encode_utf8_all, string_bytes}
use Rattle.std.specs.Char.Iter.{escape_byte_rest}
use Rattle.tok_leaves.specs.Quoting.{escaped_byte}
use Rattle.tok_leaves.proofs.literal.push_escaped_byte.Given as goal

abbrev pub invariant-loop-c : goal.invariant-loop-c
invariant-loop-c l =
    (string_bytes l.to ++ encode_utf8_all (escape_byte_rest l.c-iterator)
    ≡ string_bytes l.fn.to ++ escaped_byte l.byte)
