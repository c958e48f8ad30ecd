use Rattle.std.proofs.Common.{◌≡◌, ◌++◌, encode_utf8_all, string_bytes}
use Rattle.std.specs.Char.Iter.{escape_rest}
use Rattle.std.specs.Char.Escape.{escape_unicode}
use Rattle.tok_leaves.proofs.literal.push_shown.Given as goal

abbrev pub invariant-loop-part : goal.invariant-loop-part
invariant-loop-part l =
    (string_bytes l.to ++ encode_utf8_all (escape_rest l.part-iterator)
    ≡ string_bytes l.fn.to ++ encode_utf8_all (escape_unicode l.fn.c))
