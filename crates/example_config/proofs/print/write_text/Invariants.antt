use Rattle.std.proofs.Common.{◌≡◌, ◌++◌, List, ℕ, IsUtf8, flat_map}
use Rattle.std.specs.Fmt.{HasWritten, IsPlainFormatter}
use Rattle.std.specs.Str.{chars}
use Rattle.std.specs.Str.Iter.{chars_rest}
use Rattle.tok_leaves.specs.Quoting.{escaped}
use Rattle.example_config.proofs.print.write_text.Given as goal

abbrev pub invariant-loop-c : goal.invariant-loop-c
invariant-loop-c g l =
    IsUtf8 (chars_rest l.c-iterator)
    × (IsPlainFormatter l.initial.f → (done : List ℕ)
    × HasWritten g.W.Write.write_str_gives l.initial.f done l.f
    × (done ++ flat_map escaped (chars (chars_rest l.c-iterator))
    ≡ flat_map escaped (chars l.fn.text)))
