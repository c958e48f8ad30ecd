use Rattle.std.proofs.Common.{◌≡◌, ◌++◌, length}
use Rattle.std.specs.Prelude.{string_bytes}
use Rattle.std.specs.List.{flat_map}
use denote.Text.{Utf8}
use denote.Shadow.{shadow}
use Rattle.std.specs.Str.{chars}
use Rattle.tok_carets.specs.Lines.{shown_character}
use Rattle.tok_carets.proofs.line.push_shown.Given as goal

abbrev pub invariant-loop-after : goal.invariant-loop-after
invariant-loop-after l =
    shadow (Utf8 l.rest)
    × (string_bytes l.to ++ flat_map shown_character (chars l.rest)
    ≡ string_bytes l.fn.to ++ flat_map shown_character (chars l.fn.line))

abbrev pub decreases-loop-after : goal.decreases-loop-after
decreases-loop-after l = length l.rest
