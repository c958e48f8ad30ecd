use Rattle.std.proofs.Common.{◌≡◌, ◌++◌, List, ℕ, false, length}
use denote.Text.{Utf8}
use denote.Shadow.{shadow}
use Rattle.std.specs.Prelude.{encode_utf8_all, string_bytes}
use Rattle.std.specs.Str.{chars}
use Rattle.tok_values.specs.Strings.{Means}
use Rattle.tok_values.proofs.strings.push_text.Given as goal

abbrev pub invariant-loop-c : goal.invariant-loop-c
invariant-loop-c l =
    shadow (Utf8 l.rest)
    × ((characters : List ℕ) × Means false (chars l.fn.text) (chars l.rest) characters
    × (string_bytes l.to ≡ string_bytes l.fn.to ++ encode_utf8_all characters))

abbrev pub decreases-loop-c : goal.decreases-loop-c
decreases-loop-c l = length l.rest
