use Rattle.std.proofs.Common.{◌≡◌, ◌≤◌, ℕ, ◌++◌, List, length, true}
use denote.Text.{Utf8}
use denote.Shadow.{shadow}
use Rattle.std.specs.Str.{chars}
use Rattle.std.specs.List.{list_all}
use Rattle.tok_lexical.specs.Characters.{is_whitespace}
use Rattle.tok_lexical.proofs.classes.past_other_whitespace.Given as goal

abbrev pub invariant-loop-c : goal.invariant-loop-c
invariant-loop-c l = shadow (Utf8 l.rest) × (length l.rest ≤ length l.fn.text)
    × ((front : List ℕ) × (chars l.fn.text ≡ front ++ chars l.rest)
    × (list_all is_whitespace front ≡ true))

abbrev pub decreases-loop-c : goal.decreases-loop-c
decreases-loop-c l = length l.rest
