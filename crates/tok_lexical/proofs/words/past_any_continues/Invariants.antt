use Rattle.std.proofs.Common.{◌≡◌, ℕ, ◌++◌, List, length, true}
use denote.Text.{Utf8}
use denote.Shadow.{shadow}
use Rattle.std.specs.Str.{chars}
use Rattle.std.specs.List.{list_all}
use Rattle.unicode_ident.specs.Ident.{is_xid_continue}
use Rattle.tok_lexical.proofs.words.past_any_continues.Given as goal

abbrev pub invariant-loop-c : goal.invariant-loop-c
invariant-loop-c l = shadow (Utf8 l.rest)
    × ((front : List ℕ) × (chars l.fn.text ≡ front ++ chars l.rest)
    × (list_all is_xid_continue front ≡ true))

abbrev pub decreases-loop-c : goal.decreases-loop-c
decreases-loop-c l = length l.rest
