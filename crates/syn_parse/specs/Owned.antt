-- Keywords of one's own, by their texts.
use Rattle.std.specs.Prelude.{ℕ, Bool, false, ◌&&◌, if◌then◌else◌, List, [], ◌∷◌, is_some}
use Rattle.std.specs.List.{list_all}
use Rattle.std.specs.Str.{chars}
use Rattle.unicode_ident.specs.Ident.{is_xid_continue}
use Rattle.tok_lexical.specs.Words.{is_identifier_start}
use Rattle.tok_leaves.specs.declared.span.Span.{Span}
use Rattle.tok_leaves.specs.Leaves.{ident}
use Rattle.tok_core.specs.Forest.{Forest, leaf, no_trees, tree}
use Rattle.syn_parse.specs.Takes.{Taking}
use Rattle.syn_parse.specs.Tokens.{own, take_token}
use Rattle.syn_parse.specs.TreesAhead.{Ahead}
use Rattle.tok_buffer.specs.EachRead.{first_keyword}

-- the characters are those of an identifier
abbrev pub is_word : List ℕ → Bool
is_word [] = false
is_word (c ∷ cs) = is_identifier_start c && list_all is_xid_continue cs

-- an identifier of this text, and nothing for a text that is none
abbrev pub own_word : List ℕ → Span → Forest
own_word text span =
    if is_word (chars text) then tree (leaf (ident text span)) no_trees else no_trees

-- a peek of the keyword with this text
unfoldable pub own_first : List ℕ → Forest → Bool
own_first text f = is_some (first_keyword text f)

-- the keyword with this text is taken, and its span is the value
abbrev pub take_own : List ℕ → Taking Span
take_own text = take_token (own text)

-- a peek of the keyword with this text, by what is ahead
abbrev pub sees_own : List ℕ → Ahead → Bool
sees_own text a = own_first text a.trees
