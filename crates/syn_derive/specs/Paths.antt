-- Paths without arguments, by the visible trees ahead: the simple paths of "Paths" in the Rust
-- Reference. As in syn, `Self` may be a segment of one.
use Rattle.std.specs.Prelude.{ℕ, Bool, ◌||◌, false, List, [], ◌∷◌, Option, None, Some}
use Rattle.std.specs.Prelude.{bytes_eq, codes}
use Rattle.tok_leaves.specs.Leaves.{ident_of}
use Rattle.tok_leaves.specs.declared.ident.Ident.{Ident}
use Rattle.tok_core.specs.Forest.{Forest, leaf, no_trees, tree}
use Rattle.tok_core.specs.Laws.{followed_by, optional_trees}
use Rattle.syn_parse.specs.Lighter.{lightens_lower}
use Rattle.syn_parse.specs.Optional.{take_optional}
use Rattle.syn_parse.specs.Takes.{Taking, ◌>>=◌, gives, refuses, where_ahead}
use Rattle.syn_parse.specs.Takings.{Lightens, Lowers}
use Rattle.syn_parse.specs.TokenNames.{Crate, PathSep, SelfType, SelfValue, Super, Token, sees}
use Rattle.syn_parse.specs.TokenNames.{take}
use Rattle.syn_parse.specs.Tokens.{sees_any_ident, sees_literal, take_any_ident, take_ident}
use Rattle.syn_parse.specs.TreesAhead.{Ahead, is_spent}
use Rattle.syn_parse.specs.Weighing.{weighing}
use Rattle.syn_punctuated.specs.Lists.{separators_of, values_of}
use Rattle.syn_punctuated.specs.Printed.{by_turns}
use Rattle.syn_punctuated.specs.TakeLists.{list_form, take_separated}
use Rattle.syn_punctuated.specs.Weighing.{weighing_lists}
use Rattle.syn_derive.specs.Printing.{sign_trees}
use Rattle.syn_derive.specs.declared.path.Path.{Path}
use Rattle.syn_derive.specs.declared.path.PathSegment.{PathSegment}

-- a reserved word that may be a segment
abbrev pub sees_path_word : Ahead → Bool
sees_path_word a = sees Crate a || sees SelfValue a || sees Super a || sees SelfType a

-- a segment: one of these words, or an identifier that is not reserved
unfoldable pub take_segment : Taking PathSegment
take_segment = do
  ident ← where_ahead sees_path_word take_any_ident take_ident
  gives (record { ident = ident })

-- a segment takes something
pub lowers_segment : Lowers take_segment
unfolding take_segment
lowers_segment = search weighing depth 20

-- a segment adds nothing to what is ahead
pub lightens_segment : Lightens take_segment
lightens_segment = lightens_lower take_segment lowers_segment

-- the `::` before the segments, the segments, and each `::` between them
abbrev pub PathForm : Type 0
PathForm = Option (Token PathSep) × (List PathSegment × List (Token PathSep))

-- a path as contracts see it: its first `::` and its segments
abbrev pub path_form : Path → PathForm
path_form p = (p.leading_colon, list_form (λ v. v) (λ p. p) p.segments)

-- a path
unfoldable pub take_path : Taking PathForm
take_path = do
  colon ← take_optional (sees PathSep) (take PathSep)
  segments ← take_separated (sees PathSep) take_segment (take PathSep)
  gives (colon, segments)

-- a path adds nothing to what is ahead
pub lightens_path : Lightens take_path
unfolding take_path
lightens_path = search (weighing_lists, lightens_segment) depth 40

-- a segment of any text
unfoldable pub take_any_segment : Taking PathSegment
take_any_segment = do
  ident ← take_any_ident
  gives (record { ident = ident })

-- a segment of any text takes something
pub lowers_any_segment : Lowers take_any_segment
unfolding take_any_segment
lowers_any_segment = search weighing depth 20

-- a segment of any text adds nothing to what is ahead
pub lightens_any_segment : Lightens take_any_segment
lightens_any_segment = lightens_lower take_any_segment lowers_any_segment

-- segments of any text with `::` between them
unfoldable pub take_any_segments : Taking (List PathSegment × List (Token PathSep))
take_any_segments = take_separated (sees PathSep) take_any_segment (take PathSep)

-- the segments of a nested meta's path, of any text; the error tells the end, a literal and another
-- token apart
unfoldable pub take_nested_segments : Taking (List PathSegment × List (Token PathSep))
take_nested_segments =
    where_ahead sees_any_ident take_any_segments
    (where_ahead is_spent (refuses (codes "expected nested attribute"))
    (where_ahead sees_literal
    (refuses (codes "unexpected literal in nested attribute, expected ident"))
    (refuses (codes "unexpected token in nested attribute, expected ident"))))

-- a path of any words
unfoldable pub take_nested_path : Taking PathForm
take_nested_path = do
  colon ← take_optional (sees PathSep) (take PathSep)
  segments ← take_nested_segments
  gives (colon, segments)

-- segments of any text add nothing to what is ahead
pub lightens_any_segments : Lightens take_any_segments
unfolding take_any_segments
lightens_any_segments = search (weighing_lists, lightens_any_segment) depth 40

-- such segments add nothing, whatever the error
pub lightens_nested_segments : Lightens take_nested_segments
unfolding take_nested_segments
lightens_nested_segments = search (weighing_lists, lightens_any_segments) depth 40

-- a path of any words adds nothing to what is ahead
pub lightens_nested_path : Lightens take_nested_path
unfolding take_nested_path
lightens_nested_path = search (weighing_lists, lightens_nested_segments) depth 40

-- a path that is a segment alone
abbrev pub only_segment : Ident → PathForm
only_segment ident = (None, (record { ident = ident } ∷ [], []))

-- the identifier of a path that is a segment alone
abbrev pub only_ident : PathForm → Option Ident
only_ident (None, (s ∷ [], [])) = Some s.ident
only_ident p = None

-- a path is a segment with this text alone
abbrev pub is_only : List ℕ → PathForm → Bool
is_only text p = elim (only_ident p) [ Some i ↦ bytes_eq i.text text | None ↦ false ]

-- the tree that a segment is written as
abbrev pub segment_trees : PathSegment → Forest
segment_trees s = tree (leaf (ident_of s.ident)) no_trees

-- the trees that segments are written as
abbrev pub segments_trees : Path → Forest
segments_trees p =
    by_turns segment_trees sign_trees (values_of p.segments) (separators_of p.segments)

-- the trees that a path is written as
abbrev pub path_trees : Path → Forest
path_trees p =
    followed_by (optional_trees sign_trees p.leading_colon) (segments_trees p)
