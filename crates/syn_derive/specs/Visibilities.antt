-- Visibilities, by the visible trees ahead: "Visibility and privacy" in the Rust Reference.
use Rattle.std.specs.Prelude.{Bool, ◌&&◌, ◌||◌, false, not, Option, None, Some}
use Rattle.tok_lexical.specs.declared.delimiter.Delimiter.TheVariants.{Parenthesis}
use Rattle.tok_leaves.specs.declared.span.DelimSpan.{DelimSpan}
use Rattle.tok_core.specs.Filled.{has_trees}
use Rattle.tok_core.specs.Forest.{Forest, no_trees}
use Rattle.tok_core.specs.Laws.{followed_by, optional_trees}
use Rattle.tok_buffer.specs.EachRead.{first_if}
use Rattle.tok_core.specs.Kinds.{is_ident}
use Rattle.syn_parse.specs.Inside.{sees_inside}
use Rattle.syn_parse.specs.Optional.{take_optional}
use Rattle.syn_parse.specs.Sequences.{take_both}
use Rattle.syn_parse.specs.Takes.{Taking, ◌>>=◌, gives, take_group, where_ahead}
use Rattle.syn_parse.specs.Takings.{Lightens}
use Rattle.syn_parse.specs.TokenNames.{In, Pub, Token, sees, take}
use Rattle.syn_parse.specs.Weighing.{weighing}
use Rattle.syn_derive.specs.First.{crate_first, in_first, self_value_first, super_first}
use Rattle.syn_derive.specs.Paths.{PathForm, lightens_path, path_form, path_trees, take_path}
use Rattle.syn_derive.specs.Printing.{group_trees, keyword_trees}
use Rattle.syn_derive.specs.declared.visibility.VisRestricted.{VisRestricted}
use Rattle.syn_derive.specs.declared.visibility.Visibility.{Visibility}
use Rattle.syn_derive.specs.declared.visibility.Visibility.TheVariants.{Inherited, Public}
use Rattle.syn_derive.specs.declared.visibility.Visibility.TheVariants.{Restricted}

-- `pub`, the parentheses, and `in` and the path, or the path alone
abbrev pub RestrictedForm : Type 0
RestrictedForm = Token Pub × DelimSpan × Option (Token In) × PathForm

-- a restricted visibility as contracts see it
abbrev pub restricted_form : VisRestricted → RestrictedForm
restricted_form v = (v.pub_token, v.paren_token.span, v.in_token, path_form v.path)

-- a visibility as contracts see it
pub data VisibilityForm : Type 0 where
  public : Token Pub → VisibilityForm
  restricted : RestrictedForm → VisibilityForm
  inherited : VisibilityForm

-- the form of a visibility
abbrev pub visibility_form : Visibility → VisibilityForm
visibility_form (Public word) = public word
visibility_form (Restricted v) = restricted (restricted_form v)
visibility_form Inherited = inherited

-- `crate`, `self` or `super` is first
abbrev pub is_word : Forest → Bool
is_word inside = crate_first inside || self_value_first inside || super_first inside

-- one of these words, and nothing else
unfoldable pub is_word_alone : Forest → Bool
is_word_alone inside =
    elim (first_if is_ident inside) [
      | Some r ↦ is_word inside && not (has_trees r.1)
      | None ↦ false
    ]

-- the contents of parentheses after `pub` that belong to it
unfoldable pub is_restriction : Forest → Bool
is_restriction inside = in_first inside || is_word_alone inside

-- `pub (crate)`, `pub (self)`, `pub (super)`, `pub (in path)`, `pub` or nothing
unfoldable pub take_visibility : Taking VisibilityForm
take_visibility =
    where_ahead (sees Pub) (do
      word ← take Pub
      where_ahead (sees_inside Parenthesis (λ a. is_restriction a.trees)) (do
        r ← take_group Parenthesis (take_both (take_optional (sees In) (take In)) take_path)
        gives (restricted (word, r.0, r.1.0, r.1.1))) (gives (public word))) (gives inherited)

-- a visibility adds nothing to what is ahead
pub lightens_visibility : Lightens take_visibility
unfolding take_visibility
lightens_visibility = search (weighing, lightens_path) depth 40

-- the trees that the parentheses of a visibility are written as
abbrev pub parens_trees : VisRestricted → Forest
parens_trees v =
    group_trees Parenthesis v.paren_token.span
    (followed_by (optional_trees keyword_trees v.in_token) (path_trees v.path))

-- the trees that a restricted visibility is written as
abbrev pub restricted_trees : VisRestricted → Forest
restricted_trees v = followed_by (keyword_trees v.pub_token) (parens_trees v)

-- the trees that a visibility is written as
abbrev pub visibility_trees : Visibility → Forest
visibility_trees (Public word) = keyword_trees word
visibility_trees (Restricted v) = restricted_trees v
visibility_trees Inherited = no_trees
