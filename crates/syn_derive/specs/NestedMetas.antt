-- Arguments of attributes that are literals or metas, by the visible trees ahead: `NestedMeta` of
-- syn 1.
use Rattle.std.specs.Prelude.{◌||◌, Bool, List, codes}
use Rattle.tok_leaves.specs.Leaves.{literal_of}
use Rattle.tok_leaves.specs.declared.literal.Literal.{Literal}
use Rattle.tok_core.specs.Forest.{Forest, leaf, no_trees, tree}
use Rattle.syn_parse.specs.Takes.{Taking, ◌>>=◌, gives, refuses, where_ahead}
use Rattle.syn_parse.specs.Takings.{Lightens, Takings, taken_filled}
use Rattle.syn_parse.specs.TokenNames.{Comma, PathSep, Token, sees, take}
use Rattle.syn_parse.specs.Tokens.{sees_any_ident, sees_literal, take_literal}
use Rattle.syn_parse.specs.TreesAhead.{Ahead}
use Rattle.syn_parse.specs.Weighing.{weighing}
use Rattle.syn_punctuated.specs.TakeLists.{list_form, take_terminated}
use Rattle.syn_punctuated.specs.declared.punctuated.Punctuated.{Punctuated}
use Rattle.syn_derive.specs.Metas.{MetaForm, lightens_nested_meta, meta_form, meta_trees}
use Rattle.syn_derive.specs.Metas.{take_nested_meta}
use Rattle.syn_derive.specs.declared.nested.NestedMeta.{NestedMeta}
use Rattle.syn_derive.specs.declared.nested.NestedMeta.TheVariants as nested

-- a literal, or a meta
pub data NestedForm : Type 0 where
  of_literal : Literal → NestedForm
  of_meta : MetaForm → NestedForm

-- an argument as contracts see it: its literal, or its meta's form
abbrev pub nested_form : NestedMeta → NestedForm
nested_form (nested.Meta m) = of_meta (meta_form m)
nested_form (nested.Lit l) = of_literal l

-- a path may be next: an identifier or a reserved word, or `::`
abbrev pub sees_nested_path : Ahead → Bool
sees_nested_path a = sees_any_ident a || sees PathSep a

-- a literal, or a meta whose path may have any words
unfoldable pub take_nested_form : Taking NestedForm
take_nested_form =
    where_ahead sees_literal (do
      literal ← take_literal
      gives (of_literal literal))
    (where_ahead sees_nested_path (do
      meta ← take_nested_meta
      gives (of_meta meta))
    (refuses (codes "expected identifier or literal")))

-- such an argument adds nothing to what is ahead
pub lightens_nested_form : Lightens take_nested_form
unfolding take_nested_form
lightens_nested_form = search (weighing, lightens_nested_meta) depth 40

-- literals and metas, and the commas between them
unfoldable pub take_meta_seq : Taking (List NestedForm × List (Token Comma))
take_meta_seq = take_terminated take_nested_form (take Comma)

-- the parse of literals and metas and their commas, if no invisible group is empty
abbrev pub meta_seq : Takings (Punctuated NestedMeta (Token Comma))
meta_seq = taken_filled (list_form nested_form (λ p. p)) take_meta_seq

-- the trees that an argument is written as
abbrev pub nested_trees : NestedMeta → Forest
nested_trees (nested.Meta m) = meta_trees m
nested_trees (nested.Lit l) = tree (leaf (literal_of l)) no_trees
