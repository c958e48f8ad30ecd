-- What attributes hold, by the visible trees ahead: "Attributes" in the Rust Reference, with values
-- as tokens.
use Rattle.std.specs.Prelude.{◌||◌, Bool, codes}
use Rattle.tok_lexical.specs.declared.delimiter.Delimiter.{Delimiter}
use Rattle.tok_lexical.specs.declared.delimiter.Delimiter.TheVariants.{Brace, Bracket, Parenthesis}
use Rattle.tok_leaves.specs.declared.span.DelimSpan.{DelimSpan}
use Rattle.tok_core.specs.Erase.{erase}
use Rattle.tok_core.specs.Forest.{Forest}
use Rattle.tok_core.specs.Laws.{followed_by}
use Rattle.syn_parse.specs.Takes.{Taking, ◌>>=◌, gives, refuses, take_group, where_ahead}
use Rattle.syn_parse.specs.Takings.{Lightens, Takings, lighter, told}
use Rattle.syn_parse.specs.TokenNames.{Eq, Token, Unsafe, sees, take}
use Rattle.syn_parse.specs.Tokens.{sees_group, take_any_ident}
use Rattle.syn_parse.specs.TreeTakes.{take_rest}
use Rattle.syn_parse.specs.TreesAhead.{Ahead}
use Rattle.syn_parse.specs.Weighing.{weighing}
use Rattle.syn_derive.specs.Paths.{PathForm, lightens_nested_path, lightens_path, only_segment}
use Rattle.syn_derive.specs.Paths.{path_form, path_trees, take_nested_path, take_path}
use Rattle.syn_derive.specs.Printing.{group_trees, sign_trees}
use Rattle.syn_derive.specs.Runs.{lightens_expr, take_expr}
use Rattle.syn_derive.specs.declared.meta.MacroDelimiter.{MacroDelimiter}
use Rattle.syn_derive.specs.declared.meta.MacroDelimiter.TheVariants as by
use Rattle.syn_derive.specs.declared.meta.Meta.{Meta}
use Rattle.syn_derive.specs.declared.meta.Meta.TheVariants as meta
use Rattle.syn_derive.specs.declared.meta.MetaList.{MetaList}
use Rattle.syn_derive.specs.declared.meta.MetaNameValue.{MetaNameValue}
use Rattle.syn_derive.specs.declared.path.Path.{Path}

-- what comes after the path of an attribute: nothing, tokens in delimiters, or `=` and the tokens
-- of an expression
pub data MetaInput : Type 0 where
  no_input : MetaInput
  delimited : Delimiter → DelimSpan → Forest → MetaInput
  assigned : Token Eq → Forest → MetaInput

-- tokens in delimiters, without invisible groups
abbrev pub delimited_by : MacroDelimiter → Forest → MetaInput
delimited_by (by.Paren t) f = delimited Parenthesis t.span f
delimited_by (by.Brace t) f = delimited Brace t.span f
delimited_by (by.Bracket t) f = delimited Bracket t.span f

-- a path and what comes after it
abbrev pub MetaForm : Type 0
MetaForm = PathForm × MetaInput

-- a path and tokens in delimiters as contracts see them
abbrev pub meta_list_form : MetaList → MetaForm
meta_list_form l = (path_form l.path, delimited_by l.delimiter (erase l.tokens))

-- a path, `=` and a value as contracts see them
abbrev pub name_value_form : MetaNameValue → MetaForm
name_value_form v = (path_form v.path, assigned v.eq_token (erase v.value.tokens))

-- a meta as contracts see it: its path, and what comes after it
abbrev pub meta_form : Meta → MetaForm
meta_form (meta.Path p) = (path_form p, no_input)
meta_form (meta.List l) = meta_list_form l
meta_form (meta.NameValue v) = name_value_form v

-- the path of a meta
abbrev pub meta_path : Meta → Path
meta_path (meta.Path p) = p
meta_path (meta.List l) = l.path
meta_path (meta.NameValue v) = v.path

-- the path of an attribute: `unsafe` alone, or a path
unfoldable pub take_meta_path : Taking PathForm
take_meta_path =
    where_ahead (sees Unsafe) (do
      ident ← take_any_ident
      gives (only_segment ident)) take_path

-- the path of an attribute adds nothing to what is ahead
pub lightens_meta_path : Lightens take_meta_path
unfolding take_meta_path
lightens_meta_path = search (weighing, lightens_path) depth 40

-- all tokens in a group
abbrev pub take_delimited : Delimiter → Taking MetaInput
take_delimited d = do
  inside ← take_group d take_rest
  gives (delimited d inside.0 inside.1)

-- a group with visible delimiters is next
abbrev pub sees_delimiters : Ahead → Bool
sees_delimiters a = sees_group Parenthesis a || sees_group Bracket a || sees_group Brace a

-- `(tokens)`, `[tokens]` or `{tokens}`
unfoldable pub take_delimiters : Taking MetaInput
take_delimiters =
    where_ahead (sees_group Parenthesis) (take_delimited Parenthesis)
    (where_ahead (sees_group Bracket) (take_delimited Bracket)
    (where_ahead (sees_group Brace) (take_delimited Brace)
    (refuses (codes "expected delimiter"))))

-- tokens in delimiters add nothing to what is ahead
pub lightens_delimiters : Lightens take_delimiters
unfolding take_delimiters
lightens_delimiters = search weighing depth 40

-- `= tokens`
unfoldable pub take_assigned : Taking MetaInput
take_assigned = do
  eq ← take Eq
  value ← take_expr
  gives (assigned eq value)

-- `=` and tokens add nothing to what is ahead
pub lightens_assigned : Lightens take_assigned
unfolding take_assigned
lightens_assigned = search (weighing, lightens_expr) depth 40

-- after a path: `= tokens`, tokens in delimiters, or nothing
abbrev pub take_meta_input : Taking MetaInput
take_meta_input =
    where_ahead (sees Eq) take_assigned
    (where_ahead sees_delimiters take_delimiters
    (gives no_input))

-- tokens in delimiters, with the path before them
abbrev pub take_list_after : PathForm → Taking MetaForm
take_list_after path = do
  input ← take_delimiters
  gives (path, input)

-- `= tokens`, with the path before them
abbrev pub take_value_after : PathForm → Taking MetaForm
take_value_after path = do
  input ← take_assigned
  gives (path, input)

-- takes what comes after the path of a meta
unfoldable pub take_meta_after : PathForm → Taking MetaForm
take_meta_after path = do
  input ← take_meta_input
  gives (path, input)

-- the input after a path adds nothing to what is ahead
pub lightens_meta_after : (path : PathForm) → Lightens (take_meta_after path)
unfolding take_meta_after
lightens_meta_after path = search (weighing, lightens_assigned, lightens_delimiters) depth 40

-- a path and what comes after it
unfoldable pub take_meta : Taking MetaForm
take_meta = do
  path ← take_meta_path
  take_meta_after path

-- a meta adds nothing to what is ahead
pub lightens_meta : Lightens take_meta
unfolding take_meta
lightens_meta = search (weighing, lightens_meta_path, lightens_meta_after) depth 40

-- a path and tokens in delimiters
unfoldable pub take_meta_list : Taking MetaForm
take_meta_list = do
  path ← take_meta_path
  take_list_after path

-- a path and tokens in delimiters add nothing to what is ahead
pub lightens_meta_list : Lightens take_meta_list
unfolding take_meta_list
lightens_meta_list = search (weighing, lightens_meta_path, lightens_delimiters) depth 40

-- a path, `=` and tokens
unfoldable pub take_name_value : Taking MetaForm
take_name_value = do
  path ← take_meta_path
  take_value_after path

-- a path, `=` and tokens add nothing to what is ahead
pub lightens_name_value : Lightens take_name_value
unfolding take_name_value
lightens_name_value = search (weighing, lightens_meta_path, lightens_assigned) depth 40

-- a path of any words and what comes after it
unfoldable pub take_nested_meta : Taking MetaForm
take_nested_meta = do
  path ← take_nested_path
  take_meta_after path

-- a meta in the arguments of an attribute adds nothing to what is ahead
pub lightens_nested_meta : Lightens take_nested_meta
unfolding take_nested_meta
lightens_nested_meta = search (weighing, lightens_nested_path, lightens_meta_after) depth 40

-- a meta in the arguments of an attribute
abbrev pub nested_meta : Takings Meta
nested_meta = told meta_form take_nested_meta (lighter lightens_nested_meta)

-- the trees that tokens in delimiters are written as
abbrev pub delimited_trees : MacroDelimiter → Forest → Forest
delimited_trees (by.Paren t) f = group_trees Parenthesis t.span f
delimited_trees (by.Brace t) f = group_trees Brace t.span f
delimited_trees (by.Bracket t) f = group_trees Bracket t.span f

-- the trees that a path and tokens in delimiters are written as
abbrev pub meta_list_trees : MetaList → Forest
meta_list_trees l =
    followed_by (path_trees l.path) (delimited_trees l.delimiter l.tokens)

-- the trees that `=` and a value are written as
abbrev pub value_trees : Token Eq → Forest → Forest
value_trees eq value = followed_by (sign_trees eq) value

-- the trees that a path, `=` and a value are written as
abbrev pub name_value_trees : MetaNameValue → Forest
name_value_trees v = followed_by (path_trees v.path) (value_trees v.eq_token v.value.tokens)

-- the trees that a meta is written as
abbrev pub meta_trees : Meta → Forest
meta_trees (meta.Path p) = path_trees p
meta_trees (meta.List l) = meta_list_trees l
meta_trees (meta.NameValue v) = name_value_trees v
