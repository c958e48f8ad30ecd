-- Outer attributes, by the visible trees ahead: "Attributes" in the Rust Reference.
use Rattle.std.specs.Prelude.{List}
use Rattle.std.specs.Global.{Vec}
use Rattle.tok_lexical.specs.declared.delimiter.Delimiter.TheVariants.{Bracket}
use Rattle.tok_leaves.specs.declared.span.DelimSpan.{DelimSpan}
use Rattle.tok_core.specs.Forest.{Forest}
use Rattle.tok_core.specs.Laws.{followed_by}
use Rattle.syn_parse.specs.Many.{take_many, vec_form}
use Rattle.syn_parse.specs.Takes.{Taking, ◌>>=◌, gives, take_group}
use Rattle.syn_parse.specs.Takings.{Lowers}
use Rattle.syn_parse.specs.TokenNames.{Pound, Token, sees, take}
use Rattle.syn_parse.specs.Weighing.{weighing}
use Rattle.syn_derive.specs.Metas.{MetaForm, meta_form, meta_trees, take_meta}
use Rattle.syn_derive.specs.Printing.{all_trees, group_trees, sign_trees}
use Rattle.syn_derive.specs.declared.attribute.Attribute.{Attribute}

-- `#`, the brackets and what they hold
abbrev pub AttributeForm : Type 0
AttributeForm = Token Pound × DelimSpan × MetaForm

-- an attribute as contracts see it: its `#`, its brackets' span and its meta
abbrev pub attribute_form : Attribute → AttributeForm
attribute_form a = (a.pound_token, a.bracket_token.span, meta_form a.meta)

-- an attribute
unfoldable pub take_attribute : Taking AttributeForm
take_attribute = do
  pound ← take Pound
  meta ← take_group Bracket take_meta
  gives (pound, meta.0, meta.1)

-- an attribute takes something
pub lowers_attribute : Lowers take_attribute
unfolding take_attribute
lowers_attribute = search weighing depth 20

-- attributes, as long as a `#` is next
abbrev pub take_attributes : Taking (List AttributeForm)
take_attributes = take_many (sees Pound) take_attribute

-- attributes as contracts see them
abbrev pub attributes_form : Vec Attribute → List AttributeForm
attributes_form attributes = vec_form attribute_form attributes

-- the trees that an attribute is written as
abbrev pub attribute_trees : Attribute → Forest
attribute_trees a =
    followed_by (sign_trees a.pound_token)
    (group_trees Bracket a.bracket_token.span (meta_trees a.meta))

-- the trees that attributes are written as
abbrev pub attributes_trees : Vec Attribute → Forest
attributes_trees attributes = all_trees attribute_trees attributes.items
