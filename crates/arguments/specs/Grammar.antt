-- Which lists of visible trees are arguments, and which arguments they are.
use Rattle.std.specs.Prelude.{ℕ, List, [], ◌∷◌}
use Rattle.tok_core.specs.Forest.{Tree, leaf, group, Forest, no_trees, tree, forest, concat}
use Rattle.tok_leaves.specs.Leaves.{punct, ident_of, literal_of}
use Rattle.tok_lexical.specs.declared.delimiter.Delimiter.TheVariants.{Parenthesis}
use Rattle.tok_leaves.specs.declared.ident.Ident.{Ident}
use Rattle.tok_leaves.specs.declared.literal.Literal.{Literal}
use Rattle.tok_leaves.specs.declared.punct.Spacing.{Spacing}
use Rattle.tok_leaves.specs.declared.span.Span.{Span}
use Rattle.syn_parse.specs.TokenNames.{Comma, Token}
use Rattle.arguments.specs.Forms.{Form, ListForm, assigned, flag, forms, list_form, with_list}
use Rattle.arguments.specs.Values.{Arguments, IsName, sign_at}

-- the codes of `=` and `,`
abbrev pub equals_sign : ℕ
equals_sign = 61

-- the character `,`
abbrev pub comma : ℕ
comma = 44

-- the punct of this character, joint or alone
abbrev pub sign : ℕ → Spacing → Span → Tree
sign c spacing span = leaf (punct c spacing span)

mutual
  -- One argument: a name; or a name, `=` and a literal; or a name and parentheses around arguments.
  pub data IsArgument : List Tree → Form → Type 0 where
    is_flag : (name : Ident) → IsName name → IsArgument (leaf (ident_of name) ∷ []) (flag name)
    is_assigned : (name : Ident) (spacing : Spacing) (span : Span) (text : Literal) → IsName name
        → IsArgument
        (leaf (ident_of name) ∷ sign equals_sign spacing span ∷ leaf (literal_of text) ∷ [])
        (assigned name (sign_at span) text)
    is_list : (name : Ident) (inside : Forest) (span : Span) (inner : List Form)
        (commas : List (Token Comma)) → IsName name → AreListed inside inner commas
        → IsArgument (leaf (ident_of name) ∷ group Parenthesis inside span ∷ [])
        (with_list name span (forms inner) commas)

  -- A list of arguments and its commas: nothing; or one argument; or one, a comma and a list.
  pub data AreListed : Forest → List Form → List (Token Comma) → Type 0 where
    nothing : AreListed no_trees [] []
    last : (trees : List Tree) (argument : Form) → IsArgument trees argument
        → AreListed (forest trees) (argument ∷ []) []
    and_more : (trees : List Tree) (argument : Form) (spacing : Spacing) (span : Span)
        (rest : Forest) (others : List Form) (commas : List (Token Comma))
        → IsArgument trees argument → AreListed rest others commas
        → AreListed (concat (forest trees) (tree (sign comma spacing span) rest))
        (argument ∷ others) (sign_at span ∷ commas)

-- these trees are arguments of this form
abbrev pub AreForms : Forest → ListForm → Type 0
AreForms trees list = AreListed trees list.0 list.1

-- these trees are these arguments
abbrev pub AreArguments : Forest → Arguments → Type 0
AreArguments trees arguments = AreForms trees (list_form arguments)

-- these trees are no arguments
abbrev pub AreNoArguments : Forest → Type 0
AreNoArguments trees = (arguments : Arguments) → AreArguments trees arguments → ⊥
