-- Values in a row, a run of trees, any tree, and all that is left.
use Rattle.std.specs.Prelude.{List, None, Option, Some, if◌then◌else◌}
use Rattle.tok_lexical.specs.declared.delimiter.Delimiter.TheVariants.{Brace}
use Rattle.tok_leaves.specs.declared.ident.Ident.{Ident}
use Rattle.tok_core.specs.Erase.{erase}
use Rattle.tok_core.specs.Forest.{Forest, Tree}
use Rattle.tok_core.specs.Seen.{tree_of}
use Rattle.tok_buffer.specs.Trees.{erased_tree}
use Rattle.tok_types.specs.Sees.{group_first}
use Rattle.syn_parse.specs.Many.{take_many, take_to_end, vec_form}
use Rattle.syn_parse.specs.Runs.{take_run}
use Rattle.syn_parse.specs.Sequences.{lowers_then}
use Rattle.syn_parse.specs.Takes.{Taking, ◌>>=◌, gives, take_group}
use Rattle.syn_parse.specs.Takings.{Lowers}
use Rattle.syn_parse.specs.TokenNames.{If, Not, Star, Token, sees, take}
use Rattle.syn_parse.specs.Tokens.{take_ident}
use Rattle.syn_parse.specs.TreeTakes.{take_rest, take_tree}
use Rattle.syn_parse.specs.Weighing.{weighing}
use Rattle.example_grammar.specs.declared.runs.Body.{Body}
use Rattle.example_grammar.specs.declared.runs.Branch.{Branch}
use Rattle.example_grammar.specs.declared.runs.MacroCall.{MacroCall}
use Rattle.example_grammar.specs.declared.runs.Pointer.{Pointer}
use Rattle.example_grammar.specs.declared.runs.Pointers.{Pointers}
use Rattle.example_grammar.specs.declared.runs.UntilBraces.{UntilBraces}

-- `**name`, with any number of stars
abbrev pub PointerForm : Type 0
PointerForm = List (Token Star) × Ident

-- a pointer as contracts see it
abbrev pub pointer_form : Pointer → PointerForm
pointer_form p = (vec_form (λ v. v) p.stars, p.name)

-- stars and a name
abbrev pub take_pointer : Taking PointerForm
take_pointer = do
  stars ← take_many (sees Star) (take Star)
  name ← take_ident
  gives (stars, name)

-- less is ahead after a pointer
pub lowers_pointer : Lowers take_pointer
lowers_pointer = search (weighing, lowers_then) depth 40

-- pointers as contracts see them
abbrev pub pointers_form : Pointers → List PointerForm
pointers_form p = vec_form pointer_form p.list

-- takes pointers up to the end
abbrev pub take_pointers : Taking (List PointerForm)
take_pointers = take_to_end take_pointer

-- a body as contracts see it
abbrev pub body_form : Body → Forest
body_form b = erase b.tokens

-- takes all that is left
abbrev pub take_body : Taking Forest
take_body = take_rest

-- a run ends before a tree in braces
abbrev pub until_braces : UntilBraces → Forest → Option UntilBraces
until_braces run f = if group_first Brace f then None else Some run

-- a branch as contracts see it
abbrev pub branch_form : Branch → Forest × Forest
branch_form b = (erase b.condition, body_form b.body)

-- `if condition { body }`
abbrev pub take_branch : Taking (Forest × Forest)
take_branch = do
  _ ← take If
  condition ← take_run until_braces (record {})
  body ← take_group Brace take_body
  gives (condition, body.1)

-- a macro call as contracts see it
abbrev pub macro_form : MacroCall → Ident × Tree
macro_form m = (m.name, erased_tree (tree_of m.arguments))

-- `name! tree`
abbrev pub take_macro : Taking (Ident × Tree)
take_macro = do
  name ← take_ident
  _ ← take Not
  tree ← take_tree
  gives (name, tree)
