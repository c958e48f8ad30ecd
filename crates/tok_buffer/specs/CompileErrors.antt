-- The tokens of an error that hand its messages to the compiler: for each message
-- `::core::compile_error!{"text"}`.
use Rattle.std.specs.Prelude.{ℕ, List, [], ◌∷◌, codes}
use Rattle.std.specs.Str.{chars}
use Rattle.tok_lexical.specs.declared.delimiter.Delimiter.TheVariants.{Brace}
use Rattle.tok_leaves.specs.declared.punct.Spacing.TheVariants.{Alone, Joint}
use Rattle.tok_leaves.specs.declared.span.Span.{Span}
use Rattle.tok_leaves.specs.Leaves.{ident, punct, literal}
use Rattle.tok_core.specs.Forest.{leaf, group, Forest, no_trees, tree, forest, concat}
use Rattle.tok_leaves.specs.Quoting.{in_quotes}
use Rattle.tok_buffer.specs.declared.error.Message.{Message}

-- the code point of `:`
abbrev pub colon : ℕ
colon = 58

-- the code point of `!`
abbrev pub bang : ℕ
bang = 33

-- `::` and a name
abbrev pub segment : List ℕ → Span → Forest
segment name span =
    forest (leaf (punct colon Joint span) ∷ leaf (punct colon Alone span) ∷ leaf
    (ident name span) ∷ [])

-- `!` and, in braces, the text as a string
abbrev pub invocation : (start end : Span) → List ℕ → Forest
invocation start end text =
    forest (leaf (punct bang Alone start) ∷ group Brace
    (tree (leaf (literal (in_quotes (chars text)) end)) no_trees) end ∷ [])

-- the path and the `!` at the start span, the braces and the text at the end span
abbrev pub compile_error : Message → Forest
compile_error m =
    concat (segment (codes "core") m.start)
    (concat (segment (codes "compile_error") m.start) (invocation m.start m.end m.text))

-- the tokens of all messages, in order
abbrev pub compile_errors : List Message → Forest
compile_errors [] = no_trees
compile_errors (m ∷ ms) = concat (compile_error m) (compile_errors ms)
