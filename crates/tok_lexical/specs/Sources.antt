-- Where a whole source begins (Rust Reference: Input format, Byte order mark removal, Shebang
-- removal).
use Rattle.std.specs.Prelude.{◌≡◌, ℕ, List, [], ◌∷◌, Bool, true, false, not, ◌==◌, if◌then◌else◌}
use Rattle.tok_lexical.specs.Ascii.{byte_order_mark, exclamation_mark, number_sign, open_bracket}
use Rattle.tok_lexical.specs.Comments.{is_line_doc, is_block_doc, is_not_line_feed}
use Rattle.tok_lexical.specs.Fits.{IsFirstFit}
use Rattle.tok_lexical.specs.Pieces.{Skips}
use Rattle.tok_lexical.specs.Rules.{rules_of}
use Rattle.tok_lexical.specs.declared.edition.Edition.TheVariants.{Edition2021}
use Rattle.tok_lexical.specs.declared.rule.Mode.TheVariants.{Source}
use Rattle.tok_lexical.specs.declared.rule.Rule.{Rule}
use Rattle.tok_lexical.specs.declared.rule.Rule.TheVariants.{Whitespace, LineComment}
use Rattle.tok_lexical.specs.declared.rule.Rule.TheVariants.{BlockComment}

-- white space, or a comment that is no doc comment
abbrev pub is_blank_piece : Rule → List ℕ → Bool
is_blank_piece Whitespace piece = true
is_blank_piece LineComment piece = not (is_line_doc piece)
is_blank_piece BlockComment piece = not (is_block_doc piece)
is_blank_piece rule piece = false

-- Such pieces lead from the text to this rest. They are the same in each edition.
pub data Blanks : List ℕ → List ℕ → Type 0 where
  over : {text : List ℕ} → Blanks text text
  blank : {text taken after rest : List ℕ} {rule : Rule} →
      IsFirstFit text (rules_of (Source Edition2021)) rule taken after →
      is_blank_piece rule taken ≡ true → Blanks after rest → Blanks text rest

-- what follows `#!` makes it an attribute: after such pieces, a bracket
abbrev pub OpensAttribute : List ℕ → Type 0
OpensAttribute text = (after : List ℕ) × Blanks text (open_bracket ∷ after)

-- the text begins with `#!`, which opens no attribute
abbrev pub IsShebang : List ℕ → Type 0
IsShebang text =
    (rest : List ℕ) × (text ≡ number_sign ∷ exclamation_mark ∷ rest) × (OpensAttribute rest → ⊥)

-- after a shebang line, if there is one
pub data Begins : List ℕ → List ℕ → Type 0 where
  shebang : {text front rest : List ℕ} → IsShebang text → Skips is_not_line_feed text front rest →
      Begins text rest
  no_shebang : {text : List ℕ} → (IsShebang text → ⊥) → Begins text text

-- after a byte order mark, if there is one
abbrev pub past_mark : List ℕ → List ℕ
past_mark [] = []
past_mark (c ∷ rest) = if c == byte_order_mark then rest else c ∷ rest

-- where the pieces of a source begin: after a byte order mark and a shebang line
abbrev pub BeginsAt : List ℕ → List ℕ → Type 0
BeginsAt text rest = Begins (past_mark text) rest
