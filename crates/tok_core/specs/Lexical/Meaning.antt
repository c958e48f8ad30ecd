-- What a piece means that a rule took at a byte, with a text after it: an error, or its items.
use Rattle.std.specs.Prelude.{ℕ, ◌+◌, ◌-◌, List, [], ◌∷◌, ◌++◌, Bool, true, false, map, codes}
use Rattle.std.specs.Prelude.{encode_utf8_all, if◌then◌else◌}
use Rattle.tok_lexical.specs.Ascii.{apostrophe}
use Rattle.tok_lexical.specs.Pieces.{after_first, up_to}
use Rattle.tok_lexical.specs.Comments.{is_line_doc, is_block_doc}
use Rattle.tok_lexical.specs.Docs.{is_inner_doc, line_doc_text, block_doc_text}
use Rattle.tok_lexical.specs.Widths.{bytes, width}
use Rattle.tok_leaves.specs.Leaves.{ident, punct, literal}
use Rattle.tok_leaves.specs.Spans.{source}
use Rattle.tok_leaves.specs.Quoting.{shown_in_quotes}
use Rattle.tok_lexical.specs.Following.{makes_joint, makes_joint_apostrophe, past_marks}
use Rattle.tok_lexical.specs.Following.{takes_point}
use Rattle.tok_lexical.specs.declared.delimiter.Delimiter.{Delimiter}
use Rattle.tok_lexical.specs.declared.delimiter.Delimiter.TheVariants.{Bracket}
use Rattle.tok_core.specs.Lexical.Items.{Item, leaf_item, opening, closing}
use Rattle.tok_leaves.specs.declared.punct.Spacing.TheVariants.{Alone, Joint}
use Rattle.tok_lexical.specs.declared.rule.Mode.{Mode}
use Rattle.tok_lexical.specs.declared.rule.Mode.TheVariants.{Marked}
use Rattle.tok_lexical.specs.declared.rule.Rule.{Rule}
use Rattle.tok_lexical.specs.declared.rule.Rule.TheVariants.{LineComment, BlockComment, Opening}
use Rattle.tok_lexical.specs.declared.rule.Rule.TheVariants.{Closing, QuotedString, ByteChar}
use Rattle.tok_lexical.specs.declared.rule.Rule.TheVariants.{RawString, EscapedChar, PlainChar}
use Rattle.tok_lexical.specs.declared.rule.Rule.TheVariants.{Lifetime, PlainLifetime, Apostrophe}
use Rattle.tok_lexical.specs.declared.rule.Rule.TheVariants.{Based, Float, PointedDecimal, Decimal}
use Rattle.tok_lexical.specs.declared.rule.Rule.TheVariants.{RawIdentifier, Identifier, Punct}

-- an identifier with this text, from the byte `start` up to `end` in the source of this number
abbrev pub ident_item : ℕ → ℕ → ℕ → List ℕ → Item
ident_item number start end text =
    leaf_item (ident (encode_utf8_all text) (source number start end))

-- a literal with this text, from the byte `start` up to `end` in the source of this number
abbrev pub literal_item : ℕ → ℕ → ℕ → List ℕ → Item
literal_item number start end text =
    leaf_item (literal (encode_utf8_all text) (source number start end))

-- a punct of one byte, at this byte of the source of this number
abbrev pub punct_item : ℕ → ℕ → ℕ → Bool → Item
punct_item number at c joint =
    leaf_item (punct c (if joint then Joint else Alone) (source number at (at + 1)))

-- A decimal and a dot: a float; or if another dot or an identifier follows, an integer and a punct,
-- which is the last byte.
abbrev pub pointed_items : ℕ → ℕ → List ℕ → List ℕ → List Item
pointed_items number at piece after =
    if takes_point after then literal_item number at (at + bytes piece) piece ∷ []
    else literal_item number at (at + bytes piece - 1) (up_to 46 piece)
    ∷ punct_item number (at + bytes piece - 1) 46 (makes_joint after) ∷ []

-- an exclamation mark, if the comment is an inner one
abbrev pub bang_items : ℕ → ℕ → ℕ → Bool → List Item
bang_items number start end true = leaf_item (punct 33 Alone (source number start end)) ∷ []
bang_items number start end false = []

-- The attribute that a doc comment stands for, `#[doc = ".."]` or `#![doc = ".."]`. Each of its
-- trees is where the comment is.
abbrev pub doc_items : ℕ → ℕ → ℕ → Bool → List ℕ → List Item
doc_items number start end inner text =
    leaf_item (punct 35 Alone (source number start end)) ∷
    (bang_items number start end inner ++ opening Bracket start
    ∷ leaf_item (ident (codes "doc") (source number start end))
    ∷ leaf_item (punct 61 Alone (source number start end))
    ∷ leaf_item (literal (shown_in_quotes text) (source number start end))
    ∷ closing Bracket end ∷ [])

-- the piece opens a group: a delimiter, or a doc comment
abbrev pub opens_group : Rule → List ℕ → Bool
opens_group (Opening d) piece = true
opens_group LineComment piece = is_line_doc piece
opens_group BlockComment piece = is_block_doc piece
opens_group rule piece = false

-- What a piece means: its items, by the byte where it begins, its text and the text after it.
abbrev pub Meaning : Type 0
Meaning = ℕ → List ℕ → List ℕ → List Item

-- the opening of a group, at the byte where the piece begins
abbrev pub an_opening : Delimiter → Meaning
an_opening d at piece after = opening d at ∷ []

-- the end of a group, at the byte where the piece ends; the » of an invisible one has no width
abbrev pub a_closing : Delimiter → Meaning
a_closing d at piece after = closing d (at + width (Closing d) piece) ∷ []

-- a literal whose text is the whole piece
abbrev pub a_literal : ℕ → Meaning
a_literal number at piece after = literal_item number at (at + bytes piece) piece ∷ []

-- an identifier whose text is the whole piece, `r#` included
abbrev pub an_identifier : ℕ → Meaning
an_identifier number at piece after = ident_item number at (at + bytes piece) piece ∷ []

-- an apostrophe, and an identifier directly after it
abbrev pub a_lifetime : ℕ → Meaning
a_lifetime number at piece after =
    punct_item number at apostrophe true
    ∷ ident_item number (at + 1) (at + bytes piece) (after_first piece) ∷ []

-- an apostrophe of marked text
abbrev pub an_apostrophe : ℕ → Meaning
an_apostrophe number at piece after =
    punct_item number at apostrophe (makes_joint_apostrophe after) ∷ []

-- what makes a punct joint: in marked text, marks are looked through
abbrev pub is_joint : Mode → List ℕ → Bool
is_joint Marked after = makes_joint (past_marks after)
is_joint mode after = makes_joint after

-- a punct whose character is the piece
abbrev pub a_punct : ℕ → Mode → Meaning
a_punct number mode at piece after =
    map (λ c. punct_item number at c (is_joint mode after)) piece

-- the attribute of a doc comment; another comment means nothing
abbrev pub a_comment : ℕ → Bool → List ℕ → Meaning
a_comment number is_doc text at piece after =
    if is_doc then doc_items number at (at + bytes piece) (is_inner_doc piece) text else []

-- the attribute of a line doc comment; no items for another line comment
abbrev pub a_line_comment : ℕ → Meaning
a_line_comment number at piece = a_comment number (is_line_doc piece) (line_doc_text piece) at piece

-- the attribute of a block doc comment; no items for another block comment
abbrev pub a_block_comment : ℕ → Meaning
a_block_comment number at piece =
    a_comment number (is_block_doc piece) (block_doc_text piece) at piece

-- the items of a piece of a rule that is not rejected, in the source of this number
abbrev pub items : ℕ → Rule → Mode → Meaning
items number LineComment mode = a_line_comment number
items number BlockComment mode = a_block_comment number
items number (Opening d) mode = an_opening d
items number (Closing d) mode = a_closing d
items number (QuotedString contents) mode = a_literal number
items number ByteChar mode = a_literal number
items number (RawString contents) mode = a_literal number
items number EscapedChar mode = a_literal number
items number PlainChar mode = a_literal number
items number Lifetime mode = a_lifetime number
items number PlainLifetime mode = a_lifetime number
items number Apostrophe mode = an_apostrophe number
items number (Based base) mode = a_literal number
items number Float mode = a_literal number
items number PointedDecimal mode = pointed_items number
items number Decimal mode = a_literal number
items number RawIdentifier mode = an_identifier number
items number Identifier mode = an_identifier number
items number Punct mode = a_punct number mode
items number rule mode = λ at piece after. []
