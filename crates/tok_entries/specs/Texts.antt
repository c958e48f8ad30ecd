-- Which leaves a caller may hand in.
use Rattle.std.specs.Prelude.{◌≡◌, ◌⊎◌, ◌≤◌, ℕ, List, [], ◌++◌, true, ◌||◌, None, codes}
use Rattle.std.specs.Str.{chars, IsUtf8}
use Rattle.tok_lexical.specs.Characters.{is_punct_or_apostrophe}
use Rattle.tok_lexical.specs.Errors.{error_kind}
use Rattle.tok_lexical.specs.Fits.{IsFirstFit}
use Rattle.tok_lexical.specs.Rules.{rules_of}
use Rattle.tok_lexical.specs.Words.{HasRaw, IsIdentifier}
use Rattle.tok_lexical.specs.declared.edition.Edition.TheVariants.{Edition2024}
use Rattle.tok_lexical.specs.declared.rule.Mode.TheVariants.{Source}
use Rattle.tok_lexical.specs.declared.rule.Rule.{Rule}
use Rattle.tok_leaves.specs.declared.span.Span.{Span}
use Rattle.tok_leaves.specs.Leaves.{Leaf, ident, punct, literal, leaf_span}
use Rattle.tok_leaves.specs.Literals.{is_number_rule, is_quoted_rule}
use Rattle.tok_leaves.specs.Spans.{source}
use Rattle.tok_core.specs.Forest.{Tree, leaf, group, Forest, no_trees, tree}

-- `r#` and the name of a raw identifier that exists
abbrev pub IsRawWord : List ℕ → Type 0
IsRawWord text = (name : List ℕ) × (text ≡ codes "r#" ++ name) × IsUtf8 name × HasRaw (chars name)

-- an identifier, raw or not, or the root `$crate` of a path
abbrev pub IsWord : List ℕ → Type 0
IsWord text = IsIdentifier (chars text) ⊎ IsRawWord text ⊎ (text ≡ codes "$crate")

-- the rules of a source take all of this text by this rule, and do not reject it
abbrev pub IsPiece : Rule → List ℕ → Type 0
IsPiece r text =
    ((piece : List ℕ) × IsFirstFit (chars text) (rules_of (Source Edition2024)) r piece [])
    × (error_kind r (Source Edition2024) 0 (chars text) [] ≡ None)

-- a number, a string or a character of a source
abbrev pub IsUnsigned : List ℕ → Type 0
IsUnsigned text =
    (r : Rule) × ((is_number_rule r || is_quoted_rule r) ≡ true) × IsPiece r text

-- `-` and a number
abbrev pub IsNegative : List ℕ → Type 0
IsNegative text =
    (number : List ℕ) × (text ≡ codes "-" ++ number) × IsUtf8 number
    × ((r : Rule) × (is_number_rule r ≡ true) × IsPiece r number)

-- a literal of a source, or a number with a `-`
abbrev pub IsLiteralText : List ℕ → Type 0
IsLiteralText text = IsUnsigned text ⊎ IsNegative text

-- the leaf's text, or its character, is one of its kind
abbrev pub IsLeafText : Leaf → Type 0
IsLeafText (ident text span) = IsUtf8 text × IsWord text
IsLeafText (punct c spacing span) = is_punct_or_apostrophe c ≡ true
IsLeafText (literal text span) = IsUtf8 text × IsLiteralText text

-- a range of source 0
abbrev pub IsInSource : Span → Type 0
IsInSource span = (from : ℕ) × (to : ℕ) × (from ≤ to) × (span ≡ source 0 from to)

-- a leaf with a text of its kind, at a range of source 0
abbrev pub IsLeafIn : Leaf → Type 0
IsLeafIn l = IsLeafText l × IsInSource (leaf_span l)

abbrev mutual
  -- such a leaf, or a group at a range of source 0 with such trees inside
  pub IsTreeIn : Tree → Type 0
  IsTreeIn (leaf l) = IsLeafIn l
  IsTreeIn (group d f span) = IsForestIn f × IsInSource span

  -- each text is of its kind, and each span is of source 0
  pub IsForestIn : Forest → Type 0
  IsForestIn no_trees = Unit {0}
  IsForestIn (tree t f) = IsTreeIn t × IsForestIn f
