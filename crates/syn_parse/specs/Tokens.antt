-- How single tokens are taken.
use Rattle.std.specs.Prelude.{ℕ, Bool, List, [], ◌∷◌, codes, Option, None, Some, map}
use Rattle.tok_leaves.specs.declared.ident.Ident.{Ident}
use Rattle.tok_leaves.specs.declared.lifetime.Lifetime.{Lifetime}
use Rattle.tok_leaves.specs.declared.literal.Literal.{Literal}
use Rattle.tok_leaves.specs.declared.punct.Punct.{Punct}
use Rattle.tok_leaves.specs.declared.punct.Spacing.TheVariants.{Alone}
use Rattle.tok_leaves.specs.Leaves as leaves
use Rattle.tok_leaves.specs.Spans.{call_site}
use Rattle.tok_leaves.specs.declared.span.Span.{Span}
use Rattle.tok_core.specs.Forest.{Tree, leaf, Forest, tree_span}
use Rattle.tok_buffer.specs.EachRead.{first_if, first_keyword, first_lifetime, first_puncts}
use Rattle.tok_buffer.specs.Reads.{any_text, is_ident_of}
use Rattle.tok_core.specs.Kinds.{is_ident, is_literal, is_punct}
use Rattle.tok_lexical.specs.declared.delimiter.Delimiter.{Delimiter}
use Rattle.tok_types.specs.Sees.{any_ident_first, group_first, ident_first, lifetime_first}
use Rattle.tok_types.specs.Sees.{literal_first, punct_first, underscore_first}
use Rattle.tok_types.specs.Texts.{accept_as_ident, in_backquotes, keyword_text, punctuation_word}
use Rattle.tok_types.specs.declared.keyword.Keyword.{Keyword}
use Rattle.tok_types.specs.declared.punctuation.Punctuation.{Punctuation}
use Rattle.syn_parse.specs.ErrorWords.{expected, ident_words, lifetime_words, span_in}
use Rattle.syn_parse.specs.Parses.{accept_as_lifetime}
use Rattle.syn_parse.specs.Positions.{Missing, Position, at_span, at_trees}
use Rattle.syn_parse.specs.TreesAhead.{Ahead}
use Rattle.syn_parse.specs.Takes.{Taking, gives, missing_next, take_by}

-- the identifier that trees begin with
abbrev pub ident_in : List Tree → Ident
ident_in (leaf (leaves.ident text span) ∷ ts) = record { text = text; span = span }
ident_in ts = record { text = []; span = call_site }

-- the literal that trees begin with
abbrev pub literal_in : List Tree → Literal
literal_in (leaf (leaves.literal text span) ∷ ts) = record { text = text; span = span }
literal_in ts = record { text = []; span = call_site }

-- the punct that trees begin with
abbrev pub punct_in : List Tree → Punct
punct_in (leaf (leaves.punct c spacing span) ∷ ts) =
    record { ch = c; spacing = spacing; span = span }
punct_in ts = record { ch = 0; spacing = Alone; span = call_site }

-- the lifetime that an apostrophe and an identifier are
abbrev pub lifetime_in : List Tree → Lifetime
lifetime_in [] = record { apostrophe = call_site; ident = ident_in [] }
lifetime_in (t ∷ ts) = record { apostrophe = tree_span t; ident = ident_in ts }

-- the position of a missing punctuation: the next punct if a punct is next, else the next token
abbrev pub punct_position : Option (List Tree × Forest) → Forest → Position
punct_position None f = at_trees f
punct_position (Some r) f = at_span (span_in r.0)

-- the position of a missing punctuation of this text; of the empty one it is the next token
abbrev pub sign_position : List ℕ → Forest → Position
sign_position [] f = at_trees f
sign_position (c ∷ cs) f = punct_position (first_if is_punct f) f

-- the punctuation of this text is missing; its words don't name the end
abbrev pub sign_missing : List ℕ → Forest → Missing
sign_missing text f =
    record { position = sign_position text f; words = expected (in_backquotes text) }

-- the kinds of tokens, each with the type of its value
pub data TokenKind : Type 0 → Type 1 where
  -- an identifier that is no reserved word
  ident : TokenKind Ident
  -- an identifier, which may be a reserved word
  any_ident : TokenKind Ident
  -- a lifetime whose name is no reserved word, or is `static` or `_`
  lifetime : TokenKind Lifetime
  -- a lifetime of any name
  any_lifetime : TokenKind Lifetime
  literal : TokenKind Literal
  -- a punct other than an apostrophe
  punct : TokenKind Punct
  -- a word of one's own with this text, of which the span is the value
  own : List ℕ → TokenKind Span
  -- the keyword and the punctuation with these numbers
  keyword : (k : ℕ) → TokenKind (Keyword k)
  punctuation : (k n : ℕ) → TokenKind (Punctuation k n)

-- an identifier of a text
abbrev pub take_word : {A : Type 0} → List ℕ → (List Tree → A) → Taking A
take_word text means =
    take_by (first_keyword text) means (missing_next (expected (in_backquotes text)))

-- how a token of each kind is taken
unfoldable pub take_token : {A : Type 0} → TokenKind A → Taking A
take_token ident =
    take_by (first_if (is_ident_of accept_as_ident)) ident_in
    (λ f. missing_next (ident_words (first_if is_ident f)) f)
take_token any_ident = take_by (first_if is_ident) ident_in (missing_next (codes "expected ident"))
take_token lifetime =
    take_by (first_lifetime accept_as_lifetime) lifetime_in
    (λ f. missing_next (lifetime_words (first_lifetime any_text f)) f)
take_token any_lifetime =
    take_by (first_lifetime any_text) lifetime_in (missing_next (codes "expected lifetime"))
take_token literal =
    take_by (first_if is_literal) literal_in (missing_next (codes "expected literal token"))
take_token punct =
    take_by (first_if is_punct) punct_in (missing_next (codes "expected punctuation token"))
take_token (own text) = take_word text span_in
take_token (keyword k) = take_word (keyword_text k) (λ ts. record { span = span_in ts })
take_token (punctuation k n) =
    take_by (first_puncts (punctuation_word k n)) (λ ts. record { spans = map tree_span ts })
    (sign_missing (punctuation_word k n))

-- an identifier that is no reserved word
abbrev pub take_ident : Taking Ident
take_ident = take_token ident

-- an identifier of any text
abbrev pub take_any_ident : Taking Ident
take_any_ident = take_token any_ident

-- a lifetime whose name is no reserved word, or is `static` or `_`
abbrev pub take_lifetime : Taking Lifetime
take_lifetime = take_token lifetime

-- a lifetime of any name
abbrev pub take_any_lifetime : Taking Lifetime
take_any_lifetime = take_token any_lifetime

-- a literal
abbrev pub take_literal : Taking Literal
take_literal = take_token literal

-- a punct other than an apostrophe
abbrev pub take_punct : Taking Punct
take_punct = take_token punct

-- `_`, of which the span is the value
abbrev pub take_underscore : Taking Span
take_underscore = take_token (own (codes "_"))

-- no token
abbrev pub take_nothing : Taking (Unit {0})
take_nothing = gives tt

-- an identifier that is no reserved word is first
abbrev pub sees_ident : Ahead → Bool
sees_ident a = ident_first a.trees

-- an identifier of any text is first
abbrev pub sees_any_ident : Ahead → Bool
sees_any_ident a = any_ident_first a.trees

-- a lifetime is first
abbrev pub sees_lifetime : Ahead → Bool
sees_lifetime a = lifetime_first a.trees

-- a punct other than an apostrophe is first
abbrev pub sees_punct : Ahead → Bool
sees_punct a = punct_first a.trees

-- `_` is first
abbrev pub sees_underscore : Ahead → Bool
sees_underscore a = underscore_first a.trees

-- a literal is first
abbrev pub sees_literal : Ahead → Bool
sees_literal a = literal_first a.trees

-- a group with this delimiter is first
abbrev pub sees_group : Delimiter → Ahead → Bool
sees_group d a = group_first d a.trees
