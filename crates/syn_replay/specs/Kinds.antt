-- The kinds of token that commands name: how each is read, looked for and shown, and its error.
use Rattle.std.specs.Prelude.{ℕ, Bool, true, false, List, Option, Some, None, is_some, codes}
use Rattle.tok_lexical.specs.declared.delimiter.Delimiter.TheVariants.{Parenthesis, Brace, Bracket}
use Rattle.tok_lexical.specs.declared.delimiter.Delimiter.TheVariants as delimiter
use Rattle.tok_core.specs.Forest.{Tree}
use Rattle.tok_buffer.specs.Entry.{enter}
use Rattle.tok_buffer.specs.Place.{Place, is_at_end}
use Rattle.tok_buffer.specs.Reads as reads
use Rattle.tok_buffer.specs.declared.error.Message.{Message}
use Rattle.tok_buffer.specs.Reads.{read_keyword}
use Rattle.tok_types.specs.Texts.{accept_as_ident, keyword_text, punctuation_text, in_backquotes}
use Rattle.syn_parse.specs.Parses.{accept_as_lifetime}
use Rattle.syn_parse.specs.State as parse
use Rattle.syn_parse.specs.ErrorWords.{expected, ident_words, lifetime_words, punctuation_message}
use Rattle.syn_parse.specs.ErrorWords.{refused_at}

-- a kind of token that a command parses
pub data Kind : Type 0 where
  ident : Kind
  ident_any : Kind
  lifetime : Kind
  lifetime_any : Kind
  literal : Kind
  punct : Kind
  underscore : Kind
  keyword : ℕ → Kind
  punctuation : ℕ → Kind

-- a thing that a peek looks for
pub data Look : Type 0 where
  kind : Kind → Look
  paren : Look
  brace : Look
  bracket : Look
  the_end : Look
  invisible_group : Look
  group_tree : Look
  any_tree : Look

-- the trees that are read for a kind, and the place after them
abbrev pub read : Kind → Place → Option (List Tree × Place)
read ident p = reads.read_word accept_as_ident p
read ident_any p = reads.read_ident p
read lifetime p = reads.read_lifetime accept_as_lifetime p
read lifetime_any p = reads.read_lifetime reads.any_text p
read literal p = reads.read_literal p
read punct p = reads.read_punct p
read underscore p = read_keyword (codes "_") p
read (keyword k) p = read_keyword (keyword_text k) p
read (punctuation k) p = reads.read_punctuation (punctuation_text k) p

-- a peek of a lifetime is of any, whatever its text
abbrev pub peek_kind : Kind → Place → Bool
peek_kind lifetime p = is_some (reads.read_lifetime reads.any_text p)
peek_kind k p = is_some (read k p)

-- a look is next at a place
abbrev pub peek : Look → Place → Bool
peek (kind k) p = peek_kind k p
peek paren p = is_some (enter Parenthesis p)
peek brace p = is_some (enter Brace p)
peek bracket p = is_some (enter Bracket p)
peek the_end p = is_at_end p
peek invisible_group p = is_some (enter delimiter.None p)
peek group_tree p = is_some (reads.read_if reads.is_group p)
peek any_tree p = is_some (reads.read_tree p)

-- whether invisible groups do not matter to a look
abbrev pub ignores_invisible : Look → Bool
ignores_invisible invisible_group = false
ignores_invisible group_tree = false
ignores_invisible any_tree = false
ignores_invisible l = true

-- a peek after the next token
abbrev pub peek_past : (Place → Bool) → Option Place → Bool
peek_past q None = false
peek_past q (Some p) = q p

-- a look comes after the next token
abbrev pub peek2 : Look → Place → Bool
peek2 l p = peek_past (peek l) (reads.skip p)

-- a look comes after the next two tokens
abbrev pub peek3 : Look → Place → Bool
peek3 l p = peek_past (peek2 l) (reads.skip p)

-- how a lookahead names a kind; the end is the closing delimiter of a parenthesis until an error is
-- made of it
abbrev pub display_kind : Kind → List ℕ
display_kind ident = codes "identifier"
display_kind ident_any = codes "identifier"
display_kind lifetime = codes "lifetime"
display_kind lifetime_any = codes "lifetime"
display_kind literal = codes "literal"
display_kind punct = codes "punctuation token"
display_kind underscore = codes "`_`"
display_kind (keyword k) = in_backquotes (keyword_text k)
display_kind (punctuation k) = in_backquotes (punctuation_text k)

-- the name of a look in the error of a lookahead
abbrev pub display : Look → List ℕ
display (kind k) = display_kind k
display paren = codes "parentheses"
display brace = codes "curly braces"
display bracket = codes "square brackets"
display the_end = codes "`)`"
display invisible_group = codes "invisible group"
display group_tree = codes "group token"
display any_tree = codes "token"

-- the text of the error if a kind is not read
abbrev pub refused_words : Kind → Place → List ℕ
refused_words ident p = ident_words (reads.read_ident p)
refused_words ident_any p = codes "expected ident"
refused_words lifetime p = lifetime_words (reads.read_lifetime reads.any_text p)
refused_words lifetime_any p = codes "expected lifetime"
refused_words literal p = codes "expected literal token"
refused_words punct p = codes "expected punctuation token"
refused_words underscore p = expected (codes "`_`")
refused_words (keyword k) p = expected (in_backquotes (keyword_text k))
refused_words (punctuation k) p = expected (in_backquotes (punctuation_text k))

-- the error of a kind that is not read at the place of a stream
abbrev pub kind_missing : Kind → parse.State → Message
kind_missing (punctuation k) s = punctuation_message (punctuation_text k) s
kind_missing k s = refused_at s (refused_words k s.place)
