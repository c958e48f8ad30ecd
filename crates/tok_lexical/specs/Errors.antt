-- Which pieces are rejected, and why: the kinds of errors, their numbers and words.
use Rattle.std.specs.Prelude.{ℕ, List, codes, ◌==◌, ◌||◌, ◌&&◌, Bool, not, if◌then◌else◌, Option, Some, None}
use Rattle.tok_lexical.specs.Ascii.{apostrophe, number_sign, quote}
use Rattle.tok_lexical.specs.Comments.{is_line_doc, is_block_doc}
use Rattle.tok_lexical.specs.Numbers.{is_exponent, is_malformed, is_float}
use Rattle.tok_lexical.specs.Contents.{has_bare_return, is_unfit, is_wrong}
use Rattle.tok_lexical.specs.Docs.{breaks_line}
use Rattle.tok_lexical.specs.Editions.{reserves_prefixes, reserves_guards}
use Rattle.tok_lexical.specs.Pieces.{after_first, begins_with}
use Rattle.tok_lexical.specs.Words.{is_missing_raw, is_plain, is_raw_prefix}
use Rattle.tok_lexical.specs.declared.edition.Edition.{Edition}
use Rattle.tok_lexical.specs.declared.lex_error_kind.LexErrorKind.{LexErrorKind}
use Rattle.tok_lexical.specs.declared.lex_error_kind.LexErrorKind.TheVariants.{UnknownCharacter, UnclosedGroup}
use Rattle.tok_lexical.specs.declared.lex_error_kind.LexErrorKind.TheVariants.{UnexpectedClosing, UnclosedComment}
use Rattle.tok_lexical.specs.declared.lex_error_kind.LexErrorKind.TheVariants.{DocComment, MalformedQuoted}
use Rattle.tok_lexical.specs.declared.lex_error_kind.LexErrorKind.TheVariants.{PrefixedString, FloatLiteral}
use Rattle.tok_lexical.specs.declared.lex_error_kind.LexErrorKind.TheVariants.{MalformedNumber}
use Rattle.tok_lexical.specs.declared.lex_error_kind.LexErrorKind.TheVariants.{MissingRawIdentifier}
use Rattle.tok_lexical.specs.declared.lex_error_kind.LexErrorKind.TheVariants.{LoneApostrophe, DeepGroup, ReservedPrefix}
use Rattle.tok_lexical.specs.declared.lex_error_kind.LexErrorKind.TheVariants.{BareReturn, ReservedGuard}
use Rattle.tok_lexical.specs.declared.rule.Mode.{Mode}
use Rattle.tok_lexical.specs.declared.rule.Mode.TheVariants.{Marked, Source}
use Rattle.tok_lexical.specs.declared.rule.Rule.{Rule}
use Rattle.tok_lexical.specs.declared.rule.Rule.TheVariants.{ByteOrderMark, LineComment}
use Rattle.tok_lexical.specs.declared.rule.Rule.TheVariants.{BlockComment, OpenComment, BadString}
use Rattle.tok_lexical.specs.declared.rule.Rule.TheVariants.{BadByteChar, BadEscapedChar}
use Rattle.tok_lexical.specs.declared.rule.Rule.TheVariants.{StringPrefix, QuotedString, RawString}
use Rattle.tok_lexical.specs.declared.rule.Rule.TheVariants.{BadPrefixed, Lifetime, PlainLifetime}
use Rattle.tok_lexical.specs.declared.rule.Rule.TheVariants.{Apostrophe, Based, BadBased, Float}
use Rattle.tok_lexical.specs.declared.rule.Rule.TheVariants.{Decimal, RawIdentifier, Identifier}
use Rattle.tok_lexical.specs.declared.rule.Rule.TheVariants.{Punct, Other}

-- a number for each kind of error, from 1 to 15
abbrev pub kind_number : LexErrorKind → ℕ
kind_number UnknownCharacter = 1
kind_number UnclosedGroup = 2
kind_number UnexpectedClosing = 3
kind_number UnclosedComment = 4
kind_number DocComment = 5
kind_number MalformedQuoted = 6
kind_number PrefixedString = 7
kind_number FloatLiteral = 8
kind_number MalformedNumber = 9
kind_number MissingRawIdentifier = 10
kind_number LoneApostrophe = 11
kind_number DeepGroup = 12
kind_number ReservedPrefix = 13
kind_number BareReturn = 14
kind_number ReservedGuard = 15

-- the message of each kind of error
abbrev pub kind_words : LexErrorKind → List ℕ
kind_words UnknownCharacter = codes "unknown character"
kind_words UnclosedGroup = codes "unclosed group"
kind_words UnexpectedClosing = codes "unexpected closing delimiter"
kind_words UnclosedComment = codes "unclosed comment"
kind_words DocComment = codes "doc comment"
kind_words MalformedQuoted = codes "malformed string or character"
kind_words PrefixedString = codes "raw, byte or C string"
kind_words FloatLiteral = codes "float literal"
kind_words MalformedNumber = codes "malformed number"
kind_words MissingRawIdentifier = codes "raw identifier that does not exist"
kind_words LoneApostrophe = codes "lone apostrophe"
kind_words DeepGroup = codes "groups nested too deep"
kind_words ReservedPrefix = codes "reserved prefix"
kind_words BareReturn = codes "bare carriage return in a doc comment"
kind_words ReservedGuard = codes "reserved guard"

-- what is wrong, for a reader of the text: the error's message, or a sentence if that only names
-- what was read
abbrev pub kind_message : LexErrorKind → List ℕ
kind_message DocComment = codes "a doc comment is not allowed here"
kind_message PrefixedString = codes "a raw, byte or C string is not allowed here"
kind_message FloatLiteral = codes "a float is not allowed here"
kind_message MissingRawIdentifier = codes "this name cannot be a raw identifier"
kind_message LoneApostrophe = codes "expected a lifetime, or one character and another `'`"
kind_message DeepGroup = codes "more than 256 groups are nested here"
kind_message ReservedPrefix = codes "a name directly before a quote or `#` is reserved"
kind_message ReservedGuard = codes "`#` directly before a quote or `#` is reserved"
kind_message kind = kind_words kind

-- this kind of error if the condition holds, else no error
abbrev refused_if : Bool → LexErrorKind → Option LexErrorKind
refused_if b kind = if b then Some kind else None

-- what follows an identifier makes it a reserved prefix (Rust Reference: Tokens, Reserved
-- prefixes); in 2015 and 2018 only `r` and `br` before `#` are, if that begins no raw string: the
-- rules of raw strings come before
abbrev pub is_reserved : Edition → List ℕ → List ℕ → Bool
is_reserved edition name after =
    if reserves_prefixes edition
    then begins_with quote after || (begins_with apostrophe after || begins_with number_sign after)
    else begins_with number_sign after && is_raw_prefix name

-- a number sign directly before a quote or another one (Rust Reference: Tokens, Reserved guards)
abbrev pub is_guard : Edition → List ℕ → List ℕ → Bool
is_guard edition piece after =
    reserves_guards edition
    && (begins_with number_sign piece && (begins_with quote after || begins_with number_sign after))

-- Of a lifetime of a source, `'ab'` is no character, and an identifier before `#` is reserved.
abbrev pub lifetime_error : Mode → List ℕ → List ℕ → Option LexErrorKind
lifetime_error (Source edition) name after =
    if is_missing_raw name then Some MissingRawIdentifier
    else if begins_with apostrophe after then Some MalformedQuoted
    else refused_if (reserves_prefixes edition && (is_plain name && begins_with number_sign after))
    ReservedPrefix
lifetime_error mode name after = refused_if (is_missing_raw name) MissingRawIdentifier

-- why the piece is rejected, if it is; the byte matters to the byte order mark alone
abbrev pub error_kind : Rule → Mode → ℕ → List ℕ → List ℕ → Option LexErrorKind
error_kind ByteOrderMark mode at piece after = refused_if (not (at == 0)) UnknownCharacter
error_kind LineComment (Source edition) at piece after =
    refused_if (is_line_doc piece && breaks_line piece after) BareReturn
error_kind LineComment mode at piece after = refused_if (is_line_doc piece) DocComment
error_kind BlockComment (Source edition) at piece after =
    refused_if (is_block_doc piece && has_bare_return piece) BareReturn
error_kind BlockComment mode at piece after = refused_if (is_block_doc piece) DocComment
error_kind OpenComment mode at piece after = Some UnclosedComment
error_kind (QuotedString contents) (Source edition) at piece after =
    refused_if (is_wrong contents piece) MalformedQuoted
error_kind BadString mode at piece after = Some MalformedQuoted
error_kind BadByteChar mode at piece after = Some MalformedQuoted
error_kind StringPrefix mode at piece after = Some PrefixedString
error_kind (RawString contents) mode at piece after =
    refused_if (is_unfit contents piece) MalformedQuoted
error_kind (BadPrefixed contents) mode at piece after = Some MalformedQuoted
error_kind BadEscapedChar mode at piece after = Some MalformedQuoted
error_kind Lifetime mode at piece after = lifetime_error mode (after_first piece) after
error_kind PlainLifetime mode at piece after = lifetime_error mode (after_first piece) after
error_kind Apostrophe Marked at piece after = None
error_kind Apostrophe mode at piece after = Some LoneApostrophe
error_kind (Based base) mode at piece after =
    refused_if (is_malformed base piece after) MalformedNumber
error_kind (BadBased base) mode at piece after = Some MalformedNumber
error_kind Float mode at piece after = refused_if (is_exponent after) MalformedNumber
error_kind Decimal (Source edition) at piece after = refused_if (is_exponent after) MalformedNumber
error_kind Decimal mode at piece after = refused_if (is_float piece after) FloatLiteral
error_kind RawIdentifier mode at piece after = refused_if
    (is_missing_raw piece) MissingRawIdentifier
error_kind Identifier (Source edition) at piece after =
    refused_if (is_reserved edition piece after) ReservedPrefix
error_kind Punct (Source edition) at piece after =
    refused_if (is_guard edition piece after) ReservedGuard
error_kind Other mode at piece after = Some UnknownCharacter
error_kind rule mode at piece after = None
