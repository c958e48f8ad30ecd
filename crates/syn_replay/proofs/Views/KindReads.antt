-- Each kind is read by taking leaves.
use Rattle.std.specs.Prelude.{codes}
use Rattle.tok_buffer.specs.EachRead.{First}
use Rattle.tok_buffer.specs.Reads.{any_text}
use Rattle.tok_buffer.proofs.View.Readings.{Reading, of_ident, of_word, of_keyword}
use Rattle.tok_buffer.proofs.View.Readings.{of_lifetime, of_literal, of_punct, of_punctuation}
use Rattle.tok_types.specs.Texts.{accept_as_ident, keyword_text, punctuation_text}
use Rattle.syn_parse.specs.Parses.{accept_as_lifetime}
use Rattle.syn_replay.specs.Kinds.{Kind, ident, ident_any, lifetime, lifetime_any, literal, punct}
use Rattle.syn_replay.specs.Kinds.{underscore, keyword, punctuation, read}

pub of_kind : (k : Kind) → (first : First) × Reading (read k) first
of_kind ident = (_, of_word accept_as_ident)
of_kind ident_any = (_, of_ident)
of_kind lifetime = (_, of_lifetime accept_as_lifetime)
of_kind lifetime_any = (_, of_lifetime any_text)
of_kind literal = (_, of_literal)
of_kind punct = (_, of_punct)
of_kind underscore = (_, of_keyword (codes "_"))
of_kind (keyword k) = (_, of_keyword (keyword_text k))
of_kind (punctuation k) = (_, of_punctuation (punctuation_text k))
