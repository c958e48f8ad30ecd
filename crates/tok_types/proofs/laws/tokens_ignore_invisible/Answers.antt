use Rattle.tok_buffer.proofs.View.Readings.{of_keyword, of_punctuation}
use Rattle.tok_types.proofs.Views.{finds}
use Rattle.tok_types.specs.Texts.{keyword_text, punctuation_word}
use Rattle.tok_types.proofs.laws.tokens_ignore_invisible.Goals as goal

pub returns-clause-keywords : goal.returns-clause-keywords
returns-clause-keywords g c = finds (of_keyword (keyword_text g.row.K))

pub returns-clause-punctuations : goal.returns-clause-punctuations
returns-clause-punctuations g c = finds (of_punctuation (punctuation_word g.row.K g.row.N))
