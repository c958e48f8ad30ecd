use Rattle.std.proofs.Common.{◌∙◌}
use Rattle.tok_buffer.specs.Reads.{read_punctuation}
use Rattle.tok_types.specs.Texts.{punctuation_word}
use Rattle.tok_types.specs.declared.punctuation.Punctuation.{Punctuation}
use Rattle.syn_parse.specs.Parses.{AreSpans}
use Rattle.syn_parse.specs.ErrorWords.{punctuation_message}
use Rattle.tok_types.proofs.Words.{punctuation-chars}
use Rattle.syn_parse.proofs.Puncts.{ascii_chars-same}
use Rattle.syn_parse.proofs.Reading.{at-once-made, at-once-stops}
use Rattle.syn_parse.proofs.tokens.punctuation_token.Goals as goal

pub returns : goal.returns
returns g c =
    let word = punctuation_word g.row.K g.row.N in
    let same = ascii_chars-same word (punctuation-chars g.row.K g.row.N) in
    at-once-made AreSpans (λ (p : Punctuation g.row.K g.row.N). AreSpans p.spans)
    (punctuation_message word c.args.input.now) c.args.input.now
    (read_punctuation word c.args.input.now.place) c.in_ok-spans.spans c.new.result
    c.punct.new.input (λ ts h. c.new.ensures ∙ h)
    (rw (c.punctuation_text.ensures, same) at c.in_ok-spans.ensures)

pub returns-in_err-spans : goal.returns-in_err-spans
returns-in_err-spans g c =
    let word = punctuation_word g.row.K g.row.N in
    let same = ascii_chars-same word (punctuation-chars g.row.K g.row.N) in
    at-once-stops AreSpans (λ (p : Punctuation g.row.K g.row.N). AreSpans p.spans)
    (punctuation_message word c.args.input.now) c.args.input.now
    (read_punctuation word c.args.input.now.place) c.in_err-spans.field-0.0
    c.from_residual.result c.punct.new.input c.from_residual.ensures.1
    (rw (c.punctuation_text.ensures, same) at c.in_err-spans.ensures)
