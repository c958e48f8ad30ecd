-- Parsers over the texts of sources, whose end is behind the last token.
use Rattle.std.specs.Prelude.{ℕ, List, Result, Ok, Err}
use Rattle.tok_buffer.specs.Spans.{last_span}
use Rattle.tok_core.specs.Forest.{Forest}
use Rattle.tok_core.specs.Lexical.Outcome.{FollowsSource}
use Rattle.tok_core.specs.Lexical.Reading as grammar
use Rattle.tok_core.specs.declared.lexer.error.LexFault.{LexFault}
use Rattle.tok_leaves.specs.Spans.{call_site, source}
use Rattle.tok_leaves.specs.declared.span.Origin.TheVariants.{CallSite, Source}
use Rattle.tok_leaves.specs.declared.span.Span.{Span}
use Rattle.tok_lexical.specs.declared.edition.Edition.{Edition}
use Rattle.tok_lexical.specs.declared.rule.Mode.TheVariants.{Plain}
use Rattle.syn_parse.specs.Parsers.{FailsExplained, FailsToLex, OfText, ParsesWhole}
use Rattle.syn_parse.specs.Parsers.{whole_stream}
use Rattle.syn_parse.specs.Reads.{Call}
use Rattle.syn_parse.specs.State.{State}
use Rattle.syn_parse.specs.Takings.{KeepsAllVisible, KeepsWhole, Takings}
use Rattle.syn_parse.specs.declared.fault.Fault.{Fault}

-- the empty span at the end of a span; for the call site, the start of this source
abbrev pub end_of_span : ℕ → Span → Span
end_of_span number span =
    elim span.origin [ CallSite ↦ source number 0 0 | Source n a b ↦ source n b b ]

-- the end of the tokens of a source: behind the last one, or at the start if there is none
abbrev pub end_of_tokens : ℕ → Forest → Span
end_of_tokens number f = end_of_span number (last_span call_site f)

-- the stream of the tokens of a source
abbrev pub source_stream : ℕ → Forest → State
source_stream number f = whole_stream f (end_of_tokens number f)

-- what holds of the stream of the tokens of a source's text, if the text has any
abbrev pub OnTextOf : ℕ → (State → Type 0) → List ℕ → Type 0
OnTextOf number holds text =
    (f : Forest) → grammar.ReadsForest Plain number text f → holds (source_stream number f)

-- the text of a source is parsed up to the end of its tokens, or the lexer's error is explained
abbrev pub ParsesTextOf : {T : Type 0} → ℕ → Call T → List ℕ → Result T Fault → Type 0
ParsesTextOf number parses text =
    OfText number (λ f. ParsesWhole parses (source_stream number f)) (FailsExplained text) text

-- the text of a source keeps what is stated up to the end of its tokens
abbrev pub KeepsTextOf : {T : Type 0} → ℕ → Takings T → List ℕ → Result T Fault → Type 0
KeepsTextOf number takes text =
    OfText number (KeepsAllVisible takes (end_of_tokens number)) (FailsExplained text) text

-- what holds of the stream of a Rust source's tokens, if the source has any
abbrev pub OnSource : Edition → (State → Type 0) → List ℕ → Type 0
OnSource edition holds text =
    (f : Forest) → FollowsSource edition 0 text (Ok f) → holds (source_stream 0 f)

-- this holds of the tokens that were read of a text, or the lexer's fault is explained
abbrev pub OfRead : {T : Type 0} → (holds : Forest → Result T Fault → Type 0) → (text : List ℕ)
    → Result Forest LexFault → Result T Fault → Type 0
OfRead holds text (Ok f) result = holds f result
OfRead holds text (Err why) result = FailsToLex text why result

-- a Rust source of an edition is read, and this holds of its tokens
abbrev pub OfSource : {T : Type 0} → Edition → (holds : Forest → Result T Fault → Type 0) → List ℕ
    → Result T Fault → Type 0
OfSource edition holds text result =
    (read : Result Forest LexFault) × FollowsSource edition 0 text read
    × OfRead holds text read result

-- a Rust source of an edition is read, and its tokens are parsed
abbrev pub ParsesSource : {T : Type 0} → Edition → Call T → List ℕ → Result T Fault → Type 0
ParsesSource edition parses = OfSource edition (λ f. ParsesWhole parses (source_stream 0 f))

-- a Rust source of an edition is read, and a parse of its tokens keeps what is stated
abbrev pub KeepsSource : {T : Type 0} → Edition → Takings T → List ℕ → Result T Fault → Type 0
KeepsSource edition takes = OfSource edition (λ f. KeepsWhole takes f (end_of_tokens 0 f))
