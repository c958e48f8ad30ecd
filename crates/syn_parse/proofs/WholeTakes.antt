-- A whole stream takes what its type states.
use Rattle.std.proofs.Common.{arith, ◌≡◌, Err, Ok, refl}
use Rattle.std.specs.Prelude.{List, ℕ, Result}
use Rattle.tok_lexical.specs.Widths.{bytes}
use Rattle.tok_lexical.specs.declared.edition.Edition.{Edition}
use Rattle.tok_lexical.specs.declared.rule.Mode.TheVariants.{Plain, Source}
use Rattle.tok_core.proofs.Lexical.Visible.{all_visible}
use Rattle.tok_core.specs.Forest.{Forest}
use Rattle.tok_core.specs.Lexical.Outcome.{FollowsSource}
use Rattle.tok_core.specs.Lexical.Reading.{ReadsForest}
use Rattle.tok_core.specs.declared.lexer.error.LexError.{LexError}
use Rattle.tok_core.specs.declared.lexer.error.LexFault.{LexFault}
use Rattle.tok_buffer.specs.Messages.{message_at}
use Rattle.tok_buffer.specs.declared.error.Message.{Message}
use Rattle.tok_leaves.specs.Spans.{call_site}
use Rattle.tok_leaves.specs.declared.span.Span.{Span}
use Rattle.syn_parse.proofs.Finished.{finish_takes_all, memory-fails, results_agree, start-filled}
use Rattle.syn_parse.proofs.Finished.{words_agree}
use Rattle.syn_parse.proofs.Premises.{given, given_on, premise, under}
use Rattle.syn_parse.specs.Faults.{FailsWith}
use Rattle.syn_parse.specs.Parsers.{FailsExplained, Finishes, OnMemory, ParsesWhole}
use Rattle.syn_parse.specs.Parsers.{OfText, lex_message, whole_stream}
use Rattle.syn_parse.specs.Reads.{Call}
use Rattle.syn_parse.specs.Sources.{OfRead, end_of_tokens}
use Rattle.syn_parse.specs.State.{State}
use Rattle.syn_parse.specs.Takes.{Taking, TakesAll}
use Rattle.syn_parse.specs.Takings.{HasOneMessage, Keeps, KeepsBoth, KeepsAllVisible, KeepsWhole}
use Rattle.syn_parse.specs.Takings.{KeepsWords, Takings, stated, told, untold, unweighed}
use Rattle.syn_parse.specs.declared.fault.Fault.{Fault}

module _ {T : Type 0} where
  pub whole_keeps : (takes : Takings T) (f : Forest) (scope : Span) (returned : Result T Fault)
      (left : State) (result : Result T Fault) → Keeps takes (whole_stream f scope) returned left
      → Finishes returned left result → KeepsWhole takes f scope result
  whole_keeps untold f scope returned left result h k = tt
  whole_keeps (stated alone form take w) f scope returned left result h k =
      under alone _ _ (λ i. finish_takes_all form take f scope returned left result
      (given alone _ _ h (given_on alone _ _ (start-filled form take f scope) i)) k)

  pub memory_keeps : (takes : Takings T) (f : Forest) (scope : Span) (result : Result T Fault)
      → OnMemory result → KeepsWhole takes f scope result
  memory_keeps takes f scope result m = grind (arith, under, memory-fails)

  -- a parser of a whole stream, if each of its calls keeps what is stated
  pub parser_keeps : (takes : Takings T) (f : Forest) (scope : Span) (calls : Call T)
      → ((s t : State) (r : Result T Fault) → calls s r t → Keeps takes s r t)
      → (result : Result T Fault) → ParsesWhole calls (whole_stream f scope) result
      → KeepsWhole takes f scope result
  parser_keeps takes f scope calls h result k = grind (arith, whole_keeps, memory_keeps)

  pub both_keep : (takes : Takings T) (left right : Forest) (x y : Result T Fault)
      → KeepsWhole takes left call_site x → KeepsWhole takes right call_site y
      → KeepsBoth takes left right x y
  both_keep untold left right x y h k = tt
  both_keep (stated alone form take w) left right x y h k =
      λ e. under alone _ _ (λ i. under alone _ _ (λ j. results_agree form take left call_site right
      call_site e x y (given alone _ _ h i) (given alone _ _ k j)))

  pub words_keep : (takes : Takings T) (left right : Forest) (x y : Result T Fault)
      → KeepsWhole takes left call_site x → KeepsWhole takes right call_site y
      → KeepsWords takes left right x y
  words_keep takes left right x y h k = grind (arith, words_agree, given, premise)

-- a text whose tokens are parsed keeps what is stated
pub text_keeps : {T : Type 0} (takes : Takings T) (number : ℕ) (text : List ℕ) (f : Forest)
    (end : Forest → Span) (s left : State) (returned result : Result T Fault)
    → ReadsForest Plain number text f → s ≡ whole_stream f (end f) → Keeps takes s returned left
    → Finishes returned left result → KeepsAllVisible takes end f result
text_keeps takes number text f end s left returned result reads is h k = (
  all_visible 0 Plain number text f refl reads,
  whole_keeps takes f (end f) returned left result (rw is at h) k,
)

-- an error of a text has one message
module _ {T A : Type 0} (form : T → A) (take : Taking A) where
  abbrev ErrsOnce : Result T Fault → Type 0
  ErrsOnce r = HasOneMessage (told form take unweighed) r

  all-once : (f : Forest) (scope : Span) (r : Result T Fault) → TakesAll form take f scope r
      → ErrsOnce r
  all-once f scope r h = grind arith

-- an error that fails so has one message
abbrev FailsOnce : (T : Type 0) → (LexError → Result T Fault → Type 0) → Type 0
FailsOnce T fails =
    (e : LexError) (r : Result T Fault) → fails e r → (m : Message) × FailsWith m r

pub lexer_once : (T : Type 0) → FailsOnce T (λ e r. FailsWith (lex_message e) r)
lexer_once T e r h = (lex_message e, h)

pub explained_once : (T : Type 0) (text : List ℕ) → FailsOnce T (FailsExplained text)
explained_once T text e (Ok v) h = absurd h
explained_once T text e (Err f) (span, words, shown, h) = (message_at span words, h)

module _ {T : Type 0} (number : ℕ) (end : Forest → Span)
    (fails : LexError → Result T Fault → Type 0) (once : FailsOnce T fails) where
  pub text_once : (takes : Takings T) (text : List ℕ) (r : Result T Fault)
      → OfText number (KeepsAllVisible takes end) fails text r → HasOneMessage takes r
  text_once takes text r h = grind (arith, all-once, given, premise)

module _ {T : Type 0} (edition : Edition) (text : List ℕ) where
  pub source_once : (takes : Takings T) (read : Result Forest LexFault) (r : Result T Fault)
      → FollowsSource edition 0 text read
      → OfRead (λ f. KeepsWhole takes f (end_of_tokens 0 f)) text read r → HasOneMessage takes r
  source_once untold read r follows h = tt
  source_once (stated alone form take w) (Ok f) r (front, rest, same, begins, follows) h =
      let shown = all_visible (bytes front) (Source edition) 0 rest f refl follows.reads in
      all-once form take f (end_of_tokens 0 f) r (given alone _ _ h (premise alone _ shown.0))
  source_once (stated alone form take w) (Err why) r follows h = grind arith
