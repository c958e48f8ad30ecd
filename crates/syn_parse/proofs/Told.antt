-- Parses of one read take what is ahead.
use Rattle.std.proofs.Common.{◌≡◌, ◌∙◌, sym, ap, arith, ℕ, List, [], ◌∷◌, Option, Some, None}
use Rattle.std.specs.Prelude.{Bool, Result, IfSome, cond, codes, not, map}
use Rattle.std.proofs.lemmas.Bool.{false≢true}
use Rattle.tok_leaves.specs.declared.span.Span.{Span}
use Rattle.tok_core.specs.Filled.{has_trees}
use Rattle.tok_core.specs.Forest.{Tree, Forest, tree_span}
use Rattle.tok_buffer.specs.EachRead.{first_if, first_lifetime, first_puncts}
use Rattle.tok_buffer.specs.InFront.{with_ahead}
use Rattle.tok_buffer.specs.Buffer.{Laid}
use Rattle.tok_buffer.specs.Messages.{message_at, one_message}
use Rattle.tok_buffer.specs.Place.{Place, is_at_end}
use Rattle.tok_buffer.specs.Reached.{Reached}
use Rattle.tok_buffer.specs.Reads.{any_text, is_ident_of, read_ident, read_lifetime}
use Rattle.tok_core.specs.Kinds.{is_ident}
use Rattle.tok_buffer.specs.Reads.{read_punct}
use Rattle.tok_buffer.specs.declared.error.Message.{Message}
use Rattle.tok_buffer.specs.Spans.{current_span}
use Rattle.tok_buffer.specs.View.{erased_ahead}
use Rattle.tok_buffer.proofs.Onwards.{GoesOn, keeps_scope, reading_goes}
use Rattle.tok_buffer.proofs.View.InFront.{ahead_tells_ends}
use Rattle.tok_buffer.proofs.View.Laws.{reached_leads_on}
use Rattle.tok_buffer.proofs.View.Moves.{LeadsTo, leads}
use Rattle.tok_buffer.proofs.View.Readings.{Reading, of_ident, of_word, of_lifetime, of_literal}
use Rattle.tok_buffer.proofs.View.Readings.{of_keyword, of_punct, of_punctuation}
use Rattle.tok_buffer.proofs.View.Tells.{tells}
use Rattle.tok_types.specs.Texts.{accept_as_ident, in_backquotes, keyword_text, punctuation_word}
use Rattle.syn_parse.specs.Parses.{AnyIdentParses, AnyLifetimeParses, AreSpans, IdentParses}
use Rattle.syn_parse.specs.Parses.{IsIdent, IsLifetime, IsLiteral, IsPunct, IsSpanOf}
use Rattle.syn_parse.specs.Parses.{LifetimeParses, LiteralParses, PunctParses, WordParses}
use Rattle.syn_parse.specs.Parses.{accept_as_lifetime}
use Rattle.syn_parse.specs.Progress.{KeywordParses, PunctuationTypeParses}
use Rattle.syn_parse.specs.Faults.{Refuses}
use Rattle.syn_parse.specs.Owned.{take_own}
use Rattle.syn_parse.specs.Reads.{Call, TreesRead, Reads, ReadsAtOnce}
use Rattle.syn_parse.specs.ErrorWords.{ident_words, expected, lifetime_words, punctuation_message}
use Rattle.syn_parse.specs.ErrorWords.{punct_span, punctuation_span, refused_at, span_in}
use Rattle.syn_parse.specs.Positions.{IsAt, Missing, scope_trees}
use Rattle.syn_parse.specs.State.{State, fresh, state_span}
use Rattle.syn_parse.specs.declared.fault.Fault.{Fault}
use Rattle.syn_parse.specs.declared.fault.Fault.TheVariants.{Refused, Memory}
use Rattle.syn_parse.specs.TreesAhead.{Ahead, IsFilled, ahead}
use Rattle.syn_parse.specs.Lookahead.{LookaheadView, at_look, list_words, look_message}
use Rattle.syn_parse.specs.Lookahead.{look_missing, missing_names, names_message}
use Rattle.syn_parse.specs.Takes.{Outcome, SaysAt, Takes, TakesAs, missing_next, or_end, take_by}
use Rattle.syn_parse.specs.Tokens.{ident_in, lifetime_in, literal_in, punct_position, sign_missing}
use Rattle.syn_parse.specs.Tokens.{sign_position, TokenKind, any_ident, any_lifetime, ident}
use Rattle.syn_parse.specs.Tokens.{keyword, lifetime, literal, own, punct, punct_in, punctuation}
use Rattle.syn_parse.specs.Tokens.{take_token}
use Rattle.syn_parse.proofs.Failing.{says_memory}
use Rattle.syn_parse.proofs.Positions.{InScope, scope_kept, start_told, whole_told}
use Rattle.syn_parse.proofs.Progress.{at_once}
use Rattle.syn_parse.proofs.Scopes.{one_scope}

-- the end of a scope in a filled forest
pub end_told : (p : Place) → IsFilled p → is_at_end p ≡ not (has_trees (erased_ahead p))
end_told p i = ahead_tells_ends i.buffer i.filled_buffer p i.reached

-- words at a stream, by what is ahead
pub words_told : (words : List ℕ) (s : State) → IsFilled s.place
    → (refused_at s words).text ≡ or_end words (erased_ahead s.place)
words_told words s i = grind (arith, end_told)

-- an error at a stream says that these words are missing there
pub here_told : (words : List ℕ) (s : State) (f : Fault) → Refuses (refused_at s words) f
    → SaysAt s (missing_next words (ahead s).trees) f
here_told words s (Refused e) h i = (
  state_span s,
  start_told s.place s.scope_span i,
  h ∙ ap (λ w. one_message (message_at (state_span s) w)) (words_told words s i),
)
here_told words s (Memory e) h i = tt

-- an error with a message
pub message_told : (message : Option (List ℕ)) (s : State) (f : Fault)
    → IfSome message (λ words. Refuses (refused_at s words) f)
    → IfSome message (λ words. SaysAt s (missing_next words (ahead s).trees) f)
message_told None s f h = tt
message_told (Some words) s f h = here_told words s f h

-- with nothing to name
unexpected-is : (at_end : Bool) (some : Bool) (scope here : Span) → at_end ≡ not some
    → cond at_end (message_at scope (codes "unexpected end of input"))
    (message_at here (codes "unexpected token"))
    ≡ message_at (cond at_end scope here)
    (cond some (codes "unexpected token") (codes "unexpected end of input"))
unexpected-is at_end some scope here e = grind (arith, false≢true)

-- a lookahead's error
names-told : (names : List (List ℕ)) (p : Place) (scope : Span) (f : Fault)
    → Refuses (names_message names p scope) f
    → SaysAt (fresh p scope) (missing_names names (erased_ahead p)) f
names-told [] p scope (Refused e) h i = (
  cond (is_at_end p) scope (current_span p),
  whole_told p scope i,
  h ∙ ap one_message (unexpected-is (is_at_end p) (has_trees (erased_ahead p)) scope
      (current_span p) (end_told p i)),
)
names-told [] p scope (Memory e) h i = tt
names-told (d ∷ ds) p scope f h i = here_told (list_words (d ∷ ds)) (fresh p scope) f h i

pub look_told : (l : LookaheadView) (f : Fault) → Refuses (look_message l) f
    → SaysAt (at_look l) (look_missing l) f
look_told l f h = grind (arith, names-told)

module _ {T A : Type 0} (form : T → A) (Means : T → List Tree → Type 0) (means : List Tree → A)
    (fits : (v : T) (ts : List Tree) → Means v ts → form v ≡ means ts)
    (first : Forest → Option (List Tree × Forest)) (lack : Forest → Missing) (message : Message)
    (s t : State)
    (says : (f : Fault) → Refuses message f → SaysAt s (lack (erased_ahead s.place)) f) where
  abbrev take : Ahead → Outcome A
  take = take_by first means lack

  pub told-by : (x : TreesRead) (r : Result T Fault) → with_ahead x ≡ first (erased_ahead s.place)
      → ((b : Laid) → Reached b s.place → LeadsTo (Reached b) x)
      → LeadsTo (GoesOn s.place) x → LeadsTo (InScope (scope_trees s.place)) x
      → Reads Means x message s r t → TakesAs form take s r t
  told-by x r e k m i h = grind (arith, leads, one_scope, keeps_scope, says_memory)

  module _ {read : Place → TreesRead} (reading : Reading read first) where
    pub read_told : (r : Result T Fault) → Reads Means (read s.place) message s r t
        → TakesAs form take s r t
    read_told r h =
        told-by (read s.place) r (tells reading s.place)
        (λ b i. leads (Reached b) (Reached b) (reached_leads_on b) reading s.place i)
        (reading_goes reading s.place) (scope_kept reading s.place) h

    pub told-at-once : (r : Result T Fault) → ReadsAtOnce Means (read s.place) message s r t
        → TakesAs form take s r t
    told-at-once r h = read_told r (at_once Means s (read s.place) message r t h)

ident-words : (x : TreesRead) → ident_words x ≡ ident_words (with_ahead x)
ident-words x = grind arith

lifetime-words : (x : TreesRead) → lifetime_words x ≡ lifetime_words (with_ahead x)
lifetime-words x = grind arith

abbrev same : {A : Type 0} → A → A
same v = v

-- the same words, in another form
in_words : {v w : List ℕ} (s : State) (f : Fault) → v ≡ w
    → SaysAt s (missing_next v (ahead s).trees) f → SaysAt s (missing_next w (ahead s).trees) f
in_words s f e h = grind arith

-- a read whose error has the same words everywhere
module _ {T A : Type 0} (form : T → A) (Means : T → List Tree → Type 0) (means : List Tree → A)
    (fits : (v : T) (ts : List Tree) → Means v ts → form v ≡ means ts)
    {read : Place → TreesRead} {first : Forest → Option (List Tree × Forest)}
    (reading : Reading read first) (words : List ℕ) (s : State) (r : Result T Fault)
    (t : State) where
  worded_told : Reads Means (read s.place) (refused_at s words) s r t
      → TakesAs form (take_by first means (missing_next words)) s r t
  worded_told h =
      read_told form Means means fits first (missing_next words) (refused_at s words) s t
      (here_told words s) reading r h

  worded_at_once : ReadsAtOnce Means (read s.place) (refused_at s words) s r t
      → TakesAs form (take_by first means (missing_next words)) s r t
  worded_at_once h = worded_told (at_once Means s (read s.place) (refused_at s words) r t h)

-- an identifier of a text, whose span is the form of the value
pub own_told : {T : Type 0} (span_of : T → Span) (text : List ℕ) (s : State) (r : Result T Fault)
    (t : State) → WordParses span_of text s r t → TakesAs span_of (take_own text) s r t
unfolding take_token
own_told span_of text s r t h =
    worded_at_once span_of (λ v. IsSpanOf text (span_of v)) span_in (λ v ts m. sym (ap span_in m))
    (of_keyword text) (expected (in_backquotes text)) s r t h

-- a punctuation's error is at the punct that is next, if one is
sign-at : (s : State) → IsFilled s.place → (x : TreesRead)
    → IsAt (scope_trees s.place) s.scope_span
    (punct_position (with_ahead x) (erased_ahead s.place)) (punct_span x (state_span s))
sign-at s i x = grind (arith, start_told)

sign_at : (text : List ℕ) (s : State) → IsFilled s.place
    → IsAt (scope_trees s.place) s.scope_span (sign_position text (erased_ahead s.place))
    (punctuation_span text s)
sign_at [] s i = start_told s.place s.scope_span i
sign_at (c ∷ cs) s i =
    rw (tells of_punct s.place) at (sign-at s i (read_punct s.place))

sign_told : (text : List ℕ) (s : State) (f : Fault) → Refuses (punctuation_message text s) f
    → SaysAt s (sign_missing text (erased_ahead s.place)) f
sign_told text s f h i = grind (arith, sign_at)

-- how a token is parsed
abbrev pub TokenParses : {A : Type 0} → TokenKind A → Call A
TokenParses ident = IdentParses
TokenParses any_ident = AnyIdentParses
TokenParses lifetime = LifetimeParses
TokenParses any_lifetime = AnyLifetimeParses
TokenParses literal = LiteralParses
TokenParses punct = PunctParses
TokenParses (own text) = WordParses (λ span. span) text
TokenParses (keyword k) = KeywordParses k
TokenParses (punctuation k n) = PunctuationTypeParses k n

-- a parse of a token takes it
pub token_told : {A : Type 0} (token : TokenKind A) (s : State) (r : Result A Fault) (t : State)
    → TokenParses token s r t → Takes (take_token token) s r t
unfolding take_token
token_told ident s r t h =
    let read = read_ident s.place in
    let words : ident_words read ≡ ident_words (first_if is_ident (erased_ahead s.place)) =
    ident-words read ∙ ap ident_words (tells of_ident s.place) in
    read_told same IsIdent ident_in (λ v ts m. sym (ap ident_in m))
    (first_if (is_ident_of accept_as_ident))
    (λ f. missing_next (ident_words (first_if is_ident f)) f) (refused_at s (ident_words read))
    s t (λ f k. in_words s f words (here_told (ident_words read) s f k)) (of_word accept_as_ident)
    r h
token_told any_ident s r t h =
    worded_told same IsIdent ident_in (λ v ts m. sym (ap ident_in m)) of_ident
    (codes "expected ident") s r t h
token_told lifetime s r t h =
    let read = read_lifetime any_text s.place in
    let words : lifetime_words read
    ≡ lifetime_words (first_lifetime any_text (erased_ahead s.place)) =
    lifetime-words read ∙ ap lifetime_words (tells (of_lifetime any_text) s.place) in
    read_told same IsLifetime lifetime_in (λ v ts m. sym (ap lifetime_in m))
    (first_lifetime accept_as_lifetime)
    (λ f. missing_next (lifetime_words (first_lifetime any_text f)) f)
    (refused_at s (lifetime_words read)) s t
    (λ f k. in_words s f words (here_told (lifetime_words read) s f k))
    (of_lifetime accept_as_lifetime) r h
token_told any_lifetime s r t h =
    worded_told same IsLifetime lifetime_in (λ v ts m. sym (ap lifetime_in m))
    (of_lifetime any_text) (codes "expected lifetime") s r t h
token_told literal s r t h =
    worded_told same IsLiteral literal_in (λ v ts m. sym (ap literal_in m)) of_literal
    (codes "expected literal token") s r t h
token_told punct s r t h =
    worded_at_once same IsPunct punct_in (λ v ts m. sym (ap punct_in m)) of_punct
    (codes "expected punctuation token") s r t h
token_told (own text) s r t h = own_told same text s r t h
token_told (keyword k) s r t h =
    let text = keyword_text k in
    worded_at_once same (λ v. IsSpanOf text v.span) (λ ts. record { span = span_in ts })
    (λ v ts m. sym (ap (λ us. record { span = span_in us }) m)) (of_keyword text)
    (expected (in_backquotes text)) s r t h
token_told (punctuation k n) s r t h =
    let text = punctuation_word k n in
    told-at-once same (λ v. AreSpans v.spans) (λ ts. record { spans = map tree_span ts })
    (λ v ts m. ap (λ x. record { spans = x }) m) (first_puncts text)
    (sign_missing text) (punctuation_message text s) s t (sign_told text s)
    (of_punctuation text) r h
