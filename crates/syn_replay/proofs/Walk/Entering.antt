-- Entering a group, and errors, as the steps of a replay.
use Rattle.std.proofs.Common.{◌≡◌, ◌∙◌, ap, sym, refl, ℕ, List, [], ◌∷◌, ◌++◌, Option, Some, None}
use Rattle.std.proofs.Common.{Ok, Err}
use Rattle.std.specs.Prelude.{true, length, IfOk, Result}
use Rattle.std.specs.declared.alloc.AllocError.{AllocError}
use Rattle.tok_lexical.specs.declared.delimiter.Delimiter.{Delimiter}
use Rattle.tok_leaves.specs.declared.span.DelimSpan.{DelimSpan}
use Rattle.tok_leaves.specs.Spans.{whole_span}
use Rattle.tok_buffer.specs.Entry.{Entered}
use Rattle.tok_buffer.specs.Messages as messages
use Rattle.tok_buffer.specs.declared.error.Message.{Message}
use Rattle.syn_parse.specs.Groups.{AreParts, Enters}
use Rattle.syn_parse.specs.State as parse
use Rattle.syn_parse.specs.ErrorWords.{refused_at}
use Rattle.syn_parse.specs.declared.fault.Fault.{Fault}
use Rattle.syn_parse.specs.declared.fault.Fault.TheVariants.{Refused, Memory}
use Rattle.syn_replay.specs.Reports as reports
use Rattle.syn_replay.specs.Session.State.{AllStreams, parse_state, with_stream, content_of}
use Rattle.syn_replay.specs.Session.State.{moved_as, stream_from, stream_at}
use Rattle.syn_replay.specs.Session.State as states
use Rattle.syn_replay.specs.Session.Step.{into_group}
use Rattle.syn_replay.specs.Meanings.{IsAnswer}
use Rattle.syn_replay.specs.Session.Promises.{Answers, IsStepped}
use Rattle.syn_replay.specs.declared.report.Answer.{Answer}
use Rattle.std.proofs.Common.{arith}

-- an answer of the error that is wanted
answered-error : (r : Message) (e : List Message) (a : Answer) → e ≡ messages.one_message r
    → Answers (Refused e) (Ok a) → IsAnswer a (reports.refused r)
answered-error r e a h q = grind arith

abbrev pub AreEntered : (Delimiter × DelimSpan × parse.State) → Entered → Type 0
AreEntered p e = (p.0 ≡ e.delimiter) × AreParts p.1 p.2 e

module _ (st : AllStreams) (n : ℕ) (s : states.Stream) (here : stream_at st n ≡ s)
    (words : List ℕ)
  where
    pub entered-value : (x : Option Entered) (d : Delimiter) (span : DelimSpan)
        (content t : parse.State)
        → Enters AreEntered x (refused_at (parse_state s) words) (parse_state s)
        (Ok (d, span, content)) t
        → (reports.entered (length st) d (whole_span span) ≡ (into_group st n s words x).answer)
        × (with_stream st n (moved_as t) ++ stream_from content (content_of n) true ∷ []
        ≡ (into_group st n s words x).state)
    entered-value None d span content t h = absurd h.0
    entered-value (Some e) d span content t ((kind, (group, inside)), left) = (cc, cc)

    pub entered-error : (x : Option Entered) (f : Fault) (t : parse.State)
        (result : Result Answer AllocError)
        → Enters AreEntered x (refused_at (parse_state s) words) (parse_state s) (Err f) t
        → Answers f result
        → IfOk result
        (λ a. IsStepped a st (into_group st n s words x) × (t.place ≡ (stream_at st n).place))
    entered-error None (Refused e) t (Ok a) h q = (
      (answered-error (refused_at (parse_state s) words) e a h.0 q, refl),
      ap (λ z. z.place) h.1 ∙ ap (λ z. z.place) (sym here),
    )
    entered-error None (Refused e) t (Err m) h q = tt
    entered-error None (Memory e) t (Ok a) h q = absurd q
    entered-error None (Memory e) t (Err m) h q = tt
    entered-error (Some e) f t result h q = absurd h
