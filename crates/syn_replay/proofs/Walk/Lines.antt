-- The line of a read.
use Rattle.std.proofs.Common.{◌≡◌, ◌∙◌, ap, sym, refl, ℕ, true, [], ◌∷◌, set}
use Rattle.std.proofs.Common.{subst, Option, Some, None, arith}
use Rattle.std.proofs.lemmas.Bool.{both_ways, lt-leb}
use Rattle.std.specs.Borrow.{MutBor}
use Rattle.std.specs.Fn.{FnOnceReturnsAtMut, Once}
use Rattle.std.specs.Prelude.{IfOk, Result}
use Rattle.std.specs.Option.{option_or}
use Rattle.syn_parse.specs.State as parse
use Rattle.syn_parse.specs.State.{moved}
use Rattle.syn_parse.specs.declared.fault.Fault.{Fault}
use Rattle.syn_parse.proofs.GroupTakes.{at-states}
use Rattle.syn_replay.specs.Commands.{Action, Command, StreamRead, command_of, on, read_answer}
use Rattle.syn_replay.specs.Commands as commands
use Rattle.syn_replay.specs.Meanings.{IsAnswer, position_of}
use Rattle.syn_replay.specs.Reports as reports
use Rattle.syn_replay.specs.Reports.{missing}
use Rattle.syn_replay.specs.Session.Reading.{IsRead, AreReads}
use Rattle.syn_replay.specs.Session.State.{AllStreams, Stream, parse_state, moved_to}
use Rattle.syn_replay.specs.Session.State.{printed_position, moved_as}
use Rattle.syn_replay.specs.Session.State.{stream_at, with_stream}
use Rattle.syn_replay.specs.Session.Step.{Stepped, is_fork, is_unknown, kind_misuse, misuse}
use Rattle.syn_replay.specs.Session.Step.{named_by, on_stream, other_named, position_in, step}
use Rattle.syn_replay.specs.Session.Step.{stream_misuse, stream_position, with_other}
use Rattle.syn_replay.specs.Session.Promises.{IsLine, IsOpen, IsStepped, IsStream}
use Rattle.syn_replay.specs.Session.Stream.{IsReadLine}
use Rattle.std.specs.declared.alloc.AllocError.{AllocError}
use Rattle.syn_replay.specs.declared.command.Command as program
use Rattle.syn_replay.specs.declared.report.Answer.{Answer}
use Rattle.syn_replay.specs.declared.report.Answer.TheVariants as answer
use Rattle.syn_replay.specs.declared.report.Line.{Line}
use Rattle.syn_replay.specs.declared.report.Misuse.{Misuse}
use Rattle.syn_replay.specs.declared.report.Position.{Position}
use Rattle.syn_replay.proofs.Walk.Changes.{open_within}
use Rattle.syn_replay.proofs.Walk.Misuse.{misused_or}
use Rattle.syn_replay.proofs.Walk.Positions.{position_changed}
use Rattle.std.proofs.Common.{rules}

-- an answer and the position after it are the line of a read
module _ (s new : Stream) (q : Position) (t : parse.State) (is : new ≡ moved_as t s)
    (stands : position_of q ≡ printed_position t.place) where
  pub line_read : (r : StreamRead) (x : Answer) → IsAnswer x (read_answer r s.place s.scope_span).0
      → t ≡ moved (read_answer r s.place s.scope_span).1 (parse_state s)
      → IsReadLine r (record { answer = x; position = q }) s new
  line_read r x same left = search rules

-- the line of a command that is a read, by a function whose calls are this read
pub line_by : {F : Type 0} (g : Once F (MutBor parse.State × Unit {0})
    (Result Answer Fault × (MutBor parse.State × Unit {0}))) (f : F) (r : StreamRead) (n : ℕ)
    (k : program.Command) (l : Result Line AllocError) (new old : AllStreams)
    → command_of k ≡ on n (commands.read r)
    → ((p q : MutBor parse.State) (x : Result Answer Fault) → g.post f (p, tt) (x, (q, tt))
    → IsRead r p.now x q.now)
    → ((s : StreamRead) → AreReads s (FnOnceReturnsAtMut g f)
    → IfOk l (λ x. IsLine x new old (on n (commands.read s))))
    → IfOk l (λ x. IsLine x new old (command_of k))
line_by g f r n k l new old e h said =
    subst (λ z. IfOk l (λ x. IsLine x new old z)) (sym e)
    (said r (λ s t x called. at-states (IsRead r) _ _ s t x called.shows called.leaves
    (h called.shown called.left x called.met)))

-- a line of an answer and a position that are those of a step
module _ (c : Command) (st after : AllStreams) (x : Answer) (q : Position) (r : Stepped)
    (is : step c st ≡ r) (same : IsAnswer x r.answer) (then : after ≡ r.state) where
  pub line_stepped : position_of q ≡ position_in c st after
      → IsLine (record { answer = x; position = q }) after st c
  line_stepped at = search rules

-- a command that names one stream
module _ (n : ℕ) (st : AllStreams) (a : Action) (alone : other_named a ≡ None) where
  named : named_by (on n a) ≡ n ∷ []
  named = ap (with_other n) alone

  one_misuse : misuse (on n a) st ≡ option_or (stream_misuse st n) (kind_misuse a st n)
  one_misuse = rw named (grind arith)

  steps_by : (o : Option Misuse) → option_or (stream_misuse st n) (kind_misuse a st n) ≡ o
      → step (on n a) st ≡ misused_or st o (on_stream a st n (stream_at st n))
  steps_by o e = ap (λ z. misused_or st z (on_stream a st n (stream_at st n))) (one_misuse ∙ e)

  position_is : (after : AllStreams) (p : reports.Position) → stream_position after n ≡ p
      → (is_unknown st n ≡ true → p ≡ missing) → position_in (on n a) st after ≡ p
  position_is after p e none = rw named (grind arith)

  -- the stream is missing, spent or of another kind
  pub line_misused : (m : Misuse) (l : Line)
      → option_or (stream_misuse st n) (kind_misuse a st n) ≡ Some m
      → l.answer ≡ answer.Misused m → position_of l.position ≡ stream_position st n
      → IsLine l st st (on n a)
  line_misused m l e same at = grind (arith, line_stepped, steps_by, position_is)

  -- it is open and fits
  pub line_done : (s : Stream) → IsOpen st n s → kind_misuse a st n ≡ None → (x : Answer)
      (l : Line) (after : AllStreams) → l.answer ≡ x → IsAnswer x (on_stream a st n s).answer
      → after ≡ (on_stream a st n s).state → position_of l.position ≡ stream_position after n
      → IsLine l after st (on n a)
  line_done s (here, is_open) fits x l after is same then at =
      grind (arith, lt-leb, open_within, line_stepped, steps_by, position_is, both_ways)

-- a read on a stream of several
module _ (n : ℕ) (st : AllStreams) where
  -- it is open
  pub line_there : (r : StreamRead) (s new : Stream) (l : Line) (after : AllStreams)
      → IsOpen st n s → IsReadLine r l s new → after ≡ with_stream st n (λ _. new)
      → IsLine l after st (on n (commands.read r))
  line_there r s new l after (here, is_open) (same, plain, moved_so) e =
      let (said, p) = read_answer r s.place s.scope_span in
      let moved_here : new ≡ moved_to p (stream_at st n) = moved_so ∙ ap (moved_to p) (sym here) in
      let then : after ≡ with_stream st n (moved_to p) = e ∙ ap (set st n) moved_here in
      line_done n st (commands.read r) refl s (here, is_open) refl l.answer l after refl
      (ap (λ z. z.answer) same, plain) then
      (ap (λ z. z.position) same
      ∙ sym (ap (λ z. stream_position z n) then
      ∙ position_changed st n (moved_to p) (open_within st n (ap (λ z. z.is_open) here ∙ is_open))))

-- a stream advances to another: both are there and fit
pub advance_fit : (n f : ℕ) (st : AllStreams) (s x : Stream) → IsStream st n s → IsStream st f x
    → s.is_open ≡ true → x.is_open ≡ true → is_fork x.kind ≡ true → (y : Answer) (l : Line)
    (after : AllStreams) → l.answer ≡ y
    → IsStepped y after (on_stream (commands.advance f) st n (stream_at st n))
    → position_of l.position ≡ stream_position after n
    → IsLine l after st (on n (commands.advance f))
advance_fit n f st s x (known, here) (other, there_is) o u g y l after is (same, then) at =
    grind (arith, line_stepped, misused_or)
