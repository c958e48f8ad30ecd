-- A transparent command keeps two walks alike, and its answers agree.
use Rattle.std.proofs.Common.{◌≡◌, ◌∙◌, ap, ap₂, refl, ℕ, ◌+◌, ◌==◌, ◌&&◌, ◌||◌, not, Bool, true}
use Rattle.std.proofs.Common.{cond, List, [], ◌∷◌, ◌++◌, length, Option, Some, None}
use Rattle.std.proofs.lemmas.Bool.{and_parts}
use Rattle.tok_lexical.specs.declared.delimiter.Delimiter.{Delimiter}
use Rattle.tok_lexical.specs.declared.delimiter.Delimiter.TheVariants.{Parenthesis, Brace, Bracket}
use Rattle.tok_lexical.specs.declared.delimiter.Delimiter.TheVariants as delimiter
use Rattle.tok_leaves.specs.declared.span.Span.{Span}
use Rattle.tok_core.specs.Forest.{Tree}
use Rattle.tok_leaves.specs.Spans.{closing_span}
use Rattle.tok_buffer.specs.Buffer.{Laid}
use Rattle.tok_buffer.specs.Entry.{Entered}
use Rattle.tok_buffer.specs.Order.{same_scope}
use Rattle.tok_buffer.specs.Place.{Place, empty_place}
use Rattle.tok_buffer.proofs.View.Alike.{Alike, ReadsAlike, EntriesAlike, alike-end, alike-scope}
use Rattle.tok_buffer.proofs.View.Alike.{alike-enter}
use Rattle.tok_buffer.specs.View.{IsVisibleDelimiter}
use Rattle.syn_replay.specs.Kinds.{Kind, Look, read, peek, peek_kind, display, ignores_invisible}
use Rattle.syn_replay.specs.Kinds.{kind_missing}
use Rattle.syn_parse.specs.State.{fresh}
use Rattle.syn_parse.proofs.SameWords.{alike-at_stream, alike-look}
use Rattle.syn_replay.proofs.Views.KindsAlike.{alike-kind, alike-peek, alike-peek2, alike-peek3}
use Rattle.syn_replay.proofs.Views.KindsAlike.{alike-peek_kind, alike-kind_missing}
use Rattle.syn_replay.specs.Agree.{AnswersAgree}
use Rattle.syn_replay.specs.Transparent.{is_transparent, is_transparent_action}
use Rattle.syn_replay.specs.Commands as commands
use Rattle.syn_replay.specs.Commands.{Command, Action, StreamRead, enter, fork, advance, discard}
use Rattle.syn_replay.specs.Commands.{close, answered_by, parsed, listed_to, looked, read_answer}
use Rattle.syn_replay.specs.Commands.{all_ignore_invisible, is_transparent_read}
use Rattle.syn_replay.specs.Reports as reports
use Rattle.syn_replay.specs.Reports.{Answer, truth, absent, entered, forked, found, misused}
use Rattle.syn_replay.specs.declared.report.Misuse.{Misuse}
use Rattle.syn_replay.specs.declared.report.Misuse.TheVariants.{NoFork, NoContent, OutOfScope}
use Rattle.syn_replay.specs.Session.State.{Stream, content_of, a_fork, AllStreams, with_stream}
use Rattle.syn_replay.specs.Session.State.{moved_to, is_inside, stream_at}
use Rattle.std.specs.Prelude.{nat_le}
use Rattle.syn_replay.specs.Session.Step.{Stepped, unmoved, new_stream, into_group, on_stream}
use Rattle.syn_replay.specs.Session.Step.{named_by, is_unknown, has_ended, step, any_of, is_fork}
use Rattle.syn_replay.specs.Session.Step.{is_content, kind_misuse, misuse}
use Rattle.syn_replay.specs.Turns.{ListOutcome, pieces_of, turns, turns_left}
use Rattle.syn_replay.proofs.Views.ListTurns.{OutcomesAlike, both_read, both_refused, alike-turns}
use Rattle.syn_replay.proofs.Views.ListTurns.{alike-turns_left}
use Rattle.syn_replay.proofs.Views.Streams.{StreamsAlike, StatesAlike, alike-at, alike-kinds}
use Rattle.syn_replay.proofs.Views.Streams.{alike-length, alike-append, alike-with_stream}
use Rattle.syn_replay.proofs.Views.Streams.{alike-moved, alike-closed, alike-advanced, alike-ended}
use Rattle.syn_replay.proofs.Views.Choices.{either}
use Rattle.syn_replay.proofs.Walk.Inner.{same_inside}
use Rattle.std.proofs.Common.{arith}
use Rattle.std.proofs.Common.{rules}

module _ (f g : Laid) where
  pub record StepsAlike (a b : Stepped) : Type 0 where
    pub answer : AnswersAgree a.answer b.answer
    pub state : StatesAlike f g a.state b.state

  -- Reads.
  abbrev AnsweredAlike : Answer × Place → Answer × Place → Type 0
  AnsweredAlike x y = AnswersAgree x.0 y.0 × Alike f g x.1 y.1

  module _ (p q : Place) (left right : Span) (i : Alike f g p q) where
    alike-taken : (kind : Kind) (r u : Option (List Tree × Place)) → ReadsAlike f g r u
        → AnsweredAlike (answered_by (λ ts. reports.read (pieces_of ts)) (kind_missing kind
        (fresh p left)) p r)
        (answered_by (λ ts. reports.read (pieces_of ts)) (kind_missing kind (fresh q right)) q u)
    alike-taken kind None None j =
        (alike-kind_missing f g kind (fresh p left) (fresh q right) i, i)
    alike-taken kind None (Some u) j = absurd j
    alike-taken kind (Some r) None j = absurd j
    alike-taken kind (Some r) (Some u) j = (ap (λ x. reports.read (pieces_of x)) j.0, j.1)

    alike-parsed : (kind : Kind) → AnsweredAlike (parsed kind p left) (parsed kind q right)
    alike-parsed kind = alike-taken kind (read kind p) (read kind q) (alike-kind f g kind p q i)

    alike-listed : (a b : ListOutcome) → OutcomesAlike f g a b
        → AnsweredAlike (listed_to a) (listed_to b)
    alike-listed a b (both_read e j) = (ap reports.list e, j)
    alike-listed a b (both_refused e j) = (e, j)

    alike-looked : (n : ℕ) (ls : List Look) (missed : List (List ℕ))
        → all_ignore_invisible ls ≡ true
        → AnswersAgree (looked n ls missed p left) (looked n ls missed q right)
    alike-looked n [] missed e = alike-look f g missed p q left right i
    alike-looked n (l ∷ ls) missed e =
        let parts = and_parts (ignores_invisible l) (all_ignore_invisible ls) e in
        either AnswersAgree (peek l p) (peek l q) (found n) (found n)
        (looked (n + 1) ls (missed ++ display l ∷ []) p left)
        (looked (n + 1) ls (missed ++ display l ∷ []) q right) (alike-peek f g l parts.0 p q i) refl
        (alike-looked (n + 1) ls (missed ++ display l ∷ []) parts.1)

    alike-answer : (r : StreamRead) → is_transparent_read r ≡ true
        → AnsweredAlike (read_answer r p left) (read_answer r q right)
    alike-answer (commands.peek l) e = (ap truth (alike-peek f g l e p q i), i)
    alike-answer (commands.peek2 l) e = (ap truth (alike-peek2 f g l e p q i), i)
    alike-answer (commands.peek3 l) e = (ap truth (alike-peek3 f g l e p q i), i)
    alike-answer (commands.lookahead ls) e = (alike-looked 0 ls [] e, i)
    alike-answer (commands.parse kind) e = alike-parsed kind
    alike-answer (commands.optional kind) e =
        either AnsweredAlike (peek_kind kind p) (peek_kind kind q) (parsed kind p left)
        (parsed kind q right) (absent, p) (absent, q) (alike-peek_kind f g kind p q i)
        (alike-parsed kind) (refl, i)
    alike-answer commands.empty e = (ap truth (alike-end f g p q i), i)
    alike-answer (commands.list rule kind separator) e =
        alike-listed (turns kind separator left rule (turns_left p) p)
        (turns kind separator right rule (turns_left q) q)
        (rw (← (alike-turns_left f g p q i))
        (alike-turns f g kind separator left right rule (turns_left p) p q i))
    alike-answer r e = absurd (cc)

  -- A command on an open stream.
  module _ (st su : AllStreams) (h : StatesAlike f g st su) (k : ℕ) (s t : Stream)
      (i : StreamsAlike f g s t) where
    moves_alike : (p q : Place) → Alike f g p q
        → StatesAlike f g (with_stream st k (moved_to p)) (with_stream su k (moved_to q))
    moves_alike p q j = search (rules, alike-with_stream, alike-moved)

    alike-into : (words : List ℕ) (a b : Option Entered) → EntriesAlike f g a b
        → StepsAlike (into_group st k s words a) (into_group su k t words b)
    alike-into words None None j =
        record {
          answer = alike-at_stream f g s.place t.place s.scope_span t.scope_span words
              i.place;
          state = h;
        }
    alike-into words None (Some b) j = absurd j
    alike-into words (Some a) None j = absurd j
    alike-into words (Some a) (Some b) j =
        let size = alike-length f g st su h in
        record {
          answer =
              ap (λ x. entered x a.delimiter a.span) size
              ∙ ap₂ (λ x y. entered (length su) x y) j.delimiter j.span;
          state =
              alike-append f g (with_stream st k (moved_to a.after))
              (with_stream su k (moved_to b.after))
              (new_stream a.content (closing_span a.span) (content_of k))
              (new_stream b.content (closing_span b.span) (content_of k))
              (moves_alike a.after b.after j.after)
              (record {
                place = j.content;
                same = ap (λ z. new_stream empty_place (closing_span z) (content_of k)) j.span;
                recorded = refl;
              });
        }

    alike-enters : (d : Delimiter) → IsVisibleDelimiter d
        → StepsAlike (on_stream (enter (Some d)) st k s) (on_stream (enter (Some d)) su k t)
    alike-enters d v = search (rules, alike-into, alike-enter)

    same-fork : (m : ℕ) → same_scope s.place (stream_at st m).place
        ≡ same_scope t.place (stream_at su m).place
    same-fork m = grind (arith, alike-scope, alike-at)

    alike-on_stream : (a : Action) → is_transparent_action a ≡ true
        → StepsAlike (on_stream a st k s) (on_stream a su k t)
    alike-on_stream (commands.read r) e =
        let x = alike-answer s.place t.place s.scope_span t.scope_span i.place r e in
        record { answer = x.0; state = moves_alike _ _ x.1 }
    alike-on_stream (enter None) e = absurd (cc)
    alike-on_stream (enter (Some delimiter.None)) e = absurd (cc)
    alike-on_stream (enter (Some Parenthesis)) e = alike-enters Parenthesis tt
    alike-on_stream (enter (Some Brace)) e = alike-enters Brace tt
    alike-on_stream (enter (Some Bracket)) e = alike-enters Bracket tt
    alike-on_stream fork e = record {
      answer = ap forked (alike-length f g st su h);
      state =
          alike-append f g st su (new_stream s.place s.scope_span a_fork)
          (new_stream t.place t.scope_span a_fork) h
          (record {
            place = i.place;
            same = ap (λ z. new_stream empty_place z.scope_span a_fork) i.same;
            recorded = refl;
          });
    }
    alike-on_stream (advance m) e =
        either StepsAlike
        (same_scope s.place (stream_at st m).place && not (k == m || is_inside st m k))
        (same_scope t.place (stream_at su m).place && not (k == m || is_inside su m k))
        _
        _
        (unmoved st (misused OutOfScope))
        (unmoved su (misused OutOfScope))
        (ap₂ (λ x y. x && not (k == m || y))
        (same-fork m) (same_inside st su m k (alike-kinds f g st su h)))
        (record { answer = refl; state = alike-advanced f g k m st su h })
        (record { answer = refl; state = h })
    alike-on_stream discard e =
        record { answer = refl; state = alike-ended f g k st su h }
    alike-on_stream close e =
        record { answer = refl; state = alike-closed f g k st su h }

  -- The misuses of streams.
  same-any_of : (a b : ℕ → Bool) → ((k : ℕ) → a k ≡ b k) → (ns : List ℕ) → any_of a ns ≡ any_of b ns
  same-any_of a b e [] = refl
  same-any_of a b e (n ∷ ns) = ap₂ (λ x y. x || y) (e n) (same-any_of a b e ns)

  module _ (st su : AllStreams) (h : StatesAlike f g st su) where
    same-kind_misuse : (a : Action) (k : ℕ) → kind_misuse a st k ≡ kind_misuse a su k
    same-kind_misuse (advance m) k =
        ap (λ x. cond (is_fork x.kind) None (Some NoFork)) (alike-at f g st su m h).same
    same-kind_misuse discard k =
        ap (λ x. cond (is_fork x.kind) None (Some NoFork)) (alike-at f g st su k h).same
    same-kind_misuse close k =
        ap (λ x. cond (is_content x.kind) None (Some NoContent)) (alike-at f g st su k h).same
    same-kind_misuse a k = refl

    same-misuse : (c : Command) → misuse c st ≡ misuse c su
    same-misuse c =
        let missing =
        same-any_of (is_unknown st) (is_unknown su)
        (λ k. ap (λ n. nat_le n k) (alike-length f g st su h)) (named_by c) in
        let over =
        same-any_of (has_ended st) (has_ended su)
        (λ k. ap (λ z. not z.is_open) (alike-at f g st su k h).same) (named_by c) in
        let kinds = same-kind_misuse c.action c.stream in
        cc

    either-misuse : (a b : Option Misuse) (x y : Stepped) → a ≡ b → StepsAlike x y
        → StepsAlike (elim a [ Some n ↦ unmoved st (misused n) | None ↦ x ])
        (elim b [ Some n ↦ unmoved su (misused n) | None ↦ y ])
    either-misuse None None x y e i = i
    either-misuse None (Some n) x y e i = absurd (cc)
    either-misuse (Some m) b x y e i = rw (← e) (record { answer = refl; state = h })

    pub alike-step : (c : Command) → is_transparent c ≡ true → StepsAlike (step c st) (step c su)
    alike-step c e =
        let a = c.action in
        let k = c.stream in
        either-misuse (misuse c st) (misuse c su) _ _ (same-misuse c)
        (alike-on_stream st su h k (stream_at st k) (stream_at su k) (alike-at f g st su k h) a e)
