-- Commands do on a fork what they do on its stream.
use Rattle.std.proofs.Common.{rules, ◌≡◌, ◌∙◌, sym, ap, ap₂, subst, refl, ℕ, zero, suc, ◌+◌, ◌-◌}
use Rattle.std.proofs.Common.{◌<◌, ◌≤◌, Bool, true, false, List, [], ◌∷◌, ◌++◌, drop, length, map}
use Rattle.std.proofs.Common.{Option, Some, None, arith, inl, inr, length-append}
use Rattle.std.proofs.Math.ListN.{get_or-append, get_or-map}
use Rattle.std.proofs.Math.Seq.{get_or-append_right}
use Rattle.std.proofs.lemmas.Bool.{and_parts, cases_lt, eq-eqb, le-leb, lt-leb, not-true, cond_both}
use Rattle.std.proofs.lemmas.List.{ext_get_or, get_or-drop, get_or_past, get_or-set_same}
use Rattle.std.proofs.lemmas.List.{length-drop, length-map, length-set, set_past, places}
use Rattle.std.specs.List.{slice_get}
use Rattle.std.specs.Prelude.{◌==◌, not, cond, nat_le}
use Rattle.std.specs.Option.{option_map, option_or}
use Rattle.tok_leaves.specs.declared.span.Span.{Span}
use Rattle.tok_leaves.specs.Spans.{closing_span}
use Rattle.tok_core.specs.Forest.{Tree}
use Rattle.tok_buffer.specs.Ahead.{Leftover}
use Rattle.tok_buffer.specs.Entry.{Entered}
use Rattle.tok_buffer.specs.Order.{same_scope}
use Rattle.tok_buffer.specs.Place.{Place}
use Rattle.tok_buffer.specs.declared.error.Message.{Message}
use Rattle.syn_replay.specs.Commands as commands
use Rattle.syn_replay.specs.Commands.{Action, Command, StreamRead, listed_to, looked}
use Rattle.syn_replay.specs.Commands.{read_answer}
use Rattle.syn_replay.specs.Forks.{is_own, is_own_action, is_own_command, is_self_contained}
use Rattle.syn_replay.specs.Forks.{number_on_fork, command_on_fork, answer_on_fork, line_on_fork}
use Rattle.syn_replay.specs.Forks.{IsFollowed, ForksFollowCommands}
use Rattle.syn_replay.specs.Kinds.{Look, display, peek}
use Rattle.syn_replay.specs.Reports as reports
use Rattle.syn_replay.specs.Reports.{Answer, absent, done, misused}
use Rattle.syn_replay.specs.Session.Entering.{entered_by, entering_words}
use Rattle.syn_replay.specs.Session.State.{Stream, StreamKind, outermost, content_of, a_fork}
use Rattle.syn_replay.specs.Session.State.{AllStreams, with_stream, moved_to, moved_on, recording}
use Rattle.syn_replay.specs.Session.State.{spent_if, recording_on_parent, reported, gathered}
use Rattle.syn_replay.specs.Session.State.{left_inside, left_from, stream_ended, content_closed}
use Rattle.syn_replay.specs.Session.State.{moved_to_fork, is_content_of, is_entered_from, is_inside}
use Rattle.syn_replay.specs.Session.State.{is_or_inside, is_open_at, kind_at}
use Rattle.syn_replay.specs.Session.State.{no_stream, stream_at}
use Rattle.syn_replay.specs.Session.Step.{Stepped, any_of, has_ended, is_content, is_unknown}
use Rattle.syn_replay.specs.Session.Step.{kind_misuse, misuse, named_by, other_named, new_stream}
use Rattle.syn_replay.specs.Session.Step.{into_group, on_stream, position_in, step, line}
use Rattle.syn_replay.specs.Session.Step.{with_other}
use Rattle.syn_replay.specs.Session.Walk.{last_state, lines_from}
use Rattle.syn_replay.specs.Turns.{ListOutcome}
use Rattle.syn_replay.specs.declared.report.Misuse.{Misuse}
use Rattle.syn_replay.proofs.Walk.Changes.{kept_by, kinds_changed, open_within, there}
use Rattle.syn_replay.proofs.Walk.Ends.{kind_if, ended_length}
use Rattle.syn_replay.proofs.Walk.Inner.{IsSound, above_all, by_parent, ended_look, not_inside}
use Rattle.syn_replay.proofs.Walk.Inner.{sound_like, ended_before}
use Rattle.syn_replay.proofs.Walk.Left.{assoc_or, left_beyond, left_none, or_none}
use Rattle.syn_replay.proofs.Walk.Misuse.{misused_or}
use Rattle.syn_replay.proofs.Walk.Steps.{first_sound, nothing, run_sound, steps}
use Rattle.std.proofs.lemmas.Grind.{get_or-set_at}
use Rattle.syn_replay.proofs.Walk.Nesting.{recording_sound}

-- a read makes no stream, so its answer names none
taken_unchanged : (answers : List Tree → Answer)
    → ((ts : List Tree) → answer_on_fork (answers ts) ≡ answers ts)
    → (words : Message) (p : Place) (r : Option (List Tree × Place))
    → answer_on_fork (commands.answered_by answers words p r).0
    ≡ (commands.answered_by answers words p r).0
taken_unchanged a0 a1 a2 a3 a4 = grind (arith, places)

listed_unchanged : (o : ListOutcome) → answer_on_fork (listed_to o).0 ≡ (listed_to o).0
listed_unchanged a0 = grind (arith, places)

looked_unchanged : (n : ℕ) (ls : List Look) (missed : List (List ℕ)) (p : Place) (scope : Span)
    → answer_on_fork (looked n ls missed p scope) ≡ looked n ls missed p scope
looked_unchanged n [] missed p scope = refl
looked_unchanged n (l ∷ ls) missed p scope =
    cond_both (peek l p) (reports.found n) _ (λ a. answer_on_fork a ≡ a) (λ e. refl)
    (λ e. looked_unchanged (n + 1) ls (missed ++ display l ∷ []) p scope)

read_unchanged : (r : StreamRead) (p : Place) (scope : Span)
    → answer_on_fork (read_answer r p scope).0 ≡ (read_answer r p scope).0
read_unchanged a0 a1 a2 =
    grind (arith, places, taken_unchanged, cond_both, listed_unchanged, looked_unchanged)

module _ (front : AllStreams) (k : ℕ) (is_open : is_open_at front k ≡ true) where
  abbrev made : ℕ
  made = length front

  abbrev s0 : Stream
  s0 = stream_at front k

  abbrev on : ℕ → ℕ
  on n = number_on_fork k made n

  abbrev kind_on : StreamKind → StreamKind
  kind_on outermost = outermost
  kind_on (content_of p) = content_of (on p)
  kind_on a_fork = a_fork

  abbrev shift_kind : Stream → Stream
  shift_kind s = record s { kind = kind_on s.kind }

  -- the stream after the commands, and the fork
  abbrev after_commands : Place → Option Leftover → Stream → Stream
  after_commands p n s = record s { place = p; recorded = option_or s.recorded n }

  abbrev fork_at : Place → Option Leftover → Stream
  fork_at p n = record (after_commands p n s0) { kind = a_fork; recorded = n }

  -- the parent is the stream, or was made
  abbrev OwnKind : StreamKind → Type 0
  OwnKind (content_of p) = is_own k made p ≡ true
  OwnKind kind = Unit {0}

  -- the streams of the run on the stream, and those of the run on the fork
  record Simulates (x y : AllStreams) : Type 0 where
    p : Place
    n : Option Leftover
    longer : length x + 1 ≡ length y
    room : made ≤ length x
    mine : stream_at x k ≡ after_commands p n s0
    forks : stream_at y made ≡ fork_at p n
    kept : stream_at y k ≡ s0
    later : (j : ℕ) → made ≤ j → stream_at y (j + 1) ≡ shift_kind (stream_at x j)
    own : (j : ℕ) → made ≤ j → OwnKind (kind_at x j)

  data Own (j : ℕ) : Type 0 where
    stream : j ≡ k → Own j
    later : made ≤ j → Own j

  own_by_test : (j : ℕ) → is_own k made j ≡ true → Own j
  own_by_test j h = search rules

  k_below : k < made
  k_below = open_within front k is_open

  on_stream_is : on k ≡ made
  on_stream_is = ap (λ b. cond b made (k + 1)) (eq-eqb k k refl)

  on_later : (j : ℕ) → made ≤ j → on j ≡ j + 1
  on_later j h = let low = k_below in grind arith

  -- streams of one number, which differ in their kinds and leftovers alone
  record Alike (s t : Stream) : Type 0 where
    kind : StreamKind
    recorded : Option Leftover
    is : t ≡ record s { kind = kind; recorded = recorded }

  streams_alike : (x y : AllStreams) (j : ℕ) → Simulates x y → Own j
      → Alike (stream_at x j) (stream_at y (on j))
  streams_alike x y j b (stream e) =
      let at = on_stream_is in record { kind = a_fork; recorded = b.n; is = cc }
  streams_alike x y j b (later h) = record {
    kind = kind_on (kind_at x j);
    recorded = (stream_at x j).recorded;
    is = rw (on_later j h) (b.later j h);
  }

  unknown_alike : (x y : AllStreams) (j : ℕ) → Simulates x y → Own j
      → is_unknown x j ≡ is_unknown y (on j)
  unknown_alike x y j b (stream e) =
      let low = k_below in let at = on_stream_is in grind (arith, b.longer, b.room)
  unknown_alike x y j b (later h) = let at = on_later j h in grind (arith, b.longer)

  -- the stream and the fork are changed
  changed_own : (x y : AllStreams) (b : Simulates x y) (f : Stream → Stream) (q : Place)
      (m : Option Leftover)
      → f (after_commands b.p b.n s0) ≡ after_commands q m s0 → f (fork_at b.p b.n) ≡ fork_at q m
      → ((s : Stream) → (f s).kind ≡ s.kind)
      → Simulates (with_stream x k f) (with_stream y made f)
  changed_own x y b f q m e g same =
      let low = k_below in
      record {
        p = q;
        n = m;
        longer = omega (arith, length-set {A = Stream}, b.longer);
        room = omega (arith, length-set {A = Stream}, b.room);
        mine = grind (arith, places, get_or-set_at, b.room, b.mine);
        forks = grind (arith, places, get_or-set_at, b.room, b.longer, b.forks);
        kept = grind (arith, places, b.kept);
        later = λ j h. let more = b.later j h in grind (arith, places);
        own = λ j h. rw (kept_by (λ s. s.kind) f same x k j, OwnKind) (b.own j h);
      }

  -- a stream that was made is changed, but for its kind
  changed_later : (x y : AllStreams) → Simulates x y → (i : ℕ) → made ≤ i → (f : Stream → Stream)
      → ((s : Stream) → shift_kind (f s) ≡ f (shift_kind s)) → ((s : Stream) → (f s).kind ≡ s.kind)
      → Simulates (with_stream x i f) (with_stream y (i + 1) f)
  changed_later x y b i le f shifts same =
      let low = k_below in
      record {
        p = b.p;
        n = b.n;
        longer = omega (arith, length-set {A = Stream}, b.longer);
        room = omega (arith, length-set {A = Stream}, b.room);
        mine = grind (arith, places, b.mine);
        forks = grind (arith, places, b.forks);
        kept = grind (arith, places, b.kept);
        later = λ j h.
            let there = b.later i le in
            let more = b.later j h in
            let longer = b.longer in
            grind (arith, places, get_or-set_at, set_past);
        own = λ j h. rw (kept_by (λ s. s.kind) f same x i j, OwnKind) (b.own j h);
      }

  changed_simulates : (x y : AllStreams) (b : Simulates x y) (j : ℕ) → Own j → (f : Stream → Stream)
      (q : Place) (m : Option Leftover)
      → f (after_commands b.p b.n s0) ≡ after_commands q m s0 → f (fork_at b.p b.n) ≡ fork_at q m
      → ((s : Stream) → shift_kind (f s) ≡ f (shift_kind s)) → ((s : Stream) → (f s).kind ≡ s.kind)
      → Simulates (with_stream x j f) (with_stream y (on j) f)
  changed_simulates x y b j (stream w) f q m e g shifts same =
      rw (w, on_stream_is) (changed_own x y b f q m e g same)
  changed_simulates x y b j (later h) f q m e g shifts same =
      rw (on_later j h) (changed_later x y b j h f shifts same)

  moved_simulates : (x y : AllStreams) (j : ℕ) (q : Place) → Simulates x y → Own j
      → Simulates (with_stream x j (moved_to q)) (with_stream y (on j) (moved_to q))
  moved_simulates x y j q b o =
      changed_simulates x y b j o (moved_to q) q b.n refl refl (λ s. refl) (λ s. refl)

  recording_simulates : (x y : AllStreams) (j : ℕ) (m : Option Leftover) → Simulates x y → Own j
      → Simulates (with_stream x j (recording m)) (with_stream y (on j) (recording m))
  recording_simulates x y j m b o =
      changed_simulates x y b j o (recording m) b.p (option_or b.n m)
      (ap (λ z. record s0 { place = b.p; recorded = z }) (assoc_or s0.recorded b.n m)) refl
      (λ s. refl) (λ s. refl)

  -- one more stream is made
  made_simulates : (x y : AllStreams) (t : Stream) → Simulates x y → OwnKind t.kind
      → Simulates (x ++ t ∷ []) (y ++ shift_kind t ∷ [])
  made_simulates x y t b h =
      let low = k_below in
      let us = t ∷ [] in
      let vs = shift_kind t ∷ [] in
      record {
        p = b.p;
        n = b.n;
        longer = omega (arith, length-append x us, length-append y vs, b.longer);
        room = omega (arith, length-append x us, b.room);
        mine = grind (arith, places, b.room, b.mine);
        forks = grind (arith, places, b.longer, b.room, b.forks);
        kept = grind (arith, places, b.longer, b.room, b.kept);
        later = λ j le.
            let more = b.later j le in
            let longer = b.longer in
            elim (cases_lt j (length x)) [
              | inl l ↦ grind (arith, places)
              | inr l ↦ let last = one (j - length x) in grind (arith, places)
            ];
        own = λ j le.
            elim (cases_lt j (length x)) [
              | inl l ↦ rw (get_or-append x us no_stream j l, OwnKind) (b.own j le)
              | inr l ↦ rw (get_or-append_right x us j no_stream l, OwnKind) (only (j - length x))
            ];
      } where
        one : (i : ℕ) → stream_at (shift_kind t ∷ []) i ≡ shift_kind (stream_at (t ∷ []) i)
        one zero = refl
        one (suc i) = refl

        only : (i : ℕ) → OwnKind (kind_at (t ∷ []) i)
        only zero = h
        only (suc i) = tt

  -- what the same command makes of both
  record Same (r q : Stepped) : Type 0 where
    answer : answer_on_fork r.answer ≡ q.answer
    after : Simulates r.state q.state

  same_group : (x y : AllStreams) (b : Simulates x y) (j : ℕ) → Own j → is_own k made j ≡ true
      → (s : Stream) (kind : StreamKind) (recorded : Option Leftover) (words : List ℕ)
      (o : Option Entered) → Same (into_group x j s words o)
      (into_group y (on j) (record s { kind = kind; recorded = recorded }) words o)
  same_group x y b j own h s kind recorded words None = record { answer = refl; after = b }
  same_group x y b j own h s kind recorded words (Some g) = record {
    answer = ap (λ n. reports.entered n g.delimiter g.span) b.longer;
    after =
        made_simulates (with_stream x j (moved_to g.after))
        (with_stream y (on j) (moved_to g.after))
        (new_stream g.content (closing_span g.span) (content_of j))
        (moved_simulates x y j g.after b own) h;
  }

  -- closing
  parents : (x y : AllStreams) (kind : StreamKind) (n : Option Leftover) → OwnKind kind
      → Simulates x y
      → Simulates (recording_on_parent kind n x) (recording_on_parent (kind_on kind) n y)
  parents x y outermost n h b = b
  parents x y (content_of p) n h b = recording_simulates x y p n b (own_by_test p h)
  parents x y a_fork n h b = b

  -- the numbers of different streams stay different
  same_parent : (q j : ℕ) → Own q → Own j → (on q == on j) ≡ (q == j)
  same_parent q j a b = search rules

  -- a test of parents, and the same test on the other side
  entered_on : (F G : ℕ → Bool) (kind : StreamKind) → OwnKind kind
      → ((p : ℕ) → kind ≡ content_of p → Own p → G (on p) ≡ F p)
      → is_entered_from G (kind_on kind) ≡ is_entered_from F kind
  entered_on F G outermost h e = refl
  entered_on F G (content_of p) h e = e p refl (own_by_test p h)
  entered_on F G a_fork h e = refl

  -- what is left inside a stream that was made, and inside the stream
  left_on : (xs : AllStreams) (j n : ℕ) → Own j → made ≤ n
      → ((m : ℕ) → OwnKind (kind_at xs m))
      → left_from (on j) (n + 1) (map shift_kind xs) ≡ left_from j n xs
  left_on [] j n own le kinds = refl
  left_on (s ∷ xs) j n own le kinds =
      let next : made ≤ n + 1 = omega (arith, le) in
      let more : (m : ℕ) → OwnKind (kind_at xs m) = λ m. kinds (suc m) in
      let test : is_content_of (on j) (kind_on s.kind) ≡ is_content_of j s.kind =
      entered_on _ _ s.kind (kinds 0) (λ p e q. same_parent p j q own) in
      let at = on_later n le in
      let inside = left_on xs n (n + 1) (later le) next more in
      let beside = left_on xs j (n + 1) own next more in
      cc

  next_same : (p i : ℕ) → (p + 1 == i + 1) ≡ (p == i)
  next_same p i = grind arith

  shifts : (c : Bool) (s : Stream) → spent_if c (shift_kind s) ≡ shift_kind (spent_if c s)
  shifts c s = grind arith

  module _ (x y : AllStreams) (b : Simulates x y) (x_sound : IsSound x) (y_sound : IsSound y) where
    later_on : drop (made + 1) y ≡ map shift_kind (drop made x)
    later_on =
        ext_get_or no_stream _ _
        (omega (arith, length-drop {A = Stream}, length-map {A = Stream} {B = Stream}, b.longer))
        (λ i _.
        let there = b.later (made + i) (omega arith) in
        let mapped = get_or-map shift_kind (drop made x) i no_stream in
        grind (arith, places))

    own_later : (m : ℕ) → OwnKind (kind_at (drop made x) m)
    own_later m = grind (arith, places, get_or-drop)

    left_both : (j : ℕ) → Own j → made ≤ on j
        → left_inside y (on j) ≡ left_from j made (drop made x)
    left_both j own le =
        left_beyond y (above_all y y_sound.nested) (on j) (made + 1) (omega (arith, le))
        ∙ ap (left_from (on j) (made + 1)) later_on
        ∙ left_on (drop made x) j made own (omega arith) own_later

    left_own : left_inside y made ≡ left_from k made (drop made x)
    left_own = grind (arith, places, on_stream_is, left_both)

    left_made : (i : ℕ) → made ≤ i → left_inside y (i + 1) ≡ left_inside x i
    left_made i le =
        ap (left_inside y) (sym (on_later i le))
        ∙ left_both i (later le) (omega (arith, le, on_later i le))
        ∙ sym (left_beyond x (above_all x x_sound.nested) i made (omega arith))

    reported_made : (i : ℕ) → made ≤ i → reported y (i + 1) ≡ reported x i
    reported_made i le = grind (arith, places, left_made)

    -- a stream is inside another where it is on the other side
    inside_on : (room i j : ℕ) → made ≤ i → made ≤ j → j ≤ room
        → is_inside y (i + 1) (j + 1) ≡ is_inside x i j
    inside_on zero i j le lj h = let low = k_below in absurd (omega arith)
    inside_on (suc room) i j le lj h =
        by_parent y y_sound.nested (i + 1) (j + 1)
        ∙ ap (is_entered_from (is_or_inside y (i + 1))) (ap (λ s. s.kind) (b.later j lj))
        ∙ entered_on _ _ (kind_at x j) (b.own j lj) (λ p e own. elim own [
          | stream q ↦
              let low = k_below in
              let at = on_stream_is in
              let out = not_inside y y_sound.nested (i + 1) made (omega arith) in
              let also = not_inside x x_sound.nested i k (omega arith) in
              cc
          | later lp ↦
              let below = x_sound.nested j p e in
              let at = on_later p lp in
              let same = next_same p i in
              let again = inside_on room i p le lp (omega arith) in
              cc
        ])
        ∙ sym (by_parent x x_sound.nested i j)

    -- a stream that was made ends on both sides
    ends_made : (i : ℕ) → made ≤ i → Simulates (stream_ended i x) (stream_ended (i + 1) y)
    ends_made i le =
        let low = k_below in
        let len = ended_length (λ n. n == i) x in
        let other = ended_length (λ n. n == i + 1) y in
        record {
          p = b.p;
          n = b.n;
          longer = omega (arith, len, other, b.longer);
          room = omega (arith, len, b.room);
          mine = ended_before x x_sound i k (omega arith) ∙ b.mine;
          forks = ended_before y y_sound (i + 1) made (omega arith) ∙ b.forks;
          kept = ended_before y y_sound (i + 1) k (omega arith) ∙ b.kept;
          later = λ j lj.
              let is = ended_look x x_sound i j in
              let also = ended_look y y_sound (i + 1) (j + 1) in
              let same = next_same j i in
              let inside = inside_on j i j le lj (omega arith) in
              let there = b.later j lj in
              let shifted = shifts (is_or_inside x i j) (stream_at x j) in
              cc;
          own = λ j lj.
              subst OwnKind (sym (ap (λ s. s.kind) (ended_look x x_sound i j)
              ∙ kind_if (is_or_inside x i j) (stream_at x j))) (b.own j lj);
        }

  -- a content that was made is closed
  closes_made : (i : ℕ) (x y : AllStreams) → made ≤ i → IsSound x → IsSound y → Simulates x y
      → Simulates (content_closed i x) (content_closed (on i) y)
  closes_made i x y le sx sy b =
      let kind = kind_at x i in
      let given = reported x i in
      let is : content_closed (i + 1) y
      ≡ stream_ended (i + 1) (recording_on_parent (kind_on kind) given y) =
      ap₂ (λ (s : Stream) l. stream_ended (i + 1) (recording_on_parent s.kind l y)) (b.later i le)
      (reported_made x y b sx sy i le) in
      rw (on_later i le, is)
      (ends_made _ _ (parents x y kind given (b.own i le) b) (recording_sound kind given x sx)
      (recording_sound (kind_on kind) given y sy) i le)

  -- a command that names one stream
  record Follows (c d : Command) (x y : AllStreams) : Type 0 where
    same_line : line_on_fork (line c x) ≡ line d y
    after : Simulates (step c x).state (step d y).state

  same_chosen : (x y : AllStreams) → Simulates x y → (v w : Option Misuse) (r q : Stepped) → v ≡ w
      → Same r q → Same (misused_or x v r) (misused_or y w q)
  same_chosen x y b None w r q e h = rw (← e) h
  same_chosen x y b (Some n) w r q e h = rw (← e) (record { answer = refl; after = b })

  -- the same is done on a stream, whatever its kind and leftover
  abbrev DoesSame : Action → (x y : AllStreams) → ℕ → Type 0
  DoesSame a x y j =
      (s : Stream) (kind : StreamKind) (recorded : Option Leftover)
      → Same (on_stream a x j s)
      (on_stream a y (on j) (record s { kind = kind; recorded = recorded }))

  -- an action that names no other stream, from what it asks of the stream's kind
  follow : (x y : AllStreams) → Simulates x y → (j : ℕ) → Own j → (a : Action)
      → other_named a ≡ None
      → kind_misuse a x j ≡ kind_misuse a y (on j) → DoesSame a x y j
      → Follows (commands.on j a) (commands.on (on j) a) x y
  follow x y b j own a alone kinds same =
      let c = commands.on j a in
      let d = commands.on (on j) a in
      let s = streams_alike x y j b own in
      let names_c : named_by c ≡ j ∷ [] = ap (with_other j) alone in
      let names_d : named_by d ≡ on j ∷ [] = ap (with_other (on j)) alone in
      let same_missing = unknown_alike x y j b own in
      let same_spent : has_ended x j ≡ has_ended y (on j) = ap (λ z. not z.is_open) (sym s.is) in
      let absent : any_of (is_unknown x) (named_by c) ≡ any_of (is_unknown y) (named_by d) = cc in
      let misused : misuse c x ≡ misuse d y = cc in
      let whole : Same (step c x) (step d y) =
      same_chosen x y b (misuse c x) (misuse d y) _ _ misused
      (rw s.is (same (stream_at x j) s.kind s.recorded)) in
      let t = streams_alike (step c x).state (step d y).state j whole.after own in
      let there = unknown_alike (step c x).state (step d y).state j whole.after own in
      let place : (stream_at (step d y).state (on j)).place ≡ (stream_at (step c x).state j).place =
      ap (λ z. z.place) t.is in
      let positions : position_in c x (step c x).state ≡ position_in d y (step d y).state = cc in
      record {
        same_line = ap₂ (λ z w. record { answer = z; position = w }) whole.answer positions;
        after = whole.after;
      }

  content_on : (kind : StreamKind) → is_content kind ≡ is_content (kind_on kind)
  content_on kind = grind arith

  follow_close : (x y : AllStreams) (b : Simulates x y) → IsSound x → IsSound y → (n : ℕ)
      → (n == k) ≡ false → Own n
      → Follows (commands.on n commands.close) (commands.on (on n) commands.close) x y
  follow_close x y b sx sy n ne (stream e) = absurd (let q : (n == k) ≡ true = eq-eqb n k e in cc)
  follow_close x y b sx sy n ne (later le) =
      let kind : kind_at y (on n) ≡ kind_on (kind_at x n) =
      rw (on_later n le) (ap (λ s. s.kind) (b.later n le)) in
      follow x y b n (later le) commands.close refl (rw (kind, ← content_on (kind_at x n)))
      (λ s kind recorded. record { answer = refl; after = closes_made n x y le sx sy b })

  follows_action : (a : Action) (n : ℕ) (x y : AllStreams) → Simulates x y → IsSound x → IsSound y
      → is_own_action k made n a ≡ true → is_own k made n ≡ true
      → Follows (commands.on n a) (command_on_fork k made (commands.on n a)) x y
  follows_action (commands.read r) n x y b sx sy h own =
      let o = own_by_test n own in
      follow x y b n o (commands.read r) refl refl
      (λ s kind recorded. record {
        answer = read_unchanged r s.place s.scope_span;
        after = moved_simulates x y n (read_answer r s.place s.scope_span).1 b o;
      })
  follows_action (commands.enter wanted) n x y b sx sy h own =
      let o = own_by_test n own in
      follow x y b n o (commands.enter wanted) refl refl
      (λ s kind recorded. same_group x y b n o own s kind recorded (entering_words wanted)
      (entered_by wanted s.place))
  follows_action commands.fork n x y b sx sy h own =
      let o = own_by_test n own in
      follow x y b n o commands.fork refl refl
      (λ s kind recorded. record {
        answer = ap reports.forked b.longer;
        after = made_simulates x y (new_stream s.place s.scope_span a_fork) b tt;
      })
  follows_action (commands.advance f) n x y b sx sy h own = absurd (cc)
  follows_action commands.discard n x y b sx sy h own = absurd (cc)
  follows_action commands.close n x y b sx sy h own =
      follow_close x y b sx sy n (not-true (n == k) h) (own_by_test n own)

  follows_each : (c : Command) (x y : AllStreams) → Simulates x y → IsSound x → IsSound y
      → is_own_command k made c ≡ true
      → Follows c (command_on_fork k made c) x y
  follows_each c x y b sx sy h =
      let (a, o) =
      and_parts (is_own_action k made c.stream c.action)
      (is_own k made c.stream) h in
      follows_action c.action c.stream x y b sx sy a o

  record Runs (cs : List Command) (x y : AllStreams) : Type 0 where
    same_lines : lines_from y (map (command_on_fork k made) cs)
        ≡ map line_on_fork (lines_from x cs)
    after : Simulates (last_state x cs) (last_state y (map (command_on_fork k made) cs))

  runs : (cs : List Command) (x y : AllStreams) → Simulates x y → IsSound x → IsSound y
      → is_self_contained k made cs ≡ true
      → Runs cs x y
  runs [] x y b sx sy h = record { same_lines = refl; after = b }
  runs (c ∷ cs) x y b sx sy h =
      let (a, o) = and_parts (is_own_command k made c) (is_self_contained k made cs) h in
      let one = follows_each c x y b sx sy a in
      let d = command_on_fork k made c in
      let more =
      runs cs (step c x).state (step d y).state one.after (steps nothing c x sx).sound
      (steps nothing d y sy).sound o in
      record {
        same_lines = ap₂ (λ l ls. l ∷ ls) (sym one.same_line) more.same_lines;
        after = more.after;
      }

  abbrev to_fork : Action
  to_fork = commands.advance (made)

  begins : Simulates front (front ++ new_stream s0.place s0.scope_span a_fork ∷ [])
  begins =
      let low = k_below in
      let more = length-append front (new_stream s0.place s0.scope_span a_fork ∷ []) in
      record {
        p = s0.place;
        n = None;
        longer = omega (arith, more);
        room = omega arith;
        mine = ap (λ z. record s0 { recorded = z }) (sym (or_none s0.recorded));
        forks = grind (arith, places);
        kept = grind (arith, places);
        later = λ j h. grind (arith, places, get_or_past);
        own = λ j h. rw (get_or_past front j no_stream h, OwnKind) tt;
      }

  starts : Simulates front (step (commands.on k commands.fork) front).state
  starts = grind (arith, places, lt-leb, k_below, begins)

  module _ (x y : AllStreams) (b : Simulates x y) (x_sound : IsSound x) (y_sound : IsSound y) where
    ends : same_scope (stream_at y k).place (stream_at y made).place ≡ true
        → step (commands.on k to_fork) y
        ≡ record { answer = done; state = moved_to_fork k made y }
    ends h = grind (arith, places, k_below, there, not_inside)

    abbrev left : Option Leftover
    left = left_from k made (drop made x)

    stream_then : slice_get (moved_to_fork k made y) k ≡ option_map (recording left) (slice_get x k)
    stream_then =
        let low = k_below in
        let goes = moved_on (gathered y made) in
        let mid = with_stream y k goes in
        let mid_sound =
        sound_like y mid y_sound (kinds_changed y k goes (λ s. refl))
        (kept_by (λ s. s.is_open) goes (λ s. refl) y k) in
        let now = ended_before mid mid_sound made k low in
        let moved =
        get_or-set_same y k (goes (stream_at y k)) no_stream (omega (arith, b.longer, b.room)) in
        let inside = left_own x y b x_sound y_sound in
        let joined = assoc_or s0.recorded b.n left in
        let same : stream_at (moved_to_fork k made y) k ≡ recording left (stream_at x k) = cc in
        let was_open : is_open_at x k ≡ true = ap (λ s. s.is_open) b.mine ∙ is_open in
        let was_there = there x k was_open in
        let is_there = there (moved_to_fork k made y) k (ap (λ s. s.is_open) same ∙ was_open) in
        cc

    with_none : (o : Option Stream) → option_map (recording None) o ≡ o
    with_none o = grind (arith, or_none)

    none_left : ((n : ℕ) → nat_le made n ≡ true → kind_at x n ≡ content_of k
        → is_open_at x n ≡ false)
        → option_map (recording left) (slice_get x k) ≡ slice_get x k
    none_left q =
        ap (λ l. option_map (recording l) (slice_get x k))
        (left_none (λ j. j ≡ k) k made (drop made x)
        (λ i m p same o f e.
        let at = get_or-drop made x m no_stream in
        let ended = q (made + m) (le-leb made (made + m) (omega arith)) (cc) in
        absurd (cc))
        refl)
        ∙ with_none (slice_get x k)

  is_followed : (cs : List Command) → IsSound front → is_self_contained k made cs ≡ true
      → IsFollowed front k cs
  is_followed cs sound h =
      let first = step (commands.on k commands.fork) front in
      let first_is_sound = (steps nothing (commands.on k commands.fork) front sound).sound in
      let forked = map (command_on_fork k made) cs in
      let r = runs cs front first.state starts sound first_is_sound h in
      let x = last_state front cs in
      let y = last_state first.state forked in
      let x_sound = run_sound front cs sound in
      let y_sound = run_sound first.state forked first_is_sound in
      record {
        lines = r.same_lines;
        done = λ q. ap (λ z. z.answer) (ends x y r.after x_sound y_sound q);
        stream_after =
            λ q. ap (λ z. slice_get z.state k) (ends x y r.after x_sound y_sound q)
            ∙ stream_then x y r.after x_sound y_sound;
        if_closed = none_left x y r.after x_sound y_sound;
      }

pub forks_follow_commands : ForksFollowCommands
forks_follow_commands f before cs k is contained =
    search (rules, is_followed, run_sound, first_sound)
