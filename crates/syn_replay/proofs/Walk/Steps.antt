-- What a command does to each stream.
use Rattle.std.proofs.Common.{rules, ◌≡◌, ◌≢◌, ◌∙◌, sym, ap, refl, ℕ, ◌<◌, ◌≤◌, Bool}
use Rattle.std.proofs.Common.{true, false, List, [], ◌∷◌, ◌++◌, length, length-append, Option, Some}
use Rattle.std.proofs.Common.{None, arith, inl, inr, set}
use Rattle.std.proofs.lemmas.Bool.{and_parts, and_right, eq-eqb, ne_eqb, or_parts, both_ways}
use Rattle.std.proofs.lemmas.Bool.{cases_eq, cases_lt, not-true, not-false, or_left, or_right}
use Rattle.std.proofs.lemmas.Bool.{cond_both}
use Rattle.std.proofs.lemmas.List.{get_or_past, length-set, set-get_or, places}
use Rattle.std.specs.Option.{option_or}
use Rattle.std.specs.Prelude.{◌==◌, ◌&&◌, ◌||◌, not, cond}
use Rattle.tok_leaves.specs.Spans.{closing_span}
use Rattle.tok_core.specs.Forest.{Forest}
use Rattle.tok_buffer.specs.Ahead.{Leftover, leftover}
use Rattle.tok_buffer.specs.Entry.{Entered}
use Rattle.tok_buffer.specs.Place.{Place, empty_place}
use Rattle.syn_replay.specs.Commands as commands
use Rattle.syn_replay.specs.Commands.{Action, Command, read_answer}
use Rattle.syn_replay.specs.Reports.{Answer, done, misused}
use Rattle.syn_replay.specs.declared.report.Misuse.{Misuse}
use Rattle.syn_replay.specs.declared.report.Misuse.TheVariants.{NoFork, NoContent, OutOfScope}
use Rattle.syn_replay.specs.Session.Acceptance.{EndedInside, is_discard}
use Rattle.syn_replay.specs.Session.State.{Stream, AllStreams, StreamKind, outermost, content_of}
use Rattle.syn_replay.specs.Session.State.{a_fork, first_state, is_open_at, kind_at, moved_to}
use Rattle.syn_replay.specs.Session.State.{kinds, no_stream, spent_if, gathered}
use Rattle.syn_replay.specs.Session.State.{reported, stream_at, stream_ended, recording}
use Rattle.syn_replay.specs.Session.State.{recording_on_parent, with_stream, content_closed}
use Rattle.syn_replay.specs.Session.State.{moved_to_fork, is_inside, is_or_inside}
use Rattle.syn_replay.specs.Session.Step.{Stepped, any_of, is_content, is_fork, has_ended, misuse}
use Rattle.syn_replay.specs.Session.Step.{kind_misuse, named_by, new_stream, into_group, on_stream}
use Rattle.syn_replay.specs.Session.Step.{other_named, unmoved, step, with_other}
use Rattle.syn_replay.specs.Session.Entering.{entered_by, entering_words}
use Rattle.syn_replay.specs.Session.Walk.{last_state}
use Rattle.syn_replay.proofs.Walk.Changes.{kept_by, kinds_changed, open_within, same_length}
use Rattle.syn_replay.proofs.Walk.Ends.{kind_if, kinds_from, same_kind}
use Rattle.syn_replay.proofs.Walk.Inner.{IsSound, by_parent, ended_look, none_past, same_inside}
use Rattle.syn_replay.proofs.Walk.Inner.{sound_like, ended_after}
use Rattle.syn_replay.proofs.Walk.Misuse.{Fits, fits, misused_or, one_open}
use Rattle.syn_replay.proofs.Walk.Left.{left_none, none_either, or_none}
use Rattle.std.proofs.lemmas.Grind.{get_or-set_at}
use Rattle.syn_replay.proofs.Walk.Closing.{may_advance}

-- the parent of a content is open, and has a lower number
record IsIn (st : AllStreams) (k p : ℕ) : Type 0 where
  below : p < k
  parent : is_open_at st p ≡ true

abbrev pub IsClean : AllStreams → ℕ → Type 0
IsClean st k = (stream_at st k).recorded ≡ None

-- a stream reports nothing, or has nothing left but at its place
abbrev pub IsEmptied : AllStreams → ℕ → Type 0
IsEmptied st k = reported st k ≡ None

abbrev pub IsGathered : AllStreams → ℕ → Type 0
IsGathered st k = (gathered st k).recorded ≡ None

-- Streams that stay clean: those of a set that holds each content that is closed into one of the
-- set, and in which nothing is left.
abbrev pub AllClean : (ℕ → Type 0) → AllStreams → Type 0
AllClean X st = (k : ℕ) → X k → IsClean st k

abbrev pub IsFed : (ℕ → Type 0) → AllStreams → AllStreams → Type 0
IsFed X st after =
    (k p : ℕ) → EndedInside st after k p → X p → X k × (leftover (stream_at st k).place ≡ None)

-- what may become of the streams that there were: they may record a leftover and end
pub record AllEvolve (st after : AllStreams) : Type 0 where
  pub longer : length st ≤ length after
  pub kind : (k : ℕ) → k < length st → kind_at after k ≡ kind_at st k
  pub open_before : (k : ℕ) → k < length st → is_open_at after k ≡ true → is_open_at st k ≡ true
  pub clean_before : (k : ℕ) → IsClean after k → IsClean st k

pub evolve_on : (st mid after : AllStreams) → AllEvolve st mid → AllEvolve mid after
    → AllEvolve st after
evolve_on st mid after a b = search rules

-- a fork, to which a stream has advanced
pub record Taken (st after : AllStreams) (s f : ℕ) : Type 0 where
  pub stream_was : is_open_at st s ≡ true
  pub stream_is : is_open_at after s ≡ true
  pub was_open : is_open_at st f ≡ true
  pub ended : is_open_at after f ≡ false
  pub is_gathered : IsClean after s → IsGathered st f

-- what a command does to streams that are sound
pub record StepsTo (X : ℕ → Type 0) (c : Command) (st : AllStreams) (r : Stepped) : Type 0 where
  pub evolve : AllEvolve st r.state
  pub sound : IsSound r.state
  pub whole : kind_at st 0 ≡ outermost → is_open_at st 0 ≡ true
      → is_open_at r.state 0 ≡ true
  -- a content that is closed into a clean stream reports nothing
  pub emptied : is_discard c.action ≡ false → (k p : ℕ) → EndedInside st r.state k p
      → is_open_at r.state p ≡ true → IsClean r.state p → IsEmptied st k
  pub taken : (s f : ℕ) → c ≡ commands.on s (commands.advance f) → r.answer ≡ done
      → Taken st r.state s f
  pub cleans : (is_discard c.action ≡ false → IsFed X st r.state)
      → ((s f : ℕ) → c ≡ commands.on s (commands.advance f) → r.answer ≡ done → X s → X f)
      → AllClean X st → AllClean X r.state

abbrev is_advance : Action → Bool
is_advance (commands.advance f) = true
is_advance a = false

no_advance : {P : Type 0} (c : Command) (s f : ℕ) → is_advance c.action ≡ false
    → c ≡ commands.on s (commands.advance f) → P
no_advance c s f h e = grind (arith, places, both_ways)

-- a command that records nothing and spends nothing
record EndsNothing (st after : AllStreams) : Type 0 where
  longer : length st ≤ length after
  kept : (k : ℕ) → k < length st
      → moved_to empty_place (stream_at after k) ≡ moved_to empty_place (stream_at st k)
  records : (k : ℕ) → (stream_at after k).recorded ≡ (stream_at st k).recorded
  -- a new content has an open parent
  newer : (k p : ℕ) → length st ≤ k → kind_at after k ≡ content_of p → IsIn after k p

-- a command that spends nothing and records nothing, and is no advance, discard or close
steps_if_nothing_ends : (X : ℕ → Type 0) (c : Command) (st : AllStreams) (r : Stepped) → IsSound st
    → is_advance c.action ≡ false → EndsNothing st r.state → StepsTo X c st r
steps_if_nothing_ends X c st r sound other still = record {
  evolve = record {
    longer = still.longer;
    kind = same;
    open_before = λ k h o. sym (opens k h) ∙ o;
    clean_before = λ k n. sym (still.records k) ∙ n;
  };
  sound = record {
    nested = λ k p f.
        elim (cases_lt k (length st)) [
          | inl h ↦ sound.nested k p (sym (same k h) ∙ f)
          | inr h ↦ (still.newer k p h f).below
        ];
    parent = λ k p o f.
        elim (cases_lt k (length st)) [
          | inl h ↦ stays p (sound.parent k p (sym (opens k h) ∙ o) (sym (same k h) ∙ f))
          | inr h ↦ (still.newer k p h f).parent
        ];
  };
  whole = λ e. stays 0;
  emptied = λ d k p h o clean.
      absurd (both_ways (is_open_at r.state k) h.ended (stays k h.was_open));
  taken = λ s f e a. no_advance c s f other e;
  cleans = λ fed follows clean k x. still.records k ∙ clean k x;
} where
  same : (k : ℕ) → k < length st → kind_at r.state k ≡ kind_at st k
  same k h = ap (λ s. s.kind) (still.kept k h)

  opens : (k : ℕ) → k < length st → is_open_at r.state k ≡ is_open_at st k
  opens k h = ap (λ s. s.is_open) (still.kept k h)

  stays : (k : ℕ) → is_open_at st k ≡ true → is_open_at r.state k ≡ true
  stays k o = opens k (open_within st k o) ∙ o

-- streams at other places
moved_ends_nothing : (st mid : AllStreams) → length mid ≡ length st
    → ((k : ℕ) → moved_to empty_place (stream_at mid k) ≡ moved_to empty_place (stream_at st k))
    → EndsNothing st mid
moved_ends_nothing st mid len kept = search (rules, none_past)

-- and one more
more_ends_nothing : (st mid : AllStreams) (x : Stream) → length mid ≡ length st
    → ((k : ℕ) → moved_to empty_place (stream_at mid k) ≡ moved_to empty_place (stream_at st k))
    → x.recorded ≡ None → ((p : ℕ) → x.kind ≡ content_of p → IsIn st (length st) p)
    → EndsNothing st (mid ++ x ∷ [])
more_ends_nothing st mid x len kept none inside = record {
  longer = omega (arith, length-append mid (x ∷ []), len);
  kept = λ k h. let before = kept k in grind (arith, places);
  records = λ k. let before = kept k in grind (arith, places, get_or_past);
  newer = λ k p l f.
      let is : x.kind ≡ content_of p = grind (arith, places, get_or_past) in
      let i = inside p is in
      let below = i.below in
      let before = kept p in
      record { below = omega (arith, below, l); parent = grind (arith, places, i.parent) };
}

entered_ends_nothing : (o : Option Entered) (st : AllStreams) (k : ℕ) (s : Stream) (words : List ℕ)
    → is_open_at st k ≡ true → EndsNothing st (into_group st k s words o).state
entered_ends_nothing None st k s words h = moved_ends_nothing st st refl (λ j. refl)
entered_ends_nothing (Some e) st k s words h =
    let below = open_within st k h in
    more_ends_nothing st (with_stream st k (moved_to e.after))
    (new_stream e.content (closing_span e.span) (content_of k))
    (length-set st k (moved_to e.after (stream_at st k)))
    (kept_by (moved_to empty_place) (moved_to e.after) (λ s. refl) st k) refl (λ p f.
    let q : k ≡ p = cc in
    record { below = omega (arith, below, q); parent = ap (is_open_at st) (sym q) ∙ h })

recorded_if : (b : Bool) (s : Stream) → (spent_if b s).recorded ≡ s.recorded
recorded_if b s = grind arith

-- a stream ends, with those inside it, and another goes elsewhere and is given something to record
module _ (st : AllStreams) (sound : IsSound st) (k t : ℕ) (to : Stream → Place)
    (given : Option Leftover) (was_open : is_open_at st t ≡ true) (is_open : is_open_at st k ≡ true)
    (inner : kind_at st k ≢ outermost) where
  abbrev receiving : Stream → Stream
  receiving s = record s { place = to s; recorded = option_or s.recorded given }

  abbrev mid : AllStreams
  mid = with_stream st t receiving

  same : kinds mid ≡ kinds st
  same = kinds_changed st t receiving (λ s. refl)

  opens : (j : ℕ) → is_open_at mid j ≡ is_open_at st j
  opens = kept_by (λ s. s.is_open) receiving (λ s. refl) st t

  records : (j : ℕ) → (stream_at mid j).recorded
      ≡ cond (j == t) (option_or (stream_at st j).recorded given) (stream_at st j).recorded
  records j = let within = open_within st t was_open in grind (arith, places, get_or-set_at)

  abbrev after : AllStreams
  after = stream_ended k mid

  looks_so : (j : ℕ) → stream_at after j ≡ spent_if (is_or_inside st k j) (stream_at mid j)
  looks_so j = grind (arith, places, ended_look, sound_like, same, opens, same_inside)

  opens_so : (j : ℕ) → is_open_at after j ≡ (is_open_at st j && not (is_or_inside st k j))
  opens_so = ended_after st mid sound same opens k

  kind_so : (j : ℕ) → kind_at after j ≡ kind_at st j
  kind_so j = grind (arith, places, looks_so, kind_if, same_kind, same)

  recorded_so : (j : ℕ) → (stream_at after j).recorded ≡ (stream_at mid j).recorded
  recorded_so j = grind (arith, places, looks_so, recorded_if)

  given_none : IsClean after t → given ≡ None
  given_none clean = let kept = recorded_so t in let is = records t in grind arith

  evolve_so : AllEvolve st after
  evolve_so =
      search (
        rules,
        same_length,
        kinds_from,
        same,
        kind_so,
        and_parts,
        opens_so,
        recorded_so,
        records,
      )

  -- the content of a stream that ends, ends too
  in_parent : (j p : ℕ) → kind_at st j ≡ content_of p → is_inside st k j ≡ is_or_inside st k p
  in_parent j p f = grind (arith, places, by_parent)

  sound_so : IsSound after
  sound_so = search (rules, kind_so, in_parent, opens_so)

  whole_so : kind_at st 0 ≡ outermost → is_open_at st 0 ≡ true
      → is_open_at after 0 ≡ true
  whole_so e o = grind (arith, places, by_parent, ne_eqb, opens_so)

  ended_so : (j : ℕ) → is_or_inside st k j ≡ true → is_open_at after j ≡ false
  ended_so j e = opens_so j ∙ and_right (is_open_at st j) _ (ap not e)

  -- a content whose parent stays open is the stream itself
  only_own : (j p : ℕ) → EndedInside st after j p → is_open_at after p ≡ true → j ≡ k
  only_own j p h o = grind (arith, places, in_parent, opens_so)

  own_ends : (p : ℕ) → kind_at st k ≡ content_of p → EndedInside st after k p
  own_ends p f = search (rules, ended_so, or_left, eq-eqb)

  -- streams of a set that stays clean: nothing is left inside the one that ends
  module _ (X : ℕ → Type 0) (clean : AllClean X st) where
    own_clean : IsFed X st after → X k → IsGathered st k
    own_clean fed x =
        none_either _ _ (clean k x)
        (left_none (λ j. X j × (is_or_inside st k j ≡ true)) k 0 st
        (λ i m p at o f y.
        let inside = in_parent m p f ∙ y.1 in
        let in_it : is_or_inside st k m ≡ true = or_right (m == k) _ inside in
        let ended : EndedInside st after m p =
        record { was_open = o; inside = f; ended = ended_so m in_it } in
        let (mine, none) = fed m p ended y.0 in
        let same : i ≡ m = omega arith in
        rw same ((mine, in_it), clean m mine, none))
        (x, or_left (k == k) _ (eq-eqb k k refl)))

    -- they stay clean, if what is given is nothing
    clean_so : (X t → given ≡ None) → AllClean X after
    clean_so none j x = grind (arith, places, recorded_so, records, cases_eq)

  -- So a command does this, if what is given is what the stream reports, in the ways that follow.
  ending : (X : ℕ → Type 0) (c : Command) (a : Answer)
      → (is_discard c.action ≡ false → (p : ℕ) → kind_at st k ≡ content_of p
      → (t ≡ p) × (given ≡ reported st k))
      → ((s f : ℕ) → c ≡ commands.on s (commands.advance f) → a ≡ done → Taken st after s f)
      → ((is_discard c.action ≡ false → (X k → IsGathered st k)
      × ((p : ℕ) → kind_at st k ≡ content_of p → X p
      → X k × (leftover (stream_at st k).place ≡ None)))
      → ((s f : ℕ) → c ≡ commands.on s (commands.advance f) → a ≡ done → X s → X f)
      → X t → given ≡ None)
      → StepsTo X c st (record { answer = a; state = after })
  ending X c a empties takes gives = record {
    evolve = evolve_so;
    sound = sound_so;
    whole = whole_so;
    emptied = λ d j p h o clean.
        let own = only_own j p h o in
        let (at, all) = empties d p (ap (kind_at st) (sym own) ∙ h.inside) in
        ap (reported st) own ∙ sym all
        ∙ given_none (ap (λ z. (stream_at after z).recorded) at ∙ clean);
    taken = takes;
    cleans = λ fed follows clean.
        clean_so X clean
        (gives (λ d. (own_clean X clean (fed d), λ p e x. fed d k p (own_ends p e) x)) follows);
  }

  takes : is_or_inside st k t ≡ false → given ≡ (gathered st k).recorded → Taken st after t k
  takes outside e = search (rules, opens_so, ended_so, or_left, eq-eqb, given_none)

-- a content is closed
close_steps : (X : ℕ → Type 0) (n : ℕ) (st : AllStreams) (k p : ℕ) (a : Answer) → IsSound st
    → is_open_at st k ≡ true → kind_at st k ≡ content_of p
    → StepsTo X (commands.on n commands.close) st
    (record { answer = a; state = content_closed k st })
close_steps X n st k p a sound o f =
    let given = reported st k in
    let is : content_closed k st ≡ stream_ended k (with_stream st p (recording given)) =
    ap (λ kind. stream_ended k (recording_on_parent kind given st)) f in
    let h = sound.parent k p o f in
    let c = commands.on n commands.close in
    rw is
    (ending st sound k p (λ s. s.place) given h o (λ e. cc) X c a
    (λ d q e. let w = sym f ∙ e in (cc, refl))
    (λ s j e b. no_advance c s j refl e)
    (λ fed follows x.
    let (mine, none) = (fed refl).1 p f x in none_either _ _ ((fed refl).0 mine) none))

-- a fork is discarded
discard_steps : (X : ℕ → Type 0) (n : ℕ) (st : AllStreams) (k : ℕ) (a : Answer) → IsSound st
    → is_open_at st k ≡ true → kind_at st k ≢ outermost
    → StepsTo X (commands.on n commands.discard) st
    (record { answer = a; state = stream_ended k st })
discard_steps X n st k a sound o inner =
    let c = commands.on n commands.discard in
    let same : with_stream st k (recording None) ≡ st =
    ap (λ r. set st k (record (stream_at st k) { recorded = r }))
    (or_none (stream_at st k).recorded)
    ∙ set-get_or st k no_stream in
    rw same at (ending st sound k k (λ s. s.place) None o o inner X c a (λ d. absurd (cc))
    (λ s f e b. no_advance c s f refl e) (λ fed follows x. refl))

-- a stream advances to a fork
advance_steps : (X : ℕ → Type 0) (st : AllStreams) (k f : ℕ) → IsSound st
    → is_open_at st k ≡ true → is_open_at st f ≡ true → kind_at st f ≡ a_fork
    → is_or_inside st f k ≡ false
    → StepsTo X (commands.on k (commands.advance f)) st
    (record { answer = done; state = moved_to_fork k f st })
advance_steps X st k f sound h o kind outside =
    let fork = gathered st f in
    let c = commands.on k (commands.advance f) in
    let inner : kind_at st f ≢ outermost = λ e. cc in
    ending st sound f k (λ s. fork.place) fork.recorded h o inner X c done
    (λ d q e. absurd (cc))
    (λ t v w b.
    let a : k ≡ t = ap (λ z. z.stream) w in
    let same : commands.advance f ≡ commands.advance v = ap (λ z. z.action) w in
    let e : f ≡ v = cc in
    rw (sym a, sym e)
    (takes st sound f k (λ s. fork.place) fork.recorded h o inner outside refl))
    (λ fed follows x. (fed refl).0 (follows k f refl refl x))

-- a command that is refused
refused_steps : (X : ℕ → Type 0) (c : Command) (st : AllStreams) (n : Misuse) → IsSound st
    → StepsTo X c st (unmoved st (misused n))
refused_steps X c st n sound = search rules

fork_fits : (kind : StreamKind) → cond (is_fork kind) None (Some NoFork) ≡ None → kind ≡ a_fork
fork_fits kind h = grind arith

content_fits : (kind : StreamKind) → cond (is_content kind) None (Some NoContent) ≡ None
    → (p : ℕ) × (kind ≡ content_of p)
content_fits a0 a1 = grind (arith, places)

on_steps : (X : ℕ → Type 0) (a : Action) (st : AllStreams) (k : ℕ) → is_open_at st k ≡ true
    → is_advance a ≡ false → kind_misuse a st k ≡ None → IsSound st
    → StepsTo X (commands.on k a) st (on_stream a st k (stream_at st k))
on_steps X (commands.read r) st k h e q sound =
    let s = stream_at st k in
    steps_if_nothing_ends X _ st _ sound refl
    (moved_ends_nothing st _ (length-set st k _)
    (kept_by (moved_to empty_place) (moved_to (read_answer r s.place s.scope_span).1)
    (λ s. refl) st k))
on_steps X (commands.enter wanted) st k h e q sound =
    steps_if_nothing_ends X _ st _ sound refl
    (entered_ends_nothing (entered_by wanted (stream_at st k).place) st k (stream_at st k)
    (entering_words wanted) h)
on_steps X commands.fork st k h e q sound =
    steps_if_nothing_ends X _ st _ sound refl
    (more_ends_nothing st st (new_stream (stream_at st k).place (stream_at st k).scope_span a_fork)
    refl (λ j. refl) refl (λ p f. absurd (cc)))
on_steps X (commands.advance f) st k h e q sound = cc
on_steps X commands.discard st k h e q sound =
    let kind = fork_fits (kind_at st k) q in
    discard_steps X k st k done sound h (λ w. let z = kind in cc)
on_steps X commands.close st k h e q sound =
    let (p, kind) = content_fits (kind_at st k) q in
    close_steps X k st k p done sound h kind

-- a command that fits its streams and names one
one_named : (X : ℕ → Type 0) (a : Action) (st : AllStreams) (n : ℕ) → IsSound st
    → Fits (commands.on n a) st → other_named a ≡ None → is_advance a ≡ false
    → StepsTo X (commands.on n a) st (on_stream a st n (stream_at st n))
one_named X a st n sound h e other =
    let named_is : with_other n None ≡ named_by (commands.on n a) = ap (with_other n) (sym e) in
    on_steps X a st n (one_open st n (ap (any_of (has_ended st)) named_is ∙ h.is_open)) other h.kind
    sound

two_named : (X : ℕ → Type 0) (st : AllStreams) (n f : ℕ) → IsSound st
    → Fits (commands.on n (commands.advance f)) st
    → StepsTo X (commands.on n (commands.advance f)) st
    (on_stream (commands.advance f) st n (stream_at st n))
two_named X st n f sound h =
    let (mine, other) = or_parts (has_ended st n) (has_ended st f || false) h.is_open in
    let kind = fork_fits (kind_at st f) h.kind in
    cond_both (may_advance st n f) (record { answer = done; state = moved_to_fork n f st })
    (unmoved st (misused OutOfScope)) (StepsTo X (commands.on n (commands.advance f)) st)
    (λ e.
    let (in_scope, out) = and_parts _ _ e in
    advance_steps X st n f sound (not-false (is_open_at st n) mine) (one_open st f other) kind
    (not-true (is_or_inside st f n) out))
    (λ e. refused_steps X _ st OutOfScope sound)

fitting_steps : (X : ℕ → Type 0) (a : Action) (st : AllStreams) (n : ℕ) → IsSound st
    → Fits (commands.on n a) st → StepsTo X (commands.on n a) st (on_stream a st n (stream_at st n))
fitting_steps X (commands.advance f) st n sound h = two_named X st n f sound h
fitting_steps X a st n sound h = one_named X a st n sound h refl refl

pub steps : (X : ℕ → Type 0) (c : Command) (st : AllStreams) → IsSound st
    → StepsTo X c st (step c st)
steps X c st sound = go (misuse c st) refl where
  go : (o : Option Misuse) → misuse c st ≡ o
      → StepsTo X c st (misused_or st o (on_stream c.action st c.stream (stream_at st c.stream)))
  go (Some n) e = refused_steps X c st n sound
  go None e = fitting_steps X c.action st c.stream sound (fits c st e)

-- no set of streams is asked for
abbrev pub nothing : ℕ → Type 0
nothing k = ⊥

pub first_sound : (f : Forest) → IsSound (first_state f)
first_sound f = search rules

pub first_clean : (X : ℕ → Type 0) (f : Forest) → AllClean X (first_state f)
first_clean a0 a1 a2 a3 = grind (arith, places)

pub run_sound : (st : AllStreams) (cs : List Command) → IsSound st → IsSound (last_state st cs)
run_sound st [] sound = sound
run_sound st (c ∷ cs) sound = run_sound (step c st).state cs (steps nothing c st sound).sound

pub run_older : (st : AllStreams) (cs : List Command) → IsSound st → AllEvolve st (last_state st cs)
run_older st [] sound = search rules
run_older st (c ∷ cs) sound =
    let s = steps nothing c st sound in
    evolve_on st (step c st).state (last_state (step c st).state cs) s.evolve
    (run_older (step c st).state cs s.sound)
