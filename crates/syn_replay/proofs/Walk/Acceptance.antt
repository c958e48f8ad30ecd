-- A walk accepts exactly where nothing is left.
use Rattle.std.proofs.Common.{◌≡◌, ◌∙◌, sym, ap, subst, refl, ℕ, true, false, List, [], ◌∷◌, ◌++◌}
use Rattle.std.proofs.Common.{◌⊎◌, append_assoc, Option, None, arith, inl, inr}
use Rattle.std.proofs.lemmas.Bool.{both_ways, or_left, or_right}
use Rattle.std.specs.Prelude.{◌==◌}
use Rattle.tok_core.specs.Forest.{Forest}
use Rattle.tok_buffer.specs.Ahead.{Leftover, leftover}
use Rattle.tok_buffer.specs.Place.{Place}
use Rattle.syn_replay.specs.Session.Acceptance.{EndedInside, Comes, begins, goes_on, all_run}
use Rattle.syn_replay.specs.Session.Acceptance.{Closes, by_command, at_end, Counts, NothingLeft}
use Rattle.syn_replay.specs.Session.Acceptance.{IsExact, is_discard}
use Rattle.syn_replay.specs.Session.Acceptance as acceptance
use Rattle.syn_replay.specs.Commands as commands
use Rattle.syn_replay.specs.Commands.{Command}
use Rattle.syn_replay.specs.Reports.{Verdict, accepted}
use Rattle.syn_replay.specs.Session.State.{AllStreams, outermost, first_state, is_open_at, kind_at}
use Rattle.syn_replay.specs.Session.State.{is_entered_from, is_inside, is_or_inside, closed_inside}
use Rattle.syn_replay.specs.Session.State.{reported, spent_if, stream_at}
use Rattle.syn_replay.specs.Session.Step.{step}
use Rattle.syn_replay.specs.Session.Walk.{last_state, verdict_on, walk}
use Rattle.syn_replay.proofs.Walk.Changes.{open_within}
use Rattle.syn_replay.proofs.Walk.Inner.{IsSound, above_all, by_parent, inside_look}
use Rattle.syn_replay.proofs.Walk.Left.{left_emptied, left_none, none_either, none_of}
use Rattle.syn_replay.proofs.Walk.Steps.{AllClean, IsClean, IsGathered, IsEmptied, AllEvolve}
use Rattle.syn_replay.proofs.Walk.Steps.{first_clean, first_sound, nothing, run_older, steps, Taken}

-- what a stream's end says
accepts_then : (o : Option Leftover) → verdict_on o ≡ accepted → o ≡ None
accepts_then o h = grind arith

run_append : (st : AllStreams) (xs ys : List Command)
    → last_state st (xs ++ ys) ≡ last_state (last_state st xs) ys
run_append st [] ys = refl
run_append st (x ∷ xs) ys = run_append (step x st).state xs ys

-- commands lead from one state to another
record Runs (a : AllStreams) (r : List Command) (b : AllStreams) (q : List Command) : Type 0 where
  taken : List Command
  left : r ≡ taken ++ q
  to : last_state a taken ≡ b

-- and by one more
runs_on : (a : AllStreams) (r : List Command) (st : AllStreams) (c : Command) (rest : List Command)
    → Runs a r st (c ∷ rest) → Runs a r (step c st).state rest
runs_on a r st c rest h = record {
  taken = h.taken ++ c ∷ [];
  left = h.left ∙ sym (append_assoc h.taken (c ∷ []) rest);
  to = run_append a h.taken (c ∷ []) ∙ ap (λ s. (step c s).state) h.to;
}

run_whole : (st : AllStreams) (cs : List Command) → IsSound st → kind_at st 0 ≡ outermost
    → is_open_at st 0 ≡ true → is_open_at (last_state st cs) 0 ≡ true
run_whole st [] sound e o = o
run_whole st (c ∷ cs) sound e o =
    let s = steps nothing c st sound in
    run_whole (step c st).state cs s.sound (s.evolve.kind 0 (open_within st 0 o) ∙ e)
    (s.whole e o)

module _ (f : Forest) (cs : List Command) where
  comes_sound : (st : AllStreams) (rest : List Command) → Comes f cs st rest → IsSound st
  comes_sound st rest begins = first_sound f
  comes_sound st rest (goes_on prior c more h) =
      (steps nothing c prior (comes_sound prior (c ∷ more) h)).sound

  from_start : (st : AllStreams) (rest : List Command) → Comes f cs st rest
      → Runs (first_state f) cs st rest
  from_start st rest begins = record { taken = []; left = refl; to = refl }
  from_start st rest (goes_on prior c more h) =
      runs_on (first_state f) cs prior c more (from_start prior (c ∷ more) h)

  -- the walk comes to its end
  comes_on : (st : AllStreams) (rest : List Command) → Comes f cs st rest
      → Comes f cs (last_state st rest) []
  comes_on st [] h = h
  comes_on st (c ∷ rest) h = comes_on (step c st).state rest (goes_on st c rest h)

  -- one of two points of the walk comes first
  order : (a b : AllStreams) (r q : List Command) → Comes f cs a r → Comes f cs b q
      → Runs a r b q ⊎ Runs b q a r
  order a b r q begins y = inl (from_start b q y)
  order a b r q (goes_on prior c more h) y =
      elim (order prior b (c ∷ more) q h y) [
        | inl z ↦ go z.taken z.left z.to
        | inr z ↦ inr (runs_on b q prior c more z)
      ]
    where
      go : (t : List Command) → c ∷ more ≡ t ++ q → last_state prior t ≡ b
          → Runs (step c prior).state more b q ⊎ Runs b q (step c prior).state more
      go [] e to =
          inr (record { taken = c ∷ []; left = sym e; to = ap (λ s. (step c s).state) (sym to) })
      go (d ∷ t) e to =
          let same : d ≡ c = cc in
          inl (record { taken = t; left = cc; to = rw same at to })

  -- A stream is open up to a point of the walk, where it records nothing and nothing is left in it.
  record Over (k : ℕ) : Type 0 where
    st : AllStreams
    rest : List Command
    comes : Comes f cs st rest
    was_open : is_open_at st k ≡ true
    over : (c : Command) (more : List Command) → rest ≡ c ∷ more
        → is_open_at (step c st).state k ≡ false
    is_gathered : IsGathered st k

  -- a stream that is open at a point is over there, or stays open and clean
  data Stays (st : AllStreams) (rest : List Command) (p : ℕ) (over : Over p) : Type 0 where
    ends : over.st ≡ st → over.rest ≡ rest → Stays st rest p over
    goes : (c : Command) (more : List Command) → rest ≡ c ∷ more
        → is_open_at (step c st).state p ≡ true → IsClean (step c st).state p
        → Stays st rest p over

  evolve_by : (c : Command) (a b : AllStreams) (t : List Command) → IsSound a
      → last_state (step c a).state t ≡ b → AllEvolve (step c a).state b
  evolve_by c a b t sound e =
      subst (AllEvolve (step c a).state) e
      (run_older (step c a).state t (steps nothing c a sound).sound)

  later_open : (c : Command) (a b : AllStreams) (t : List Command) (p : ℕ) → IsSound a
      → last_state (step c a).state t ≡ b → is_open_at a p ≡ true → is_open_at b p ≡ true
      → is_open_at (step c a).state p ≡ true
  later_open c a b t p sound e was is =
      let s = steps nothing c a sound in
      let within = open_within a p was in
      let longer = s.evolve.longer in
      (evolve_by c a b t sound e).open_before p (omega (arith, within, longer)) is

  stays : (st : AllStreams) (rest : List Command) → Comes f cs st rest → (p : ℕ)
      → is_open_at st p ≡ true → (over : Over p) → Stays st rest p over
  stays st rest comes p o over =
      elim (order st over.st rest over.rest comes over.comes) [
        | inl r ↦ before r.taken r.left r.to
        | inr r ↦ after r.taken r.left r.to
      ]
    where
      before : (t : List Command) → rest ≡ t ++ over.rest → last_state st t ≡ over.st
          → Stays st rest p over
      before [] e to = ends (sym to) (sym e)
      before (c ∷ t) e to =
          let sound = comes_sound st rest comes in
          goes c (t ++ over.rest) e (later_open c st over.st t p sound to o over.was_open)
          ((evolve_by c st over.st t sound to).clean_before p (none_of _ _ over.is_gathered).0)

      after : (t : List Command) → over.rest ≡ t ++ rest → last_state over.st t ≡ st
          → Stays st rest p over
      after [] e to = ends to e
      after (c ∷ t) e to =
          absurd (both_ways (is_open_at (step c over.st).state p) (over.over c (t ++ rest) e)
          (later_open c over.st st t p (comes_sound over.st over.rest over.comes) to over.was_open
          o))

  -- a content that is closed into a stream that is over, is over too, and leaves nothing
  closed_over : (st : AllStreams) (rest : List Command) (k p : ℕ) (after : AllStreams)
      → Comes f cs st rest → EndedInside st after k p
      → ((c : Command) (more : List Command) → rest ≡ c ∷ more
      → (after ≡ (step c st).state) × (is_discard c.action ≡ false))
      → Over p → Over k × (leftover (stream_at st k).place ≡ None)
  closed_over st rest k p after comes h last over =
      let o = sound.parent k p h.was_open h.inside in
      let (own, none) = none_of _ _ (emptied (stays st rest comes p o over)) in (
        record {
          st = st;
          rest = rest;
          comes = comes;
          was_open = h.was_open;
          over = λ c more w. ap (λ z. is_open_at z k) (sym (last c more w).0) ∙ h.ended;
          is_gathered = own;
        },
        none,
      )
    where
      sound : IsSound st
      sound = comes_sound st rest comes

      emptied : Stays st rest p over → IsEmptied st k
      emptied (ends e r) =
          let gathered : IsGathered st p = rw e at over.is_gathered in
          left_emptied st (above_all st sound.nested) p k (none_of _ _ gathered).1 h.was_open
          h.inside
      emptied (goes c more e o n) =
          let (is, other) = last c more e in
          (steps nothing c st sound).emptied other k p (rw is at h) o n

  closes_over : (k p : ℕ) (q : Place) → Closes f cs k p q → Over p
      → Over k × (leftover q ≡ None)
  closes_over k p q (at_end h at) over =
      let comes = comes_on (first_state f) cs begins in
      rw at at (closed_over (all_run f cs) [] k p _ comes h (λ c more w. absurd (cc)) over)
  closes_over k p q (by_command st c rest comes other h at) over =
      rw at at (closed_over st (c ∷ rest) k p _ comes h
      (λ d more w. let same : c ≡ d = cc in rw (← same) (refl, other)) over)

  fork_over : (s j : ℕ) → acceptance.Advances f cs s j → Over s → Over j
  fork_over s j a over = go (stays a.before (to_fork ∷ a.rest) a.comes s taken.stream_was over)
    where
      to_fork : Command
      to_fork = commands.on s (commands.advance j)

      taken : Taken a.before (step to_fork a.before).state s j
      taken =
          (steps nothing to_fork a.before (comes_sound a.before (to_fork ∷ a.rest) a.comes)).taken
          s j refl a.advances

      go : Stays a.before (to_fork ∷ a.rest) s over → Over j
      go (ends e r) =
          absurd (both_ways (is_open_at (step to_fork a.before).state s)
          (ap (λ z. (is_open_at (step to_fork z).state s)) (sym e)
          ∙ over.over to_fork a.rest r) taken.stream_is)
      go (goes c more e o n) =
          let same : c ≡ to_fork = cc in
          record {
            st = a.before;
            rest = to_fork ∷ a.rest;
            comes = a.comes;
            was_open = taken.was_open;
            over = λ d more w. let is : d ≡ to_fork = cc in rw is taken.ended;
            is_gathered = taken.is_gathered (rw same at n);
          }

  counts_over : IsGathered (all_run f cs) 0 → (k : ℕ) → Counts f cs k → Over k
  counts_over e k acceptance.whole = record {
    st = all_run f cs;
    rest = [];
    comes = comes_on (first_state f) cs begins;
    was_open = run_whole (first_state f) cs (first_sound f) refl refl;
    over = λ c more w. cc;
    is_gathered = e;
  }
  counts_over e k (acceptance.content j p q h c) =
      (closes_over j p q h (counts_over e p c)).0
  counts_over e k (acceptance.fork s j a c) = fork_over s j a (counts_over e s c)

  run_clean : NothingLeft f cs → (st : AllStreams) (rest : List Command) → Comes f cs st rest
      → AllClean (Counts f cs) st
  run_clean n st rest begins = first_clean (Counts f cs) f
  run_clean n st rest (goes_on prior c more h) =
      let s = steps (Counts f cs) c prior (comes_sound prior (c ∷ more) h) in
      s.cleans
      (λ d k p w x.
      let closes = by_command prior c more h d w refl in
      (acceptance.content k p _ closes x, n.contents_read k p _ closes x))
      (λ s j e a x. acceptance.fork s j (record {
        before = prior;
        rest = more;
        comes = rw e at h;
        advances = ap (λ z. (step z prior).answer) (sym e) ∙ a;
      }) x)
      (run_clean n prior (c ∷ more) h)

  -- nothing is left inside stream 0
  end_clean : NothingLeft f cs → reported (all_run f cs) 0 ≡ None
  end_clean n =
      let st = all_run f cs in
      let sound = comes_sound st [] (comes_on (first_state f) cs begins) in
      let clean = run_clean n st [] (comes_on (first_state f) cs begins) in
      none_either _ _
      (none_either _ _ (clean 0 acceptance.whole)
      (left_none (λ j. Counts f cs j × (is_or_inside st 0 j ≡ true)) 0 0 st
      (λ i m p at o g y.
      let inside : is_inside st 0 m ≡ true =
      by_parent st sound.nested 0 m
      ∙ ap (is_entered_from (is_or_inside st 0)) g ∙ y.1 in
      let spent : is_open_at (closed_inside 0 st) m ≡ false =
      ap (λ s. s.is_open)
      (inside_look st sound 0 m ∙ ap (λ b. spent_if b (stream_at st m)) inside) in
      let closes = at_end (record { was_open = o; inside = g; ended = spent }) refl in
      let counts = acceptance.content m p _ closes y.0 in
      let same : i ≡ m = omega arith in
      rw same
      ((counts, or_right (m == 0) _ inside), clean m counts, n.contents_read m p _ closes y.0))
      (acceptance.whole, or_left (0 == 0) (is_inside st 0 0) refl)))
      n.whole_read

  accepts_exactly : IsExact f cs (walk f cs).verdict
  accepts_exactly = record {
    only = λ h.
        let (own, none) = none_of _ _ (accepts_then _ h) in
        record {
          whole_read = none;
          contents_read = λ k p q c v. (closes_over k p q c (counts_over own p v)).1;
        };
    wherever = λ n. ap verdict_on (end_clean n);
  }

pub accepts_when : (f : Forest) (cs : List Command) (v : Verdict) → v ≡ (walk f cs).verdict
    → IsExact f cs v
accepts_when f cs v e = rw e (accepts_exactly f cs)
