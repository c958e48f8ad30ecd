-- Invisible groups do not matter to walks: the proof.
use Rattle.tok_leaves.specs.Spans.{covering}
use Rattle.std.proofs.Common.{◌≡◌, ap, refl, true, List, [], ◌∷◌, Option, Some, None}
use Rattle.std.proofs.lemmas.Bool.{and_parts}
use Rattle.tok_core.specs.Forest.{Forest}
use Rattle.tok_buffer.specs.Buffer.{Laid}
use Rattle.tok_buffer.specs.Ahead.{Leftover}
use Rattle.tok_buffer.proofs.View.Alike.{alike-empty, alike-start}
use Rattle.syn_replay.specs.Agree.{LinesAgree, VerdictsAgree}
use Rattle.syn_replay.specs.Commands.{Command}
use Rattle.syn_replay.specs.Transparent.{is_transparent, all_transparent, DifferInInvisibleGroups}
use Rattle.syn_replay.specs.Transparent.{InvisibleGroupsDoNotMatter}
use Rattle.syn_replay.specs.Session.State.{AllStreams, first_state}
use Rattle.syn_replay.specs.Session.Step.{step}
use Rattle.syn_replay.specs.Session.Walk.{lines_from, last_state, verdict, verdict_on}
use Rattle.syn_replay.proofs.Views.Steps.{alike-step}
use Rattle.syn_replay.proofs.Views.Streams.{StatesAlike, none, more, span_of, alike-reported}
use Rattle.std.proofs.Common.{arith}

module _ (f g : Laid) where
  lines-agree : (cs : List Command) → all_transparent cs ≡ true → (st su : AllStreams)
      → StatesAlike f g st su → LinesAgree (lines_from st cs) (lines_from su cs)
  lines-agree [] e st su h = tt
  lines-agree (c ∷ cs) e st su h =
      let parts = and_parts (is_transparent c) (all_transparent cs) e in
      let next = alike-step f g st su h c parts.0 in
      (next.answer, lines-agree cs parts.1 (step c st).state (step c su).state next.state)

  alike-last : (cs : List Command) → all_transparent cs ≡ true → (st su : AllStreams)
      → StatesAlike f g st su → StatesAlike f g (last_state st cs) (last_state su cs)
  alike-last [] e st su h = h
  alike-last (c ∷ cs) e st su h =
      let parts = and_parts (is_transparent c) (all_transparent cs) e in
      alike-last cs parts.1 (step c st).state (step c su).state
      (alike-step f g st su h c parts.0).state

  left-agree : (a b : Option Leftover) → span_of a ≡ span_of b
      → VerdictsAgree (verdict_on a) (verdict_on b)
  left-agree None None e = tt
  left-agree None (Some l) e = absurd (cc)
  left-agree (Some l) None e = absurd (cc)
  left-agree (Some l) (Some k) e =
      let same : l.span ≡ k.span = cc in ap (λ s. covering s s) same

  verdicts-agree : (st su : AllStreams) → StatesAlike f g st su
      → VerdictsAgree (verdict st) (verdict su)
  verdicts-agree st su h = grind (arith, left-agree, alike-reported)

-- a forest under the buffer number of a walk
abbrev laid : Forest → Laid
laid f = record { number = 0; forest = f }

alike-first : (f g : Forest) → DifferInInvisibleGroups f g
    → StatesAlike (laid f) (laid g) (first_state f) (first_state g)
alike-first f g d =
    let begun = alike-start (laid f) (laid g) d.left_filled d.right_filled d.visible in
    more (record { place = begun; same = refl; recorded = refl })
    (none (alike-empty (laid f) (laid g) _ _ begun))

-- the walks of two forests that differ only in invisible groups agree
pub invisible_groups_do_not_matter : InvisibleGroupsDoNotMatter
invisible_groups_do_not_matter f g cs d e =
    let b = laid f in
    let c = laid g in
    let first = alike-first f g d in
    record {
      lines = lines-agree b c cs e (first_state f) (first_state g) first;
      verdicts =
          verdicts-agree b c (last_state (first_state f) cs)
          (last_state (first_state g) cs)
          (alike-last b c cs e (first_state f) (first_state g) first);
    }
