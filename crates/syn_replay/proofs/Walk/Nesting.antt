-- A stream ends with the streams inside it, and with no other.
use Rattle.std.proofs.Common.{◌≡◌, ◌∙◌, sym, ap, refl, ℕ, Bool, Option, arith}
use Rattle.std.specs.List.{slice_get}
use Rattle.std.specs.Prelude.{◌&&◌, not, cond}
use Rattle.tok_buffer.specs.Ahead.{Leftover}
use Rattle.syn_replay.specs.Commands as commands
use Rattle.syn_replay.specs.Commands.{Command}
use Rattle.syn_replay.specs.Nesting.{InnerStreamsEnd, InnerStreamsEndToo}
use Rattle.syn_replay.specs.Reports.{done, misused}
use Rattle.syn_replay.specs.declared.report.Misuse.{Misuse}
use Rattle.syn_replay.specs.declared.report.Misuse.TheVariants.{OutOfScope}
use Rattle.syn_replay.specs.Session.State.{AllStreams, StreamKind, outermost, content_of, a_fork}
use Rattle.syn_replay.specs.Session.State.{with_stream, recording, recording_on_parent}
use Rattle.syn_replay.specs.Session.State.{content_closed, moved_to_fork, gathered}
use Rattle.syn_replay.specs.Session.State.{is_inside, kinds, moved_on, is_or_inside}
use Rattle.syn_replay.specs.Session.State.{is_open_at, stream_at}
use Rattle.syn_replay.specs.Session.Step.{Stepped, misuse, on_stream, unmoved, step}
use Rattle.syn_replay.proofs.Walk.Changes.{kept_by, kinds_changed}
use Rattle.syn_replay.proofs.Walk.Ends.{open_if}
use Rattle.syn_replay.proofs.Walk.Inner.{IsSound, all_ended, by_parent, inside_look, sound_like}
use Rattle.syn_replay.proofs.Walk.Inner.{ended_after}
use Rattle.syn_replay.proofs.Walk.Misuse.{misused_or}
use Rattle.syn_replay.proofs.Walk.Steps.{first_sound, run_sound}
use Rattle.std.proofs.Common.{rules}

pub recording_kinds : (kind : StreamKind) (n : Option Leftover) (st : AllStreams)
    → kinds (recording_on_parent kind n st) ≡ kinds st
recording_kinds outermost n st = refl
recording_kinds a_fork n st = refl
recording_kinds (content_of p) n st = kinds_changed st p (recording n) (λ s. refl)

pub recording_open : (kind : StreamKind) (n : Option Leftover) (st : AllStreams) (j : ℕ)
    → is_open_at (recording_on_parent kind n st) j ≡ is_open_at st j
recording_open outermost n st j = refl
recording_open a_fork n st j = refl
recording_open (content_of p) n st j = kept_by (λ s. s.is_open) (recording n) (λ s. refl) st p j

pub recording_sound : (kind : StreamKind) (n : Option Leftover) (st : AllStreams) → IsSound st
    → IsSound (recording_on_parent kind n st)
recording_sound kind n st sound = search (rules, sound_like, recording_kinds, recording_open)

-- a command that is done is done on its stream
done_or : (st : AllStreams) (m : Option Misuse) (r : Stepped) → (misused_or st m r).answer ≡ done
    → misused_or st m r ≡ r
done_or a0 a1 a2 a3 = grind arith

done_on : (c : Command) (st : AllStreams) → (step c st).answer ≡ done
    → step c st ≡ on_stream c.action st c.stream (stream_at st c.stream)
done_on c st = done_or st (misuse c st) _

-- a close
closed_open : (st : AllStreams) → IsSound st → (k n : ℕ)
    → is_open_at (content_closed k st) n ≡ (is_open_at st n && not (is_or_inside st k n))
closed_open st sound k = grind (arith, ended_after, recording_kinds, recording_open)

-- an advance
advance_done : (b : Bool) (st after : AllStreams)
    → (cond b (record { answer = done; state = after }) (unmoved st (misused OutOfScope))).answer
    ≡ done
    → (cond b (record { answer = done; state = after }) (unmoved st (misused OutOfScope))).state
    ≡ after
advance_done b st after h = grind arith

advanced_open : (st : AllStreams) → IsSound st → (k f n : ℕ)
    → is_open_at (moved_to_fork k f st) n ≡ (is_open_at st n && not (is_or_inside st f n))
advanced_open st sound k f =
    let goes = moved_on (gathered st f) in
    ended_after st (with_stream st k goes) sound (kinds_changed st k goes (λ s. refl))
    (kept_by (λ s. s.is_open) goes (λ s. refl) st k) f

inner_streams_end : (st : AllStreams) → IsSound st → InnerStreamsEnd st
inner_streams_end st sound = record {
  inside = by_parent st sound.nested;
  parent_below = sound.nested;
  parent_open = sound.parent;
  discarded = λ k a n.
      ap (λ r. slice_get r.state n) (done_on (commands.on k commands.discard) st a)
      ∙ all_ended st sound k n;
  inside_closed = λ k n.
      ap (λ s. s.is_open) (inside_look st sound k n)
      ∙ open_if (is_inside st k n) (stream_at st n);
  closed = λ k a n.
      ap (λ r. is_open_at r.state n) (done_on (commands.on k commands.close) st a)
      ∙ closed_open st sound k n;
  advanced = λ k f a n.
      let d = done_on (commands.on k (commands.advance f)) st a in
      ap (λ z. is_open_at z n)
      (ap (λ r. r.state) d
      ∙ advance_done _ st (moved_to_fork k f st) (ap (λ r. r.answer) (sym d) ∙ a))
      ∙ advanced_open st sound k f n;
}

pub inner_streams_end_too : InnerStreamsEndToo
inner_streams_end_too f cs = search (rules, inner_streams_end, run_sound, first_sound)
