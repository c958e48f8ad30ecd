use Rattle.std.proofs.Common.{◌≡◌, ◌∙◌, ℕ, ◌<◌, ap, refl, sym, length, Some, None, arith}
use Rattle.std.specs.Prelude.{cond, Option}
use Rattle.syn_parse.specs.Pauses.{paused_state}
use Rattle.syn_parse.specs.State as parse
use Rattle.syn_replay.specs.Commands as commands
use Rattle.syn_replay.specs.Session.State.{content_of, kind_at, moved_as, parse_state, printed_position}
use Rattle.syn_replay.specs.Session.State.{stream_ended, with_stream}
use Rattle.syn_replay.specs.Session.Step.{is_content, stream_position}
use Rattle.syn_replay.specs.Session.Stream.{stream_kind, stream_of}
use Rattle.syn_replay.specs.Session.Streams.{state_of}
use Rattle.syn_replay.specs.declared.report.Answer.TheVariants as answer
use Rattle.syn_replay.specs.declared.report.Misuse.{Misuse}
use Rattle.syn_replay.specs.declared.report.Misuse.TheVariants.{NoContent}
use Rattle.syn_replay.specs.declared.session.stream.Stream.{Stream}
use Rattle.syn_replay.specs.declared.session.streams.Streams.{Streams}
use Rattle.syn_replay.proofs.Walk.Changes.{open_within}
use Rattle.syn_replay.proofs.Walk.Closing.{closes_into, open_moved}
use Rattle.syn_replay.proofs.Walk.Lines.{line_done}
use Rattle.syn_replay.proofs.Walk.Links.{above_listed}
use Rattle.syn_replay.proofs.Walk.Positions.{position_ended, position_open, position_other}
use Rattle.syn_replay.proofs.Walk.Streams.{length-state, stream_there}
use Rattle.syn_replay.specs.Session.Promises.{IsOpen}
use Rattle.syn_replay.proofs.session.streams.Streams.close.Goals as goal
use Rattle.std.proofs.lemmas.Grind.{common_steps}

-- an open content has a parent with a lower number
module _ (s : Streams) (n p : ℕ) (x : Stream) (here : IsOpen (state_of s) n (stream_of x))
    (is : x.parent ≡ Some p) where
  kind : kind_at (state_of s) n ≡ content_of p
  kind = ap (λ z. z.kind) here.0 ∙ ap (stream_kind x.is_fork) is

  parent_there : p < length (state_of s)
  parent_there = grind (arith, above_listed, kind, open_within)

pub index-requires : goal.index-requires
index-requires c = grind (arith, parent_there, length-state, c.args.self.now, c.args.n)

pub move_to-requires : goal.move_to-requires
move_to-requires c = grind (arith, common_steps, parent_there)

pub end-requires : goal.end-requires
end-requires c = grind (arith, common_steps, open_moved, c.move_to.ensures)

pub returns : goal.returns
returns c =
    let s = c.args.self.now in
    let xs = s.list.items in
    let st = state_of s in
    let n = c.args.n in
    let p = c.in-Some.parent in
    let x = c.in-Ok.stream.now in
    let here = c.in-Ok.ensures {u = tt} in
    let of_parent = kind s n p x here c.in-Some.is in
    let content = c.gathered-content.result in
    let within = parent_there s n p x here c.in-Some.is in
    let there =
    stream_there xs p c.index.result.now c.index.ensures (omega (arith, within, length-state xs)) in
    line_done n st commands.close refl (stream_of x) here
    (ap (λ k. cond {A = Option Misuse} (is_content k) None (Some NoContent)) of_parent)
    answer.Done c.line-line.result (state_of c.end.new.self) c.line-line.ensures.answer (refl, tt)
    (c.end.ensures ∙ ap (stream_ended n) c.move_to.ensures
    ∙ closes_into st n p content (paused_state c.pause.result) of_parent c.gathered-content.ensures
    (c.pause.ensures ∙ c.close.ensures.closes
    ∙ ap (parse.closed content) (c.resume-input.ensures ∙ ap parse_state (sym there))))
    (c.line-line.ensures.position ∙ ap (λ z. printed_position z.place) (sym here.0)
    ∙ sym (ap (λ z. stream_position z n) (c.end.ensures ∙ ap (stream_ended n) c.move_to.ensures)
    ∙ position_ended (with_stream st p (moved_as (paused_state c.pause.result))) n n
    ∙ position_other st n p (moved_as (paused_state c.pause.result))
    (λ q. omega (arith, q, above_listed xs s.listed n p of_parent))
    ∙ position_open st n (open_within st n (ap (λ z. z.is_open) here.0 ∙ here.1))))
