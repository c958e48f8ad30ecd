use Rattle.std.proofs.Common.{◌≡◌, ◌∙◌, ◌-◌, ◌<◌, ap, sym, ℕ, List, get_or, length, arith}
use Rattle.syn_replay.specs.Session.State.{parse_state}
use Rattle.syn_replay.specs.Session.Streams.{state_of}
use Rattle.syn_replay.specs.declared.session.stream.Stream.{Stream}
use Rattle.syn_replay.specs.declared.session.streams.Streams.{Streams}
use Rattle.syn_replay.proofs.Walk.Left.{gathers_first, gathers_last, gathers_open, gathers_spent}
use Rattle.syn_replay.proofs.Walk.Left.{gathers_within, listed}
use Rattle.syn_replay.proofs.Walk.Links.{above_listed, listed_at}
use Rattle.syn_replay.proofs.Walk.Streams.{length-state, open_there, stream_there}
use Rattle.syn_replay.proofs.session.streams.Streams.+gathered.Goals as goal
use Rattle.syn_replay.proofs.session.streams.Streams.+gathered.Goals.{then-index, else-index}
use Rattle.std.proofs.lemmas.Grind.{common_steps}

module _ (s : Streams) (n : ℕ) (x : Stream) (e : x ≡ get_or s.list.items n x)
    (h : n < length (state_of s)) where
  there : n < length s.list.items
  there = omega (arith, h, length-state s.list.items)

  abbrev numbers : List ℕ
  numbers = listed (state_of s) (above_listed s.list.items s.listed) n

  lists : x.contents.items ≡ numbers
  lists = (listed_at s.list.items n x s.listed e there).listed

  -- a turn of the loop over the contents
  module _ (index i : ℕ) (less : index < length x.contents.items)
      (is : i ≡ get_or x.contents.items index i) where
    in_turn : (index < length numbers) × (i ≡ get_or numbers index i) × (n < i)
        × (i < length s.list.items)
    in_turn = grind (arith, lists, gathers_within, above_listed, length-state)

pub loop-index-init : goal.loop-index-init
loop-index-init t c =
    let s = c.args.self.now in
    let n = c.args.n in
    let x = c.index-stream.result.now in
    let e = c.index-stream.ensures in
    gathers_first (state_of s) (above_listed s.list.items s.listed) n c.resume-input.result
    (c.resume-input.ensures
    ∙ ap parse_state (sym (stream_there s.list.items n x e (there s n x e c.requires))))

pub index-requires : goal.index-requires
index-requires t c =
    let s = c.args.self.now in
    let x = c.index-stream.result.now in
    let inner =
    in_turn s c.args.n x c.index-stream.ensures c.requires c.loop-index.index
    c.index-i.result.now
    (omega (arith, x.contents.ok.0, c.loop-index-test.true, c.len-index-end.ensures))
    c.index-i.ensures in
    omega (arith, s.list.ok.0, inner.3)

pub gathered-requires : goal.gathered-requires
gathered-requires t c =
    let s = c.args.self.now in
    let xs = s.list.items in
    let x = c.index-stream.result.now in
    let i = c.index-i.result.now in
    let inner =
    in_turn s c.args.n x c.index-stream.ensures c.requires c.loop-index.index i
    (omega (arith, x.contents.ok.0, c.loop-index-test.true, c.len-index-end.ensures))
    c.index-i.ensures in
    let fall : length xs - i < t = omega (arith, c.decreases, inner.2, inner.3) in
    (fall, omega (arith, inner.3, length-state xs))

pub loop-index-preserved : goal.loop-index-preserved
loop-index-preserved t c =
    let s = c.args.self.now in
    let st = state_of s in
    let above = above_listed s.list.items s.listed in
    let n = c.args.n in
    let x = c.index-stream.result.now in
    let e = c.index-stream.ensures in
    let i = c.index-i.result.now in
    let index = c.loop-index.index in
    let less : index < length x.contents.items =
    omega (arith, x.contents.ok.0, c.loop-index-test.true, c.len-index-end.ensures) in
    let (h, is, low, within) = in_turn s n x e c.requires index i less c.index-i.ensures in
    let is_open = open_there s.list.items i c.index.result.now c.index.ensures within in
    elim c.if-index.branch [
      | then-index w ↦
          gathers_open st above n c.loop-index.input index c.loop-index.invariant i h is
          w.gathered.result c.if-index.input (is_open ∙ w.if-index.true) w.gathered.ensures
          (w.input-is ∙ w.close.ensures.closes)
      | else-index w ↦
          rw w.input-is
          (gathers_spent st above n c.loop-index.input index c.loop-index.invariant i h is
          (is_open ∙ w.if-index.false))
    ]

pub returns : goal.returns
returns t c = grind (arith, common_steps, lists, gathers_last, above_listed, c.requires)
