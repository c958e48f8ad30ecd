use Rattle.std.proofs.Common.{◌≡◌, ◌∙◌, ◌-◌, ◌<◌, ap, sym, refl, true, false, ℕ, List}
use Rattle.std.proofs.Common.{get_or, length, length-set, set, arith}
use Rattle.std.proofs.lemmas.Bool.{cond-true, cond-false}
use Rattle.std.specs.Prelude.{cond}
use Rattle.syn_replay.specs.Session.Links.{AreListed}
use Rattle.syn_replay.specs.Session.State.{stream_ended, is_open_at, spent}
use Rattle.syn_replay.specs.Session.Stream.{state_of_list}
use Rattle.syn_replay.specs.Session.Streams.{state_of}
use Rattle.syn_replay.specs.declared.session.stream.Stream.{Stream}
use Rattle.syn_replay.specs.declared.session.streams.Streams.{Streams}
use Rattle.syn_replay.proofs.Walk.Changes.{open_within}
use Rattle.syn_replay.proofs.Walk.Contents.{contents_within}
use Rattle.syn_replay.proofs.Walk.Ends.{EndsOn, ends_first, ends_last, ends_length, ends_list}
use Rattle.syn_replay.proofs.Walk.Ends.{ends_next, own_contents}
use Rattle.syn_replay.proofs.Walk.Links.{above_listed, listed_at, listed_set}
use Rattle.syn_replay.proofs.Walk.Streams.{changed_there, length-state, open_there}
use Rattle.syn_replay.proofs.session.streams.Streams.+end.Goals as goal
use Rattle.syn_replay.proofs.session.streams.Streams.+end.Goals.{then-index, else-index}
use Rattle.std.proofs.lemmas.Grind.{common_steps}
use Rattle.std.proofs.Common.{rules}

module _ (s : Streams) (k : ℕ) (o : is_open_at (state_of s) k ≡ true) where
  abbrev xs : List Stream
  xs = s.list.items

  within : k < length xs
  within = let l = open_within (state_of s) k o in omega (arith, l, length-state xs)

  module _ (x : Stream) (e : x ≡ get_or xs k x) where
    abbrev ys : List Stream
    ys = set xs k (record x { is_open = false })

    ys_listed : AreListed ys
    ys_listed = listed_set xs k x (record x { is_open = false }) s.listed e within refl refl refl

    begins : EndsOn (state_of s) k (state_of_list ys) 0
    begins =
        rw (changed_there xs k x (record x { is_open = false }) spent e within refl)
        (ends_first (state_of s) k (above_listed xs s.listed) o)

  module _ (zs : List Stream) (index : ℕ)
      (on : EndsOn (state_of s) k (state_of_list zs) index) where
    as_many : length zs ≡ length xs
    as_many = grind (arith, common_steps, ends_length, length-state)

    -- the list of contents stays
    lists : AreListed zs → (z : Stream) → z ≡ get_or zs k z
        → z.contents.items ≡ own_contents (state_of s) k
    lists listed z e = grind (arith, common_steps, listed_at, within, as_many, ends_list)

  -- a turn of the loop over the contents that there were at first
  module _ (x : Stream) (e : x ≡ get_or xs k x) (w : Stream) (f : w ≡ get_or (ys x e) k w) where
    count : length w.contents.items ≡ length (own_contents (state_of s) k)
    count = ap length (lists (ys x e) 0 (begins x e) (ys_listed x e) w f)

    module _ (now : Streams) (index : ℕ) (on : EndsOn (state_of s) k (state_of now) index)
        (z : Stream) (g : z ≡ get_or now.list.items k z) where
      lists_now : z.contents.items ≡ own_contents (state_of s) k
      lists_now = lists now.list.items index on now.listed z g

      module _ (h : index < length w.contents.items) (i : ℕ)
          (is : i ≡ get_or z.contents.items index i) where
        in_turn : (index < length (own_contents (state_of s) k))
            × (i ≡ get_or (own_contents (state_of s) k) index i)
            × (k < i) × (i < length now.list.items)
        in_turn =
            grind (
              arith,
              common_steps,
              own_contents,
              count,
              lists_now,
              contents_within,
              as_many,
              length-state,
            )

pub invariant_of-self : goal.invariant_of-self
invariant_of-self t c = search (rules, length-set, ys_listed)

pub index-requires : goal.index-requires
index-requires t c = grind (arith, common_steps, within, c.requires)

pub loop-index-init : goal.loop-index-init
loop-index-init t c =
    begins c.args.self.now c.args.k c.requires c.index_mut.result.now c.index_mut.ensures.value

pub index-requires-in-loop-index : goal.index-requires-in-loop-index
index-requires-in-loop-index t c = grind (arith, common_steps, as_many, within, c.requires)

pub index-i-requires : goal.index-i-requires
index-i-requires t c =
    grind (
      arith,
      common_steps,
      count,
      lists_now,
      c.requires,
      c.index_mut.ensures.value,
      c.index.ensures,
    )

pub index-requires-in-loop-index-2 : goal.index-requires-in-loop-index-2
index-requires-in-loop-index-2 t c =
    let w = c.index.result.now in
    let inner =
    in_turn c.args.self.now c.args.k c.requires c.index_mut.result.now
    c.index_mut.ensures.value w c.index.ensures c.loop-index.self c.loop-index.index
    c.loop-index.invariant c.index-in-loop-index.result.now c.index-in-loop-index.ensures
    (omega (arith, w.contents.ok.0, c.loop-index-test.true, c.len-index-end.ensures))
    c.index-i.result.now c.index-i.ensures in
    omega (arith, c.loop-index.self.list.ok.0, inner.3)

pub end-requires : goal.end-requires
end-requires t c =
    let s = c.args.self.now in
    let zs = c.loop-index.self.list.items in
    let i = c.index-i.result.now in
    let w = c.index.result.now in
    let inner =
    in_turn s c.args.k c.requires c.index_mut.result.now c.index_mut.ensures.value w
    c.index.ensures c.loop-index.self c.loop-index.index c.loop-index.invariant
    c.index-in-loop-index.result.now c.index-in-loop-index.ensures
    (omega (arith, w.contents.ok.0, c.loop-index-test.true, c.len-index-end.ensures)) i
    c.index-i.ensures in
    let len = as_many s c.args.k c.requires zs c.loop-index.index c.loop-index.invariant in
    let fall : length zs - i < t = omega (arith, c.decreases, inner.2, inner.3, len) in (
      fall,
      open_there zs i c.index-in-loop-index-2.result.now c.index-in-loop-index-2.ensures inner.3
          ∙ c.if-index.true,
    )

pub loop-index-preserved : goal.loop-index-preserved
loop-index-preserved t c =
    let s = c.args.self.now in
    let k = c.args.k in
    let x = c.index_mut.result.now in
    let e = c.index_mut.ensures.value in
    let now = c.loop-index.self in
    let st = state_of now in
    let index = c.loop-index.index in
    let on = c.loop-index.invariant in
    let i = c.index-i.result.now in
    let w = c.index.result.now in
    let f = c.index.ensures in
    let z = c.index-in-loop-index.result.now in
    let g = c.index-in-loop-index.ensures in
    let u = c.index-in-loop-index-2.result.now in
    let h : index < length w.contents.items =
    omega (arith, w.contents.ok.0, c.loop-index-test.true, c.len-index-end.ensures) in
    let (inside, at, low, within) =
    in_turn s k c.requires x e w f now index on z g h i c.index-i.ensures in
    let is_open = open_there now.list.items i u c.index-in-loop-index-2.ensures within in
    let then : state_of c.if-index.self ≡ cond (is_open_at st i) (stream_ended i st) st =
    elim c.if-index.branch [
      | then-index w ↦ ap state_of w.self-is ∙ w.end.ensures
          ∙ sym (cond-true _ _ _ (is_open ∙ w.if-index.true))
      | else-index w ↦ ap state_of w.self-is ∙ sym (cond-false _ _ _ (is_open ∙ w.if-index.false))
    ] in
    ends_next (state_of s) k st index on i inside at (state_of c.if-index.self) then

pub returns : goal.returns
returns t c =
    grind (
      arith,
      common_steps,
      count,
      ends_last,
      c.requires,
      c.index_mut.ensures.value,
      c.index.ensures,
    )
