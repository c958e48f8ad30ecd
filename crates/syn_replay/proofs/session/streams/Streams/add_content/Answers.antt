use Rattle.std.proofs.Common.{◌≡◌, ◌∙◌, ◌<◌, ◌++◌, [], ◌∷◌, ap, sym, subst, refl, length}
use Rattle.std.proofs.Common.{length-append, length-set, set, arith, Ok, Err}
use Rattle.std.proofs.Math.Seq.{map-set_same}
use Rattle.std.proofs.lemmas.List.{map-append}
use Rattle.std.specs.Prelude.{OnErr, Result}
use Rattle.syn_parse.specs.Pauses.{paused_state}
use Rattle.syn_replay.specs.Session.Links.{AreListed}
use Rattle.syn_replay.specs.Session.State.{with_stream, moved_as}
use Rattle.syn_replay.specs.Session.Stream.{stream_of, state_of_list}
use Rattle.syn_replay.specs.declared.session.stream.Stream.{Stream}
use Rattle.syn_replay.proofs.Walk.Links.{listed_with_content, listed_set}
use Rattle.syn_replay.proofs.Walk.Streams.{changed_there, length-state}
use Rattle.syn_replay.proofs.session.streams.Streams.add_content.Goals as goal
use Rattle.std.proofs.lemmas.Grind.{common_steps}

on_err : {T E : Type 0} (r : Result T E) (P : Type 0) → P → OnErr r P
on_err (Ok x) P p = tt
on_err (Err e) P p = p

pub invariant_of-self-in-Break-branch-2 : goal.invariant_of-self-in-Break-branch-2
invariant_of-self-in-Break-branch-2 c =
    let s = c.args.self.now in
    let xs = s.list.items in
    let ys = c.reserve.new.self.items in
    let same : ys ≡ xs = c.reserve.ensures.items in
    let len = ap length same in
    let x = c.index_mut-stream.result.now in
    let y : Stream = record x { contents = c.push.new.self } in
    record {
      rooted = omega (arith, length-set ys c.args.n y, len, s.rooted);
      listed =
          listed_set ys c.args.n x y (subst AreListed (sym same) s.listed)
          c.index_mut-stream.ensures.value (omega (arith, len, c.requires, length-state xs)) refl
          refl c.in_err-push.ensures.items;
    }

pub returns-in_err-push-clause-err : goal.returns-in_err-push-clause-err
returns-in_err-push-clause-err c =
    grind (arith, common_steps, on_err, map-set_same, c.reserve.ensures.items)

pub invariant_of-self-2 : goal.invariant_of-self-2
invariant_of-self-2 c =
    let s = c.args.self.now in
    let xs = s.list.items in
    let n = c.args.n in
    let ys = c.reserve.new.self.items in
    let same : ys ≡ xs = c.reserve.ensures.items in
    let len = ap length same in
    let x = c.index_mut-stream.result.now in
    let z : Stream = record x { paused = c.args.parent; contents = c.push.new.self } in
    let number : c.len-number.result ≡ length ys =
    omega (arith, c.len-number.ensures, s.list.ok.0, len) in
    record {
      rooted =
          omega (
            arith,
            ap length c.push_reserved.ensures.items,
            length-append (set ys n z) (c.new.result ∷ []),
          );
      listed =
          subst AreListed (sym c.push_reserved.ensures.items)
          (listed_with_content ys n x z c.new.result (subst AreListed (sym same) s.listed)
          c.index_mut-stream.ensures.value (omega (arith, len, c.requires, length-state xs)) refl
          refl
          ((c.in_ok-push.ensures {u = tt}).items
          ∙ ap (λ m. x.contents.items ++ m ∷ []) number) c.new.ensures.parent
          c.new.ensures.contents);
    }

pub returns-clause-ok : goal.returns-clause-ok
returns-clause-ok c =
    let xs = c.args.self.now.list.items in
    let n = c.args.n in
    let ys = c.reserve.new.self.items in
    let same : ys ≡ xs = c.reserve.ensures.items in
    let x = c.index_mut-stream.result.now in
    let z : Stream = record x { paused = c.args.parent; contents = c.push.new.self } in
    let f = moved_as (paused_state c.args.parent) in
    let within : n < length ys = omega (arith, ap length same, c.requires, length-state xs) in
    ap state_of_list c.push_reserved.ensures.items
    ∙ map-append stream_of (set ys n z) (c.new.result ∷ [])
    ∙ ap (λ u. u ++ stream_of c.new.result ∷ [])
    (changed_there ys n x z f c.index_mut-stream.ensures.value within refl
    ∙ ap (λ u. with_stream (state_of_list u) n f) same)
    ∙ ap (λ u. with_stream (state_of_list xs) n f ++ u ∷ []) c.new.ensures.stream
