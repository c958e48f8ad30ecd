use Rattle.std.proofs.Common.{◌≡◌, ◌+◌, arith, ◌++◌, [], ◌∙◌, true, not, List, ℕ, Err, Ok, ap, refl, sym, subst, suc}
use Rattle.std.proofs.Common.{append-nil, take, rules}
use Rattle.std.proofs.KnownBytes.{Consumes-kept, Consumes-trans}
use Rattle.std.specs.Bool.{if◌then◌else◌}
use Rattle.std.specs.Result.{is_ok}
use Rattle.std.specs.Io.KnownBytes.{Consumes}
use Rattle.replay_program.specs.Failures.{GoesOn, bytes_moved}
use Rattle.replay_program.proofs.Failing.{Counted, one_more}
use Rattle.replay_program.proofs.input.read_input.Goals as goal
use Rattle.replay_program.proofs.input.read_input.Goals.{in-Ok+else-is_err, in-Err}

pub loop-i-preserved : goal.loop-i-preserved
loop-i-preserved g c =
    let old = g.S.Source.remaining c.args.input.now in
    let mid = g.S.Source.remaining c.loop-i.input in
    let new = g.S.Source.remaining c.read_some.new.self in
    let before : Consumes old mid c.loop-i.bytes.items = c.loop-i.invariant.0 in
    let consumed : Consumes old new c.match-read_some.bytes.items =
    elim c.match-read_some.branch [
      | in-Ok+else-is_err w ↦
          let is_done : is_ok w.extend_from_slice.result ≡ true =
          w.is_err.ensures.negation ∙ ap not w.if-is_err.false in
          let grown : c.loop-i.bytes.items ++ take w.in-Ok.n c.read_some.new.chunk
          ≡ c.match-read_some.bytes.items =
          sym (ap (λ v. v.items) w.bytes-is ∙ w.extend_from_slice.ensures.items
          ∙ ap (λ b. if b then (c.loop-i.bytes.items ++ take w.in-Ok.n c.read_some.new.chunk)
          else c.loop-i.bytes.items) is_done) in
          subst (λ (xs : List ℕ). Consumes old new xs) grown
          (Consumes-trans old mid new c.loop-i.bytes.items
          (take w.in-Ok.n c.read_some.new.chunk) before w.in-Ok.ensures.bytes.0)
      | in-Err w ↦ subst (λ (xs : List ℕ). Consumes old new xs) (ap (λ v. v.items) (sym w.bytes-is))
          (Consumes-kept old mid new c.loop-i.bytes.items before w.in-Err.ensures.bytes)
    ] in
    let begun = c.loop-i.invariant.1 in
    let more : Counted g.S.Source.reads c.args.input.now (c.loop-i._i + 1)
    c.match-read_some.bytes.items c.read_some.new.self =
    elim c.match-read_some.branch [
      | in-Ok+else-is_err w ↦
          let is_done : is_ok w.extend_from_slice.result ≡ true =
          w.is_err.ensures.negation ∙ ap not w.if-is_err.false in
          let grown : c.match-read_some.bytes.items
          ≡ c.loop-i.bytes.items ++ take w.in-Ok.n c.read_some.new.chunk =
          ap (λ v. v.items) w.bytes-is ∙ w.extend_from_slice.ensures.items
          ∙ ap (λ b. if b then (c.loop-i.bytes.items ++ take w.in-Ok.n c.read_some.new.chunk)
          else c.loop-i.bytes.items) is_done in
          one_more g.S.Source.reads c.args.input.now c.loop-i._i c.loop-i.bytes.items
          c.loop-i.input (Ok w.in-Ok.n) (take w.in-Ok.n c.read_some.new.chunk)
          c.read_some.new.self begun w.in-Ok.ensures.call (search rules)
          c.match-read_some.bytes.items grown
      | in-Err w ↦
          one_more g.S.Source.reads c.args.input.now c.loop-i._i c.loop-i.bytes.items
          c.loop-i.input (Err w.in-Err.error) [] c.read_some.new.self begun w.in-Err.ensures.call
          (search rules) c.match-read_some.bytes.items
          (ap (λ v. v.items) w.bytes-is ∙ sym (append-nil c.loop-i.bytes.items))
    ] in (consumed, more)

pub returns-then-is_err-clause-part : goal.returns-then-is_err-clause-part
returns-then-is_err-clause-part g c =
    λ _.
    let (n, is, calls) = c.loop-i.invariant.1 in
    let goes : GoesOn c.read_some.result = search rules in
    let more = bytes_moved c.read_some.result c.read_some.new.chunk in (
      suc n,
      c.loop-i.bytes.items ++ more,
      omega (arith, is, c.loop-i-test.true),
      (
        c.loop-i.input,
        c.read_some.result,
        c.loop-i.bytes.items,
        more,
        calls,
        c.read_some.ensures.call,
        goes,
        refl,
      ),
    )
