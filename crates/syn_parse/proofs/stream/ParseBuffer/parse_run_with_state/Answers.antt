use Rattle.std.proofs.Common.{arith, rules, ◌∙◌, ap}
use Rattle.std.proofs.lemmas.Grind.{common_steps}
use Rattle.tok_buffer.specs.Between.{between}
use Rattle.tok_buffer.specs.Cursors.{place_of}
use Rattle.syn_parse.proofs.Runs.{at-end, ended, none-passed, one-passed, run-ends}
use Rattle.syn_parse.proofs.stream.ParseBuffer.parse_run_with_state.Goals as goal
use Rattle.syn_parse.proofs.stream.ParseBuffer.parse_run_with_state.Goals.{in_default}
use Rattle.syn_parse.proofs.stream.ParseBuffer.parse_run_with_state.Goals.{in-Some+in_default-skip_tree}

pub loop-next-init : goal.loop-next-init
loop-next-init g c = grind (arith, common_steps, none-passed)

pub loop-next-smaller : goal.loop-next-smaller
loop-next-smaller g c =
    (one-passed g.R.Run.passes c.args.self.now.place c.args.run (place_of c.loop-next.rest)
    c.loop-next.state (place_of c.in-Some-skip_tree.after) c.in-Some.next c.loop-next.invariant
    (search rules) (search rules)).1

pub loop-next-preserved : goal.loop-next-preserved
loop-next-preserved g c = grind (arith, common_steps, one-passed)

pub returns-clause-takes : goal.returns-clause-takes
returns-clause-takes g c =
    let here = c.args.self.now in
    let q = place_of c.loop-next.rest in
    let copied = (c.in_ok-tokens.ensures {u = tt}).trees
    ∙ ap (λ p. between p q) c.cursor-start.ensures in
    elim c.match-pass.branch [
      | in-Some+in_default-skip_tree w ↦
          run-ends g.R.Run.passes here c.move_to.new.self c.args.run c.loop-next.state
          c.in_ok-tokens.tokens q c.loop-next.invariant
          (at-end g.R.Run.passes q c.loop-next.state (search rules)) copied c.move_to.ensures
      | in_default w ↦
          run-ends g.R.Run.passes here c.move_to.new.self c.args.run c.loop-next.state
          c.in_ok-tokens.tokens q c.loop-next.invariant
          (ended g.R.Run.passes q c.loop-next.state (search rules)) copied c.move_to.ensures
    ]
