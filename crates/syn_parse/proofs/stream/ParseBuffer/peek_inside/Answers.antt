use Rattle.std.proofs.Common.{arith, rules}
use Rattle.std.proofs.lemmas.Grind.{common_steps}
use Rattle.tok_leaves.specs.Spans.{whole_span}
use Rattle.tok_buffer.specs.Cursors.{place_of}
use Rattle.tok_buffer.specs.Entry.{Entered}
use Rattle.syn_parse.proofs.Inside.{none_inside, seen_inside}
use Rattle.syn_parse.proofs.stream.ParseBuffer.peek_inside.Goals as goal

pub returns-in-Some-clause-sees : goal.returns-in-Some-clause-sees
returns-in-Some-clause-sees g c =
    let e : Entered = record {
      delimiter = c.args.delimiter;
      span = whole_span c.in-Some.field-0-1;
      content = place_of c.in-Some.content;
      after = place_of c.in-Some.field-0-2;
    } in
    seen_inside g.T.Token.sees c.args.delimiter c.args.self.now.place e c.peek.result c.requires
    (search rules) c.peek.ensures.sees

pub returns-in-None-clause-sees : goal.returns-in-None-clause-sees
returns-in-None-clause-sees g c = grind (arith, common_steps, none_inside)
