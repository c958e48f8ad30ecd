use Rattle.std.proofs.Common.{rules}
use Rattle.tok_buffer.specs.Cursors.{place_of}
use Rattle.syn_parse.proofs.TreeTakes.{rest_told}
use Rattle.syn_parse.proofs.stream.ParseBuffer.rest.Goals as goal

pub returns-clause-takes : goal.returns-clause-takes
returns-clause-takes c =
    rest_told c.args.self.now c.in_ok-stream.stream (place_of c.scope_end.result)
    c.move_to.new.self (search rules) (search rules) c.move_to.ensures
