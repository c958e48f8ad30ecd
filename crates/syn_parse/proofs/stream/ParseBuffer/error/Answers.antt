use Rattle.syn_parse.proofs.Told.{message_told}
use Rattle.syn_parse.proofs.stream.ParseBuffer.error.Goals as goal

pub returns-clause-says : goal.returns-clause-says
returns-clause-says g c = message_told _ c.args.self.now c.fault.result c.fault.ensures.words
