use Rattle.example_fields.proofs.Reading.{tabulated}
use Rattle.example_fields.proofs.read.example_fields_parse.Goals as goal

pub returns : goal.returns
returns c =
    tabulated c.args.entries.now c.args.texts.now c.answer.result c.write.result
    c.args.values.now c.write.new.values c.args.messages.now c.write.new.messages
    c.args.bytes.now c.write.new.bytes c.answer.ensures c.write.ensures.writes
