use Rattle.std.proofs.Common.{inl, inr}
use Rattle.std.specs.Str.{chars}
use Rattle.syn_parse.proofs.GroupTakes.{at-states}
use Rattle.syn_parse.proofs.WholeTakes.{memory_keeps, whole_keeps}
use Rattle.syn_parse.specs.Sources.{end_of_tokens}
use Rattle.syn_parse.specs.Takings.{Keeps}
use Rattle.example_config.specs.Reading.{settings}
use Rattle.example_config.proofs.Outcomes.{reads_text}
use Rattle.example_config.proofs.read.parse_config.Goals as goal

pub returns : goal.returns
returns c =
    let source = c.args.number in
    elim c.parse_text.ensures [
      | inl read ↦
          let end = end_of_tokens source read.0 in
          reads_text source (chars c.args.text.now) read.0 _ read.1 (elim read.2 [
            | inl h ↦ whole_keeps settings read.0 end h.0 h.1 _
                (at-states (Keeps settings) _ _ _ _ _ h.2.shows h.2.leaves h.2.met) h.3
            | inr m ↦ memory_keeps settings read.0 end _ m
          ])
      | inr refused ↦ inr refused
    ]
