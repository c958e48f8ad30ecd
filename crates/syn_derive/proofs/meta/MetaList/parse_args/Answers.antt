use Rattle.std.specs.Fn.{FnOnceReturnsAtMut}
use Rattle.syn_parse.proofs.GroupTakes.{at-states}
use Rattle.syn_parse.proofs.WholeTakes.{parser_keeps}
use Rattle.syn_parse.specs.Takings.{Keeps}
use Rattle.syn_derive.specs.Arguments.{end_of}
use Rattle.syn_derive.proofs.meta.MetaList.parse_args.Goals as goal

pub returns : goal.returns
returns g c =
    parser_keeps g.T.Parse.takes c.args.self.now.tokens (end_of c.args.self.now)
    (FnOnceReturnsAtMut _ _)
    (λ s t r h. at-states (Keeps g.T.Parse.takes) _ _ s t r h.shows h.leaves h.met) _
    c.parse_args_with.ensures
