use Rattle.std.specs.Fn.{FnOnceReturnsAtMut}
use Rattle.syn_parse.proofs.GroupTakes.{at-states}
use Rattle.syn_parse.proofs.WholeTakes.{parser_keeps}
use Rattle.syn_parse.specs.Takings.{Keeps}
use Rattle.syn_derive.specs.Arguments.{end_of}
use Rattle.syn_derive.specs.NestedMetas.{meta_seq}
use Rattle.syn_derive.proofs.meta.MetaList.nested.Goals as goal

pub returns : goal.returns
returns c =
    parser_keeps meta_seq c.args.self.now.tokens (end_of c.args.self.now)
    (FnOnceReturnsAtMut _ _)
    (λ s t r h. at-states (Keeps meta_seq) _ _ s t r h.shows h.leaves h.met) _
    c.parse_args_with.ensures
