use Rattle.std.specs.Fn.{FnOnceReturnsAtMut}
use Rattle.tok_leaves.specs.Spans.{call_site}
use Rattle.syn_parse.proofs.GroupTakes.{at-states}
use Rattle.syn_parse.proofs.WholeTakes.{parser_keeps}
use Rattle.syn_parse.specs.Takings.{Keeps}
use Rattle.syn_derive.specs.NestedMetas.{meta_seq}
use Rattle.syn_derive.proofs.nested.NestedMeta.parse_meta_list.Goals as goal

pub returns : goal.returns
returns c =
    parser_keeps meta_seq c.args.tokens call_site (FnOnceReturnsAtMut _ _)
    (λ s t r h. at-states (Keeps meta_seq) _ _ s t r h.shows h.leaves h.met) _
    c.parse2.ensures
