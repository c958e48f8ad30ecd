use Rattle.syn_derive.proofs.Grammar.NestedMetas.{parses_meta_seq}
use Rattle.syn_derive.proofs.laws.arguments_follow_grammar.Goals as goal

pub returns : goal.returns
returns c = λ tokens scope result filled k. parses_meta_seq tokens scope result (k filled)
