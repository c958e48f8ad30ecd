use Rattle.std.proofs.Common.{◌≡◌, drop}
use Rattle.syn_parse.specs.Lookahead.{named_ends, texts_of}
use Rattle.syn_parse.proofs.lookahead.next_name.Given as goal

abbrev pub invariant-loop-index : goal.invariant-loop-index
invariant-loop-index l =
    named_ends l.closing (texts_of (drop l.index l.missed))
    ≡ named_ends l.closing (texts_of l.missed)
