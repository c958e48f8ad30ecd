use Rattle.std.proofs.Common.{◌≡◌, ◌++◌, drop, string_bytes}
use Rattle.syn_parse.specs.Lookahead.{more_words, named_ends, texts_of}
use Rattle.syn_parse.proofs.lookahead.push_more.Given as goal

abbrev pub invariant-loop-display : goal.invariant-loop-display
invariant-loop-display l =
    string_bytes l.text
    ++ more_words (named_ends l.closing (texts_of (drop l.display-index l.missed)))
    ≡ string_bytes l.fn.text ++ more_words (named_ends l.closing (texts_of l.missed))
