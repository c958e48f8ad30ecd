-- Parses go on: one that returns a value stays in the scope, and leaves less.
use Rattle.std.specs.Prelude.{ℕ, ◌<◌, Ok, codes}
use Rattle.tok_buffer.specs.Progress.{StaysIn, remaining}
use Rattle.tok_types.specs.Printed.{first_span}
use Rattle.tok_types.specs.Texts.{keyword_text, punctuation_word}
use Rattle.tok_types.specs.declared.keyword.Keyword.{Keyword}
use Rattle.tok_types.specs.declared.punctuation.Punctuation.{Punctuation}
use Rattle.tok_types.specs.declared.underscore.Underscore.{Underscore}
use Rattle.syn_parse.specs.Parses.{IdentParses, AnyIdentParses, LifetimeParses, AnyLifetimeParses}
use Rattle.syn_parse.specs.Parses.{LiteralParses, PunctParses, TreeParses, GroupParses}
use Rattle.syn_parse.specs.Parses.{WordParses, PunctuationParses}
use Rattle.syn_parse.specs.Reads.{Call}
use Rattle.syn_parse.specs.State.{State}

-- a parse of one kind that returns a value stays in the scope, and leaves less
pub record ParsesOn {T : Type 0} (parses : Call T) : Type 0 where
  pub stays : (s : State) (v : T) (t : State) → parses s (Ok v) t → StaysIn s.place t.place
  pub lowers :
      (s : State) (v : T) (t : State) → parses s (Ok v) t → remaining t.place < remaining s.place

-- the parse of keyword `k`
abbrev pub KeywordParses : (k : ℕ) → Call (Keyword k)
KeywordParses k = WordParses (λ w. w.span) (keyword_text k)

-- the parse of a punctuation by its type
abbrev pub PunctuationTypeParses : (k n : ℕ) → Call (Punctuation k n)
PunctuationTypeParses k n =
    PunctuationParses (λ p. p.spans) (punctuation_word k n) (punctuation_word k n)

-- the parse of `_`
abbrev pub UnderscoreParses : Call Underscore
UnderscoreParses = WordParses (λ u. first_span u.spans) (codes "_")

-- the parses of all kinds stay in the scope, and leave less
pub record ParsesGoOn : Type 0 where
  pub idents : ParsesOn IdentParses
  pub any_idents : ParsesOn AnyIdentParses
  pub lifetimes : ParsesOn LifetimeParses
  pub any_lifetimes : ParsesOn AnyLifetimeParses
  pub literals : ParsesOn LiteralParses
  pub puncts : ParsesOn PunctParses
  pub trees : ParsesOn TreeParses
  pub groups : ParsesOn GroupParses
  pub keywords : (k : ℕ) → ParsesOn (KeywordParses k)
  pub punctuations : (k n : ℕ) → ParsesOn (PunctuationTypeParses k n)
  pub underscores : ParsesOn UnderscoreParses
