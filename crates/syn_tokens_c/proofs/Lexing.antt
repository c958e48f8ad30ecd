-- What reading a text into entries returns is what the grammar says.
use Rattle.std.proofs.Common.{arith, ◌≡◌, ◌⊎◌, ℕ, List, Ok, Err, Some, subst}
use Rattle.std.specs.Prelude.{MatchOption, Option, Result}
use Rattle.std.specs.Str.{IsUtf8, chars}
use Rattle.tok_core.specs.Forest.{Forest}
use Rattle.tok_core.specs.declared.lexer.error.LexFault.{LexFault}
use Rattle.tok_core.specs.declared.lexer.error.LexFault.TheVariants.{Refused, Memory}
use Rattle.tok_entries.specs.Lexed.{Writes}
use Rattle.tok_entries.specs.declared.lexing.LexedEntries.{LexedEntries}
use Rattle.syn_tokens_c.specs.Opened.{follows, Hands, HandsNothing, HandsOver}
use Rattle.syn_tokens_c.specs.Outcomes.{all_of, forest_answer, lexed_answer}
use Rattle.syn_tokens_c.specs.declared.handle.Handle.{Handle}
use Rattle.syn_tokens_c.specs.declared.open.Opened.{Opened}
use Rattle.syn_tokens_c.specs.declared.rules.Rules.{Rules}

-- a text is read, and the answer handed over
pub handed : (Follows : Result Forest LexFault → Type 0) (lexed : Result LexedEntries LexFault)
    (o : Opened) (h : Handle) → Writes Follows lexed → HandsOver lexed_answer lexed o h
    → (outcome : Result Forest LexFault) × Follows outcome × HandsOver forest_answer outcome o h
handed Follows (Ok w) o h (f, p, (e, b)) is =
    (Ok f, p, subst (λ a. Hands a o h ⊎ HandsNothing 3 o h) (λ i. all_of (e i) (b i)) is)
handed Follows (Err (Refused e)) o h p is = (Err (Refused e), p, is)
handed Follows (Err Memory) o h p is = (Err Memory, p, is)

-- what came of a text that is UTF-8, by rules that there are
abbrev IsOpened : List ℕ → Opened → Handle → Rules → Type 0
IsOpened text o h r =
    (IsUtf8 text × ((outcome : Result Forest LexFault) × follows r (chars text) outcome
    × HandsOver forest_answer outcome o h))
    ⊎ (¬ (IsUtf8 text) × HandsNothing 2 o h)

pub opened : (found : Option Rules) (r : Rules) (text read : List ℕ)
    (lexed : Result LexedEntries LexFault) (o : Opened) (h : Handle) → found ≡ Some r
    → read ≡ text → IsUtf8 text → Writes (follows r (chars read)) lexed
    → HandsOver lexed_answer lexed o h
    → MatchOption found (HandsNothing 5 o h) (IsOpened text o h)
opened found r text read lexed o h e same utf8 w is = grind (arith, handed)
