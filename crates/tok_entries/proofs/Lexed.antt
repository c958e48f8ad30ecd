-- What reading a text into entries returns is what the grammar says.
use Rattle.std.proofs.Common.{ℕ, List, Ok, Err}
use Rattle.std.specs.Prelude.{Result, IfErr, IfOk}
use Rattle.tok_lexical.specs.declared.rule.Mode.{Mode}
use Rattle.tok_core.specs.Forest.{Forest}
use Rattle.tok_core.specs.Lexical.Errors.{OnRefused}
use Rattle.tok_core.specs.Lexical.Outcome.{FollowsFrom}
use Rattle.tok_core.specs.Lexical.Reading.{IsRefusedFrom, ReadsFrom}
use Rattle.tok_core.specs.declared.lexer.error.LexFault.{LexFault}
use Rattle.tok_core.proofs.Lexical.Laws.{follows}
use Rattle.tok_entries.specs.Lexed.{AreOf, Writes}
use Rattle.tok_entries.specs.declared.lexing.LexedEntries.{LexedEntries}

pub writes : (begin : ℕ) (mode : Mode) (text : List ℕ) (lexed : Result LexedEntries LexFault)
    → IfOk lexed (λ w. (f : Forest) × ReadsFrom begin mode 0 text f × AreOf f w)
    → IfErr lexed (λ fault. OnRefused fault (IsRefusedFrom begin mode 0 text))
    → Writes (FollowsFrom begin mode 0 text) lexed
writes begin mode text (Ok w) (f, r, are) q = (f, follows begin mode 0 text (Ok f) r q, are)
writes begin mode text (Err fault) r q = follows begin mode 0 text (Err fault) r q

-- what follows of the answer
pub writes_so : (P Q : Result Forest LexFault → Type 0) → ((answer : Result Forest LexFault) →
    P answer → Q answer) → (lexed : Result LexedEntries LexFault) → Writes P lexed → Writes Q lexed
writes_so P Q so (Ok w) (f, h, are) = (f, so (Ok f) h, are)
writes_so P Q so (Err fault) h = so (Err fault) h
