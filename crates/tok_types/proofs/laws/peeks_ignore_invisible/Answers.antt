use Rattle.std.specs.Prelude.{codes}
use Rattle.tok_buffer.specs.Reads.{any_text}
use Rattle.tok_buffer.proofs.View.Readings.{of_ident, of_keyword, of_lifetime, of_literal, of_punct}
use Rattle.tok_buffer.proofs.View.Readings.{of_word}
use Rattle.tok_types.proofs.Views.{finds, finds-end}
use Rattle.tok_types.specs.Texts.{accept_as_ident}
use Rattle.tok_types.proofs.laws.peeks_ignore_invisible.Goals as goal

pub returns-clause-idents : goal.returns-clause-idents
returns-clause-idents c = finds (of_word accept_as_ident)

pub returns-clause-any_idents : goal.returns-clause-any_idents
returns-clause-any_idents c = finds of_ident

pub returns-clause-lifetimes : goal.returns-clause-lifetimes
returns-clause-lifetimes c = finds (of_lifetime any_text)

pub returns-clause-literals : goal.returns-clause-literals
returns-clause-literals c = finds of_literal

pub returns-clause-puncts : goal.returns-clause-puncts
returns-clause-puncts c = finds of_punct

pub returns-clause-underscores : goal.returns-clause-underscores
returns-clause-underscores c = finds (of_keyword (codes "_"))

pub returns-clause-ends : goal.returns-clause-ends
returns-clause-ends c = finds-end
