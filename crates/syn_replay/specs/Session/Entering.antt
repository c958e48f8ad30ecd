-- The group that is entered, and the text of the error if there is none.
use Rattle.std.specs.Prelude.{ℕ, List, Option, Some, None, codes}
use Rattle.tok_lexical.specs.declared.delimiter.Delimiter.{Delimiter}
use Rattle.tok_buffer.specs.Entry.{Entered, enter, enter_any}
use Rattle.tok_buffer.specs.Place.{Place}
use Rattle.syn_parse.specs.ErrorWords.{delimiter_words}

-- the group of the delimiter that is wanted, or any
abbrev pub entered_by : Option Delimiter → Place → Option Entered
entered_by None p = enter_any p
entered_by (Some d) p = enter d p

-- the text of the error if no such group is next
abbrev pub entering_words : Option Delimiter → List ℕ
entering_words None = codes "expected any delimiter"
entering_words (Some d) = delimiter_words d
