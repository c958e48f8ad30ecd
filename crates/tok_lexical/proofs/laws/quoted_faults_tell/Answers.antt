use Rattle.tok_lexical.specs.Strings.{IsChar, IsByte}
use Rattle.tok_lexical.specs.declared.contents.Contents.TheVariants.{Text, Bytes}
use Rattle.tok_lexical.proofs.EscapedChars.{free_byte}
use Rattle.tok_lexical.proofs.QuotedFaults.{char_once, char_tells, fault_once, free_char, raw_once}
use Rattle.tok_lexical.proofs.QuotedFaults.{raw_tells, string_once, string_tells}
use Rattle.tok_lexical.proofs.laws.quoted_faults_tell.Goals as goal

pub returns-clause-strings : goal.returns-clause-strings
returns-clause-strings c = string_tells

pub returns-clause-characters : goal.returns-clause-characters
returns-clause-characters c = char_tells IsChar free_char Text

pub returns-clause-bytes : goal.returns-clause-bytes
returns-clause-bytes c = char_tells IsByte free_byte Bytes

pub returns-clause-raws : goal.returns-clause-raws
returns-clause-raws c = raw_tells

pub returns-clause-one_of_strings : goal.returns-clause-one_of_strings
returns-clause-one_of_strings c = string_once

pub returns-clause-one_of_characters : goal.returns-clause-one_of_characters
returns-clause-one_of_characters c = char_once IsChar free_char Text

pub returns-clause-one_of_bytes : goal.returns-clause-one_of_bytes
returns-clause-one_of_bytes c = char_once IsByte free_byte Bytes

pub returns-clause-one_of_raws : goal.returns-clause-one_of_raws
returns-clause-one_of_raws c = raw_once

pub returns-clause-one_fault : goal.returns-clause-one_fault
returns-clause-one_fault c = fault_once
