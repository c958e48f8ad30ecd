-- The text of commands, a line each.
use Rattle.std.specs.Prelude.{ℕ, ◌+◌, ◌==◌, nat_le, ◌&&◌, not, Bool, true, false, if◌then◌else◌, bytes_eq}
use Rattle.std.specs.Prelude.{List, [], ◌∷◌, length, Option, Some, None, is_none, codes}
use Rattle.std.specs.List.{slice_split, filter, filter_map, position}
use Rattle.std.specs.Option.{option_map, option_and_then}
use Rattle.std.specs.Str.{all_ascii_digits}
use Rattle.std.specs.Str.Parse.{digits_value}
use Rattle.tok_lexical.specs.declared.delimiter.Delimiter.{Delimiter}
use Rattle.tok_lexical.specs.declared.delimiter.Delimiter.TheVariants as delimiters
use Rattle.tok_lexical.specs.Ascii.{space}
use Rattle.tok_lexical.specs.Delimiters.{opening}
use Rattle.tok_types.specs.Texts.{keywords, number_in, punctuations}
use Rattle.syn_replay.specs.Commands as commands
use Rattle.syn_replay.specs.Commands.{Command, StreamRead, on, read, peek, peek2, peek3, parse}
use Rattle.syn_replay.specs.Commands.{optional, empty, enter, lookahead, fork, advance, discard}
use Rattle.syn_replay.specs.Commands.{close, stream_span, cursor_span, previous_span, next_tree}
use Rattle.syn_replay.specs.Commands.{next_group}
use Rattle.syn_replay.specs.Turns.{ListRule, terminated, separated}
use Rattle.syn_replay.specs.Kinds as looks
use Rattle.syn_replay.specs.Kinds.{Kind, ident, ident_any, lifetime, lifetime_any, literal, punct}
use Rattle.syn_replay.specs.Kinds.{underscore, keyword, punctuation, Look, paren, brace, bracket}
use Rattle.syn_replay.specs.Kinds.{the_end, invisible_group, group_tree, any_tree}

-- the list is empty
abbrev pub is_empty : {A : Type 0} → List A → Bool
is_empty [] = true
is_empty (x ∷ xs) = false

-- the parts between spaces
abbrev pub words : List ℕ → List (List ℕ)
words line = filter (λ word. not (is_empty word)) (slice_split (λ b. b == space) line)

-- one to nine ASCII digits
abbrev pub is_number : List ℕ → Bool
is_number word = not (is_empty word) && (nat_le (length word) 9 && all_ascii_digits word)

-- the number that a word is
abbrev pub number : List ℕ → Option ℕ
number word = if is_number word then Some (digits_value 10 word) else None

-- a keyword or a punctuation, by its text
abbrev pub token : List ℕ → Option Kind
token word =
    elim (number_in keywords word) [
      | Some k ↦ Some (keyword k)
      | None ↦ option_map punctuation (number_in punctuations word)
    ]

-- the value of a name in a table, or else another value
abbrev pub by_name : {A : Type 0} → List (List ℕ × A) → (otherwise : A) → List ℕ → A
by_name [] otherwise word = otherwise
by_name (row ∷ rows) otherwise word =
    if bytes_eq word row.0 then row.1 else by_name rows otherwise word

-- the kinds that have a name
abbrev pub kind_names : List (List ℕ × Option Kind)
kind_names =
    (codes "Ident", Some ident) ∷ (codes "IdentAny", Some ident_any)
    ∷ (codes "Lifetime", Some lifetime) ∷ (codes "LifetimeAny", Some lifetime_any)
    ∷ (codes "Literal", Some literal) ∷ (codes "Punct", Some punct)
    ∷ (codes "_", Some underscore) ∷ []

-- the kind that a word names
abbrev pub kind : List ℕ → Option Kind
kind word = by_name kind_names (token word) word

-- the looks that are no kinds
abbrev pub look_names : List (List ℕ × Option Look)
look_names =
    (codes "Paren", Some paren) ∷ (codes "Brace", Some brace) ∷ (codes "Bracket", Some bracket)
    ∷ (codes "End", Some the_end) ∷ (codes "Group", Some invisible_group)
    ∷ (codes "GroupTree", Some group_tree) ∷ (codes "Tree", Some any_tree) ∷ []

-- the look that a word names
abbrev pub look : List ℕ → Option Look
look word = by_name look_names (option_map looks.kind (kind word)) word

-- the looks of all words, in order
abbrev pub all_looks : List (List ℕ) → Option (List Look)
all_looks [] = Some []
all_looks (word ∷ rest) =
    option_and_then (λ l. option_map (λ ls. l ∷ ls) (all_looks rest)) (look word)

-- the delimiter that a word is
abbrev pub delimiter : List ℕ → Option Delimiter
delimiter =
    by_name
    ((codes "(", Some delimiters.Parenthesis) ∷ (codes "{", Some delimiters.Brace)
    ∷ (codes "[", Some delimiters.Bracket) ∷ (opening delimiters.None, Some delimiters.None) ∷ [])
    None

-- a separator, by its text
abbrev pub separator : List ℕ → Option (List ℕ)
separator =
    by_name
    ((codes ",", Some (codes ",")) ∷ (codes ";", Some (codes ";")) ∷ (codes "+", Some (codes "+"))
    ∷ (codes "::", Some (codes "::")) ∷ [])
    None

-- a kind of value and a separator
abbrev pub list : List (List ℕ) → Option (Kind × List ℕ)
list (value ∷ word ∷ []) =
    option_and_then (λ k. option_map (λ s. (k, s)) (separator word)) (kind value)
list ws = None

-- the one word that is there
abbrev pub only_word : List (List ℕ) → Option (List ℕ)
only_word (word ∷ []) = Some word
only_word ws = None

-- a command that takes nothing more
abbrev pub alone : Command → List (List ℕ) → Option Command
alone command rest = if is_empty rest then Some command else None

-- a read of a stream
abbrev pub reads : ℕ → StreamRead → Command
reads n r = on n (read r)

-- a command that takes one word more, read so
abbrev pub with_word : {A : Type 0} → (List ℕ → Option A) → (A → Command) → List (List ℕ)
    → Option Command
with_word reading command rest = option_map command (option_and_then reading (only_word rest))

-- a list by this rule
abbrev pub with_list : ListRule → ℕ → List (List ℕ) → Option Command
with_list rule n rest = option_map (λ l. reads n (commands.list rule l.0 l.1)) (list rest)

-- the command of this name on a stream, with the words that it takes
abbrev pub command_named : List ℕ → ℕ → List (List ℕ) → Option Command
command_named name n rest =
    by_name
    ((codes "peek", with_word look (λ l. reads n (peek l)) rest)
    ∷ (codes "peek2", with_word look (λ l. reads n (peek2 l)) rest)
    ∷ (codes "peek3", with_word look (λ l. reads n (peek3 l)) rest)
    ∷ (codes "parse", with_word kind (λ k. reads n (parse k)) rest)
    ∷ (codes "optional", with_word kind (λ k. reads n (optional k)) rest)
    ∷ (codes "empty", alone (reads n empty) rest)
    ∷ (codes "enter", with_word delimiter (λ d. on n (enter (Some d))) rest)
    ∷ (codes "any", alone (on n (enter None)) rest)
    ∷ (codes "terminated", with_list terminated n rest)
    ∷ (codes "separated", with_list separated n rest)
    ∷ (codes "fork", alone (on n fork) rest)
    ∷ (codes "advance", with_word number (λ f. on n (advance f)) rest)
    ∷ (codes "discard", alone (on n discard) rest)
    ∷ (codes "close", alone (on n close) rest)
    ∷ (codes "span", alone (reads n stream_span) rest)
    ∷ (codes "cursor", alone (reads n cursor_span) rest)
    ∷ (codes "previous", alone (reads n previous_span) rest)
    ∷ (codes "tree", alone (reads n next_tree) rest)
    ∷ (codes "rest", alone (reads n commands.rest) rest)
    ∷ (codes "group", alone (reads n next_group) rest) ∷ [])
    None name

-- a lookahead takes any number of words
abbrev pub command_on : List ℕ → ℕ → List (List ℕ) → Option Command
command_on name n rest =
    if bytes_eq name (codes "lookahead")
    then option_map (λ ls. reads n (lookahead ls)) (all_looks rest) else command_named name n rest

-- a name, a stream's number, and what the command takes
abbrev pub command : List (List ℕ) → Option Command
command (name ∷ stream ∷ rest) = option_and_then (λ n. command_on name n rest) (number stream)
command ws = None

-- a line with words that are no command
abbrev pub is_unreadable : List ℕ → Bool
is_unreadable line = not (is_empty (words line)) && is_none (command (words line))

-- the number of the first line that can't be read, from 1
abbrev pub unreadable_line : List (List ℕ) → Option ℕ
unreadable_line lines = option_map (λ i. i + 1) (position is_unreadable lines)

-- the commands of lines, those without words left out
abbrev pub commands_in : List (List ℕ) → List Command
commands_in lines = filter_map (λ line. command (words line)) lines
