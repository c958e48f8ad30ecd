-- Commands: what each asks, what a read answers, and what the program's stand for.
use Rattle.std.specs.Prelude.{ℕ, ◌+◌, Bool, true, false, if◌then◌else◌, List, [], ◌∷◌, ◌++◌, map, Option, Some, None, codes}
use Rattle.std.specs.List.{list_all}
use Rattle.tok_lexical.specs.declared.delimiter.Delimiter.{Delimiter}
use Rattle.tok_leaves.specs.declared.span.Span.{Span}
use Rattle.tok_core.specs.Forest.{Tree, forest}
use Rattle.tok_buffer.specs.Place.{Place, empty_place, is_at_end}
use Rattle.tok_buffer.specs.Reads as reads
use Rattle.tok_buffer.specs.Messages.{at_stream}
use Rattle.tok_buffer.specs.declared.error.Message.{Message}
use Rattle.tok_buffer.specs.Messages as messages
use Rattle.tok_buffer.specs.Rest as rests
use Rattle.tok_buffer.specs.Spans as spans
use Rattle.syn_parse.specs.Lookahead.{look_message}
use Rattle.syn_parse.specs.Parses.{read_group}
use Rattle.syn_parse.specs.State.{fresh}
use Rattle.syn_replay.specs.Kinds as kinds
use Rattle.syn_replay.specs.Kinds.{Kind, Look, ignores_invisible, peek_kind, kind_missing}
use Rattle.syn_replay.specs.Meanings.{kind_of, look_of, separator_of}
use Rattle.syn_replay.specs.Reports as reports
use Rattle.syn_replay.specs.Reports.{Answer, truth, absent, found, trees}
use Rattle.syn_replay.specs.Reports.{refused}
use Rattle.syn_replay.specs.Turns.{ListOutcome, ListRule, read_all, refused_at, pieces_of, turns, turns_left}
use Rattle.syn_replay.specs.Turns.{terminated, separated}
use Rattle.syn_replay.specs.declared.command.Command as program
use Rattle.syn_replay.specs.declared.command.Command.TheVariants as command

-- an action on one stream alone
pub data StreamRead : Type 0 where
  peek : Look → StreamRead
  peek2 : Look → StreamRead
  peek3 : Look → StreamRead
  parse : Kind → StreamRead
  optional : Kind → StreamRead
  empty : StreamRead
  list : ListRule → Kind → (separator : List ℕ) → StreamRead
  lookahead : List Look → StreamRead
  stream_span : StreamRead
  cursor_span : StreamRead
  previous_span : StreamRead
  next_tree : StreamRead
  rest : StreamRead
  next_group : StreamRead

-- an action on a stream: a read, or one that concerns other streams too
pub data Action : Type 0 where
  read : StreamRead → Action
  enter : (wanted : Option Delimiter) → Action
  fork : Action
  advance : (fork : ℕ) → Action
  discard : Action
  close : Action

-- a command: the number of a stream, and an action
pub record Command : Type 0 where
  pub stream : ℕ
  pub action : Action

-- the command with this action on stream n
abbrev pub on : ℕ → Action → Command
on n a = record { stream = n; action = a }

-- the trees read, and the place after them; or an error, which leaves the place
abbrev pub answered_by : (List Tree → Answer) → Message → Place → Option (List Tree × Place)
    → Answer × Place
answered_by answers words p None = (refused words, p)
answered_by answers words p (Some r) = (answers r.0, r.1)

-- the answer to a parse of this kind, and the place after it
abbrev pub parsed : Kind → Place → Span → Answer × Place
parsed kind p scope =
    answered_by (λ ts. reports.read (pieces_of ts)) (kind_missing kind (fresh p scope)) p
    (kinds.read kind p)

-- the answer to a read of whole trees, and the place after it
abbrev pub trees_taken : List ℕ → Place → Span → Option (List Tree × Place) → Answer × Place
trees_taken words p scope r = answered_by (λ ts. trees (forest ts)) (at_stream p scope words) p r

-- the answer to a list command, and the place after it
abbrev pub listed_to : ListOutcome → Answer × Place
listed_to (read_all parts p) = (reports.list parts, p)
listed_to (refused_at r p) = (refused r, p)

-- the first look that is true, or the displays of all
abbrev pub looked : ℕ → List Look → List (List ℕ) → Place → Span → Answer
looked n [] missed p scope =
    refused (look_message (record { place = p; scope_span = scope; missed = missed }))
looked n (l ∷ ls) missed p scope =
    if kinds.peek l p then found n
    else looked (n + 1) ls (missed ++ kinds.display l ∷ []) p scope

-- the answer to a read at a place of a scope with this span, and the place after it
abbrev pub read_answer : StreamRead → Place → Span → Answer × Place
read_answer (peek l) p scope = (truth (kinds.peek l p), p)
read_answer (peek2 l) p scope = (truth (kinds.peek2 l p), p)
read_answer (peek3 l) p scope = (truth (kinds.peek3 l p), p)
read_answer (parse kind) p scope = parsed kind p scope
read_answer (optional kind) p scope =
    if peek_kind kind p then parsed kind p scope else (absent, p)
read_answer empty p scope = (truth (is_at_end p), p)
read_answer (list rule kind separator) p scope =
    listed_to (turns kind separator scope rule (turns_left p) p)
read_answer (lookahead ls) p scope = (looked 0 ls [] p scope, p)
read_answer stream_span p scope = (reports.at (messages.stream_span p scope), p)
read_answer cursor_span p scope = (reports.at (spans.current_span p), p)
read_answer previous_span p scope = (reports.at (spans.previous_span p), p)
read_answer next_tree p scope =
    trees_taken (codes "expected token tree") p scope (reads.read_tree p)
read_answer rest p scope = (trees (rests.rest p), empty_place)
read_answer next_group p scope =
    trees_taken (codes "expected group token") p scope (read_group p)

-- none of these looks can find an invisible group
abbrev pub all_ignore_invisible : List Look → Bool
all_ignore_invisible looks = list_all ignores_invisible looks

-- a read that shows no span and no whole tree, and looks for no invisible group
abbrev pub is_transparent_read : StreamRead → Bool
is_transparent_read (peek l) = ignores_invisible l
is_transparent_read (peek2 l) = ignores_invisible l
is_transparent_read (peek3 l) = ignores_invisible l
is_transparent_read (lookahead ls) = all_ignore_invisible ls
is_transparent_read (parse kind) = true
is_transparent_read (optional kind) = true
is_transparent_read empty = true
is_transparent_read (list rule kind separator) = true
is_transparent_read r = false

-- the command that a value of the program is
abbrev pub command_of : program.Command → Command
command_of (command.Peek n l) = on n (read (peek (look_of l)))
command_of (command.Peek2 n l) = on n (read (peek2 (look_of l)))
command_of (command.Peek3 n l) = on n (read (peek3 (look_of l)))
command_of (command.Parse n k) = on n (read (parse (kind_of k)))
command_of (command.Optional n k) = on n (read (optional (kind_of k)))
command_of (command.Empty n) = on n (read empty)
command_of (command.Enter n d) = on n (enter (Some d))
command_of (command.EnterAny n) = on n (enter None)
command_of (command.Terminated n k s) = on n (read (list terminated (kind_of k) (separator_of s)))
command_of (command.Separated n k s) = on n (read (list separated (kind_of k) (separator_of s)))
command_of (command.Lookahead n ls) = on n (read (lookahead (map look_of ls.items)))
command_of (command.Fork n) = on n fork
command_of (command.Advance n f) = on n (advance f)
command_of (command.Discard n) = on n discard
command_of (command.Close n) = on n close
command_of (command.StreamSpan n) = on n (read stream_span)
command_of (command.CursorSpan n) = on n (read cursor_span)
command_of (command.PreviousSpan n) = on n (read previous_span)
command_of (command.Tree n) = on n (read next_tree)
command_of (command.Rest n) = on n (read rest)
command_of (command.GroupTree n) = on n (read next_group)
