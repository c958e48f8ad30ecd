pub use Rattle.tok_lexical.specs.Delimiters as DelimiterTexts
pub use Rattle.tok_lexical.specs.Editions
pub use Rattle.tok_lexical.specs.Errors as LexErrors
pub use Rattle.tok_lexical.specs.QuotedFaults
pub use Rattle.tok_lexical.specs.RawQuotes
pub use Rattle.tok_lexical.specs.Rules
pub use Rattle.tok_lexical.specs.Words
pub use Rattle.tok_leaves.specs.IdentFaults
pub use Rattle.tok_leaves.specs.IntegerTypes
pub use Rattle.tok_leaves.specs.Laws as LeafLaws
pub use Rattle.tok_leaves.specs.Leaves
pub use Rattle.tok_leaves.specs.Lifetimes
pub use Rattle.tok_leaves.specs.Literals
pub use Rattle.tok_leaves.specs.Quoting
pub use Rattle.tok_leaves.specs.Spans as Spans
pub use Rattle.tok_values.specs.CStrings
pub use Rattle.tok_values.specs.Escapes
pub use Rattle.tok_values.specs.Floats as FloatValues
pub use Rattle.tok_values.specs.Integers
pub use Rattle.tok_values.specs.Laws as ValueLaws
pub use Rattle.tok_values.specs.Numbers as NumberValues
pub use Rattle.tok_values.specs.RawStrings
pub use Rattle.tok_values.specs.Strings as StringValues
pub use Rattle.tok_values.specs.Suffixed
pub use Rattle.tok_values.specs.Suffixes
pub use Rattle.tok_values.specs.TypedNumbers
pub use Rattle.tok_values.specs.Values
pub use Rattle.tok_core.specs.Clear
pub use Rattle.tok_core.specs.Erase
pub use Rattle.tok_core.specs.Filled
pub use Rattle.tok_core.specs.Forest
pub use Rattle.tok_core.specs.Kinds as TreeKinds
pub use Rattle.tok_core.specs.Laws as TreeLaws
pub use Rattle.tok_core.specs.Lexical
pub use Rattle.tok_core.specs.Seen as TreeSeen
pub use Rattle.tok_core.specs.Spanless
pub use Rattle.tok_core.specs.Text
pub use Rattle.tok_core.specs.Weight
pub use Rattle.tok_pruned.specs.Pruned
pub use Rattle.tok_entries.specs.Blames
pub use Rattle.tok_entries.specs.Denotes
pub use Rattle.tok_entries.specs.Entries
pub use Rattle.tok_entries.specs.Refusals
pub use Rattle.tok_entries.specs.Texts as EntryTexts
pub use Rattle.tok_buffer.specs.Ahead
pub use Rattle.tok_buffer.specs.Between
pub use Rattle.tok_buffer.specs.Buffer
pub use Rattle.tok_buffer.specs.CompileErrors
pub use Rattle.tok_buffer.specs.Cursors
pub use Rattle.tok_buffer.specs.Descent
pub use Rattle.tok_buffer.specs.EachRead
pub use Rattle.tok_buffer.specs.Entry
pub use Rattle.tok_buffer.specs.Gives
pub use Rattle.tok_buffer.specs.InFront
pub use Rattle.tok_buffer.specs.Messages
pub use Rattle.tok_buffer.specs.Order
pub use Rattle.tok_buffer.specs.Place
pub use Rattle.tok_buffer.specs.Progress
pub use Rattle.tok_buffer.specs.Reached
pub use Rattle.tok_buffer.specs.Reads
pub use Rattle.tok_buffer.specs.Rest
pub use Rattle.tok_buffer.specs.SameView
pub use Rattle.tok_buffer.specs.Spans as CursorSpans
pub use Rattle.tok_buffer.specs.Trees
pub use Rattle.tok_buffer.specs.View
pub use Rattle.tok_carets.specs.Lines
pub use Rattle.tok_carets.specs.Shown
pub use Rattle.tok_types.specs.Delimiters
pub use Rattle.tok_types.specs.Laws as TokenLaws
pub use Rattle.tok_types.specs.Looks
pub use Rattle.tok_types.specs.Printed
pub use Rattle.tok_types.specs.Sees
pub use Rattle.tok_types.specs.Texts
pub use Rattle.tok_types.specs.Views as TokenViews
pub use Rattle.syn_parse.specs.After
pub use Rattle.syn_parse.specs.Faults
pub use Rattle.syn_parse.specs.Grouped
pub use Rattle.syn_parse.specs.Groups
pub use Rattle.syn_parse.specs.Inside
pub use Rattle.syn_parse.specs.Laws as StreamLaws
pub use Rattle.syn_parse.specs.Lighter
pub use Rattle.syn_parse.specs.Lookahead
pub use Rattle.syn_parse.specs.Loops
pub use Rattle.syn_parse.specs.Many
pub use Rattle.syn_parse.specs.Nested
pub use Rattle.syn_parse.specs.Optional
pub use Rattle.syn_parse.specs.Owned
pub use Rattle.syn_parse.specs.Parsers
pub use Rattle.syn_parse.specs.Parses
pub use Rattle.syn_parse.specs.Pauses
pub use Rattle.syn_parse.specs.Progress as ParseProgress
pub use Rattle.syn_parse.specs.Reads as ParseReads
pub use Rattle.syn_parse.specs.ErrorWords
pub use Rattle.syn_parse.specs.Runs
pub use Rattle.syn_parse.specs.Sequences
pub use Rattle.syn_parse.specs.Skips
pub use Rattle.syn_parse.specs.Sources
pub use Rattle.syn_parse.specs.State
pub use Rattle.syn_parse.specs.Steps
pub use Rattle.syn_parse.specs.Takes
pub use Rattle.syn_parse.specs.Takings
pub use Rattle.syn_parse.specs.TokenNames
pub use Rattle.syn_parse.specs.Tokens
pub use Rattle.syn_parse.specs.TreeTakes
pub use Rattle.syn_parse.specs.TreesAhead
pub use Rattle.syn_parse.specs.Views as ParseViews
pub use Rattle.syn_parse.specs.Weighing
pub use Rattle.syn_literals.specs.Kinds as LiteralKinds
pub use Rattle.syn_literals.specs.Signed as SignedValues
pub use Rattle.syn_literals.specs.TakeLiterals
pub use Rattle.syn_literals.specs.TextValues
pub use Rattle.syn_punctuated.specs.Adds
pub use Rattle.syn_punctuated.specs.Faults as ListFaults
pub use Rattle.syn_punctuated.specs.Hashed
pub use Rattle.syn_punctuated.specs.Lends
pub use Rattle.syn_punctuated.specs.Lists
pub use Rattle.syn_punctuated.specs.NestedLists
pub use Rattle.syn_punctuated.specs.PairLends
pub use Rattle.syn_punctuated.specs.Paired
pub use Rattle.syn_punctuated.specs.Pairs
pub use Rattle.syn_punctuated.specs.Printed as ListPrinted
pub use Rattle.syn_punctuated.specs.Progress as TurnProgress
pub use Rattle.syn_punctuated.specs.ReadBack
pub use Rattle.syn_punctuated.specs.Retained
pub use Rattle.syn_punctuated.specs.TakeLists
pub use Rattle.syn_punctuated.specs.Trees as ListTrees
pub use Rattle.syn_punctuated.specs.Turns as ListTurns
pub use Rattle.syn_punctuated.specs.Weighing as ListWeighing
pub use Rattle.syn_choices.specs.Attempts
pub use Rattle.syn_choices.specs.CallLoops
pub use Rattle.syn_choices.specs.Choices
pub use Rattle.syn_choices.specs.Peeks
pub use Rattle.syn_replay.specs.Agree
pub use Rattle.syn_replay.specs.Commands
pub use Rattle.syn_replay.specs.Forks
pub use Rattle.syn_replay.specs.Kinds
pub use Rattle.syn_replay.specs.Meanings
pub use Rattle.syn_replay.specs.Nesting
pub use Rattle.syn_replay.specs.ReportText
pub use Rattle.syn_replay.specs.Reports
pub use Rattle.syn_replay.specs.Session
pub use Rattle.syn_replay.specs.Transparent
pub use Rattle.syn_replay.specs.Turns
pub use Rattle.visible_parse.specs.Visible
pub use Rattle.visible_replay.specs.Decide
