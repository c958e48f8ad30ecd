-- A field `name: Kind`: the trees it is parsed from, and the error of the part that is missing.
use Rattle.std.specs.Prelude.{◌≡◌, List, [], ◌∷◌, codes}
use Rattle.std.specs.Prelude.{Option, Some, None, Ok, Err}
use Rattle.tok_core.specs.Forest.{Tree, leaf}
use Rattle.tok_leaves.specs.Leaves.{ident_of}
use Rattle.tok_buffer.specs.Place.{Place}
use Rattle.tok_buffer.specs.Reads.{read_then, read_ident}
use Rattle.tok_buffer.specs.Reads.{read_punctuation, read_word}
use Rattle.tok_buffer.specs.declared.error.Message.{Message}
use Rattle.tok_types.specs.Texts.{accept_as_ident}
use Rattle.syn_parse.specs.Faults.{IsMemory}
use Rattle.syn_parse.specs.Reads.{Call, TreesRead, Reads}
use Rattle.syn_parse.specs.State.{State, moved}
use Rattle.syn_parse.specs.ErrorWords.{ident_words}
use Rattle.syn_parse.specs.ErrorWords.{punctuation_message, refused_at}
use Rattle.example_callers.specs.declared.streams.Field.{Field}

-- an identifier that is no reserved word
abbrev pub read_name : Place → TreesRead
read_name = read_word accept_as_ident

-- a `:`, alone or joint
abbrev pub read_colon : Place → TreesRead
read_colon = read_punctuation (codes ":")

-- `name: Kind`
abbrev pub read_field : Place → TreesRead
read_field p = read_then (read_then (read_name p) read_colon) read_name

-- the name and the kind in the three trees of a field
abbrev pub IsField : Field → List Tree → Type 0
IsField field ts =
    (colon : Tree) × (ts ≡ leaf (ident_of field.name) ∷ colon ∷ leaf (ident_of field.kind) ∷ [])

-- the error if no name is next
abbrev pub name_message : State → Message
name_message s = refused_at s (ident_words (read_ident s.place))

-- the error if no field is next: that of the first of its three parts that is missing
abbrev pub field_message : State → Message
field_message s =
    elim (read_name s.place) [
      | None ↦ name_message s
      | Some name ↦ elim (read_colon name.1) [
        | None ↦ punctuation_message (codes ":") (moved name.1 s)
        | Some colon ↦ name_message (moved colon.1 s)
      ]
    ]

-- a field; the stream's place after an error is not stated
abbrev pub FieldParses : Call Field
FieldParses s (Ok field) t = Reads IsField (read_field s.place) (field_message s) s (Ok field) t
FieldParses s (Err f) t = Reads IsField (read_field s.place) (field_message s) s (Err f) s

-- a field if one is next, and else none; the stream moves with a field alone
abbrev pub OptionalFieldParses : Call (Option Field)
OptionalFieldParses s (Ok (Some field)) t = FieldParses s (Ok field) t
OptionalFieldParses s (Ok None) t = (read_field s.place ≡ None) × (t ≡ s)
OptionalFieldParses s (Err f) t = IsMemory f × (t ≡ s)
