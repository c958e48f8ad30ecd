-- A choice by lookahead.
use Rattle.std.specs.Prelude.{◌≡◌, Bool, true, false, Result, Ok, Err, is_some, codes}
use Rattle.tok_buffer.specs.Reads.{read_keyword}
use Rattle.syn_parse.specs.Faults.{IsMemory, Refuses}
use Rattle.syn_parse.specs.Reads.{Call}
use Rattle.syn_parse.specs.State.{State}
use Rattle.syn_parse.specs.Takes.{Taking, gives, refuses, where_ahead}
use Rattle.syn_parse.specs.TokenNames.{Fn, Struct, sees}
use Rattle.syn_parse.specs.ErrorWords.{refused_at}
use Rattle.syn_parse.specs.declared.fault.Fault.{Fault}
use Rattle.example_callers.specs.declared.streams.Kind.{Kind}
use Rattle.example_callers.specs.declared.streams.Kind.TheVariants.{Function, Structure}

-- the kind by whether `fn` is next and whether `struct` is; an error that names both, or an
-- allocation failure
abbrev pub IsChosen : (is_fn is_struct : Bool) → State → Result Kind Fault → Type 0
IsChosen true is_struct s (Ok kind) = kind ≡ Function
IsChosen true is_struct s (Err f) = ⊥
IsChosen false true s (Ok kind) = kind ≡ Structure
IsChosen false true s (Err f) = IsMemory f
IsChosen false false s (Ok kind) = ⊥
IsChosen false false s (Err f) = Refuses (refused_at s (codes "expected `fn` or `struct`")) f

-- the stream stays
abbrev pub ChoosesKind : Call Kind
ChoosesKind s result t =
    let is_fn = is_some (read_keyword (codes "fn") s.place) in
    let is_struct = is_some (read_keyword (codes "struct") s.place) in
    IsChosen is_fn is_struct s result × (t ≡ s)

-- the kind by the next keyword, which is left
abbrev pub take_kind : Taking Kind
take_kind =
    where_ahead (sees Fn) (gives Function)
    (where_ahead (sees Struct) (gives Structure) (refuses (codes "expected `fn` or `struct`")))
