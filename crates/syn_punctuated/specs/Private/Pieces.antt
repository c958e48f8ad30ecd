-- What one turn of a list parser gives.
use Rattle.std.specs.Prelude.{◌≡◌, List, [], ◌∷◌, ◌++◌, map, Result, Ok, Err, ◌⊎◌}
use Rattle.syn_parse.specs.Faults.{IsMemory}
use Rattle.syn_parse.specs.Reads.{Call}
use Rattle.syn_parse.specs.State.{State}
use Rattle.syn_parse.specs.declared.fault.Fault.{Fault}
use Rattle.syn_punctuated.specs.Lists.{values_of, separators_of}
use Rattle.syn_punctuated.specs.Turns.{Rule, ValueCall, Begins, IsTurn}
use Rattle.syn_punctuated.specs.declared.parse.Piece.{Piece}
use Rattle.syn_punctuated.specs.declared.parse.Piece.TheVariants.{End, Bare, Full}
use Rattle.syn_punctuated.specs.declared.punctuated.Punctuated.{Punctuated}

-- a list of these pairs and of a last value without a separator, or an allocation failure
abbrev pub Keeps : {T P : Type 0} → List (T × P) → T → Result (Punctuated T P) Fault → Type 0
Keeps pairs v (Ok list) =
    (values_of list ≡ map (λ pair. pair.0) pairs ++ v ∷ [])
    × (separators_of list ≡ map (λ pair. pair.1) pairs)
Keeps pairs v (Err e) = IsMemory e

module _ {T P F : Type 0} (rule : Rule) (reads : ValueCall F T) (separates : Call P) where
  -- nothing if the list ends; a value that no separator follows; a full turn; or the error of a
  -- value or a separator
  abbrev pub IsPiece : ValueCall F (Piece T P)
  IsPiece f s (Ok End) g t = rule.ends s.place × (g ≡ f) × (t ≡ s)
  IsPiece f s (Ok (Bare v)) g t =
      Begins rule reads separates f s (Ok v) g t × rule.stops t.place
  IsPiece f s (Ok (Full v p)) g t =
      (m : State)
      × IsTurn rule reads separates f s
      (record { value = v; between = m; parser = g; separator = p; after = t })
  IsPiece f s (Err e) g t =
      Begins rule reads separates f s (Err e) g t
      ⊎ ((v : T) × (m : State) × Begins rule reads separates f s (Ok v) g m
      × rule.goes_on m.place × separates m (Err e) t)
