-- What is added by the calls that take many values or pairs.
use Rattle.std.specs.Prelude.{◌≡◌, ◌⊎◌, ◌↔◌, ◌+◌, ◌-◌, ◌<◌, List, [], ◌∷◌, ◌++◌, map, length}
use Rattle.std.specs.Prelude.{Option, None, Some, Result, Err, MatchResult}
use Rattle.std.specs.List.{All}
use Rattle.std.specs.declared.alloc.AllocError.{AllocError}
use Rattle.std.specs.Iterator.{Yields, Drains}
use Rattle.syn_punctuated.specs.declared.pair.Pair.{Pair}
use Rattle.syn_punctuated.specs.declared.pair.Pair.TheVariants.{Punctuated, End}
use Rattle.syn_punctuated.specs.Pairs.{value_of_pair}
use Rattle.syn_punctuated.specs.declared.extends.PairsFault.{PairsFault}
use Rattle.syn_punctuated.specs.declared.extends.PairsFault.TheVariants.{AfterEnd, Memory}
use Rattle.syn_punctuated.specs.declared.punctuated.Punctuated.{Punctuated as List'}
use Rattle.syn_punctuated.specs.Lists.{values_of, separators_of, AddsDefault, IsUnchanged}

-- new is old with the values xs after it, and a default separator before each that was added
-- after a bare value; unless xs is empty it then ends in a bare value
pub record AddsValues {X Y : Type 0} (IsDefault : Y → Type 0) (old : List' X Y) (xs : List X)
    (new : List' X Y) : Type 0 where
  pub values : values_of new ≡ values_of old ++ xs
  pub defaults : List Y
  pub are_defaults : All IsDefault defaults
  pub separators : separators_of new ≡ separators_of old ++ defaults
  pub none : xs ≡ [] → defaults ≡ []
  pub bare : 0 < length xs → length (values_of new) ≡ length (separators_of new) + 1

module _ {X Y : Type 0} where
  -- no pair follows one without a separator
  abbrev pub IsPairs : List (Pair X Y) → Type 0
  IsPairs [] = Unit {0}
  IsPairs (Punctuated x y ∷ ps) = IsPairs ps
  IsPairs (End x ∷ ps) = ps ≡ []

  -- the last pair, and it alone, has no separator
  abbrev pub EndsBare : List (Pair X Y) → Type 0
  EndsBare [] = ⊥
  EndsBare (Punctuated x y ∷ ps) = EndsBare ps
  EndsBare (End x ∷ ps) = ps ≡ []

  -- the separators of pairs
  abbrev pub separators_in : List (Pair X Y) → List Y
  separators_in [] = []
  separators_in (Punctuated x y ∷ ps) = y ∷ separators_in ps
  separators_in (End x ∷ ps) = separators_in ps

-- new is old with the pairs after it, none of which follows one without a separator
pub record AddsPairs {X Y : Type 0} (old : List' X Y) (pairs : List (Pair X Y))
    (new : List' X Y) : Type 0 where
  pub values : values_of new ≡ values_of old ++ map value_of_pair pairs
  pub separators : separators_of new ≡ separators_of old ++ separators_in pairs
  pub are_pairs : IsPairs pairs

-- steps are the calls of an iterator's `next`
module _ {I A : Type 0} (steps : I → Option A → I → Type 0) where
  -- one more item comes
  abbrev pub GoesOn : I → Type 0
  GoesOn it = (next : A) × (rest : I) × steps it (Some next) rest

  -- no item comes any more
  abbrev pub IsDone : I → Type 0
  IsDone it = (rest : I) × steps it None rest

-- the argument of a call becomes an iterator that yields an item
abbrev pub GivesAny : {U I A : Type 0} → (U → I → Type 0) → (I → Option A → I → Type 0) → U → Type 0
GivesAny {U} {I} {A} becomes steps items =
    (first : I) × (taken : List A) × (rest : I) × becomes items first
    × Yields steps first taken rest × GoesOn steps rest

-- the argument of a call becomes an iterator, whose steps are calls of `next`
module _ {U I X Y : Type 0} (becomes : U → I → Type 0) (steps : I → Option X → I → Type 0) where
  -- values that came of the iterator went after old, each as `push` adds it: all of them, or those
  -- before one that found no memory
  pub record ExtendsWithValues (IsDefault : Y → Type 0) (items : U) (old new : List' X Y)
      (result : Result (Unit {0}) AllocError) : Type 0 where
    pub first : I
    pub taken : List X
    pub rest : I
    pub starts : becomes items first
    pub yields : Yields steps first taken rest
    pub adds : AddsValues IsDefault old taken new
    pub ends : MatchResult result (λ _. IsDone steps rest) (λ _. GoesOn steps rest)

  -- new has the values that came of the iterator, with a default separator between each two
  abbrev pub MadeOfValues : (Y → Type 0) → U → List' X Y → Type 0
  MadeOfValues IsDefault items new =
      (it : I) × (xs : List X) × becomes items it × Drains steps it xs
      × (values_of new ≡ xs) × All IsDefault (separators_of new)
      × (length (separators_of new) ≡ length xs - 1)

module _ {U I X Y : Type 0} (becomes : U → I → Type 0)
    (steps : I → Option (Pair X Y) → I → Type 0) where
  -- the pairs taken are those before one at which a fault stopped: `AfterEnd` if and only if they
  -- end bare
  abbrev pub StopsAtPair : List (Pair X Y) → I → PairsFault → Type 0
  StopsAtPair taken rest fault = GoesOn steps rest × ((fault ≡ AfterEnd) ↔ EndsBare taken)

  -- pairs that came of the iterator went after old: all of them, or those before one that follows
  -- a bare value, or those before one that found no memory
  pub record ExtendsWithPairs (pairs : U) (old new : List' X Y)
      (result : Result (Unit {0}) PairsFault) : Type 0 where
    pub first : I
    pub taken : List (Pair X Y)
    pub rest : I
    pub starts : becomes pairs first
    pub yields : Yields steps first taken rest
    pub adds : AddsPairs old taken new
    pub ends : MatchResult result (λ _. IsDone steps rest) (StopsAtPair taken rest)

  -- pairs are appended after old with a default separator after its bare last value; if the
  -- allocation of that separator fails, old stays
  abbrev pub ExtendsAfterDefault : (Y → Type 0) → U → List' X Y → List' X Y →
      Result (Unit {0}) PairsFault → Type 0
  ExtendsAfterDefault IsDefault pairs old new result =
      ((mid : List' X Y) × (values_of mid ≡ values_of old) × AddsDefault IsDefault old mid
      × ExtendsWithPairs pairs mid new result)
      ⊎ ((result ≡ Err Memory) × IsUnchanged old new
      × (length (values_of old) ≡ length (separators_of old) + 1))

  -- a new list of the pairs that came of the iterator
  pub record MadeOfPairs (pairs : U) (new : List' X Y) : Type 0 where
    pub first : I
    pub taken : List (Pair X Y)
    pub starts : becomes pairs first
    pub drains : Drains steps first taken
    pub values : values_of new ≡ map value_of_pair taken
    pub separators : separators_of new ≡ separators_in taken
    pub are_pairs : IsPairs taken

  -- the iterator gives pairs, none of which follows one without a separator, and then one at which
  -- the fault stops
  pub record RefusesPairs (pairs : U) (fault : PairsFault) : Type 0 where
    pub first : I
    pub taken : List (Pair X Y)
    pub rest : I
    pub starts : becomes pairs first
    pub yields : Yields steps first taken rest
    pub are_pairs : IsPairs taken
    pub stops : StopsAtPair taken rest fault
