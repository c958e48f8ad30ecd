-- Lists, by the visible trees ahead.
use Rattle.std.specs.Prelude.{ℕ, zero, suc, Bool, true, not, List, [], ◌∷◌, map}
use Rattle.std.specs.Prelude.{Option, Some, Result}
use Rattle.tok_core.specs.Forest.{Forest}
use Rattle.tok_core.specs.Weight.{weight}
use Rattle.syn_parse.specs.Reads.{Call}
use Rattle.syn_parse.specs.TreesAhead.{Ahead, is_spent}
use Rattle.syn_parse.specs.State.{State}
use Rattle.syn_parse.specs.declared.fault.Fault.{Fault}
use Rattle.syn_parse.specs.Takes.{Takes, Taking, ◌>>=◌, gives, refuses, where_ahead}
use Rattle.syn_parse.specs.Takings.{Keeps, Takings, lower, stated, told, told_filled, untold}
use Rattle.syn_parse.specs.Takings.{unweighed, weighs}
use Rattle.syn_punctuated.specs.Lists.{values_of, separators_of}
use Rattle.syn_punctuated.specs.Turns.{ValueCall}
use Rattle.syn_punctuated.specs.declared.punctuated.Punctuated.{Punctuated}

-- Values and separators in turn, at most so many: another turn begins if the first test is true,
-- and a separator follows a value if the second is.
abbrev pub take_turns : {A P : Type 0} → ℕ → (begins goes_on : Ahead → Bool) → Taking A → Taking P
    → Taking (List A × List P)
take_turns zero begins goes_on value sign = refuses []
take_turns (suc n) begins goes_on value sign =
    where_ahead begins (do
      v ← value
      where_ahead goes_on (do
        p ← sign
        rest ← take_turns n begins goes_on value sign
        gives (v ∷ rest.0, p ∷ rest.1)) (gives (v ∷ [], []))) (gives ([], []))

-- values and separators in turn, as many as there are
unfoldable pub take_list : {A P : Type 0} → (begins goes_on : Ahead → Bool) → Taking A → Taking P
    → Taking (List A × List P)
take_list begins goes_on value sign a =
    take_turns (suc (weight a.trees)) begins goes_on value sign a

-- a visible tree is left
abbrev pub is_left : Ahead → Bool
is_left a = not (is_spent a)

-- a test that is always true
abbrev pub always : Ahead → Bool
always a = true

-- values up to the end, with a separator after each, which the last one may lack
abbrev pub take_terminated : {A P : Type 0} → Taking A → Taking P → Taking (List A × List P)
take_terminated value sign = take_list is_left is_left value sign

-- a value, and another one after each separator, as long as a separator is next
abbrev pub take_separated : {A P : Type 0} → (sees : Ahead → Bool) → Taking A → Taking P
    → Taking (List A × List P)
take_separated sees value sign = take_list always sees value sign

-- the forms of a list's values and separators
abbrev pub list_form : {T P A S : Type 0} → (T → A) → (P → S) → Punctuated T P → List A × List S
list_form value sign list = (map value (values_of list), map sign (separators_of list))

-- the parse of a separator, and what it takes
abbrev pub Separates : {P : Type 0} → Call P → Takings P → Call P
Separates parses takes s r t = parses s r t × Keeps takes s r t

-- each call of a value parser takes this
abbrev pub EachTakes : {T F : Type 0} → Taking T → ValueCall F T → Type 0
EachTakes {T} {F} value reads =
    (f g : F) (s t : State) (r : Result T Fault) → reads f s r g t → Takes value s r t

-- a list of values that take no more than is ahead, and separators that each take something; an
-- empty invisible group is not the end
abbrev pub terminated_list : {T P : Type 0} → Takings T → Takings P → Takings (Punctuated T P)
terminated_list (stated alone form value (weighs x h)) (told shape sign (lower k)) =
    told_filled (list_form form shape) (take_terminated value sign) unweighed
terminated_list values signs = untold

-- what a separated list takes, which ends if no separator is next
abbrev pub separated_list : {T P : Type 0} → Option (Forest → Bool) → Takings T → Takings P
    → Takings (Punctuated T P)
separated_list (Some sees) (told form value (weighs x h)) (told shape sign (lower k)) =
    told (list_form form shape) (take_separated (λ a. sees a.trees) value sign) unweighed
separated_list sees values signs = untold
