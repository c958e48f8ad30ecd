-- One of two values, by the visible trees ahead.
use Rattle.std.specs.Prelude.{◌⊎◌, ◌||◌, Bool, true, false, None, Option, Some, Ok, Err}
use Rattle.either.specs.Either.{map_either}
use Rattle.either.specs.declared.Either.{Either}
use Rattle.either.specs.declared.Either.TheVariants.{Left, Right}
use Rattle.tok_core.specs.Forest.{Forest}
use Rattle.tok_buffer.specs.Place.{Place}
use Rattle.syn_parse.specs.Lighter.{lessens_bind, lessens_where, lightens, lightens_gives}
use Rattle.syn_parse.specs.Reads.{Call}
use Rattle.syn_parse.specs.Takes.{Taking, ◌>>=◌, gives, where_ahead}
use Rattle.syn_parse.specs.Takings.{Lessens, Takings, Weighs, lighter, lower, stated, untold}
use Rattle.syn_parse.specs.Takings.{unweighed, weighs}
use Rattle.syn_parse.specs.TreesAhead.{Ahead}
use Rattle.syn_punctuated.specs.Weighing.{weighing_lists}

-- the first is parsed if the peek is true, and the second if it is false
abbrev pub EitherParses : {A B : Type 0} → (Place → Bool → Type 0) → Call A → Call B
    → Call (Either A B)
EitherParses peeks there other s (Ok (Left v)) t = peeks s.place true × there s (Ok v) t
EitherParses peeks there other s (Ok (Right v)) t = peeks s.place false × other s (Ok v) t
EitherParses peeks there other s (Err f) t =
    (peeks s.place true × there s (Err f) t) ⊎ (peeks s.place false × other s (Err f) t)

-- takes the first if the test is true, and the second if it is false
unfoldable pub take_either : {A B : Type 0} → (Ahead → Bool) → Taking A → Taking B
    → Taking (Either A B)
take_either test there other =
    where_ahead test (do
      v ← there
      gives (Left v)) (do
        v ← other
        gives (Right v))

module _ {A B : Type 0} (test : Ahead → Bool) (there : Taking A) (other : Taking B) where
  -- less is ahead after a choice, if both take something; no more is, if both add nothing to it
  pub lessens_either : {strict : Bool} → Lessens strict there → Lessens strict other
      → Lessens strict (take_either test there other)
  unfolding take_either
  lessens_either h k =
      lessens_where test _ _
      (lessens_bind there _ h (λ v. lightens_gives (Left v)))
      (lessens_bind other _ k (λ v. lightens_gives (Right v)))

  -- a choice takes something if both do, and adds nothing if neither adds
  abbrev pub either_weighs : Weighs there → Weighs other → Weighs (take_either test there other)
  either_weighs (lower h) (lower k) = lower (lessens_either h k)
  either_weighs (weighs x h) (weighs y k) =
      lighter (lessens_either (lightens x there h) (lightens y other k))
  either_weighs h k = unweighed

-- one of two by what their types state, chosen by a test of what is ahead; at places of filled
-- forests alone if one of them does
abbrev pub either_by : {T U : Type 0} → (Ahead → Bool) → Takings T → Takings U
    → Takings (Either T U)
either_by test (stated a form there w) (stated b shape other x) =
    stated (a || b) (map_either form shape) (take_either test there other)
    (either_weighs test there other w x)
either_by test there other = untold

-- by a peek
abbrev pub either_of : {T U : Type 0} → Option (Forest → Bool) → Takings T → Takings U
    → Takings (Either T U)
either_of None there other = untold
either_of (Some sees) there other = either_by (λ a. sees a.trees) there other

-- with these `search` proves it of what has choices too
pub ruleset weighing_choices = (weighing_lists, lessens_either)
