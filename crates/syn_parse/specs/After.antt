-- A token and a value after it, if the token is next.
use Rattle.std.proofs.Common.{arith}
use Rattle.std.specs.Prelude.{Bool, Option, None, Some, option_map}
use Rattle.tok_core.specs.Forest.{Forest}
use Rattle.syn_parse.specs.Nested.{Descends}
use Rattle.syn_parse.specs.Takes.{Taking, ◌>>=◌, gives, where_ahead}
use Rattle.syn_parse.specs.Takings.{Lightens, Lowers, Takings, stated, told, unweighed, untold}
use Rattle.syn_parse.specs.TreesAhead.{Ahead}

-- a token and then a value if the test is true, and else nothing
unfoldable pub take_after : {A B : Type 0} → (Ahead → Bool) → Taking A → Taking B
    → Taking (Option (A × B))
take_after test token take =
    where_ahead test (do
      p ← token
      v ← take
      gives (Some (p, v))) (gives None)

-- a token and a value add nothing if neither of them does
pub lightens_after : {A B : Type 0} (test : Ahead → Bool) (token : Taking A) (take : Taking B)
    → Lightens token → Lightens take → Lightens (take_after test token take)
unfolding take_after
lightens_after test token take h k = grind arith

-- a token and a value: the token takes something, so less is ahead of the value
pub descends_after_token : {A B P : Type 0} (test : Ahead → Bool) (token : Taking P)
    (take : Taking A → Taking B) → Lowers token → Descends 1 take
    → Descends 0 (λ m. take_after test token (take m))
unfolding take_after
descends_after_token test token take h k = grind arith

-- a token and a value, by what the types of both state
abbrev pub after : {P T : Type 0} → Option (Forest → Bool) → Takings P → Takings T
    → Takings (Option (P × T))
after (Some sees) (told shape token w) (stated filled_alone form take x) =
    stated filled_alone (option_map (λ r. (shape r.0, form r.1)))
    (take_after (λ a. sees a.trees) token take) unweighed
after sees tokens values = untold
