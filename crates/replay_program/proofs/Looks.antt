-- The looks of words, one after the other.
use Rattle.std.proofs.Common.{◌≡◌, ℕ, List, [], ◌∷◌, ◌++◌, Option, Some, None, refl}
use Rattle.std.proofs.Common.{append_assoc}
use Rattle.std.specs.Option.{option_map}
use Rattle.replay_program.specs.CommandText.{look, all_looks}
use Rattle.syn_replay.specs.Kinds.{Look}

concat : (before : List Look) (l : Look) (o : Option (List Look))
    → option_map (λ ls. (before ++ l ∷ []) ++ ls) o
    ≡ option_map (λ ls. before ++ ls) (option_map (λ ls. l ∷ ls) o)
concat before l None = refl
concat before l (Some ls) = rw append_assoc

-- a word that is a look
pub looks_more : (before : List Look) (word : List ℕ) (rest : List (List ℕ)) (l : Look)
    → look word ≡ Some l → option_map (λ ls. (before ++ l ∷ []) ++ ls) (all_looks rest)
    ≡ option_map (λ ls. before ++ ls) (all_looks (word ∷ rest))
looks_more before word rest l e =
    rw e (concat before l (all_looks rest))
