use Rattle.std.proofs.Common.{◌≡◌, ◌∙◌, ap, refl, ℕ, Bool, true, false, cond, List, [], ◌∷◌}
use Rattle.std.proofs.Common.{length, is_some, arith, eqb-true}
use Rattle.std.specs.Prelude.{◌==◌}
use Rattle.tok_buffer.specs.Reads.{read_punctuation}
use Rattle.tok_types.specs.Texts.{punctuation_text}
use Rattle.tok_types.proofs.laws.punctuation_past_the_table.Goals as goal

-- a text of another length, and the empty one
no_word : (text : List ℕ) (n : ℕ) (same : Bool) → (length text == n) ≡ same →
    (length text ≡ n → n ≡ 0) → cond same text [] ≡ []
no_word text n false e h = refl
no_word [] n true e h = refl
no_word (c ∷ cs) n true e h = let same : length (c ∷ cs) ≡ n = eqb-true (length (c ∷ cs)) n e in
    absurd (omega (arith, same, h same))

pub returns : goal.returns
returns g c = λ h place found finds. finds ∙ ap (λ t. is_some (read_punctuation t place))
    (no_word (punctuation_text g.row.K) g.row.N (length (punctuation_text g.row.K) == g.row.N)
    refl h)
