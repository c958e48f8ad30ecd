use Rattle.std.proofs.Common.{arith, ◌≡◌, ◌∷◌, ◌++◌, ℕ, List}
use Rattle.std.proofs.lemmas.Grind.{common_steps}
use Rattle.std.specs.Prelude.{codes}
use Rattle.syn_parse.specs.Lookahead.{list_words, more_words}
use Rattle.syn_parse.proofs.lookahead.push_list.Goals as goal

-- three names or more, appended in three steps
several : (old one two a b d : List ℕ) (names bs ds es : List (List ℕ))
    → names ≡ a ∷ bs → bs ≡ b ∷ ds → ds ≡ d ∷ es
    → one ≡ old ++ codes "expected one of: " → two ≡ one ++ a
    → old ++ list_words names ≡ two ++ more_words bs
several old one two a b d names bs ds es first second third front then = grind (arith, common_steps)

pub returns : goal.returns
returns c =
    rw (several _ _ _ _ _ _ _ _ _ _ (c.in-Some.ensures.names) (c.in-Some-next_name.ensures.names)
    (c.in-Some-next_name-2.ensures.names) c.in_ok-push_str-5.ensures.bytes
    c.in_ok-push_str-6.ensures.bytes) c.push_more.ensures
