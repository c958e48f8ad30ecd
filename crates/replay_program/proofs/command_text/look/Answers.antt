use Rattle.std.proofs.Common.{◌≡◌, ap, sym, ◌∙◌}
use Rattle.std.proofs.lemmas.Bool.{cond-false}
use Rattle.std.specs.Option.{option_map}
use Rattle.replay_program.specs.CommandText as spec
use Rattle.syn_replay.specs.Kinds as looks
use Rattle.syn_replay.specs.Meanings.{kind_of, look_of}
use Rattle.replay_program.proofs.WordCuts.{differs}
use Rattle.replay_program.proofs.command_text.look.Goals as goal
use Rattle.replay_program.proofs.command_text.look.Goals.{In_default-word}

-- a word that is none of the names of a look alone is that of a kind
past : (c : In_default-word) → spec.look c.args.word.now
    ≡ option_map looks.kind (spec.kind c.args.word.now)
past c =
    let d = c.in_default-word in
    cond-false _ _ _ (differs _ _ d.not-Paren) ∙ cond-false _ _ _ (differs _ _ d.not-Brace)
    ∙ cond-false _ _ _ (differs _ _ d.not-Bracket)
    ∙ cond-false _ _ _ (differs _ _ d.not-End) ∙ cond-false _ _ _ (differs _ _ d.not-Group)
    ∙ cond-false _ _ _ (differs _ _ d.not-GroupTree)
    ∙ cond-false _ _ _ (differs _ _ d.not-Tree)

pub returns-in_err-kind_named-in_default-word : goal.returns-in_err-kind_named-in_default-word
returns-in_err-kind_named-in_default-word c =
    let same = past (goal.at.returns-in_err-kind_named-in_default-word c).In_default-word in
    let none = sym c.token.ensures ∙ ap (option_map kind_of) c.in_default.is in
    ap (option_map look_of) c.from_residual.ensures
    ∙ ap (option_map looks.kind) (c.in_err-kind_named-in_default-word.ensures
    ∙ sym (ap (λ t. spec.by_name spec.kind_names t c.args.word.now) none)) ∙ sym same

pub returns-in_ok-kind_named-in_default-word : goal.returns-in_ok-kind_named-in_default-word
returns-in_ok-kind_named-in_default-word c =
    let same = past (goal.at.returns-in_ok-kind_named-in_default-word c).In_default-word in
    let none = sym c.token.ensures ∙ ap (option_map kind_of) c.in_default.is in
    ap (option_map looks.kind) (c.in_ok-kind_named-in_default-word.ensures
    ∙ sym (ap (λ t. spec.by_name spec.kind_names t c.args.word.now) none)) ∙ sym same
