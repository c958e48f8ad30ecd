-- What the reader returns is what the grammar says.
use Rattle.std.proofs.Common.{inl, refl, subst, arith, ◌≡◌, List, true, ℕ}
use Rattle.std.specs.Prelude.{Result}
use Rattle.tok_lexical.specs.declared.rule.Mode.TheVariants.{Plain}
use Rattle.tok_leaves.specs.declared.span.Span.{Span}
use Rattle.tok_core.specs.Erase.{erase}
use Rattle.tok_core.specs.Filled.{filled}
use Rattle.tok_core.specs.Forest.{Forest}
use Rattle.tok_core.specs.Lexical.Reading.{ReadsForest}
use Rattle.tok_core.proofs.Lexical.Visible.{all_visible}
use Rattle.syn_parse.specs.Sources.{end_of_tokens}
use Rattle.syn_parse.specs.Takings.{KeepsWhole}
use Rattle.syn_parse.specs.TokenNames.{Comma, Token}
use Rattle.syn_parse.specs.declared.fault.Fault.{Fault}
use Rattle.syn_punctuated.specs.declared.punctuated.Punctuated.{Punctuated}
use Rattle.example_config.specs.Grammar.{Parses}
use Rattle.example_config.specs.Reading.{ReadsText, settings}
use Rattle.example_config.specs.declared.value.Setting.{Setting}
use Rattle.example_config.proofs.Grammar.{settings_taken, sound}

parses : (f : Forest) (end : Span) (r : Result (Punctuated Setting (Token Comma)) Fault)
    → KeepsWhole settings f end r → filled f ≡ true → Parses (erase f) r
parses f end r h i = grind (arith, sound.taken, settings_taken)

-- a text has no invisible groups, so its tokens are all that is read
pub reads_text : (source : ℕ) (cs : List ℕ) (f : Forest)
    (r : Result (Punctuated Setting (Token Comma)) Fault) → ReadsForest Plain source cs f
    → KeepsWhole settings f (end_of_tokens source f) r → ReadsText source cs r
reads_text source cs f r h k =
    let s = all_visible 0 Plain source cs f refl h in
    inl (f, h, k s.0, subst (λ g. Parses g r) s.1 (parses f (end_of_tokens source f) r k s.0))
