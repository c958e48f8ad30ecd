use Rattle.std.proofs.Common.{◌≡◌, arith, rules, inl, inr, ap, sym, ◌∙◌, [], ◌∷◌, ◌++◌}
use Rattle.syn_punctuated.specs.Lists.{values_of, separators_of}
use Rattle.syn_punctuated.proofs.PairsAdded.{some_is_bare, none_is_trailing}
use Rattle.syn_punctuated.proofs.punctuated.Punctuated.extend_pairs.Goals.{then-is_some+in_ok-push_punct}
use Rattle.syn_punctuated.proofs.punctuated.Punctuated.extend_pairs.Goals.{else-is_some}
use Rattle.syn_punctuated.proofs.punctuated.Punctuated.extend_pairs.Goals as goal

pub returns : goal.returns
returns g c =
    let old = c.args.self.now in
    let mid = c.if-is_some.self in
    elim c.if-is_some.branch [
      | then-is_some+in_ok-push_punct w ↦
          let bare = some_is_bare old (sym c.is_some.ensures ∙ w.if-is_some.true) in
          let values : values_of mid ≡ values_of old =
          ap values_of w.self-is ∙ w.in_ok-push_punct.ensures.values in
          let separators : separators_of mid ≡ separators_of old ++ w.default.result ∷ [] =
          ap separators_of w.self-is ∙ w.in_ok-push_punct.ensures.ok in
          inl (
            mid,
            values,
            record {
              trailing =
                  λ e. absurd (omega (arith, e, bare));
              bare =
                  λ _. (w.default.result, w.default.ensures, separators);
            },
            c.push_pairs.ensures,
          )
      | else-is_some w ↦
          let even = none_is_trailing old (sym c.is_some.ensures ∙ w.if-is_some.false) in
          inl (
            mid,
            ap values_of w.self-is,
            record {
              trailing =
                  λ _. ap separators_of w.self-is;
              bare = λ e. absurd (omega (arith, e, even));
            },
            c.push_pairs.ensures,
          )
    ]

pub returns-in_err-push_punct : goal.returns-in_err-push_punct
returns-in_err-push_punct g c =
    inr (
      search rules,
      c.in_err-push_punct.ensures.err,
      some_is_bare c.args.self.now (sym c.is_some.ensures ∙ c.if-is_some.true),
    )
