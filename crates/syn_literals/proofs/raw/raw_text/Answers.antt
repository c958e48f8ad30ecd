use Rattle.std.proofs.Common.{◌≡◌, ◌∙◌, sym, ap, arith, rules, ◌-◌, None, Some, drop, length}
use Rattle.std.proofs.lemmas.Str.Pattern.{find_char}
use Rattle.std.specs.Prelude.{option_map}
use Rattle.syn_literals.proofs.Raws.{closed, no_quote, raw_absent, too_short, unclosed}
use Rattle.syn_literals.proofs.raw.raw_text.Goals as goal

pub returns-in_err-at : goal.returns-in_err-at
returns-in_err-at c =
    let none =
    find_char 34 c.args.text.now None (c.in_err-at.ensures {u = tt}).cases (omega arith) in
    ap (option_map (λ r. r.now)) c.from_residual.ensures
    ∙ sym (raw_absent c.args.text.now (no_quote c.args.text.now none))

pub returns-in_err-end : goal.returns-in_err-end
returns-in_err-end c =
    let found =
    find_char 34 c.args.text.now (Some c.in_ok-at.at) (c.in_ok-at.ensures {u = tt}).cases
    (omega arith) in
    ap (option_map (λ r. r.now)) c.from_residual-in_err-end.ensures
    ∙ sym (too_short c.args.text.now _ _ _ c.in_ok-at.at found c.split_at.ensures.front
    c.split_at.ensures.front_len c.split_at.ensures.back c.split_at-2.ensures.back
    (omega (arith, c.in_err-end.ensures {u = tt})))

pub returns-then-not-closes : goal.returns-then-not-closes
returns-then-not-closes c =
    let found =
    find_char 34 c.args.text.now (Some c.in_ok-at.at) (c.in_ok-at.ensures {u = tt}).cases
    (omega arith) in
    let end : length c.split_at-2.result.1.now - c.in_ok-at.at ≡ c.in_ok-end.end =
    search rules in
    sym (unclosed c.args.text.now _ _ _ c.in_ok-at.at found c.split_at.ensures.front
    c.split_at.ensures.front_len c.split_at.ensures.back c.split_at-2.ensures.back
    c.in_ok-end.end end c.split_at-3.result.1.now
    (c.split_at-3.ensures.back ∙ ap (drop c.in_ok-end.end) c.as_bytes.ensures.value)
    (λ marks f k. (c.if-not-closes.ensures {u = tt}) marks (c.as_bytes-2.ensures.value ∙ f) k))

pub returns : goal.returns
returns c =
    let found =
    find_char 34 c.args.text.now (Some c.in_ok-at.at) (c.in_ok-at.ensures {u = tt}).cases
    (omega arith) in
    let end : length c.split_at-2.result.1.now - c.in_ok-at.at ≡ c.in_ok-end.end =
    search rules in
    let marks = c.if-not-closes.ensures {u = tt} in
    closed c.args.text.now _ _ _ c.in_ok-at.at found c.split_at.ensures.front
    c.split_at.ensures.front_len c.split_at.ensures.back c.split_at-2.ensures.back
    c.in_ok-end.end end c.split_at-3.result.1.now
    (c.split_at-3.ensures.back ∙ ap (drop c.in_ok-end.end) c.as_bytes.ensures.value)
    c.split_at-4.result.0.now marks.0 c.split_at-4.ensures.front
    (sym c.as_bytes-2.ensures.value ∙ marks.1) marks.2
