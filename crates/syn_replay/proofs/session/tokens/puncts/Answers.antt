use Rattle.std.proofs.Common.{◌≡◌, ◌∙◌, ap, map}
use Rattle.syn_replay.specs.Session.Reading.{punct_pieces}
use Rattle.syn_replay.specs.Meanings.{piece_of}
use Rattle.syn_replay.proofs.Walk.Pieces.{sized-pieces}
use Rattle.syn_replay.proofs.session.tokens.puncts.Goals as goal

pub returns : goal.returns
returns g c =
    let text = c.args.text.now in
    let ps = c.in_ok-characters.field-0 in
    let made : map piece_of ps.items ≡ punct_pieces text c.in_ok-spans.spans =
    c.in_ok-characters.ensures {u = tt}
    ∙ ap (λ z. punct_pieces z c.in_ok-spans.spans) c.as_bytes.ensures.value in
    sized-pieces g.row.N text c.requires.length c.requires.ascii c.args.input.now
    c.in_ok-spans.spans ps c.punct.new.input c.in_ok-spans.ensures made
