use Rattle.std.proofs.Common.{◌-◌, drop, arith, take_all, length-drop}
use Rattle.std.proofs.lemmas.Str.{IsUtf8-from_ascii}
use Rattle.syn_replay.specs.declared.report.ending.TheConstants.{ROOM}
use Rattle.syn_replay.proofs.report.ending.push.Goals as goal

pub from_utf8_unchecked-requires : goal.from_utf8_unchecked-requires
from_utf8_unchecked-requires g c =
    let start = c.args.start in
    let bytes = c.args.bytes.now in
    IsUtf8-from_ascii _ (rw (take_all (ROOM - start) (drop start bytes)
    (omega (arith, length-drop start bytes))) c.requires.ascii)
