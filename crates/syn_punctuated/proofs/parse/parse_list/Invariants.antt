use Rattle.std.proofs.Common.{◌≡◌, ◌+◌, ◌≤◌, length}
use Rattle.std.specs.Fn.{CalledAtMut}
use Rattle.tok_buffer.specs.Cursors.{place_of}
use Rattle.tok_buffer.specs.Progress.{remaining}
use Rattle.syn_punctuated.proofs.Runs.{SoFar}
use Rattle.syn_punctuated.specs.TakeLists.{Separates}
use Rattle.syn_punctuated.proofs.parse.parse_list.Given as goal

abbrev pub invariant-loop-pairs : goal.invariant-loop-pairs
invariant-loop-pairs g l = record {
  so_far : SoFar g.R.ListRule.rule (CalledAtMut g.F.FnMut)
      (Separates g.P.Parse.parses g.P.Parse.takes) l.fn.parser l.fn.input l.pairs.items l.parser
      l.input;
  bounded : length l.pairs.items + remaining l.input.place ≤ remaining l.fn.input.place;
  here : place_of l.start ≡ l.input.place;
}

abbrev pub decreases-loop-pairs : goal.decreases-loop-pairs
decreases-loop-pairs g l = remaining l.input.place
