use Rattle.std.specs.Fn.{FnOnceReturnsAtMut}
use Rattle.syn_choices.proofs.ext.ParseBufferParseBufferExt.parse_terminated_within.Goals as goal
use Rattle.syn_parse.proofs.GroupTakes.{at-states, group_keeps, runs_by}
use Rattle.syn_parse.specs.ErrorWords.{delimiter_words, refused_at}
use Rattle.syn_parse.specs.Reads.{as_does, does}
use Rattle.syn_parse.specs.Takings.{Keeps}
use Rattle.syn_punctuated.specs.TakeLists.{terminated_list}
use Rattle.syn_punctuated.specs.Turns.{IsPlainRun, terminated}
use Rattle.tok_buffer.specs.Entry.{enter}

pub returns-clause-runs : goal.returns-clause-runs
returns-clause-runs g c =
    let run = IsPlainRun terminated g.T.Parse.parses g.P.Parse.parses in
    as_does _ c.args.self.now c.within.result c.within.new.self
    (runs_by (FnOnceReturnsAtMut _ _) run (enter c.args.delimiter c.args.self.now.place)
    (refused_at c.args.self.now (delimiter_words c.args.delimiter)) c.args.self.now
    c.within.new.self c.within.result
    (λ x y z h. at-states run _ _ x z y h.shows h.leaves h.met.0)
    (does _ c.args.self.now c.within.result c.within.new.self c.within.ensures.runs))

pub returns-clause-takes : goal.returns-clause-takes
returns-clause-takes g c go =
    let list = terminated_list g.T.Parse.takes g.P.Parse.takes in
    group_keeps list (FnOnceReturnsAtMut _ _) c.args.delimiter c.requires c.args.self.now
    c.within.new.self c.within.result
    (λ x y z h. at-states (Keeps list) _ _ x z y h.shows h.leaves (h.met.1 go))
    (does _ c.args.self.now c.within.result c.within.new.self c.within.ensures.runs)

pub returns-clause-after : goal.returns-clause-after
returns-clause-after g c = c.within.ensures.after
