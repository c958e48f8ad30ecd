use Rattle.std.proofs.Common.{◌≡◌, arith, rules, false, None}
use Rattle.tok_lexical.specs.declared.delimiter.Delimiter.TheVariants.{Parenthesis}
use Rattle.tok_buffer.specs.Place.{is_at_end}
use Rattle.example_callers.specs.Fields.{read_name}
use Rattle.example_callers.specs.Nested.{CountsEntries, CountsEntry}
use Rattle.example_callers.proofs.Nested.{entries_end, entry_on, entry_refused, no_list, one_list}
use Rattle.example_callers.proofs.Nested.{one_name}
use Rattle.example_callers.proofs.Parts.{at_exit}
use Rattle.syn_parse.specs.Reads.{Does, does}
use Rattle.example_callers.proofs.streams.+nested.Goals as goal

pub count_all-returns-in_err-count_names : goal.count_all-returns-in_err-count_names
count_all-returns-in_err-count_names t c =
    let there = c.loop-input in
    let left = c.count_names.new.input in
    let f = c.in_err-count_names.field-0.0 in
    let more : is_at_end there.input.place ≡ false = search rules in
    at_exit (λ r. CountsEntries c.args.input.now r left) c.from_residual.result f
    c.from_residual.ensures.1
    (entry_refused c.args.input.now there.input there.count there.invariant.1 more f left
    c.in_err-count_names.ensures.counts)

pub count_all-returns : goal.count_all-returns
count_all-returns t c = grind (arith, entries_end)

pub count_names-within-requires : goal.count_names-within-requires
count_names-within-requires t c κs =
    let inwards = (c.entries_go_on.ensures.groups Parenthesis).inwards in grind arith

pub count_names-returns-in_err-count-clause-counts :
    goal.count_names-returns-in_err-count-clause-counts
count_names-returns-in_err-count-clause-counts t c =
    let left = c.within.new.self in
    let f = c.in_err-count.field-0.0 in
    let exit = c.from_residual-in_err-count in
    let no_name : read_name c.args.input.now.place ≡ None = search rules in
    at_exit (λ r. CountsEntry c.args.input.now r left) exit.result f exit.ensures.1
    (no_list _ _ (λ a r b h. h) c.args.input.now left no_name f
    (does _ _ _ _ c.in_err-count.ensures.runs))

pub count_names-returns-in_ok-parse-clause-counts :
    goal.count_names-returns-in_ok-parse-clause-counts
count_names-returns-in_ok-parse-clause-counts t c = one_name c.args.input.now c.parse.new.self
    c.in_ok-parse.field-0 (does _ _ _ _ c.in_ok-parse.ensures.reads)

pub count_names-returns-in_ok-parse-clause-lowers :
    goal.count_names-returns-in_ok-parse-clause-lowers
count_names-returns-in_ok-parse-clause-lowers t c =
    c.parses_go_on.ensures.idents.lowers _ c.in_ok-parse.field-0 _
    (does _ _ _ _ c.in_ok-parse.ensures.reads)

pub count_names-returns-in_ok-count-clause-counts :
    goal.count_names-returns-in_ok-count-clause-counts
count_names-returns-in_ok-count-clause-counts t c =
    let no_name : read_name c.args.input.now.place ≡ None = search rules in
    one_list _ _ (λ a r b h. h) c.args.input.now c.within.new.self no_name
    c.in_ok-count.field-0-0 c.in_ok-count.count (does _ _ _ _ c.in_ok-count.ensures.runs)

pub count_names-returns-in_ok-count-clause-lowers :
    goal.count_names-returns-in_ok-count-clause-lowers
unfolding Does
count_names-returns-in_ok-count-clause-lowers t c =
    let lowers = (c.entries_go_on.ensures.groups Parenthesis).lowers in grind arith

pub count_all-loop-input-preserved : goal.count_all-loop-input-preserved
count_all-loop-input-preserved t c =
    let there = c.loop-input in
    let after = c.count_names.new.input in
    let more : is_at_end there.input.place ≡ false = search rules in
    let on =
    entry_on c.args.input.now there.input there.count there.invariant.1 more
    c.in_ok-count_names.field-0 after c.in_ok-count_names.ensures.counts in
    search (rules, arith)
