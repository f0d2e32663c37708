use mathlib.Core.Path.{sym, ◌∙◌}
use lib.Seq.{length-take-le}
use Rattle.bench.specs.Opens.{OpensAs, head_of}
use Rattle.bench.proofs.Opens.{words_lie, words-good, words-fit}
use Rattle.bench.proofs.trace.open.Goals as goal

pub slice_bounds-open_good-end : goal.slice_bounds-open_good-end
slice_bounds-open_good-end c = let opened = c.open in
    let args = c.args in
    words-fit args.bytes.now args.words.now _ _ (sym opened.ensures.answered ∙ c.in-Some.is) opened.ensures.laid

pub slice_bounds-open_good-end-in-Some : goal.slice_bounds-open_good-end-in-Some
slice_bounds-open_good-end-in-Some c = let opened = c.open in
    let args = c.args in
    sym (length-take-le _ _ (words-fit args.bytes.now args.words.now _ _ (sym opened.ensures.answered ∙ c.in-Some.is) opened.ensures.laid))

pub open_good-requires : goal.open_good-requires
open_good-requires c = let opened = c.open in
    let args = c.args in
    words-good args.bytes.now args.words.now _ _ (sym opened.ensures.answered ∙ c.in-Some.is) opened.ensures.laid

pub returns-in-Some : goal.returns-in-Some
unfolding OpensAs head_of
returns-in-Some c = let opened = c.open in
    let args = c.args in
    let told = sym opened.ensures.answered ∙ c.in-Some.is in
    let done = rw (words_lie args.bytes.now args.words.now _ _ told opened.ensures.laid) at c.open_good.ensures in
    record { laid = opened.ensures.laid; opened = rw told done.opened; printed = rw told done.printed }

pub returns-in-None : goal.returns-in-None
unfolding OpensAs head_of
returns-in-None c = let opened = c.open in
    let told = sym opened.ensures.answered ∙ c.in-None.is in
    let done = c.open_bad.ensures in
    record { laid = opened.ensures.laid; opened = rw told done.opened; printed = rw told done.printed }
