use mathlib.Core.List.{[]}
use mathlib.Core.Path.{refl, sym, ◌∙◌}
use native.Mathlib.Omega.{arith}
use lib.ListN.{length}
use Rattle.host.specs.Calls.{blocks_from, blocks_came}
use Rattle.host.proofs.Ran.{judged-good}
use Rattle.host.proofs.Laying.{none_filled}
use Rattle.host.proofs.host.Sdmmc.blocking_read_blocks.Goals as goal

pub overflow_cast-bytes : goal.overflow_cast-bytes
overflow_cast-bytes c = let place = judged-good c.args.self _ c.args.index (length c.args.buffer.now) _ (sym c.judged-answer.ensures ∙ c.in-Ok.is) in omega (arith, place.most)

pub read_from-requires : goal.read_from-requires
read_from-requires c = let place = judged-good c.args.self _ c.args.index (length c.args.buffer.now) _ (sym c.judged-answer.ensures ∙ c.in-Ok.is) in omega (arith, place.most)

pub returns-in-Ok : goal.returns-in-Ok
unfolding blocks_came
returns-in-Ok c = rw (sym c.judged-answer.ensures ∙ c.in-Ok.is) c.read_from.ensures

pub returns-in-Err : goal.returns-in-Err
unfolding blocks_came blocks_from
returns-in-Err c = rw (sym c.judged-answer.ensures ∙ c.in-Err.is) (record { answered = c.untouched.ensures []; listed = refl; filled = sym (none_filled c.args.buffer.now) })
