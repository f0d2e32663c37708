use mathlib.Core.Bool.{◌&&◌}
use Rattle.types.specs.Bits.{clear}
use Rattle.tape.proofs.Polls.{Led}
use Rattle.tape.proofs.script.quiet.Given as goal

abbrev pub invariant-loop-i : goal.invariant-loop-i
invariant-loop-i l = Led (λ w. clear l.done w && clear l.wrong w) l.limit l.words l.i
