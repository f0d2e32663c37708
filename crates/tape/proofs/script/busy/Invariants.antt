use mathlib.Core.Bool.{not}
use Rattle.types.specs.Bits.{clear}
use Rattle.tape.proofs.Polls.{Led}
use Rattle.tape.proofs.script.busy.Given as goal

abbrev pub invariant-loop-i : goal.invariant-loop-i
invariant-loop-i l = Led (λ w. not (clear l.mask w)) l.limit l.words l.i
