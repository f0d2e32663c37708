use mathlib.Core.Path.{◌≡◌}
use Rattle.host.proofs.Laying.{laid_blocks}
use Rattle.host.proofs.blocks.fill_blocks.Given as goal

abbrev pub invariant-loop-k : goal.invariant-loop-k
invariant-loop-k l = l.buffer ≡ laid_blocks l.words l.initial.buffer l.k
