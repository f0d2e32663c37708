use mathlib.Core.List.{[]}
use native.Mathlib.Omega.{arith}
use Rattle.bus.specs.Command.{command_inner}
use Rattle.tape.proofs.Took.{next, cut, read_further, took_none}
use Rattle.bus.proofs.command.command_inner.Goals as goal

pub returns-in_err-wait_idle : goal.returns-in_err-wait_idle
unfolding command_inner
returns-in_err-wait_idle c = λ s part. cut _ (c.in_err-wait_idle.ensures s _ part) c.from_residual.ensures.1

pub returns-in_err-issue : goal.returns-in_err-issue
unfolding command_inner
returns-in_err-issue c = λ s part. rw (← c.form-form.ensures)
    (next (c.in_ok-wait_idle.ensures s _ part) (cut _ (c.in_err-issue.ensures s) c.from_residual-in_err-issue.ensures.1))

pub complete-requires : goal.complete-requires
complete-requires c = omega (arith, read_further c.in_ok-wait_idle.ensures, took_none (c.in_ok-issue.ensures []), c.requires)

pub returns : goal.returns
unfolding command_inner
returns c = λ s part. rw (← c.form-form.ensures)
    (next (c.in_ok-wait_idle.ensures s _ part) (next (c.in_ok-issue.ensures s) (c.complete.ensures s _ part)))
