use Rattle.tape.specs.Steps.{reset_controller}
use Rattle.tape.proofs.Took.{cut, next}
use Rattle.tape.proofs.steps.reset_controller.Goals as goal

pub returns-in_err-write_row : goal.returns-in_err-write_row
unfolding reset_controller
returns-in_err-write_row c = λ s. cut _ (c.in_err-write_row.ensures s) c.from_residual.ensures.1

pub returns-in_err-write_row-2 : goal.returns-in_err-write_row-2
unfolding reset_controller
returns-in_err-write_row-2 c = λ s. next (c.in_ok-write_row.ensures s) (cut _ (c.in_err-write_row-2.ensures s) c.from_residual-in_err-write_row-2.ensures.1)

pub returns-in_err-write_row-3 : goal.returns-in_err-write_row-3
unfolding reset_controller
returns-in_err-write_row-3 c = λ s. next (c.in_ok-write_row.ensures s) (next (c.in_ok-write_row-2.ensures s) (cut _ (c.in_err-write_row-3.ensures s) c.from_residual-in_err-write_row-3.ensures.1))

pub returns-in_err-write_row-4 : goal.returns-in_err-write_row-4
unfolding reset_controller
returns-in_err-write_row-4 c = λ s. next (c.in_ok-write_row.ensures s) (next (c.in_ok-write_row-2.ensures s) (next (c.in_ok-write_row-3.ensures s) (cut _ (c.in_err-write_row-4.ensures s) c.from_residual-in_err-write_row-4.ensures.1)))

pub returns-in_err-write_row-5 : goal.returns-in_err-write_row-5
unfolding reset_controller
returns-in_err-write_row-5 c = λ s. next (c.in_ok-write_row.ensures s) (next (c.in_ok-write_row-2.ensures s) (next (c.in_ok-write_row-3.ensures s) (next (c.in_ok-write_row-4.ensures s) (cut _ (c.in_err-write_row-5.ensures s) c.from_residual-in_err-write_row-5.ensures.1))))

pub returns-in_err-write_row-6 : goal.returns-in_err-write_row-6
unfolding reset_controller
returns-in_err-write_row-6 c = λ s. next (c.in_ok-write_row.ensures s) (next (c.in_ok-write_row-2.ensures s) (next (c.in_ok-write_row-3.ensures s) (next (c.in_ok-write_row-4.ensures s) (next (c.in_ok-write_row-5.ensures s) (cut _ (c.in_err-write_row-6.ensures s) c.from_residual-in_err-write_row-6.ensures.1)))))

pub returns-in_err-write_row-7 : goal.returns-in_err-write_row-7
unfolding reset_controller
returns-in_err-write_row-7 c = λ s. next (c.in_ok-write_row.ensures s) (next (c.in_ok-write_row-2.ensures s) (next (c.in_ok-write_row-3.ensures s) (next (c.in_ok-write_row-4.ensures s) (next (c.in_ok-write_row-5.ensures s) (next (c.in_ok-write_row-6.ensures s) (cut _ (c.in_err-write_row-7.ensures s) c.from_residual-in_err-write_row-7.ensures.1))))))

pub returns-in_err-write_row-8 : goal.returns-in_err-write_row-8
unfolding reset_controller
returns-in_err-write_row-8 c = λ s. next (c.in_ok-write_row.ensures s) (next (c.in_ok-write_row-2.ensures s) (next (c.in_ok-write_row-3.ensures s) (next (c.in_ok-write_row-4.ensures s) (next (c.in_ok-write_row-5.ensures s) (next (c.in_ok-write_row-6.ensures s) (next (c.in_ok-write_row-7.ensures s) (cut _ (c.in_err-write_row-8.ensures s) c.from_residual-in_err-write_row-8.ensures.1)))))))

pub returns-in_err-write_row-9 : goal.returns-in_err-write_row-9
unfolding reset_controller
returns-in_err-write_row-9 c = λ s. next (c.in_ok-write_row.ensures s) (next (c.in_ok-write_row-2.ensures s) (next (c.in_ok-write_row-3.ensures s) (next (c.in_ok-write_row-4.ensures s) (next (c.in_ok-write_row-5.ensures s) (next (c.in_ok-write_row-6.ensures s) (next (c.in_ok-write_row-7.ensures s) (next (c.in_ok-write_row-8.ensures s) (cut _ (c.in_err-write_row-9.ensures s) c.from_residual-in_err-write_row-9.ensures.1))))))))

pub returns : goal.returns
unfolding reset_controller
returns c = λ s. next (c.in_ok-write_row.ensures s) (next (c.in_ok-write_row-2.ensures s) (next (c.in_ok-write_row-3.ensures s) (next (c.in_ok-write_row-4.ensures s) (next (c.in_ok-write_row-5.ensures s) (next (c.in_ok-write_row-6.ensures s) (next (c.in_ok-write_row-7.ensures s) (next (c.in_ok-write_row-8.ensures s) (next (c.in_ok-write_row-9.ensures s) (c.write_row-10.ensures s)))))))))
