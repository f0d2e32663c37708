use Rattle.init.specs.Initialise.{identify}
use Rattle.tape.proofs.Took.{carry, cut, next}
use Rattle.init.proofs.identify.identify.Goals as goal

pub returns-in_err-cid : goal.returns-in_err-cid
unfolding identify
returns-in_err-cid c = cut _ (c.in_err-cid.ensures) c.from_residual.ensures.1

pub returns-in_err-rca : goal.returns-in_err-rca
unfolding identify
returns-in_err-rca c = carry _ (c.in_ok-cid.ensures) (cut _ (c.in_err-rca.ensures) c.from_residual-in_err-rca.ensures.1)

pub returns-in_err-ensure : goal.returns-in_err-ensure
unfolding identify
returns-in_err-ensure c = carry _ (c.in_ok-cid.ensures) (carry _ (c.in_ok-rca.ensures) (cut _ (c.in_err-ensure.ensures _ _ _) c.from_residual-in_err-ensure.ensures.1))

pub returns-in_err-csd : goal.returns-in_err-csd
unfolding identify
returns-in_err-csd c = carry _ (c.in_ok-cid.ensures) (carry _ (c.in_ok-rca.ensures) (next (c.in_ok-ensure.ensures _ _ _) (cut _ (c.in_err-csd.ensures) c.from_residual-in_err-csd.ensures.1)))

pub returns : goal.returns
unfolding identify
returns c = carry _ (c.in_ok-cid.ensures) (carry _ (c.in_ok-rca.ensures) (next (c.in_ok-ensure.ensures _ _ _) (carry _ (c.in_ok-csd.ensures) (c.select.ensures))))
