use Rattle.init.specs.Initialise.{init_card}
use Rattle.tape.proofs.Took.{carry, cut}
use Rattle.init.proofs.card.init_card.Goals as goal

pub returns-in_err-version2 : goal.returns-in_err-version2
unfolding init_card
returns-in_err-version2 c = cut _ (c.in_err-version2.ensures) c.from_residual.ensures.1

pub returns-in_err-ocr : goal.returns-in_err-ocr
unfolding init_card
returns-in_err-ocr c = carry _ (c.in_ok-version2.ensures) (cut _ (c.in_err-ocr.ensures) c.from_residual-in_err-ocr.ensures.1)

pub returns-in_err-card : goal.returns-in_err-card
unfolding init_card
returns-in_err-card c = carry _ (c.in_ok-version2.ensures) (carry _ (c.in_ok-ocr.ensures) (cut _ (c.in_err-card.ensures) c.from_residual-in_err-card.ensures.1))

pub returns : goal.returns
unfolding init_card
returns c = carry _ (c.in_ok-version2.ensures) (carry _ (c.in_ok-ocr.ensures) (carry _ (c.in_ok-card.ensures) (c.settle_card.ensures)))
