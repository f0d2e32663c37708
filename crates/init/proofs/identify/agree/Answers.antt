use borrow.Author.Tests.{eq-eqb, ne_eqb}
use Rattle.init.proofs.identify.agree.Goals as goal

pub returns-then-ocr-ne0 : goal.returns-then-ocr-ne0
returns-then-ocr-ne0 c = rw (ne_eqb _ _ c.if-ocr-ne0.true, c.structure.ensures)

pub returns-else-ocr-ne0 : goal.returns-else-ocr-ne0
returns-else-ocr-ne0 c = rw (eq-eqb _ _ c.if-ocr-ne0.false, c.structure-else-ocr-ne0.ensures)
