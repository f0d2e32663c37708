use mathlib.Core.Path.{sym}
use Rattle.types.specs.Answer.{error_told, answer_told}
use Rattle.text.proofs.Pens.{and_written, written_nothing}
use Rattle.report.proofs.Carries.{other_error}
use Rattle.report.proofs.rows.put_error.Goals as goal

pub returns-in-CardStatus : goal.returns-in-CardStatus
unfolding error_told answer_told
returns-in-CardStatus c = rw c.in-CardStatus.is (and_written _ _ _ (and_written _ _ _ c.put.ensures c.put_hex.ensures) c.put_byte.ensures)

pub returns-in_default : goal.returns-in_default
unfolding answer_told
returns-in_default c = rw (other_error c.args.error c.in_default.not-CardStatus) (sym (written_nothing _))
