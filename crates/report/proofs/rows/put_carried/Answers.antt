use mathlib.Core.Path.{sym}
use Rattle.text.proofs.Pens.{written_nothing}
use Rattle.report.proofs.Carries.{not_refused}
use Rattle.report.proofs.rows.put_carried.Goals as goal

pub returns-in-Refused : goal.returns-in-Refused
returns-in-Refused c = rw (← c.in-Refused.is) at c.put_error.ensures

pub returns-in_default : goal.returns-in_default
returns-in_default c = rw (not_refused c.args.answer c.in_default.not-Refused) (sym (written_nothing _))
