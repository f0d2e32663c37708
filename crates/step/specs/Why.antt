-- Why a step is refused, as the plans have it.
use Rattle.tape.specs.Plan.{Cause, failed, ended}
use Rattle.step.specs.declared.why.Why.{Why}
use Rattle.step.specs.declared.why.Why.TheVariants.{Failed, NoWord}

abbrev pub cause_of : Why → Cause
cause_of (Failed e) = failed e
cause_of NoWord = ended
