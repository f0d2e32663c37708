-- A line for each public function of `stepping`.
use Rattle.stepping.proofs.call
use Rattle.unique.specs.Unique.{Unique}
use Rattle.unique.proofs.Determined.{determined}

call-known-card : Unique call.Known.card.Kinds.ps call.Known.card.Kinds.r call.Known.card.Reads.Learnt
call-known-card = determined _ λ _ _ _ p. p

call_known_at : Unique call.Known.at.Kinds.ps call.Known.at.Kinds.r call.Known.at.Reads.Learnt
call_known_at = determined _ λ _ _ _ p. p

call_known_and : Unique call.Known.and.Kinds.ps call.Known.and.Kinds.r call.Known.and.Reads.Learnt
call_known_and = determined _ λ _ _ _ p. p

call-known-tells-app : Unique call.Known.tells_app.Kinds.ps call.Known.tells_app.Kinds.r call.Known.tells_app.Reads.Learnt
call-known-tells-app = determined _ λ _ _ _ p. p

call-asked-initial : Unique call.Asked.initial.Kinds.ps call.Asked.initial.Kinds.r call.Asked.initial.Reads.Learnt
call-asked-initial = determined _ λ _ _ _ p. p

call-asked-frequency : Unique call.Asked.frequency.Kinds.ps call.Asked.frequency.Kinds.r call.Asked.frequency.Reads.Learnt
call-asked-frequency = determined _ λ _ _ _ p. p

call-asked-phase : Unique call.Asked.phase.Kinds.ps call.Asked.phase.Kinds.r call.Asked.phase.Reads.Learnt
call-asked-phase = determined _ λ _ _ _ p. p

call_job_bus : Unique call.Job.bus.Kinds.ps call.Job.bus.Kinds.r call.Job.bus.Reads.Learnt
call_job_bus = determined _ λ _ _ _ p. p

call_job_rca : Unique call.Job.rca.Kinds.ps call.Job.rca.Kinds.r call.Job.rca.Reads.Learnt
call_job_rca = determined _ λ _ _ _ p. p

call_job_wait_rca : Unique call.Job.wait_rca.Kinds.ps call.Job.wait_rca.Kinds.r call.Job.wait_rca.Reads.Learnt
call_job_wait_rca = determined _ λ _ _ _ p. p
