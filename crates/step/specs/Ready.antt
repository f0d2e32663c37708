-- The wait until the card is ready, under way: what is ahead of it at each of its places. It is the plan of the bus, from that
-- place on.
use Rattle.std.specs.Prelude.{ℕ, Bool, true, false, cond, List, Option, Some, None, Ok, Err}
use Rattle.types.specs.Sd.{ready_of}
use Rattle.types.specs.declared.error.Error.TheVariants as E
use Rattle.tape.specs.declared.progress.Line.{Line}
use Rattle.tape.specs.Plan.{Nothing, Plan, failed, give, ◌then◌, until}
use Rattle.bus.specs.Command.{first_of}
use Rattle.bus.specs.Ready.{retry_delay, try_ready}
use Rattle.step.specs.Next.{Next, over, refused, next}
use Rattle.step.specs.Context.{Context, whole, plug, and_then}
use Rattle.step.specs.Command.{command_plan}
use Rattle.step.specs.Why.{cause_of}
use Rattle.step.specs.declared.ready.Bus.{Bus}
use Rattle.step.specs.declared.ready.Ready.{Ready}
use Rattle.step.specs.declared.ready.Ready.TheVariants as R
use Rattle.step.specs.declared.why.Step.{Step}
use Rattle.step.specs.declared.why.Step.TheVariants as St

module _ (bus : Bus) where
  abbrev pub limit_at : ℕ
  limit_at = bus.config.poll_limit

  abbrev pub try : Plan Bool
  try = try_ready bus.source.0 limit_at bus.rca

  -- so many attempts
  unfoldable pub attempts : ℕ → Plan Nothing
  attempts n = until n (λ ready. ready) try then λ _. give tt

  -- where an attempt returns to, with so many left
  abbrev pub tried : ℕ → Context Nothing Bool
  tried n = and_then (λ ready. cond ready (give ready) (until n (λ ready. ready) try)) (and_then (λ _. give (tt {0})) whole)

  -- where its CMD13 returns to
  unfoldable pub asked : ℕ → Context Nothing (List ℕ)
  asked n =
      and_then (λ ws. give (first_of ws))
      (and_then (λ status. cond (ready_of status) (give true) (retry_delay bus.source.0 then λ _. give false)) (tried n))

  unfoldable pub ready_plan : Ready → Plan Nothing
  ready_plan (R.Asks n c) = plug (asked n) (command_plan c)
  ready_plan (R.Delay n) = plug (tried n) (retry_delay bus.source.0 then λ _. give false)

  unfoldable pub ready_next : Step Ready (Unit {0}) → Line → Next Nothing
  ready_next (St.On r) h = next (ready_plan r) h
  ready_next (St.Over (Ok tt)) h = over h tt
  ready_next (St.Over (Err why)) h = refused h (cause_of why)

  unfoldable pub waits_next : Option Ready → Line → Next Nothing
  waits_next (Some r) h = next (ready_plan r) h
  waits_next None h = refused h (failed E.SoftwareTimeout)
