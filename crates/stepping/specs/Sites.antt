-- Where each step of a call returns to: what follows a command, a ready wait, a data phase or a row, in the driver's order. Each is
-- the rest of the host's own plan after that step.
use Rattle.std.specs.Prelude.{ℕ, ◌+◌, ◌*◌, ◌/◌, ◌^◌, min, Bool, true, false, cond, not, List, eqb, get_or}
use Rattle.types.specs.Bits.{clear}
use Rattle.types.specs.Sd.{wide_of, tran_speed}
use Rattle.types.specs.Words.{scr_of}
use Rattle.types.specs.declared.card.Card.{Card}
use Rattle.types.specs.declared.card.Signalling.TheVariants.{SDR25}
use Rattle.types.specs.declared.clock.Clock.{Clock}
use Rattle.types.specs.declared.error.Error.TheVariants as E
use Rattle.types.specs.declared.error.Field.TheVariants.{Voltage, AppCommand}
use Rattle.types.specs.declared.status.Scr.{Scr}
use Rattle.tape.specs.Plan.{Nothing, Plan, give, refuse, look, ◌then◌, refusing, ensure, until}
use Rattle.tape.specs.Rows.{POWER}
use Rattle.tape.specs.Steps.{row, reset_controller, set_clken, hold_clock, hold_gated, hold_signalling}
use Rattle.bus.specs.declared.response.Response.TheVariants.{None, R1, R2, R3}
use Rattle.bus.specs.Clock.{configure_clock, clock_delay}
use Rattle.bus.specs.Command.{first_of, command, app_command}
use Rattle.bus.specs.Ready.{retry_delay}
use Rattle.bus.specs.Transfer.{incoming, blocking_data}
use Rattle.init.specs.declared.settings.Settings.{Settings}
use Rattle.init.specs.Initialise.{limit_of, source_of, version, late, card_version, powered_up, try_power_up, wait_power_up, select, publish, identify, block_length, scr_transfer, set_width, set_clock, transfer_clock, offered, switched, take_switch, switch_speed, with_scr, settle_card}
use Rattle.host.specs.declared.host.Sdmmc.{Sdmmc}
use Rattle.step.specs.Context.{Context, whole, inside, and_then}
use Rattle.step.specs.Why.{cause_of}
use Rattle.step.specs.declared.why.Why.{Why}
use Rattle.stepping.specs.Closing.{Closing, keeping, dropping, finding}

module _ (host : Sdmmc) (initial : Clock) (frequency : ℕ) where
  abbrev set : Settings
  set = host.settings

  abbrev limit : ℕ
  limit = limit_of set

  abbrev source : ℕ
  source = source_of set

  -- where an initialisation returns to, and under its guard
  abbrev pub found : Context Closing Card
  found = inside (finding host) (dropping host) whole

  abbrev pub guarded : Context Closing Card
  guarded = inside give (refusing reset_controller) found

  -- where a refusal's reset rows lead
  abbrev pub refused : Why → Context Closing Nothing
  refused why = and_then (λ _. refuse (cause_of why)) found

  -- its four stages: what follows `begin_init`, `wait_power_up`, `identify`
  abbrev pub begun : Context Closing Bool
  begun = and_then (λ version2. wait_power_up set version2 then λ ocr. identify limit ocr then λ card. settle_card set frequency card) guarded

  abbrev pub powered : Context Closing ℕ
  powered = and_then (λ ocr. identify limit ocr then λ card. settle_card set frequency card) guarded

  abbrev pub identified : Context Closing Card
  identified = and_then (settle_card set frequency) guarded

  -- `begin_init`: the reset rows, the idle wait and the initial clock, power, the clock on, 80 cycles, CMD0, CMD8
  abbrev pub powered_on : Context Closing Nothing
  powered_on = and_then (λ _. command limit 0 0 None then λ _. card_version limit) begun

  abbrev pub opened : Context Closing Nothing
  opened = and_then (λ _. clock_delay source initial.frequency.0 80) powered_on

  abbrev pub powering : Context Closing Nothing
  powering = and_then (λ _. set_clken true then λ _. clock_delay source initial.frequency.0 80) powered_on

  abbrev pub clocked : Context Closing Nothing
  clocked = and_then (λ _. row POWER 3 then λ _. set_clken true then λ _. clock_delay source initial.frequency.0 80) powered_on

  abbrev pub resetting : Context Closing Nothing
  resetting =
      and_then
      (λ _. configure_clock limit initial false false
      then λ _. row POWER 3
      then λ _. set_clken true
      then λ _. clock_delay source initial.frequency.0 80)
      powered_on

  abbrev pub cmd0 : Context Closing (List ℕ)
  cmd0 = and_then (λ _. card_version limit) begun

  abbrev pub cmd8 : Context Closing (List ℕ)
  cmd8 = inside (λ ws. version (first_of ws)) late begun

  -- the power-up loop, with so many attempts left after this one
  abbrev pub power_ups : Bool → ℕ → Plan ℕ
  power_ups v n = until n powered_up (try_power_up set v)

  abbrev pub tried : Bool → ℕ → Context Closing ℕ
  tried v n =
      and_then (λ ocr. cond (powered_up ocr) (give ocr) (retry_delay source then λ _. give ocr))
      (and_then (λ ocr. cond (powered_up ocr) (give ocr) (power_ups v n)) powered)

  abbrev judge_ocr : List ℕ → Plan ℕ
  judge_ocr ws = ensure (not (clear 0x0030_0000 (first_of ws))) (E.UnsupportedCardType Voltage) then λ _. give (first_of ws)

  abbrev pub power55 : Bool → ℕ → Context Closing (List ℕ)
  power55 v n =
      and_then (λ ws. ensure (not (clear 0x20 (first_of ws))) (E.UnsupportedCardType AppCommand))
      (and_then (λ _. command limit 41 (0x0030_0000 + cond v 0x4000_0000 0) R3 then judge_ocr) (tried v n))

  abbrev pub power41 : Bool → ℕ → Context Closing (List ℕ)
  power41 v n = and_then judge_ocr (tried v n)

  abbrev pub retried : Bool → ℕ → Context Closing Nothing
  retried v n = and_then (λ _. power_ups v n) powered

  -- `identify`
  abbrev pub cmd2 : ℕ → Context Closing (List ℕ)
  cmd2 ocr =
      and_then
      (λ cid. publish limit
      then λ rca. ensure (not (eqb rca 0)) E.ResponseMismatch
      then λ _. command limit 9 (rca * 2 ^ 16) R2
      then λ csd. select limit ocr rca cid csd)
      identified

  abbrev pub cmd3 : ℕ → List ℕ → Context Closing (List ℕ)
  cmd3 ocr cid =
      and_then (λ ws. give (first_of ws / 2 ^ 16))
      (and_then
      (λ rca. ensure (not (eqb rca 0)) E.ResponseMismatch
      then λ _. command limit 9 (rca * 2 ^ 16) R2
      then λ csd. select limit ocr rca cid csd)
      identified)

  abbrev pub cmd9 : ℕ → List ℕ → ℕ → Context Closing (List ℕ)
  cmd9 ocr cid rca = and_then (λ csd. select limit ocr rca cid csd) identified

  abbrev pub cmd7 : Card → Context Closing (List ℕ)
  cmd7 card = and_then (λ _. give card) identified

  -- `settle_card`: the SCR, the bus width, the clock, the signalling
  abbrev pub scr_read : Card → Context Closing ℕ
  scr_read card =
      and_then
      (λ scr. set_width set card.rca scr
      then λ _. transfer_clock set frequency (tran_speed (wide_of card.csd))
      then λ _. switch_speed set frequency card.rca scr
      then λ _. give (with_scr card scr))
      guarded

  abbrev pub selected : Card → Context Closing Nothing
  selected card =
      and_then
      (λ _. block_length limit card.card_type
      then λ _. app_command limit card.rca
      then λ _. blocking_data source set.config incoming scr_transfer card.rca
      then λ ws. give (scr_of (get_or ws 0 0) (get_or ws 1 0)))
      (scr_read card)

  abbrev pub cmd16 : Card → Context Closing (List ℕ)
  cmd16 card =
      and_then (λ _. give (tt {0}))
      (and_then
      (λ _. app_command limit card.rca
      then λ _. blocking_data source set.config incoming scr_transfer card.rca
      then λ ws. give (scr_of (get_or ws 0 0) (get_or ws 1 0)))
      (scr_read card))

  abbrev pub scr55 : Card → Context Closing (List ℕ)
  scr55 card =
      and_then (λ ws. ensure (not (clear 0x20 (first_of ws))) (E.UnsupportedCardType AppCommand))
      (and_then
      (λ _. blocking_data source set.config incoming scr_transfer card.rca
      then λ ws. give (scr_of (get_or ws 0 0) (get_or ws 1 0)))
      (scr_read card))

  abbrev pub scr_data : Card → Context Closing (List ℕ)
  scr_data card = and_then (λ ws. give (scr_of (get_or ws 0 0) (get_or ws 1 0))) (scr_read card)

  abbrev pub widened : Card → Scr → Context Closing Nothing
  widened card scr =
      and_then
      (λ _. transfer_clock set frequency (tran_speed (wide_of card.csd))
      then λ _. switch_speed set frequency card.rca scr.0
      then λ _. give (with_scr card scr.0))
      guarded

  abbrev pub width55 : Card → Scr → Context Closing (List ℕ)
  width55 card scr =
      and_then (λ ws. ensure (not (clear 0x20 (first_of ws))) (E.UnsupportedCardType AppCommand))
      (and_then (λ _. command limit 6 (cond set.wide 2 0) R1 then λ _. give tt) (widened card scr))

  abbrev pub width6 : Card → Scr → Context Closing (List ℕ)
  width6 card scr = and_then (λ _. give (tt {0})) (widened card scr)

  abbrev pub clock_set : Card → Scr → Context Closing Nothing
  clock_set card scr = and_then (λ _. switch_speed set frequency card.rca scr.0 then λ _. give (with_scr card scr.0)) guarded

  abbrev pub settled : Card → Scr → Context Closing Nothing
  settled card scr = and_then (λ _. give (with_scr card scr.0)) guarded

  abbrev pub check_data : Card → Scr → Context Closing (List ℕ)
  check_data card scr = and_then (λ ws. cond (offered ws) (take_switch set frequency card.rca) (give tt)) (settled card scr)

  abbrev pub switch_data : Card → Scr → Context Closing (List ℕ)
  switch_data card scr =
      and_then
      (λ ws. ensure (switched ws) E.SignalingSwitchFailed
      then λ _. look (λ line. clock_delay source line.clock.0 8)
      then λ _. set_clock set (min frequency 50_000_000)
      then λ _. hold_signalling SDR25)
      (settled card scr)

  abbrev pub switch_delay : Card → Scr → Context Closing Nothing
  switch_delay card scr = and_then (λ _. set_clock set (min frequency 50_000_000) then λ _. hold_signalling SDR25) (settled card scr)

  abbrev pub switch_clock : Card → Scr → Context Closing Nothing
  switch_clock card scr = and_then (λ _. hold_signalling SDR25) (settled card scr)

  -- a clock change: its row, and what the host holds from there on
  abbrev pub changing : Clock → Context Closing Nothing → Context Closing Nothing
  changing clock k = and_then (λ _. hold_clock clock.frequency then λ _. hold_gated true) k

-- the calls with a data phase of their own
module _ (host : Sdmmc) where
  -- where their approach returns to
  abbrev pub approached : Plan Closing → Context Closing Nothing
  approached transfer = inside (λ _. transfer) (keeping host) whole

  -- where CMD55 of a status call returns to
  abbrev pub app : Plan Closing → Context Closing (List ℕ)
  app transfer = and_then (λ ws. ensure (not (clear 0x20 (first_of ws))) (E.UnsupportedCardType AppCommand)) (approached transfer)
