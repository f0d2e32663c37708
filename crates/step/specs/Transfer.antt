-- A data phase under way: what is ahead of it at each of its places. It is the plan of the bus, from that place on; `ws` are the
-- words that it is to send, and the data words that it has come to so far.
use Rattle.std.specs.Prelude.{ℕ, suc, ◌+◌, ◌-◌, min, ◌≡◌, Bool, cond, not, true, false, ◌||◌, List, [], ◌++◌, eqb, ltb, take, set, Ok, Err}
use Rattle.types.specs.Bits.{clear}
use Rattle.types.specs.declared.error.Error.TheVariants as E
use Rattle.types.specs.declared.config.Config.{Config}
use Rattle.tape.specs.declared.progress.Line.{Line}
use Rattle.tape.specs.declared.rows.Row.{Row}
use Rattle.tape.specs.declared.script.Reading.{Reading}
use Rattle.tape.specs.Plan.{Nothing, Plan, give, refuse, ◌then◌, refusing, ensure, until}
use Rattle.tape.specs.Rows.{CLKCR, DCTRL, clken_of, dctrl_of}
use Rattle.tape.specs.Steps.{word, row, wait_idle, reset_controller, set_clken, data_from, send_from, send_words}
use Rattle.bus.specs.declared.response.Response.TheVariants.{R1}
use Rattle.bus.specs.declared.transfer.Transfer.{Transfer}
use Rattle.bus.specs.Command.{command_inner}
use Rattle.bus.specs.Ready.{wait_ready}
use Rattle.bus.specs.Transfer.{Buffer, incoming, outgoing, arm, order_data, before_command, after_command, landed, Polled, data_complete, drained, settle, receive, close_gate, stop_transmission, end_data, blocking_data}
use Rattle.init.specs.Initialise.{scr_transfer, switch_transfer}
use Rattle.host.specs.Calls.{blocks_transfer, status_transfer}
use Rattle.step.specs.Next.{Next, over, refused, next, Lent, Handed}
use Rattle.step.specs.Context.{Context, whole, inside, plug, and_then}
use Rattle.step.specs.Command.{command_plan}
use Rattle.step.specs.Why.{cause_of}
use Rattle.step.specs.declared.why.Why.{Why}
use Rattle.step.specs.Ready.{ready_plan}
use Rattle.step.specs.Rows.{row_of, rows_from}
use Rattle.step.specs.Reset.{reset_row, rest_left, rows_left}
use Rattle.step.specs.Arm.{arm_row, arm_rest, arm_left, stop_row, stop_rest, stop_left}
use Rattle.step.specs.declared.ready.Bus.{Bus}
use Rattle.step.specs.declared.phase.Phase.{Phase}
use Rattle.step.specs.declared.phase.Phase.TheVariants as P
use Rattle.step.specs.declared.transfer.Reads.{Reads}
use Rattle.step.specs.declared.transfer.Reads.TheVariants as R
use Rattle.step.specs.declared.transfer.Writes.{Writes}
use Rattle.step.specs.declared.transfer.Writes.TheVariants as W
use Rattle.step.specs.declared.transfer.Data.{Data}
use Rattle.step.specs.declared.transfer.Data.TheVariants as D
use Rattle.step.specs.declared.why.Step.{Step}
use Rattle.step.specs.declared.why.Step.TheVariants as St

-- a read or a write is of 1 to 511 blocks
unfoldable pub blocks_of : ℕ → ℕ
blocks_of n = 1 + min (n - 1) 510

unfoldable pub transfer_of : Phase → Transfer
transfer_of P.Scr = scr_transfer
transfer_of P.Check = switch_transfer 0x00ff_fff1
transfer_of P.Switch = switch_transfer 0x80ff_fff1
transfer_of P.Status = status_transfer
transfer_of (P.Blocks address blocks) = blocks_transfer incoming address (blocks_of blocks)
transfer_of (P.Sends address blocks) = blocks_transfer (outgoing []) address (blocks_of blocks)

-- whether its words go to the card
unfoldable pub sends_of : Phase → Bool
sends_of P.Scr = false
sends_of P.Check = false
sends_of P.Switch = false
sends_of P.Status = false
sends_of (P.Blocks address blocks) = false
sends_of (P.Sends address blocks) = true

abbrev pub buffer_of : Phase → List ℕ → Buffer
buffer_of p sent = cond (sends_of p) (outgoing sent) incoming

-- the last place of a data word; the place of the one with so many after it, and how many are after it: any number is one of
-- these
abbrev pub top_of : Phase → ℕ
top_of p = (transfer_of p).words - 1

abbrev pub place_of : Phase → ℕ → ℕ
place_of p m = top_of p - m

abbrev pub after_of : Phase → ℕ → ℕ
after_of p m = top_of p - place_of p m

-- what it gives of these: none where its words go to the card
abbrev pub given_of : Phase → List ℕ → List ℕ
given_of p taken = cond (sends_of p) [] taken

-- all its words
abbrev pub all_of : Phase → Lent → List ℕ
all_of p ws = given_of p (take (transfer_of p).words ws.taken)

-- the words so far, where g were handed out: a read's are those, the others a call keeps itself
unfoldable pub taken_by : Phase → List ℕ → List ℕ → List ℕ
taken_by P.Scr held taken = held
taken_by P.Check held taken = held
taken_by P.Switch held taken = held
taken_by P.Status held taken = held
taken_by (P.Blocks a n) held taken = taken
taken_by (P.Sends a n) held taken = taken

abbrev pub words_by : Phase → List ℕ → Lent → Lent
words_by p held g = record { sent = g.sent; taken = taken_by p held g.taken }

-- what it keeps after a word at place k: sixteen words have room for it
unfoldable pub put_at : List ℕ → ℕ → ℕ → List ℕ
put_at held k w = cond (ltb k 16) (set held k w) held

unfoldable pub kept_by : Phase → ℕ → List ℕ → ℕ → List ℕ
kept_by P.Scr k held w = put_at held k w
kept_by P.Check k held w = put_at held k w
kept_by P.Switch k held w = put_at held k w
kept_by P.Status k held w = put_at held k w
kept_by (P.Blocks a n) k held w = held
kept_by (P.Sends a n) k held w = held

-- what each of its readings reads
unfoldable pub reading_at : Phase → Reads → Reading
reading_at p (R.Idle n) = Reading.Status
reading_at p (R.First n) = Reading.Status
reading_at p (R.FirstDma n v) = Reading.Dma
reading_at p (R.Again n) = Reading.Status
reading_at p (R.AgainDma n v) = Reading.Dma
reading_at p (R.Count n) = Reading.DCount
reading_at p (R.Word m) = Reading.Data (place_of p m)

module _ (bus : Bus) (phase : Phase) where
  abbrev source : ℕ
  source = bus.source.0

  abbrev config : Config
  config = bus.config

  abbrev limit : ℕ
  limit = config.poll_limit

  abbrev transfer : Transfer
  transfer = transfer_of phase

  abbrev words : ℕ
  words = transfer.words

  -- the whole of it
  abbrev pub phase_plan : List ℕ → Plan (List ℕ)
  phase_plan sent = blocking_data source config (buffer_of phase sent) transfer bus.rca

  -- CONTEXTS. Under its guard; once the poll that completes has come, and its words; inside `start_data`
  abbrev pub guarded : Context (List ℕ) (List ℕ)
  guarded = inside give (refusing reset_controller) whole

  abbrev pub received : Context (List ℕ) (List ℕ)
  received = and_then (λ ws. end_data source config transfer.index bus.rca then λ _. give ws) guarded

  abbrev pub started : Lent → Context (List ℕ) Nothing
  started ws =
      and_then
      (λ _. receive limit (buffer_of phase ws.sent) words then λ ws. end_data source config transfer.index bus.rca then λ _. give ws)
      guarded

  -- what follows the rows that ready the data path
  abbrev pub armed : Lent → Context (List ℕ) Nothing
  armed ws =
      and_then
      (λ _. before_command (buffer_of phase ws.sent) transfer
      then λ _. order_data config transfer
      then λ _. after_command (buffer_of phase ws.sent) transfer)
      (started ws)

  -- what follows the row of DCTRL: the data command, or the words that are sent
  abbrev pub controlled : Lent → Context (List ℕ) Nothing
  controlled ws =
      and_then
      (λ _. cond (sends_of phase) (send_words ws.sent words) (order_data config transfer then λ _. after_command (buffer_of phase ws.sent) transfer))
      (started ws)

  -- what follows the data command
  abbrev pub ordered : Lent → Context (List ℕ) Nothing
  ordered ws = and_then (λ _. after_command (buffer_of phase ws.sent) transfer) (started ws)

  -- where the data command returns to
  unfoldable pub start_site : Lent → Context (List ℕ) (List ℕ)
  start_site ws = and_then (λ _. give (tt {0})) (ordered ws)

  -- where a poll returns to, with so many left
  abbrev pub polls : Lent → Context (List ℕ) Bool
  polls ws = and_then (λ _. give (tt {0})) (and_then (λ _. landed (buffer_of phase ws.sent) words) received)

  abbrev pub loop : Lent → ℕ → Context (List ℕ) Bool
  loop ws n = and_then (λ done. cond done (give done) (until n (λ done. done) data_complete)) (polls ws)

  -- where the end returns to, once all words are there
  unfoldable pub ending : Lent → Context (List ℕ) Nothing
  ending ws = and_then (λ _. give (all_of phase ws)) guarded

  -- after the rows that stop the data path; after the clock's gate; after CMD12
  abbrev pub stopping : Lent → Context (List ℕ) Nothing
  stopping ws =
      and_then (λ _. close_gate then λ _. stop_transmission limit transfer.index then λ _. wait_ready source config bus.rca) (ending ws)

  unfoldable pub unclocked : Lent → Context (List ℕ) Nothing
  unclocked ws = and_then (λ _. stop_transmission limit transfer.index then λ _. wait_ready source config bus.rca) (ending ws)

  unfoldable pub stop_site : Lent → Context (List ℕ) (List ℕ)
  stop_site ws = and_then (λ _. give (tt {0})) (and_then (λ _. wait_ready source config bus.rca) (ending ws))

  -- where a refusal's reset rows lead
  abbrev pub closing : Why → Context (List ℕ) Nothing
  closing why = and_then (λ _. refuse (cause_of why)) whole

  -- PLANS, in order.
  unfoldable pub refusal : Why → Plan (List ℕ)
  refusal why = plug guarded (refuse (cause_of why))

  unfoldable pub idling : Lent → ℕ → Plan (List ℕ)
  idling ws n = plug (and_then (λ _. arm config.data_transfer_timeout transfer) (armed ws)) (wait_idle n true)

  -- the row of DCTRL
  abbrev pub control_row : Row
  control_row = row_of DCTRL (dctrl_of (not (sends_of phase)) transfer.block_size)

  -- word k of what is sent, and the n - 1 after it
  abbrev pub sending : Lent → ℕ → ℕ → Plan (List ℕ)
  sending ws k n = plug (started ws) (send_from ws.sent k n)

  unfoldable pub polling : Lent → ℕ → Plan (List ℕ)
  polling ws n = plug (polls ws) (until n (λ done. done) data_complete)

  abbrev firstly : Polled → Plan Bool
  firstly first = cond (clear 0x4000_0000 first.dma) settle (give false)

  abbrev afterwards : Polled → Plan Bool
  afterwards again =
      cond (clear 0x100 again.status || not (clear 0x3000 again.status)) (give false) (drained again.dma then λ _. give true)

  abbrev dma_of : ℕ → Plan Polled
  dma_of status =
      word Reading.Dma
      then λ dma. ensure (clear 0x8000_0000 dma) E.Dma
      then λ _. give (record { status = status; dma = dma })

  abbrev pub counting : Lent → ℕ → Plan (List ℕ)
  counting ws n = plug (loop ws n) (word Reading.DCount then (λ w. ensure (eqb w 0) E.IncompleteTransfer) then λ _. give true)

  -- data word k and the rest, after the words so far
  abbrev pub taking : ℕ → ℕ → List ℕ → Plan (List ℕ)
  taking k n taken = plug (and_then (λ rest. give (given_of phase (taken ++ rest))) received) (data_from k n)

  unfoldable pub reads_plan : Lent → Reads → Plan (List ℕ)
  reads_plan ws (R.Idle n) = idling ws (suc n)
  reads_plan ws (R.First n) = polling ws (suc n)
  reads_plan ws (R.FirstDma n v) = plug (and_then firstly (loop ws n)) (dma_of v)
  reads_plan ws (R.Again n) = plug (loop ws n) settle
  reads_plan ws (R.AgainDma n v) = plug (and_then afterwards (loop ws n)) (dma_of v)
  reads_plan ws (R.Count n) = counting ws n
  reads_plan ws (R.Word m) = taking (place_of phase m) (suc (after_of phase m)) (take (place_of phase m) ws.taken)

  -- after the rows that stop the data path
  unfoldable pub stopped : Lent → Plan (List ℕ)
  stopped ws = plug (stopping ws) (rows_from [])

  unfoldable pub writes_plan : Lent → Writes → Plan (List ℕ)
  writes_plan ws (W.Reset r why) = plug (closing why) (rows_from (rows_left r))
  writes_plan ws (W.Arm a) = plug (armed ws) (rows_from (arm_left config.data_transfer_timeout transfer a))
  writes_plan ws W.Control = plug (controlled ws) (row control_row.register control_row.value)
  writes_plan ws W.Open = plug (ordered ws) (order_data config transfer)
  writes_plan ws (W.Stop s) = plug (stopping ws) (rows_from (stop_left s))
  writes_plan ws W.Gate = plug (unclocked ws) (set_clken false)

  -- its row, and what is ahead once it is written
  unfoldable pub row_at : Line → Writes → Row
  row_at h (W.Reset r why) = reset_row r
  row_at h (W.Arm a) = arm_row config.data_transfer_timeout transfer a
  row_at h W.Control = control_row
  row_at h W.Open = row_of CLKCR (clken_of h.clkcr true)
  row_at h (W.Stop s) = stop_row s
  row_at h W.Gate = row_of CLKCR (clken_of h.clkcr false)

  unfoldable pub told_plan : Lent → Writes → Plan (List ℕ)
  told_plan ws (W.Reset r why) = plug (closing why) (rows_from (rest_left r))
  told_plan ws (W.Arm a) = plug (armed ws) (rows_from (arm_rest config.data_transfer_timeout transfer a))
  told_plan ws W.Control = plug (controlled ws) (give tt)
  told_plan ws W.Open = plug (start_site ws) (command_inner limit transfer.index transfer.argument R1)
  told_plan ws (W.Stop s) = plug (stopping ws) (rows_from (stop_rest s))
  told_plan ws W.Gate = plug (unclocked ws) (give tt)

  unfoldable pub data_plan : Lent → Data → Plan (List ℕ)
  data_plan ws (D.Asks r) = reads_plan ws r
  data_plan ws (D.Tells t) = writes_plan ws t
  data_plan ws (D.Sends m) = sending ws (place_of phase m) (suc (after_of phase m))
  data_plan ws (D.Start c) = plug (start_site ws) (command_plan c)
  data_plan ws (D.Stop c) = plug (stop_site ws) (command_plan c)
  data_plan ws (D.Ready r) = plug (ending ws) (ready_plan bus r)

  unfoldable pub data_next : Lent → Step Data (Unit {0}) → Line → Next (List ℕ)
  data_next ws (St.On d) h = next (data_plan ws d) h
  data_next ws (St.Over (Ok tt)) h = over h (all_of phase ws)
  data_next ws (St.Over (Err why)) h = refused h (cause_of why)

-- ws' has the word w after a reading, where ws were there before it
unfoldable pub HandedAt : Phase → Data → ℕ → Lent → Lent → Type 0
HandedAt p (D.Asks r) w ws ws' = Handed (reading_at p r) w ws ws'
HandedAt p (D.Tells t) w ws ws' = ws' ≡ ws
HandedAt p (D.Sends m) w ws ws' = ws' ≡ ws
HandedAt p (D.Start c) w ws ws' = ws' ≡ ws
HandedAt p (D.Stop c) w ws ws' = ws' ≡ ws
HandedAt p (D.Ready r) w ws ws' = ws' ≡ ws

-- what a call keeps after the word w
unfoldable pub held_after : Phase → Reads → List ℕ → ℕ → List ℕ
held_after p (R.Idle n) held w = held
held_after p (R.First n) held w = held
held_after p (R.FirstDma n v) held w = held
held_after p (R.Again n) held w = held
held_after p (R.AgainDma n v) held w = held
held_after p (R.Count n) held w = held
held_after p (R.Word m) held w = kept_by p (place_of p m) held w

unfoldable pub held_by : Phase → Data → List ℕ → ℕ → List ℕ
held_by p (D.Asks r) held w = held_after p r held w
held_by p (D.Tells t) held w = held
held_by p (D.Sends m) held w = held
held_by p (D.Start c) held w = held
held_by p (D.Stop c) held w = held
held_by p (D.Ready r) held w = held
