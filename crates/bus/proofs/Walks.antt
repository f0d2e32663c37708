-- Commands, ready waits and data phases hold nothing new, and are never refused with UnsupportedCardType, BadClock or WriteProtected;
-- until a reset no row of theirs is the last reset row. So they obey every rule that allows the other errors, and such rows.
use Rattle.std.specs.Prelude.{Err}
use Prim.Native.Nat.{ℕ}
use mathlib.Core.Bool.{Bool, true, false, cond, not, ◌&&◌, ◌||◌}
use mathlib.Core.List.{List, [], ◌∷◌}
use mathlib.Core.Path.{◌≡◌, refl}
use native.Mathlib.Omega.{arith}
use lib.Dec.{eqb}
use Rattle.types.specs.declared.config.Config.{Config}
use Rattle.types.specs.declared.error.Error.{Error}
use Rattle.types.specs.declared.error.Error.TheVariants as E
use Rattle.types.specs.declared.error.Field.TheVariants.{AppCommand}
use Rattle.types.specs.Answer.{error_told}
use Rattle.types.specs.Bits.{clear}
use Rattle.types.specs.Leaf.{Rule as Masked, first_match, data_of}
use Rattle.types.specs.Sd.{ready_of}
use Rattle.tape.specs.Plan.{Nothing}
use Rattle.tape.specs.declared.rows.Row.{Row}
use Rattle.tape.specs.Rows.{ICR}
use Rattle.tape.specs.Steps.{row, wait_idle, reset_controller, stop_data, set_clken}
use Rattle.tape.proofs.Walk.{Rule, Obeys, RowsOnly, on-give, on-fail, on_then, on-look, on_test, on_word, on_row, on-ensure, on-until, on_data, on_send}
use Rattle.tape.proofs.Walk.{on-rows, on-closing, rows_row, rows-look, rows_then}
use Rattle.bus.specs.declared.response.Form.{Form}
use Rattle.bus.specs.declared.response.Response.{Response}
use Rattle.bus.specs.declared.transfer.Transfer.{Transfer}
use Rattle.bus.specs.Clock.{configure_clock}
use Rattle.types.specs.declared.clock.Clock.{Clock}
use Rattle.bus.specs.Command.{form_of, issue, poll_completion, wait_completion, echo, response_words, judge, answer, complete, command_inner, command, app_command}
use Rattle.bus.specs.Ready.{retry_delay, read_status, try_ready, wait_ready}
use Rattle.bus.specs.Transfer.{Buffer, incoming, outgoing, Polled, arm, ready_data, order_data, before_command, after_command, landed, start_data, heeded, clean, poll_transfer, drained, settle, data_complete, wait_data, receive, close_gate, of_many, stop_transmission, end_data, transfer_data, blocking_data}

-- an error other than UnsupportedCardType, BadClock and WriteProtected
abbrev pub Other : Error → Type 0
Other e = (eqb (error_told e).number 13 || (eqb (error_told e).number 17 || eqb (error_told e).number 26)) ≡ false

pub unequal : ◌≡◌ {A = Bool} true false → ⊥
unequal e = let z : ◌≡◌ {A = ℕ} 1 0 = cc in omega arith

pub not_13 : (e : Error) → Other e → (error_told e).number ≡ 13 → ⊥
not_13 e o z = let no : ◌≡◌ {A = Bool} true false = rw z at o in unequal no

pub not_17 : (e : Error) → Other e → (error_told e).number ≡ 17 → ⊥
not_17 e o z = let no : ◌≡◌ {A = Bool} true false = rw z at o in unequal no

pub not_26 : (e : Error) → Other e → (error_told e).number ≡ 26 → ⊥
not_26 e o z = let no : ◌≡◌ {A = Bool} true false = rw z at o in unequal no

-- a row other than the last of the reset rows
abbrev pub Ordinary : Row → Type 0
Ordinary r = (eqb r.register ICR && eqb r.value 0x00c0_07ff) ≡ false

-- those of a table of masks
unfoldable Others : List Masked → Type 0
Others [] = Unit {0}
Others (r ∷ rs) = Other r.error × Others rs

module _ (rule : Rule) (others : (e : Error) → Other e → rule.refuses e) (rows : (r : Row) → Ordinary r → rule.writes r) where
  ordinary : (register value : ℕ) → Ordinary (record { register = register; value = value }) → Obeys rule Nothing (row register value)
  ordinary register value o = on_row register value (rows (record { register = register; value = value }) o)

  late : rule.refuses E.SoftwareTimeout
  unfolding error_told
  late = others E.SoftwareTimeout refl

  timeout : rule.refuses E.Timeout
  unfolding error_told
  timeout = others E.Timeout refl

  crc : rule.refuses E.Crc
  unfolding error_told
  crc = others E.Crc refl

  mismatch : rule.refuses E.ResponseMismatch
  unfolding error_told
  mismatch = others E.ResponseMismatch refl

  errors : (word : ℕ) → rule.refuses (E.CardStatus word)
  unfolding error_told
  errors word = others (E.CardStatus word) refl

  locked : rule.refuses E.CardLocked
  unfolding error_told
  locked = others E.CardLocked refl

  incomplete : rule.refuses E.IncompleteTransfer
  unfolding error_told
  incomplete = others E.IncompleteTransfer refl

  dma : rule.refuses E.Dma
  unfolding error_told
  dma = others E.Dma refl

  pub idle-obeys : (limit : ℕ) (transfer : Bool) → Obeys rule Nothing (wait_idle limit transfer)
  unfolding wait_idle
  idle-obeys limit transfer = on_then (on-until limit _ late (on_word _)) (λ _. on-give)

  clken_rows : (on : Bool) → RowsOnly rule (set_clken on)
  unfolding set_clken
  clken_rows on = rows-look (λ line i. rows_row _ _ (rows _ refl))

  pub clken_obeys : (on : Bool) → Obeys rule Nothing (set_clken on)
  clken_obeys on = on-rows (clken_rows on)

  complete-obeys : (limit index : ℕ) (form : Form) → Obeys rule (List ℕ) (complete limit index form)
  unfolding complete wait_completion poll_completion answer echo response_words judge
  complete-obeys limit index form =
      on_then (on-until limit _ late (on_then (on_word _) (λ w. on_then (on-ensure _ E.Timeout timeout) (λ _. on-give))))
      (λ status. on_test form.silent on-give
      (on_then (on-ensure _ E.Crc crc)
      (λ _. on_then
      (on_test form.echoes (on_then (on_word _) (λ w. on-ensure _ E.ResponseMismatch mismatch)) on-give)
      (λ _. on_then (on_then (on_word _) (λ a. on_then (on_word _) (λ b. on_then (on_word _) (λ c. on_then (on_word _) (λ d. on-give)))))
      (λ ws. on_then (on-ensure _ _ (errors _))
      (λ _. on_then (on-ensure _ E.CardLocked locked) (λ _. on-give)))))))

  inner-obeys : (limit index argument : ℕ) (response : Response) → Obeys rule (List ℕ) (command_inner limit index argument response)
  unfolding command_inner issue
  inner-obeys limit index argument response =
      on_then (idle-obeys limit false)
      (λ _. on_then (on_then (ordinary _ _ refl) (λ _. on_then (ordinary _ _ refl) (λ _. ordinary _ _ refl))) (λ _. complete-obeys limit index (form_of response)))

  pub command-obeys : (limit index argument : ℕ) (response : Response) → Obeys rule (List ℕ) (command limit index argument response)
  unfolding command
  command-obeys limit index argument response =
      on-look (λ line i. on_test line.gated
      (on_then (clken_obeys true)
      (λ _. on-closing (inner-obeys limit index argument response) (λ ws. on_then (clken_obeys false) (λ _. on-give)) (clken_rows false)))
      (inner-obeys limit index argument response))

  pub app-obeys : rule.refuses (E.UnsupportedCardType AppCommand) → (limit rca : ℕ) → Obeys rule Nothing (app_command limit rca)
  unfolding app_command
  app-obeys untaken limit rca = on_then (command-obeys limit 55 _ _) (λ ws. on-ensure _ _ untaken)

  pub retry_obeys : (source : ℕ) → Obeys rule Nothing (retry_delay source)
  unfolding retry_delay
  retry_obeys source = ordinary _ _ refl

  pub ready-obeys : (source : ℕ) (config : Config) (rca : ℕ) → Obeys rule Nothing (wait_ready source config rca)
  unfolding wait_ready try_ready read_status
  ready-obeys source config rca =
      on_then
      (on-until _ _ late
      (on_then (on_then (command-obeys _ 13 _ _) (λ ws. on-give))
      (λ status. on_test (ready_of status) on-give (on_then (retry_obeys source) (λ _. on-give)))))
      (λ _. on-give)

  pub configure_obeys : (limit : ℕ) (clock : Clock) (wide on : Bool) → Obeys rule Nothing (configure_clock limit clock wide on)
  unfolding configure_clock
  configure_obeys limit clock wide on = on_then (idle-obeys limit true) (λ _. ordinary _ _ refl)

  -- what `data_error` says of a status word
  heeded-obeys : (word : ℕ) (rs : List Masked) → Others rs → Obeys rule Nothing (heeded (first_match word rs))
  unfolding first_match Others
  heeded-obeys word [] b = on-give
  heeded-obeys word (r ∷ rs) b = by (clear r.mask word) (heeded-obeys word rs b.1)
    where
      by : (none : Bool) → Obeys rule Nothing (heeded (first_match word rs))
          → Obeys rule Nothing (heeded (cond none (first_match word rs) (Err r.error)))
      by true ih = ih
      by false ih = on-fail (others r.error b.0)

  clean-obeys : (status : ℕ) → Obeys rule Nothing (clean status)
  unfolding clean data_of Others error_told
  clean-obeys status = heeded-obeys status _ (refl, (refl, (refl, (refl, (refl, tt)))))

  poll_obeys : Obeys rule Polled poll_transfer
  unfolding poll_transfer
  poll_obeys =
      on_then (on_word _)
      (λ status. on_then (clean-obeys status) (λ _. on_then (on_word _) (λ w. on_then (on-ensure _ E.Dma dma) (λ _. on-give))))

  settle-obeys : Obeys rule Bool settle
  unfolding settle drained
  settle-obeys =
      on_then poll_obeys
      (λ again. on_test (clear 0x100 again.status || not (clear 0x3000 again.status)) on-give
      (on_then (on_then (on-ensure _ E.IncompleteTransfer incomplete) (λ _. on_then (on_word _) (λ w. on-ensure _ E.IncompleteTransfer incomplete))) (λ _. on-give)))

  landed-obeys : (buffer : Buffer) (count : ℕ) → Obeys rule (List ℕ) (landed buffer count)
  unfolding landed
  landed-obeys incoming count = on_data 0 count
  landed-obeys (outgoing ws) count = on-give

  receive-obeys : (limit : ℕ) (buffer : Buffer) (count : ℕ) → Obeys rule (List ℕ) (receive limit buffer count)
  unfolding receive wait_data data_complete
  receive-obeys limit buffer count =
      on_then (on_then (on-until limit _ late (on_then poll_obeys (λ first. on_test (clear 0x4000_0000 first.dma) settle-obeys on-give))) (λ _. on-give))
      (λ _. landed-obeys buffer count)

  stop_obeys : Obeys rule Nothing stop_data
  unfolding stop_data
  stop_obeys = on_then (ordinary _ _ refl) (λ _. on_then (ordinary _ _ refl) (λ _. ordinary _ _ refl))

  before-obeys : (buffer : Buffer) (transfer : Transfer) → Obeys rule Nothing (before_command buffer transfer)
  unfolding before_command
  before-obeys incoming transfer = ordinary _ _ refl
  before-obeys (outgoing ws) transfer = on-give

  after-obeys : (buffer : Buffer) (transfer : Transfer) → Obeys rule Nothing (after_command buffer transfer)
  unfolding after_command
  after-obeys incoming transfer = on-give
  after-obeys (outgoing ws) transfer = on_then (ordinary _ _ refl) (λ _. on_send (λ value. rows _ refl) ws 0 transfer.words)

  start-obeys : (config : Config) (buffer : Buffer) (transfer : Transfer) → Obeys rule Nothing (start_data config buffer transfer)
  unfolding start_data ready_data order_data arm
  start-obeys config buffer transfer =
      on_then
      (on_then (idle-obeys _ true)
      (λ _. on_then (ordinary _ _ refl) (λ _. on_then stop_obeys (λ _. on_then (ordinary _ _ refl) (λ _. ordinary _ _ refl)))))
      (λ _. on_then (before-obeys buffer transfer)
      (λ _. on_then (on_then (clken_obeys true) (λ _. on_then (inner-obeys _ _ _ _) (λ _. on-give))) (λ _. after-obeys buffer transfer)))

  end-obeys : (source : ℕ) (config : Config) (index rca : ℕ) → Obeys rule Nothing (end_data source config index rca)
  unfolding end_data close_gate stop_transmission
  end-obeys source config index rca =
      on_then stop_obeys
      (λ _. on_then (on-look (λ line i. on_test line.gated (clken_obeys false) on-give))
      (λ _. on_then (on_test (of_many index) (on_then (command-obeys _ 12 _ _) (λ _. on-give)) on-give)
      (λ _. ready-obeys source config rca)))

  -- The reset rows are not ordinary.
  pub reset-rows : ((r : Row) → rule.writes r) → RowsOnly rule reset_controller
  unfolding reset_controller
  reset-rows any =
      rows_then (rows_row _ _ (any _)) (λ _. rows_then (rows_row _ _ (any _)) (λ _. rows_then (rows_row _ _ (any _)) (λ _. rows_then (rows_row _ _ (any _))
      (λ _. rows_then (rows_row _ _ (any _)) (λ _. rows_then (rows_row _ _ (any _)) (λ _. rows_then (rows_row _ _ (any _)) (λ _. rows_then (rows_row _ _ (any _))
      (λ _. rows_then (rows_row _ _ (any _)) (λ _. rows_row _ _ (any _))))))))))

  pub data_obeys : ((r : Row) → rule.writes r) → (source : ℕ) (config : Config) (buffer : Buffer) (transfer : Transfer) (rca : ℕ) → Obeys rule (List ℕ) (blocking_data source config buffer transfer rca)
  unfolding blocking_data transfer_data
  data_obeys any source config buffer transfer rca =
      on-closing
      (on_then (start-obeys config buffer transfer)
      (λ _. on_then (receive-obeys _ buffer _) (λ ws. on_then (end-obeys source config _ rca) (λ _. on-give))))
      (λ ws. on-give) (reset-rows any)
