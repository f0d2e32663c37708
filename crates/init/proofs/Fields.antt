-- A refused initialisation's 13 carries the field of the step that refused: along its plan, whatever is refused with
-- UnsupportedCardType is so after the command, and for the answer, that its field says.
use Rattle.std.specs.Prelude.{Result, Ok, Err}
use Prim.Native.Nat.{ℕ, ◌+◌, ◌^◌, ◌≤◌}
use mathlib.Core.Bool.{Bool, true, false, cond, ◌&&◌}
use mathlib.Core.List.{List}
use mathlib.Core.Path.{◌≡◌, refl, sym, ap}
use native.Mathlib.Omega.{arith}
use lib.Dec.{eqb, ltb, leb}
use lib.ListN.{get_or}
use Rattle.types.specs.declared.card.Card.{Card}
use Rattle.types.specs.declared.clock.Clock.{Clock}
use Rattle.types.specs.declared.error.Error.{Error}
use Rattle.types.specs.declared.error.Error.TheVariants as E
use Rattle.types.specs.declared.error.Field.{Field}
use Rattle.types.specs.declared.error.Field.TheVariants.{CsdVersion, BlockLength, RateUnit, RateValue, RateReservedBit, CsdAndOcr, Voltage, AppCommand}
use Rattle.types.specs.declared.register.BlockCount.{BlockCount}
use Rattle.types.specs.Answer.{error_told}
use Rattle.types.specs.Bits.{clear}
use Rattle.types.specs.Leaf.{divisor_of, clock_of, count_of, rate_of}
use Rattle.types.specs.Sd.{tran_speed}
use Rattle.types.specs.Words.{counted, halves_of}
use Rattle.types.proofs.Agree.{CountFault, of-version, of_length, count_fault, RateFault, of-reserved-bit, of-unit, of-value, rate_fault}
use Rattle.tape.specs.declared.rows.Row.{Row}
use Rattle.tape.specs.Plan.{Nothing, Plan, handle, ◌then◌}
use Rattle.tape.specs.Rows.{DELAY}
use Rattle.tape.specs.Steps.{row, reset_controller}
use Rattle.tape.proofs.Walk.{Rule, Obeys, on-give, on-fail, on_then, on_test, on_row, on-ensure}
use Rattle.bus.specs.Clock.{spins_of, clock_delay}
use Rattle.bus.specs.Command.{first_of, form_of, app_command}
use Rattle.bus.specs.declared.response.Response.TheVariants.{R1, R2, R3}
use Rattle.bus.specs.Sent.{sent_after, answer_at}
use Rattle.bus.proofs.Shown.{opposite, shows, Tells, tells-handle, tells-give, tells-fail, tells-end, tells_then, tells_test, tells-ensure, tells-until, tells_obeyed, Answered, command-tells, app-tells}
use Rattle.bus.proofs.Walks.{unequal, Other, not_13, Ordinary, command-obeys, retry_obeys, ready-obeys, data_obeys}
use Rattle.init.specs.declared.settings.Settings.{Settings}
use Rattle.init.specs.Fields.{command_of, own_answer, csd_at, OcrSays, Says, Blames}
use Rattle.init.specs.Initialise.{source_of, limit_of, power_up, powered_up, try_power_up, wait_power_up}
use Rattle.init.specs.Initialise.{same, select, publish, identify, read_scr, set_width, rated, transfer_clock}
use Rattle.init.specs.Initialise.{settle_card, init_card, initialise}
use Rattle.init.specs.Initialise as I
use Rattle.init.proofs.Walks.{Allows, begin_obeys, block-length-obeys, clock-obeys, switch_obeys}

-- STEPS THAT SAY NOTHING OF A CARD'S TYPE: they are refused with other errors.

abbrev pub Not13 : Error → Type 0
Not13 e = (error_told e).number ≡ 13 → ⊥

abbrev pub typeless : Rule
typeless = record { holds = λ h. Unit {0}; writes = λ r. Unit {0}; refuses = Not13; noted = λ r h i. tt }

pub any : (r : Row) → Ordinary r → typeless.writes r
any r o = tt

pub row_any : (r : Row) → typeless.writes r
row_any r = tt

pub clock_not_13 : (source requested : ℕ) (bypass : Bool) (e : Error) → clock_of source requested bypass ≡ Err e → Not13 e
unfolding clock_of error_told
clock_not_13 source requested bypass e r =
    by (eqb source 0) (eqb requested 0) (ltb 80_000_000 requested) (bypass && leb source requested) (ltb 257 (divisor_of source requested)) _ _ r
  where
    bad : E.BadClock ≡ e → Not13 e
    bad same z = omega (arith, rw (← same) at z)

    by : (a b c d f : Bool) (x y : Clock)
        → cond a (Err E.BadClock) (cond b (Err E.BadClock) (cond c (Err E.BadClock)
        (cond d (Ok x) (cond f (Err E.BadClock) (Ok y))))) ≡ Err e
        → Not13 e
    by true b c d f x y r = bad cc
    by false true c d f x y r = bad cc
    by false false true d f x y r = bad cc
    by false false false true f x y r = let z : ◌≡◌ {A = ℕ} 0 1 = cc in absurd (omega arith)
    by false false false false true x y r = bad cc
    by false false false false false x y r = let z : ◌≡◌ {A = ℕ} 0 1 = cc in absurd (omega arith)

pub bad-clock : Not13 E.BadClock
unfolding error_told
bad-clock z = omega arith

delay-obeys : (source clock cycles : ℕ) → Obeys typeless Nothing (clock_delay source clock cycles)
unfolding clock_delay
delay-obeys source clock cycles =
    on_test (eqb clock 0) (on-fail bad-clock) (on_test (ltb (spins_of source clock cycles) (2 ^ 32)) (on_row DELAY (spins_of source clock cycles) tt) (on-fail bad-clock))

pub allows : (set : Settings) → Allows set typeless
allows set =
    record {
      others = not_13;
      row = λ r. tt;
      Runs = λ clock. Unit {0};
      runs = λ h i. tt;
      line = λ h h' i f. tt;
      delay = λ clock cycles f h. delay-obeys (source_of set) clock cycles;
      given = λ requested c g. tt;
      refused = λ requested e g. clock_not_13 _ requested _ e g;
    }

-- THE STEPS THAT DO.

module _ (s : List ℕ) where
  -- what is refused with UnsupportedCardType is so for what its field says
  abbrev pub Blamed : ℕ → ℕ → Error → Type 0
  Blamed u c e = (field : Field) → e ≡ E.UnsupportedCardType field → Blames s u c field

  pub unblamed : (u c : ℕ) (e : Error) → Not13 e → Blamed u c e
  unfolding error_told
  unblamed u c e n field same = absurd (n (rw same))

  others : (u c : ℕ) (e : Error) → Other e → Blamed u c e
  others u c e o = unblamed u c e (not_13 e o)

  blamed : {u c : ℕ} (field : Field) → Blames s u c field → Blamed u c (E.UnsupportedCardType field)
  blamed field b other same = let it : field ≡ other = cc in rw (← it) b

  -- the other steps: words are taken, and none is given back
  pub keeps : {A : Type 0} {p : Plan A} (from : ℕ) {u c : ℕ} → Obeys typeless A p → from ≤ u → Tells s Blamed A (λ u c a. from ≤ u) u c p
  keeps from b h =
      tells_obeyed s typeless (λ u c. from ≤ u) (λ h. tt) (λ u c i. omega arith) (λ u c r w i. i) (λ u c e n i. unblamed u c e n) b h

  -- CMD55
  untaken : (from u c : ℕ) (ws : List ℕ) → Answered s from 55 u c ws → clear 0x20 (first_of ws) ≡ true → Blamed u c (E.UnsupportedCardType AppCommand)
  unfolding Says command_of own_answer counted
  untaken from u c ws a h =
      let l = a.last in
      blamed AppCommand (record { sent = a.sent; place = a.place; within = omega arith; last = λ _. l; says = rw a.words at h })

  pub app : (from : ℕ) {u c : ℕ} (limit rca : ℕ) → from ≤ u → Tells s Blamed Nothing (λ u c a. from ≤ u) u c (app_command limit rca)
  app = app-tells s Blamed others untaken

  -- ACMD41: the OCR is a word that was taken
  record OcrIn (u ocr : ℕ) : Type 0 where
    pub place : ℕ
    pub within : place + 4 ≤ u
    pub is : ocr ≡ get_or s place 0

  powers : {u c : ℕ} (limit : ℕ) (version2 : Bool) → Tells s Blamed ℕ (λ u c ocr. OcrIn u ocr) u c (power_up limit version2)
  unfolding power_up form_of Says command_of own_answer counted
  powers limit version2 =
      tells_then s (app 0 limit 0 (omega arith))
      (λ u c a h. tells_then s (command-tells s Blamed others 0 41 limit _ R3 (omega arith) refl (omega arith))
      (λ u c ws a. let l = a.last in
      tells_then s {Q = λ u c x. OcrIn u (first_of ws)}
      (tells-ensure s _ _
      (λ no. blamed Voltage (record { sent = a.sent; place = a.place; within = omega arith; last = λ _. l; says = let none : clear 0x0030_0000 (first_of ws) ≡ true = opposite no in rw a.words at none }))
      (λ yes. record { place = a.place; within = omega arith; is = ap first_of a.words }))
      (λ u c x o. tells-give s o)))

  tries : {u c : ℕ} (set : Settings) (version2 : Bool) → Tells s Blamed ℕ (λ u c ocr. OcrIn u ocr) u c (try_power_up set version2)
  unfolding try_power_up
  tries set version2 =
      tells_then s (powers (limit_of set) version2)
      (λ u c ocr o. tells_test s (powered_up ocr) (λ t. tells-give s o)
      (λ t. tells_then s (keeps (o.place + 4) (retry_obeys typeless not_13 any _) o.within) (λ u c a h. tells-give s (record { place = o.place; within = h; is = o.is }))))

  waits : {u c : ℕ} (set : Settings) (version2 : Bool) → Tells s Blamed ℕ (λ u c ocr. OcrIn u ocr × (powered_up ocr ≡ true)) u c (wait_power_up set version2)
  unfolding wait_power_up error_told
  waits {u} {c} set version2 =
      tells-until s (λ u c. Unit {0}) _ powered_up (λ u c i. unblamed u c E.SoftwareTimeout (λ z. omega arith)) (λ u c i. tries set version2) (λ u c ocr o. tt) u c tt

  -- CMD9: the capacity's own fields, where the OCR agrees
  count_blames : (k : ℕ) {u c : ℕ} → c ≡ 9 → u ≡ k + 4 → OcrSays s k true → {e : Error} → CountFault (csd_at s k) e → Blamed u c e
  unfolding Says command_of own_answer
  count_blames k sent last ocr (of-version f) = blamed CsdVersion (record { sent = sent; place = k; within = omega arith; last = λ _. last; says = (f, ocr) })
  count_blames k sent last ocr (of_length f) = blamed BlockLength (record { sent = sent; place = k; within = omega arith; last = λ _. last; says = (f, ocr) })

  counts : (k u c : ℕ) → c ≡ 9 → u ≡ k + 4 → OcrSays s k true → Tells s Blamed BlockCount (λ u c n. k + 4 ≤ u) u c (I.counted (count_of (csd_at s k)))
  counts k u c sent last ocr = by (count_of (csd_at s k)) refl
    where
      by : (a : Result BlockCount Error) → count_of (csd_at s k) ≡ a → Tells s Blamed BlockCount (λ u c n. k + 4 ≤ u) u c (I.counted a)
      by (Ok n) g = tells-give s (omega arith)
      by (Err e) g = tells-fail s (count_blames k sent last ocr (count_fault (csd_at s k) e g))

  -- the CSD of the record is one that was taken
  record CsdIn (u : ℕ) (card : Card) : Type 0 where
    pub place : ℕ
    pub within : place + 4 ≤ u
    pub is : card.csd ≡ halves_of (answer_at s place)

  selects : {u c : ℕ} (limit ocr rca : ℕ) (cid csd : List ℕ) (o : OcrIn u ocr) → powered_up ocr ≡ true → Answered s (o.place + 4) 9 u c csd
      → Tells s Blamed Card (λ u c card. CsdIn u card) u c (select limit ocr rca cid csd)
  unfolding select Says command_of own_answer
  selects {u} {c} limit ocr rca cid csd o up a =
      let l = a.last in
      rw (a.words, o.is)
      (tells_then s {Q = λ u c x. (c ≡ 9) × ((u ≡ a.place + 4) × OcrSays s a.place true)}
      (tells-ensure s _ _
      (λ no. blamed CsdAndOcr (record { sent = a.sent; place = a.place; within = omega arith; last = λ _. l; says = (o.place, (a.later, (rw (← o.is) up, no))) }))
      (λ yes. (a.sent, (l, (o.place, (a.later, (rw (← o.is) up, yes)))))))
      (λ u c x k. tells_then s (counts a.place u c k.0 k.1.0 k.1.1)
      (λ u c blocks h. tells_then s (keeps (a.place + 4) (command-obeys typeless not_13 any limit 7 _ R1) h)
      (λ u c ws h. tells-give s (record { place = a.place; within = h; is = refl })))))

  identifies : {u c : ℕ} (limit ocr : ℕ) (o : OcrIn u ocr) → powered_up ocr ≡ true → Tells s Blamed Card (λ u c card. CsdIn u card) u c (identify limit ocr)
  unfolding identify publish form_of error_told
  identifies {u} {c} limit ocr o up =
      let from = o.place + 4 in
      tells_then s (keeps from (command-obeys typeless not_13 any limit 2 _ R2) o.within)
      (λ u c cid h. tells_then s (keeps from (on_then (command-obeys typeless not_13 any limit 3 _ _) (λ ws. on-give)) h)
      (λ u c rca h. tells_then s (keeps from (on-ensure _ E.ResponseMismatch (λ z. omega arith)) h)
      (λ u c x h. tells_then s (command-tells s Blamed others from 9 limit _ R2 (omega arith) refl h)
      (λ u c csd a. let l = a.last in let m = a.later in
      selects limit ocr rca cid csd (record { place = o.place; within = omega arith; is = o.is }) up a))))

  -- ACMD6 was sent last where the rate is looked at; the CSD is still the one that was taken
  reads-scr : {u c : ℕ} (from : ℕ) (set : Settings) (card : Card) → from ≤ u → Tells s Blamed ℕ (λ u c scr. from ≤ u) u c (read_scr set card)
  unfolding read_scr
  reads-scr from set card h =
      tells_then s (keeps from (ready-obeys typeless not_13 any _ _ _) h)
      (λ u c x h. tells_then s (keeps from (block-length-obeys (allows set) card.card_type) h)
      (λ u c x h. tells_then s (app from (limit_of set) card.rca h)
      (λ u c x h. tells_then s (keeps from (data_obeys typeless not_13 any row_any _ _ _ _ _) h) (λ u c ws h. tells-give s h))))

  widens : {u c : ℕ} (from : ℕ) (set : Settings) (rca scr : ℕ) → from ≤ u → Tells s Blamed Nothing (λ u c x. (from ≤ u) × (c ≡ 6)) u c (set_width set rca scr)
  unfolding set_width form_of error_told
  widens from set rca scr h =
      tells_then s (keeps from (on-ensure _ E.UnsupportedBusWidth (λ z. omega arith)) h)
      (λ u c x h. tells_then s (app from (limit_of set) rca h)
      (λ u c x h. tells_then s (command-tells s Blamed others from 6 (limit_of set) _ R1 (omega arith) refl h)
      (λ u c ws a. let l = a.last in let m = a.later in tells-give s (omega arith, a.sent))))

  rate_blames : (k : ℕ) {u c : ℕ} → c ≡ 6 → k + 4 ≤ u → {e : Error} → RateFault (csd_at s k) e → Blamed u c e
  unfolding Says command_of own_answer
  rate_blames k {u} {c} sent within r = by r
    where
      earlier : {n : ℕ} → ◌≡◌ {A = Bool} false true → u ≡ n
      earlier e = absurd (unequal (sym e))

      by : {e : Error} → RateFault (csd_at s k) e → Blamed u c e
      by (of-reserved-bit f) = blamed RateReservedBit (record { sent = sent; place = k; within = within; last = earlier; says = f })
      by (of-unit f) = blamed RateUnit (record { sent = sent; place = k; within = within; last = earlier; says = f })
      by (of-value f) = blamed RateValue (record { sent = sent; place = k; within = within; last = earlier; says = f })

  rates : (k u c : ℕ) → c ≡ 6 → k + 4 ≤ u → Tells s Blamed ℕ (λ u c n. 0 ≤ u) u c (rated (rate_of (tran_speed (csd_at s k))))
  rates k u c sent within = by (rate_of (tran_speed (csd_at s k))) refl
    where
      by : (a : Result ℕ Error) → rate_of (tran_speed (csd_at s k)) ≡ a → Tells s Blamed ℕ (λ u c n. 0 ≤ u) u c (rated a)
      by (Ok n) g = tells-give s (omega arith)
      by (Err e) g = tells-fail s (rate_blames k sent within (rate_fault (csd_at s k) e g))

  settles : {u c : ℕ} (set : Settings) (frequency : ℕ) (card : Card) → CsdIn u card → Tells s Blamed Card (λ u c a. 0 ≤ u) u c (settle_card set frequency card)
  unfolding settle_card transfer_clock
  settles set frequency card d =
      tells_then s (reads-scr (d.place + 4) set card d.within)
      (λ u c scr h. tells_then s (widens (d.place + 4) set card.rca scr h)
      (λ u c x k. tells_then s
      (tells_then s (rw d.is (rates d.place u c k.1 k.0)) (λ u c rate h. keeps 0 (clock-obeys (allows set) _) h))
      (λ u c x h. tells_then s (keeps 0 (switch_obeys (allows set) frequency card.rca scr) h) (λ u c x h. tells-give s h))))

  steps : {u c : ℕ} (set : Settings) (initial : Clock) (frequency : ℕ) → Tells s Blamed Card (λ u c a. 0 ≤ u) u c (init_card set initial frequency)
  unfolding init_card allows
  steps set initial frequency =
      tells_then s (keeps 0 (begin_obeys (allows set) initial tt) (omega arith))
      (λ u c version2 h. tells_then s (waits set version2)
      (λ u c ocr o. tells_then s (identifies (limit_of set) ocr o.0 o.1) (λ u c card d. settles set frequency card d)))

  -- the reset rows behind a refusal send nothing
  resets : {A : Type 0} {Q : ℕ → ℕ → A → Type 0} {u c : ℕ} {p : Plan A} → Tells s Blamed A Q u c p → Tells s Blamed A Q u c (reset_controller then λ _. p)
  unfolding reset_controller row handle shows sent_after
  resets b = record { each = b.each }

  pub initialise-tells : {u c : ℕ} (set : Settings) (initial : Clock) (frequency : ℕ) → Tells s Blamed Card (λ u c a. 0 ≤ u) u c (initialise set initial frequency)
  unfolding initialise
  initialise-tells set initial frequency =
      tells-handle s _ _ (steps set initial frequency) (λ u c card h. tells-give s h) (λ u c e r. resets (tells-fail s r)) (λ u c. resets (tells-end s))
