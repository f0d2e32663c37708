-- An initialisation of a source of 2 Hz or more: whatever it is refused with, it is not the BadClock that `clock_delay` has
-- beside the Rust's. The clock held on the way is always one that `clock_setting` gave, so each delay is a row; a BadClock is
-- `clock_setting`'s own, for a request that it refuses.
use Rattle.std.specs.Prelude.{Result, Ok, Err}
use Prim.Native.Nat.{ℕ, ◌≤◌}
use mathlib.Core.Bool.{Bool, true, false, not, ◌&&◌}
use mathlib.Core.Path.{◌≡◌, refl}
use native.Mathlib.Omega.{arith}
use lib.Dec.{eqb, ltb}
use Rattle.types.specs.declared.card.Card.{Card}
use Rattle.types.specs.declared.card.CardCapacity.{CardCapacity}
use Rattle.types.specs.declared.card.CardCapacity.TheVariants.{SDSC, SDHC}
use Rattle.types.specs.declared.card.Signalling.{Signalling}
use Rattle.types.specs.declared.clock.Clock.{Clock}
use Rattle.types.specs.declared.clock.Hertz.{Hertz}
use Rattle.types.specs.declared.error.Error.{Error}
use Rattle.types.specs.declared.error.Error.TheVariants as E
use Rattle.types.specs.declared.error.Field.{Field}
use Rattle.types.specs.declared.error.Field.TheVariants.{CsdVersion, BlockLength, RateUnit, RateValue, RateReservedBit}
use Rattle.types.specs.declared.register.BlockCount.{BlockCount}
use Rattle.types.specs.Answer.{error_told}
use Rattle.types.specs.Leaf.{clock_of, count_of, rate_of}
use Rattle.types.specs.Sd.{tran_speed, sd_spec}
use Rattle.types.proofs.Agree.{CountFault, of-version, of_length, count_fault, RateFault, of-reserved-bit, of-unit, of-value, rate_fault}
use Rattle.tape.specs.declared.progress.Line.{Line}
use Rattle.tape.specs.declared.rows.Row.{Row}
use Rattle.tape.specs.Plan.{Nothing, guard, handle, ◌then◌}
use Rattle.tape.specs.Run.{noted}
use Rattle.tape.specs.Steps.{hold_gated, hold_clock, hold_signalling, reset_controller}
use Rattle.tape.proofs.Walk.{Rule, Obeys, on-handle, on-rows, on-closing, on-end, on-give, on-fail, on_then, on-look, on-hold, on_test, on_row, on-ensure, on-until}
use Rattle.bus.specs.Clock.{configure_clock, clock_delay}
use Rattle.bus.proofs.Delays.{Fair, fair, delay-is-a-row}
use Rattle.bus.proofs.Walks.{Other, not_17, Ordinary, clken_obeys, command-obeys, app-obeys, retry_obeys, ready-obeys, configure_obeys, reset-rows, data_obeys}
use Rattle.init.specs.declared.settings.Settings.{Settings}
use Rattle.init.specs.Initialise.{source_of, limit_of, version, timed_out, late, card_version, power_on, begin_init, power_up, powered_up, try_power_up, wait_power_up}
use Rattle.init.specs.Initialise.{counted, select, publish, identify, block_length, read_scr, set_width, clocked, set_clock, rated, transfer_clock}
use Rattle.init.specs.Initialise.{offered, take_switch, ask_switch, switch_speed, settle_card, init_card, initialise}

pub fair-noted : (source : ℕ) (r : Row) (h : Line) → Fair source h.clock.0 → Fair source (noted r h).clock.0
unfolding noted
fair-noted source r h i = i

-- the clock held is fair for the source, and a BadClock is one that `clock_setting` answers
abbrev pub clock_rule : Settings → Rule
clock_rule set =
    record {
      holds = λ h. Fair (source_of set) h.clock.0;
      writes = λ r. Unit {0};
      refuses = λ e. (error_told e).number ≡ 17
          → (requested : ℕ) × (clock_of (source_of set) requested set.config.allow_clock_bypass ≡ Err e);
      noted = fair-noted (source_of set);
    }

-- What a rule allows along the steps that say nothing of a card's type: the errors and rows of commands, and whatever a clock
-- that `clock_setting` gives or refuses leads to. `Runs`: the clocks that may be held.
pub record Allows (set : Settings) (rule : Rule) : Type 1 where
  pub others : (e : Error) → Other e → rule.refuses e
  pub row : (r : Row) → rule.writes r
  pub Runs : ℕ → Type 0
  pub runs : (h : Line) → rule.holds h → Runs h.clock.0
  pub line : (h h' : Line) → rule.holds h → Runs h'.clock.0 → rule.holds h'
  pub delay : (clock cycles : ℕ) → Runs clock → cycles ≤ 80 → Obeys rule Nothing (clock_delay (source_of set) clock cycles)
  pub given : (requested : ℕ) (c : Clock) → clock_of (source_of set) requested set.config.allow_clock_bypass ≡ Ok c → Runs c.frequency.0
  pub refused : (requested : ℕ) (e : Error) → clock_of (source_of set) requested set.config.allow_clock_bypass ≡ Err e → rule.refuses e

module _ {set : Settings} {rule : Rule} (ok : Allows set rule) where
  any : (r : Row) → Ordinary r → rule.writes r
  any r o = ok.row r

  version-obeys : (w : ℕ) → Obeys rule Bool (version w)
  unfolding version error_told
  version-obeys w = on_test (eqb w 0x1aa) on-give (on_then (on-ensure _ E.UnsupportedCardVersion (ok.others E.UnsupportedCardVersion refl)) (λ _. on-give))

  card-version-obeys : Obeys rule Bool (card_version (limit_of set))
  unfolding card_version late
  card-version-obeys =
      on-handle late (command-obeys rule ok.others any _ 8 _ _) (λ ws. version-obeys _) (λ e r. on_test (timed_out e) on-give (on-fail r)) on-end

  pub begin_obeys : (initial : Clock) → ok.Runs initial.frequency.0 → Obeys rule Bool (begin_init set initial)
  unfolding begin_init power_on
  begin_obeys initial f =
      on_then
      (on_then (on-rows (reset-rows rule ok.others any ok.row))
      (λ _. on_then (configure_obeys rule ok.others any _ initial false false)
      (λ _. on_then (on_row _ _ (ok.row _)) (λ _. on_then (clken_obeys rule ok.others any true) (λ _. ok.delay _ 80 f (omega arith))))))
      (λ _. on_then (command-obeys rule ok.others any _ 0 _ _) (λ _. card-version-obeys))

  pub block-length-obeys : (class : CardCapacity) → Obeys rule Nothing (block_length (limit_of set) class)
  unfolding block_length
  block-length-obeys SDSC = on_then (command-obeys rule ok.others any _ 16 _ _) (λ _. on-give)
  block-length-obeys SDHC = on-give

  hold-clock-obeys : (clock : Hertz) → ok.Runs clock.0 → Obeys rule Nothing (hold_clock clock)
  unfolding hold_clock
  hold-clock-obeys clock f = on-look (λ line i. on-hold (ok.line line _ i f) on-give)

  hold-gated-obeys : (gated : Bool) → Obeys rule Nothing (hold_gated gated)
  unfolding hold_gated
  hold-gated-obeys gated = on-look (λ line i. on-hold (ok.line line _ i (ok.runs line i)) on-give)

  signalling-obeys : (signalling : Signalling) → Obeys rule Nothing (hold_signalling signalling)
  unfolding hold_signalling
  signalling-obeys signalling = on-look (λ line i. on-hold (ok.line line _ i (ok.runs line i)) on-give)

  -- the clock from here on is one that `clock_setting` gave
  pub clock-obeys : (requested : ℕ) → Obeys rule Nothing (set_clock set requested)
  unfolding set_clock handle
  clock-obeys requested = by (clock_of (source_of set) requested set.config.allow_clock_bypass) refl
    where
      by : (a : Result Clock Error) → clock_of (source_of set) requested set.config.allow_clock_bypass ≡ a
          → Obeys rule Nothing (clocked a then λ clock. configure_clock (limit_of set) clock set.wide false then λ _. hold_clock clock.frequency then λ _. hold_gated true)
      by (Ok c) g =
          on_then (configure_obeys rule ok.others any _ c _ false)
          (λ _. on_then (hold-clock-obeys _ (ok.given requested c g)) (λ _. hold-gated-obeys true))
      by (Err e) g = on-fail (ok.refused requested e g)

  take-obeys : (frequency rca : ℕ) → Obeys rule Nothing (take_switch set frequency rca)
  unfolding take_switch error_told
  take-obeys frequency rca =
      on_then (data_obeys rule ok.others any ok.row _ _ _ _ _)
      (λ ws. on_then (on-ensure _ E.SignalingSwitchFailed (ok.others E.SignalingSwitchFailed refl))
      (λ _. on_then (on-look (λ line i. ok.delay _ 8 (ok.runs line i) (omega arith)))
      (λ _. on_then (clock-obeys _) (λ _. signalling-obeys _))))

  pub switch_obeys : (frequency rca scr : ℕ) → Obeys rule Nothing (switch_speed set frequency rca scr)
  unfolding switch_speed ask_switch
  switch_obeys frequency rca scr =
      on_test (ltb 25_000_000 frequency && not (eqb (sd_spec scr) 0))
      (on_then (data_obeys rule ok.others any ok.row _ _ _ _ _) (λ ws. on_test (offered ws) (take-obeys frequency rca) on-give))
      on-give

-- an initialisation of a source of 2 Hz or more, by the first rule
module _ (set : Settings) (from2 : 2 ≤ source_of set) where
  rule : Rule
  rule = clock_rule set

  allows : Allows set rule
  unfolding rule
  allows =
      record {
        others = λ e o z. absurd (not_17 e o z);
        row = λ r. tt;
        Runs = Fair (source_of set);
        runs = λ h i. i;
        line = λ h h' i f. f;
        delay = λ clock cycles f h. rw (delay-is-a-row (source_of set) cycles clock f h) (on_row _ _ tt);
        given = λ requested c g. fair _ requested _ c from2 g;
        refused = λ requested e g z. (requested, g);
      }

  others : (e : Error) → Other e → rule.refuses e
  others = allows.others

  row_any : (r : Row) → rule.writes r
  row_any = allows.row

  every : (r : Row) → Ordinary r → rule.writes r
  every r o = row_any r

  waits : rule.refuses E.SoftwareTimeout
  unfolding error_told
  waits = others E.SoftwareTimeout refl

  mismatch : rule.refuses E.ResponseMismatch
  unfolding error_told
  mismatch = others E.ResponseMismatch refl

  width : rule.refuses E.UnsupportedBusWidth
  unfolding error_told
  width = others E.UnsupportedBusWidth refl

  kind : (field : Field) → rule.refuses (E.UnsupportedCardType field)
  unfolding rule error_told
  kind field = λ z. absurd (omega arith)

  power_up_obeys : (version2 : Bool) → Obeys rule ℕ (wait_power_up set version2)
  unfolding wait_power_up try_power_up power_up
  power_up_obeys version2 =
      on-until _ _ waits
      (on_then
      (on_then (app-obeys rule others every (kind _) _ 0)
      (λ _. on_then (command-obeys rule others every _ 41 _ _) (λ ws. on_then (on-ensure _ _ (kind _)) (λ _. on-give))))
      (λ ocr. on_test (powered_up ocr) on-give (on_then (retry_obeys rule others every _) (λ _. on-give))))

  counted-obeys : (csd : ℕ) → Obeys rule BlockCount (counted (count_of csd))
  counted-obeys csd = by (count_of csd) refl
    where
      of : {e : Error} → CountFault csd e → rule.refuses e
      of (of-version f) = kind CsdVersion
      of (of_length f) = kind BlockLength

      by : (a : Result BlockCount Error) → count_of csd ≡ a → Obeys rule BlockCount (counted a)
      by (Ok n) g = on-give
      by (Err e) g = on-fail (of (count_fault csd e g))

  rated-obeys : (csd : ℕ) → Obeys rule ℕ (rated (rate_of (tran_speed csd)))
  rated-obeys csd = by (rate_of (tran_speed csd)) refl
    where
      of : {e : Error} → RateFault csd e → rule.refuses e
      of (of-reserved-bit f) = kind RateReservedBit
      of (of-unit f) = kind RateUnit
      of (of-value f) = kind RateValue

      by : (a : Result ℕ Error) → rate_of (tran_speed csd) ≡ a → Obeys rule ℕ (rated a)
      by (Ok n) g = on-give
      by (Err e) g = on-fail (of (rate_fault csd e g))

  identify-obeys : (ocr : ℕ) → Obeys rule Card (identify (limit_of set) ocr)
  unfolding identify publish select
  identify-obeys ocr =
      on_then (command-obeys rule others every _ 2 _ _)
      (λ cid. on_then (on_then (command-obeys rule others every _ 3 _ _) (λ ws. on-give))
      (λ rca. on_then (on-ensure _ E.ResponseMismatch mismatch)
      (λ _. on_then (command-obeys rule others every _ 9 _ _)
      (λ csd. on_then (on-ensure _ _ (kind _))
      (λ _. on_then (counted-obeys _) (λ blocks. on_then (command-obeys rule others every _ 7 _ _) (λ _. on-give)))))))

  scr-obeys : (card : Card) → Obeys rule ℕ (read_scr set card)
  unfolding read_scr
  scr-obeys card =
      on_then (ready-obeys rule others every _ _ _)
      (λ _. on_then (block-length-obeys allows card.card_type)
      (λ _. on_then (app-obeys rule others every (kind _) _ _) (λ _. on_then (data_obeys rule others every row_any _ _ _ _ _) (λ ws. on-give))))

  width-obeys : (rca scr : ℕ) → Obeys rule Nothing (set_width set rca scr)
  unfolding set_width
  width-obeys rca scr =
      on_then (on-ensure _ E.UnsupportedBusWidth width)
      (λ _. on_then (app-obeys rule others every (kind _) _ _) (λ _. on_then (command-obeys rule others every _ 6 _ _) (λ _. on-give)))

  settle-obeys : (frequency : ℕ) (card : Card) → Obeys rule Card (settle_card set frequency card)
  unfolding settle_card transfer_clock
  settle-obeys frequency card =
      on_then (scr-obeys card)
      (λ scr. on_then (width-obeys _ scr)
      (λ _. on_then (on_then (rated-obeys _) (λ rate. clock-obeys allows _))
      (λ _. on_then (switch_obeys allows frequency _ scr) (λ _. on-give))))

  steps_obey : (initial : Clock) (frequency : ℕ) → Fair (source_of set) initial.frequency.0 → Obeys rule Card (init_card set initial frequency)
  unfolding init_card allows
  steps_obey initial frequency f =
      on_then (begin_obeys allows initial f)
      (λ version2. on_then (power_up_obeys version2) (λ ocr. on_then (identify-obeys ocr) (λ card. settle-obeys frequency card)))

  guarded_obey : (initial : Clock) (frequency : ℕ) → Fair (source_of set) initial.frequency.0
      → Obeys rule Card (guard reset_controller (init_card set initial frequency))
  guarded_obey initial frequency f =
      on-closing (steps_obey initial frequency f) (λ card. on-give) (reset-rows rule others every row_any)

  -- the plan is that, under its guard
  whole : (initial : Clock) (frequency : ℕ) → initialise set initial frequency ≡ guard reset_controller (init_card set initial frequency)
  unfolding initialise
  whole initial frequency = refl

  pub initialise-obeys : (initial : Clock) (frequency : ℕ) → Fair (source_of set) initial.frequency.0
      → Obeys (clock_rule set) Card (initialise set initial frequency)
  unfolding rule
  initialise-obeys initial frequency f = rw (whole initial frequency) (guarded_obey initial frequency f)
