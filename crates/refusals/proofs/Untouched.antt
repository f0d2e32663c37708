-- Document 01's table of refusals, lines 1 and 2: refused at making, or before the first row.
use Rattle.std.specs.Prelude.{Result, Ok, Err}
use Rattle.types.specs.declared.clock.Clock.{Clock}
use Prim.Native.Nat.{ℕ, ◌+◌, ◌*◌, ◌/◌, ◌%◌, ◌≤◌, ◌<◌}
use mathlib.Core.Bool.{Bool, true, false, cond, ◌&&◌, ◌||◌}
use mathlib.Core.List.{List}
use mathlib.Core.Path.{◌≡◌, refl}
use native.Mathlib.Omega.{arith}
use lib.Dec.{ltb}
use borrow.Author.Tests.{eq-eqb, ne_eqb, le-ltb, lt-ltb}
use Rattle.types.proofs.Least.{refused_none}
use Rattle.types.specs.declared.config.Config.{Config}
use Rattle.types.specs.declared.error.Answer.TheVariants as Answered
use Rattle.types.specs.declared.error.Error.{Error}
use Rattle.types.specs.declared.error.Error.TheVariants as E
use Rattle.types.specs.Leaf.{address_of, clock_of, stops_writes}
use Rattle.types.specs.Settings.{made_of}
use Rattle.tape.specs.declared.rows.Row.{Row}
use Rattle.bus.specs.Transfer.{Buffer, outgoing}
use Rattle.init.specs.declared.settings.Settings.{Settings}
use Rattle.init.specs.Initialise.{source_of, no_card}
use Rattle.host.specs.Calls.{untouched, initialised}
use Rattle.host.specs.Calls.{blocks_from, blocks_judged, sends, blocks_came}
use Rattle.host.specs.Calls.{status_came, no_host, clocked_host, judged_host, made}
use Rattle.host.specs.declared.host.Sdmmc.{Sdmmc}

-- Line 1. '18, 17 at making: no host.'

clocked_no_host : (set : Settings) (e : Error) (a : Result Clock Error) → (clocked_host set a).answer ≡ Answered.Refused e → (clocked_host set a).host ≡ no_host
unfolding clocked_host
clocked_no_host set e (Ok c) r = let z : ◌≡◌ {A = ℕ} 0 1 = cc in absurd (omega arith)
clocked_no_host set e (Err x) r = refl

judged_no_host : (set : Settings) (e : Error) (a : Result (Unit {0}) Error) → (judged_host set a).answer ≡ Answered.Refused e → (judged_host set a).host ≡ no_host
unfolding judged_host
judged_no_host set e (Ok tt) r = clocked_no_host set e (clock_of (source_of set) 400_000 false) r
judged_no_host set e (Err x) r = refl

-- whatever it is refused with, there is no host
pub making_refused : (set : Settings) (e : Error) → (made set).answer ≡ Answered.Refused e → (made set).host ≡ no_host
unfolding made
making_refused set e r = judged_no_host set e (made_of (source_of set) set.config) r

-- 'Order at making: any of the four numeric settings 0 gives 18; source 0, source 1 or source over 102,800,000 gives 17.'
pub data SomeZero (config : Config) : Type 0 where
  polls : config.poll_limit ≡ 0 → SomeZero config
  attempts : config.card_ready_attempts ≡ 0 → SomeZero config
  data_timeout : config.data_transfer_timeout ≡ 0 → SomeZero config
  software_timeout : config.software_timeout_ms ≡ 0 → SomeZero config

pub record NoneZero (config : Config) : Type 0 where
  pub polls : 1 ≤ config.poll_limit
  pub attempts : 1 ≤ config.card_ready_attempts
  pub data_timeout : 1 ≤ config.data_transfer_timeout
  pub software_timeout : 1 ≤ config.software_timeout_ms

pub data BadSource (source : ℕ) : Type 0 where
  low : source ≤ 1 → BadSource source
  high : 102_800_000 < source → BadSource source

or_true : (b : Bool) → (b || true) ≡ true
or_true true = refl
or_true false = refl

pub making_18 : (set : Settings) → SomeZero set.config → made set ≡ record { answer = Answered.Refused E.InvalidConfig; host = no_host }
unfolding made judged_host made_of
making_18 set (polls e) = rw (eq-eqb _ _ e)
making_18 set (attempts e) = rw (eq-eqb _ _ e, or_true)
making_18 set (data_timeout e) = rw (eq-eqb _ _ e) (simp or_true)
making_18 set (software_timeout e) = rw (eq-eqb _ _ e) (simp or_true)

none-zero : (source : ℕ) (config : Config) → NoneZero config
    → made_of source config ≡ cond (ltb source 2 || ltb 102_800_000 source) (Err E.BadClock) (Ok tt)
unfolding made_of
none-zero source config z =
    rw (
      ne_eqb config.poll_limit 0 (λ e. omega (arith, z.polls)),
      ne_eqb config.card_ready_attempts 0 (λ e. omega (arith, z.attempts)),
      ne_eqb config.data_transfer_timeout 0 (λ e. omega (arith, z.data_timeout)),
      ne_eqb config.software_timeout_ms 0 (λ e. omega (arith, z.software_timeout)),
    )

pub making_17 : (set : Settings) → NoneZero set.config → BadSource (source_of set)
    → made set ≡ record { answer = Answered.Refused E.BadClock; host = no_host }
unfolding made judged_host
making_17 set z (low b) = rw (none-zero (source_of set) set.config z, lt-ltb (source_of set) 2 (omega arith))
making_17 set z (high b) = rw (none-zero (source_of set) set.config z, lt-ltb 102_800_000 (source_of set) b, or_true)

-- else there is a host: of these settings, with no record
pub making_accepted : (set : Settings) → NoneZero set.config → 2 ≤ source_of set → source_of set ≤ 102_800_000
    → ((made set).answer ≡ Answered.Accepted) × ((made set).host.settings ≡ set) × ((made set).host.known ≡ false) × ((made set).host.card ≡ no_card)
unfolding made judged_host clocked_host
making_accepted set z from2 up_to =
    rw (none-zero (source_of set) set.config z, le-ltb (source_of set) 2 from2, le-ltb 102_800_000 (source_of set) up_to)
    (by (clock_of (source_of set) 400_000 false) refl)
  where
    by : (a : Result Clock Error) → clock_of (source_of set) 400_000 false ≡ a
        → ((clocked_host set a).answer ≡ Answered.Accepted) × ((clocked_host set a).host.settings ≡ set)
        × ((clocked_host set a).host.known ≡ false) × ((clocked_host set a).host.card ≡ no_card)
    by (Ok c) e = (refl, refl, refl, refl)
    by (Err x) e =
        absurd (refused_none (source_of set) 400_000 (omega arith) (omega arith) (omega arith) x e 257
        (record { from2 = omega arith; to257 = omega arith; slow = omega arith }))

-- Line 2. '16 at a read or status; 19, 20 at a read; 17 for an asked frequency of 0 or over 50,000,000: host as before, no
-- row, no word used', and with P8 26 at a write. That is `untouched`: no word, no row, the list, no data words, the host.

-- no protection of the card stands in the way: none of a read's
abbrev pub Free : Sdmmc → Buffer → Type 0
Free host buffer = (sends buffer && stops_writes host.card.protection) ≡ false

module _ (host : Sdmmc) (s : List ℕ) (l : List Row) where
  -- 16
  pub blocks_16 : (buffer : Buffer) (index bytes : ℕ) → host.known ≡ false → blocks_came host buffer index bytes s l ≡ untouched host E.NoCard l
  unfolding blocks_came blocks_judged blocks_from
  blocks_16 buffer index bytes k = rw k

  pub status_16 : host.known ≡ false → status_came host s l ≡ untouched host E.NoCard l
  unfolding status_came
  status_16 k = rw k

  -- what the checks refuse is untouched
  pub judged-untouched : (buffer : Buffer) (index bytes : ℕ) (e : Error) → blocks_judged host (sends buffer) index bytes ≡ Err e
      → blocks_came host buffer index bytes s l ≡ untouched host e l
  unfolding blocks_came blocks_from
  judged-untouched buffer index bytes e j = rw j

  -- 26 at a write to a protected card, whatever its index and its bytes: so before 19 and 20
  pub write_26 : (ws : List ℕ) (index bytes : ℕ) → host.known ≡ true → stops_writes host.card.protection ≡ true
      → blocks_came host (outgoing ws) index bytes s l ≡ untouched host E.WriteProtected l
  unfolding blocks_judged
  write_26 ws index bytes k p = judged-untouched (outgoing ws) index bytes E.WriteProtected (rw (k, p) refl)

  -- 19 for a byte length not a multiple of 512
  pub blocks_19_length : (buffer : Buffer) (index bytes : ℕ) → host.known ≡ true → Free host buffer → (bytes % 512 ≡ 0 → ⊥)
      → blocks_came host buffer index bytes s l ≡ untouched host E.InvalidBufferLength l
  unfolding blocks_judged
  blocks_19_length buffer index bytes k f n = judged-untouched buffer index bytes E.InvalidBufferLength (rw (k, f, ne_eqb (bytes % 512) 0 n) refl)

  -- any refusal of the leaf rule for the address (19, 20)
  pub blocks-refused : (buffer : Buffer) (index blocks : ℕ) (e : Error) → host.known ≡ true → Free host buffer
      → address_of host.card.card_type host.card.block_count.0 index blocks ≡ Err e
      → blocks_came host buffer index (512 * blocks) s l ≡ untouched host e l
  unfolding blocks_judged
  blocks-refused buffer index blocks e k f a =
      let whole : 512 * blocks % 512 ≡ 0 = omega arith in
      let count : 512 * blocks / 512 ≡ blocks = omega arith in
      judged-untouched buffer index (512 * blocks) e (rw (k, f, eq-eqb (512 * blocks % 512) 0 whole, count) a)

  -- 19 for 0 blocks or over 511
  pub blocks_19_none : (buffer : Buffer) (index : ℕ) → host.known ≡ true → Free host buffer → blocks_came host buffer index 0 s l ≡ untouched host E.InvalidBufferLength l
  unfolding address_of
  blocks_19_none buffer index k f = blocks-refused buffer index 0 E.InvalidBufferLength k f refl

  pub blocks_19_many : (buffer : Buffer) (index blocks : ℕ) → host.known ≡ true → Free host buffer → 511 < blocks
      → blocks_came host buffer index (512 * blocks) s l ≡ untouched host E.InvalidBufferLength l
  unfolding address_of
  blocks_19_many buffer index blocks k f many = blocks-refused buffer index blocks E.InvalidBufferLength k f (rw (lt-ltb 511 blocks many, or_true))

  -- 20 when index plus count exceeds the block count
  pub blocks_20 : (buffer : Buffer) (index blocks : ℕ) → host.known ≡ true → Free host buffer → 1 ≤ blocks → blocks ≤ 511
      → host.card.block_count.0 < index + blocks → blocks_came host buffer index (512 * blocks) s l ≡ untouched host E.AddressOutOfRange l
  unfolding address_of
  blocks_20 buffer index blocks k f some most past =
      blocks-refused buffer index blocks E.AddressOutOfRange k f
      (rw (ne_eqb blocks 0 (λ e. omega arith), le-ltb 511 blocks most, lt-ltb host.card.block_count.0 (index + blocks) past))

  -- 17 for an asked frequency of 0 or over 50,000,000
  pub initialise_17_zero : initialised host 0 s l ≡ untouched host E.BadClock l
  unfolding initialised
  initialise_17_zero = refl

  pub initialise_17_over : (frequency : ℕ) → 50_000_000 < frequency → initialised host frequency s l ≡ untouched host E.BadClock l
  unfolding initialised
  initialise_17_over frequency over = rw (lt-ltb 50_000_000 frequency over, or_true)
