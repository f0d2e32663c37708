-- Theorems about whole calls, of a host that was made and has served any list of calls (of one call: refusals/proofs/Whole.antt).
use Rattle.std.specs.Prelude.{Ok, Err}
use Prim.Native.Nat.{ℕ, ◌≤◌}
use mathlib.Core.Bool.{Bool, true, false, cond, ◌||◌}
use mathlib.Core.List.{List, []}
use mathlib.Core.Path.{◌≡◌, refl, ap, ◌∙◌}
use native.Mathlib.Omega.{arith}
use lib.Dec.{eqb, ltb}
use lib.ListN.{length}
use borrow.Author.Tests.{ltb-false}
use Rattle.types.specs.declared.error.Answer.TheVariants as Answered
use Rattle.types.specs.declared.error.Error.TheVariants as E
use Rattle.types.specs.Answer.{error_told}
use Rattle.types.specs.Settings.{made_of}
use Rattle.bus.specs.Transfer.{incoming, outgoing}
use Rattle.init.specs.declared.settings.Settings.{Settings}
use Rattle.types.specs.Words.{words_of}
use Rattle.tape.proofs.Words.{reach}
use Rattle.init.specs.Initialise.{source_of, no_card}
use Rattle.refusals.specs.Fields.{CarriesField}
use Rattle.refusals.specs.Whole.{init_whole, blocks_whole, status_whole}
use Rattle.refusals.proofs.Ended.{Ended, initialise-ended, blocks-ended, status-ended}
use Rattle.refusals.proofs.Fields.{initialise_field, blocks_field, status_field}
use Rattle.refusals.proofs.Whole.{Whence17, would_write, initialise_17, blocks_not_17, status_not_17}
use Rattle.host.specs.declared.host.Sdmmc.{Sdmmc}
use Rattle.host.specs.Calls.{judged_host, made}
use Rattle.calls.specs.Serve.{Call, initialise, read, write, status, comes, serve}
use Rattle.calls.proofs.AnyList.{script_of, Clockable, made-clockable, made-host, settings-stay}

-- a host is made of a source of 2 Hz or more
made-source : (set : Settings) → (made set).answer ≡ Answered.Accepted → 2 ≤ source_of set
unfolding made judged_host made_of
made-source set r =
    by
    (eqb set.config.poll_limit 0 || eqb set.config.card_ready_attempts 0 || eqb set.config.data_transfer_timeout 0 || eqb set.config.software_timeout_ms 0)
    (ltb (source_of set) 2) (ltb 102_800_000 (source_of set)) refl r
  where
    by : (a b c : Bool) → ltb (source_of set) 2 ≡ b
        → (judged_host set (cond a (Err E.InvalidConfig) (cond (b || c) (Err E.BadClock) (Ok tt)))).answer ≡ Answered.Accepted
        → 2 ≤ source_of set
    by true b c e r = let z : ◌≡◌ {A = ℕ} 0 1 = cc in absurd (omega arith)
    by false true c e r = let z : ◌≡◌ {A = ℕ} 0 1 = cc in absurd (omega arith)
    by false false c e r = ltb-false (source_of set) 2 e

-- whence a call's 17 comes: an initialisation's from its asked frequency or from `clock_setting`; no other call's
abbrev pub From17 : Sdmmc → Call → Type 0
From17 host (initialise frequency s l) = Whence17 host frequency
From17 host (read index bytes s l) = ⊥
From17 host (write index bytes s l) = ⊥
From17 host (status s l) = ⊥

-- how far the call comes in its script, and what it then answers (refusals/proofs/Ended.antt)
abbrev pub EndedAs : Sdmmc → Call → Type 0
EndedAs host (initialise frequency s l) =
    let p = init_whole host frequency in
    Ended s l (reach s p 0 host.line) (would_write s no_card p host.line) (comes host (initialise frequency s l))
EndedAs host (read index bytes s l) =
    let p = blocks_whole host incoming index bytes in
    Ended s l (reach s p 0 host.line) (would_write s [] p host.line) (comes host (read index bytes s l))
EndedAs host (write index bytes s l) =
    let p = blocks_whole host (outgoing (words_of bytes)) index (length bytes) in
    Ended s l (reach s p 0 host.line) (would_write s [] p host.line) (comes host (write index bytes s l))
EndedAs host (status s l) =
    let p = status_whole host in
    Ended s l (reach s p 0 host.line) (would_write s [] p host.line) (comes host (status s l))

module _ (set : Settings) (ok : (made set).answer ≡ Answered.Accepted) (past : List Call) where
  abbrev pub host : Sdmmc
  host = (serve (made set).host past).host

  same : host.settings ≡ set
  same = settings-stay (made set).host past ∙ ap (λ (h : Sdmmc). h.settings) (made-host set ok).2

  from2 : 2 ≤ source_of host.settings
  from2 = rw same (made-source set ok)

  clockable : Clockable host.settings
  clockable = rw (settings-stay (made set).host past) (made-clockable set ok)

  -- the script's end: 21, or 22 if a closing row finds no room, and all words used; 21 nowhere else
  pub at_its_end : (c : Call) → EndedAs host c
  unfolding comes Clockable
  at_its_end (initialise frequency s l) = initialise-ended host s l from2 clockable.0 clockable.1 frequency
  at_its_end (read index bytes s l) = blocks-ended host s l incoming index bytes
  at_its_end (write index bytes s l) = blocks-ended host s l (outgoing (words_of bytes)) index (length bytes)
  at_its_end (status s l) = status-ended host s l

  -- no call is ever refused by the delay's own BadClock
  pub never_by_the_delay : (c : Call) → (comes host c).answer ≡ Answered.Refused E.BadClock → From17 host c
  unfolding comes Clockable error_told
  never_by_the_delay (initialise frequency s l) = initialise_17 host from2 clockable.0 clockable.1 frequency s l
  never_by_the_delay (read index bytes s l) = λ r. blocks_not_17 host s l incoming index bytes E.BadClock r refl
  never_by_the_delay (write index bytes s l) = λ r. blocks_not_17 host s l (outgoing (words_of bytes)) index (length bytes) E.BadClock r refl
  never_by_the_delay (status s l) = λ r. status_not_17 host s l E.BadClock r refl

-- A 13 carries the field of the step that refused, whatever the call and the host.
pub carries_field : (host : Sdmmc) (c : Call) → CarriesField (script_of c) (comes host c)
unfolding comes
carries_field host (initialise frequency s l) = initialise_field host s l frequency
carries_field host (read index bytes s l) = blocks_field host s l incoming index bytes
carries_field host (write index bytes s l) = blocks_field host s l (outgoing (words_of bytes)) index (length bytes)
carries_field host (status s l) = status_field host s l
