-- What the record held has, after any list of calls: what every initialisation finds and no status changes. So it counts what SD
-- has for the CSD in it, and no record is held of a card whose CSD has no capacity by SD; and its two flags are those of that CSD.
-- Where none is held, the host has the record of no card.
use Rattle.std.specs.Prelude.{Result, Ok, Err}
use Rattle.types.specs.declared.clock.Clock.{Clock}
use Rattle.types.specs.declared.error.Error.{Error}
use Prim.Native.Nat.{ℕ, ◌/◌}
use mathlib.Core.Bool.{Bool, true, false, cond, ◌||◌}
use mathlib.Core.List.{List, [], ◌∷◌}
use mathlib.Core.Path.{◌≡◌, refl}
use native.Mathlib.Omega.{arith}
use lib.Dec.{eqb, ltb}
use lib.ListN.{length}
use Rattle.types.specs.declared.card.Card.{Card}
use Rattle.types.specs.declared.error.Answer.TheVariants as Answered
use Rattle.types.specs.declared.error.Error.TheVariants as E
use Rattle.types.specs.Leaf.{clock_of}
use Rattle.types.specs.Sd.{Counts, Protects}
use Rattle.types.specs.Words.{words_of}
use Rattle.tape.specs.declared.progress.Halt.TheVariants.{Refused, ScriptEnded, TraceFull}
use Rattle.tape.specs.declared.progress.Line.{Line}
use Rattle.tape.specs.Pace.{Pace}
use Rattle.tape.specs.Pace.{Going, Stopped}
use Rattle.tape.specs.declared.rows.Row.{Row}
use Rattle.tape.specs.Plan.{Nothing, Plan}
use Rattle.tape.specs.Run.{State, run, run_from}
use Rattle.tape.proofs.Laws.{by_cases}
use Rattle.bus.specs.Transfer.{Buffer, incoming, outgoing}
use Rattle.init.specs.declared.settings.Settings.{Settings}
use Rattle.init.specs.Initialise as I
use Rattle.init.specs.Initialise.{source_of, no_card}
use Rattle.init.proofs.Found.{Found}
use Rattle.refusals.proofs.InitRefusals.{found}
use Rattle.host.specs.declared.host.Sdmmc.{Sdmmc}
use Rattle.host.specs.Calls.{Came, fresh_line, host_of, held_of, holding, dropped, kept, ends, untouched, init_from, initialised, made}
use Rattle.host.specs.Calls.{transferred, approached, served, blocks_from, blocks_judged, sends, blocks_came, blocks_next, blocks_plan, with_status, status_next, status_plan, status_from, status_came}
use Rattle.calls.specs.Serve.{Call, initialise, read, write, status, comes, serve, holds, holds_none}
use Rattle.calls.proofs.AnyList.{made-host}

-- a status changes no flag
same_flags : (card : Card) (st : List ℕ) → Protects card → Protects (with_status card st)
same_flags card st p = record { permanent = p.permanent; temporary = p.temporary }

module _ (P : Card → Type 0) (finds : (card : Card) → Found card → P card) (stays : (card : Card) (st : List ℕ) → P card → P (with_status card st)) where
  -- of the record that a host holds, and that it is no card's where it holds none
  record Has (host : Sdmmc) : Type 0 where
    pub holds : host.known ≡ true → P host.card
    pub blank : host.known ≡ false → host.card ≡ no_card

  has-none : (set : Settings) (line : Line) → Has (host_of set line false no_card)
  has-none set line = record { holds = λ e. let z : ◌≡◌ {A = ℕ} 0 1 = cc in absurd (omega arith); blank = λ e. refl }

  has_one : (host : Sdmmc) (w : State) {card : Card} → P card → Has (holding host w card)
  has_one host w p = record { holds = λ e. p; blank = λ e. let z : ◌≡◌ {A = ℕ} 0 1 = cc in absurd (omega arith) }

  has-at : (host refused accepted : Sdmmc) (words : List ℕ) (q : Pace) (w : State) → Has host → Has refused → (q ≡ Going → Has accepted)
      → Has (ends host refused accepted words q w).host
  unfolding ends
  has-at host refused accepted words Going w h r a = a refl
  has-at host refused accepted words (Stopped (Refused e)) w h r a = r
  has-at host refused accepted words (Stopped ScriptEnded) w h r a = r
  has-at host refused accepted words (Stopped TraceFull) w h r a = h

  module _ (host : Sdmmc) (h : Has host) (s : List ℕ) (l : List Row) where
    init_has : (frequency : ℕ) → Has (initialised host frequency s l).host
    unfolding initialised init_from
    init_has frequency =
        by_cases (λ (x : Came). Has x.host) (eqb frequency 0 || ltb 50_000_000 frequency) _ _ h
        (by (clock_of (source_of host.settings) 400_000 false))
      where
        by : (a : Result Clock Error) → Has (init_from host frequency a s l).host
        by (Err e) = h
        by (Ok c) =
            let x = run s no_card (I.initialise host.settings c frequency) 0 0 (fresh_line c.frequency) l in
            has-at host (dropped host x.state) (holding host x.state x.value) [] x.state.progress.pace x.state h (has-none _ _)
            (λ g. has_one host x.state (finds x.value (found s host.settings c frequency l g)))

    has_kept : (w : State) → Has (kept host w)
    has_kept w = record { holds = h.holds; blank = h.blank }

    served-has : (plan : Plan Nothing) (transfer : Plan (List ℕ)) (next : State → List ℕ → Sdmmc) → ((w : State) (ws : List ℕ) → Has (next w ws))
        → Has (served host plan transfer next s l).host
    unfolding served approached transferred
    served-has plan transfer next n = by w.progress.pace
      where
        w : State
        w = (run s (tt {0}) plan 0 0 host.line l).state

        by : (q : Pace) → Has (approached host transfer next s q w).host
        by Going =
            let x = run_from s [] transfer w in
            has-at host (dropped host x.state) (next x.state x.value) x.value x.state.progress.pace x.state h (has-none _ _)
            (λ _. n x.state x.value)
        by (Stopped e) = has-at host (kept host w) host [] (Stopped e) w h (has_kept w) (λ _. h)

    status-has : Has (status_came host s l).host
    unfolding status_came
    status-has = by host.known refl
      where
        by : (b : Bool) → host.known ≡ b → Has (cond b (status_from host s l) (untouched host E.NoCard l)).host
        by true k = served-has _ (status_plan host) (status_next host) (λ w ws. has_one host w (stays host.card _ (h.holds k)))
        by false k = h

    blocks-has : (buffer : Buffer) (index bytes : ℕ) → Has (blocks_came host buffer index bytes s l).host
    unfolding blocks_came blocks_from
    blocks-has buffer index bytes = by (blocks_judged host (sends buffer) index bytes)
      where
        by : (a : Result ℕ Error) → Has (blocks_from host buffer (bytes / 512) a s l).host
        by (Err e) = h
        by (Ok a) = served-has _ (blocks_plan host buffer a (bytes / 512)) (blocks_next host) (λ w ws. has_kept w)

  comes-has : (host : Sdmmc) → Has host → (c : Call) → Has (comes host c).host
  unfolding comes
  comes-has host h (initialise frequency s l) = init_has host h s l frequency
  comes-has host h (read index bytes s l) = blocks-has host h s l incoming index bytes
  comes-has host h (write index bytes s l) = blocks-has host h s l (outgoing (words_of bytes)) index (length bytes)
  comes-has host h (status s l) = status-has host h s l

  serve-has : (host : Sdmmc) → Has host → (cs : List Call) → Has (serve host cs).host
  unfolding serve
  serve-has host h [] = h
  serve-has host h (c ∷ cs) = serve-has (comes host c).host (comes-has host h c) cs

  -- from a host that was just made, which holds none
  after : (set : Settings) → (made set).answer ≡ Answered.Accepted → (cs : List Call) → Has (serve (made set).host cs).host
  after set ok cs = serve-has (made set).host (rw (made-host set ok).2 (has-none _ _)) cs

  -- of the record as a caller gets it
  pub had : (set : Settings) → (made set).answer ≡ Answered.Accepted → (cs : List Call)
      → (held_of (serve (made set).host cs).host).answer ≡ Answered.Accepted → P (held_of (serve (made set).host cs).host).card
  had set ok cs = by end.known refl
    where
      end : Sdmmc
      end = (serve (made set).host cs).host

      by : (b : Bool) → end.known ≡ b → (cond b (holds end.card) holds_none).answer ≡ Answered.Accepted → P (cond b (holds end.card) holds_none).card
      by true k r = (after set ok cs).holds k
      by false k r = let z : ◌≡◌ {A = ℕ} 0 1 = cc in absurd (omega arith)

module _ (set : Settings) (ok : (made set).answer ≡ Answered.Accepted) (cs : List Call) where
  abbrev end : Sdmmc
  end = (serve (made set).host cs).host

  -- THE RECORD HELD COUNTS WHAT SD HAS for its CSD, after any list of calls.
  pub held-counts : (held_of end).answer ≡ Answered.Accepted → Counts (held_of end).card
  held-counts = had Counts (λ card f. f.counts) (λ card st c. c) set ok cs

  -- THE TWO FLAGS AGREE WITH THE CSD HELD, after any list of calls, whether a record is held or not;
  pub held-protects : Protects end.card
  held-protects = by end.known refl
    where
      flagged : Has Protects (λ card f. f.protects) same_flags end
      flagged = after Protects (λ card f. f.protects) same_flags set ok cs

      by : (b : Bool) → end.known ≡ b → Protects end.card
      by true k = flagged.holds k
      by false k = rw (flagged.blank k) (record { permanent = refl; temporary = refl })

  -- and where none is held they are zeros, as all of the record is.
  pub none-held : end.known ≡ false → end.card ≡ no_card
  none-held = (after Protects (λ card f. f.protects) same_flags set ok cs).blank
