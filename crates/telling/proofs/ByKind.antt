-- The plan of a call by its kind, and what the call comes to: what the same call on the script does.
use Prim.Native.Nat.{ℕ, ◌*◌, ◌/◌, min}
use mathlib.Core.Bool.{Bool, true, false, cond}
use mathlib.Core.List.{List}
use mathlib.Core.Path.{◌≡◌, refl, ap, sym, ◌∙◌}
use native.Mathlib.Omega.{arith}
use lib.Dec.{eqb}
use lib.ListN.{length, take, drop, length-append, length-drop}
use lib.Seq.{length-take-le}
use Rattle.std.specs.Prelude.{None}
use Rattle.book.proofs.Numbers.{Numbered}
use Rattle.types.specs.Words.{bytes_of, words_of}
use Rattle.types.proofs.Bytes.{length-bytes}
use Rattle.tape.specs.declared.rows.Row.{Row}
use Rattle.tape.specs.Plan.{Plan}
use Rattle.tape.specs.Run.{run}
use Rattle.bus.specs.Transfer.{incoming, outgoing}
use Rattle.host.specs.declared.host.Sdmmc.{Sdmmc}
use Rattle.host.specs.declared.host.Called.{Called}
use Rattle.host.specs.Calls.{Came, called_of, blocks_filled, blocks_came}
use Rattle.calls.specs.Serve as S
use Rattle.calls.specs.Serve.{comes}
use Rattle.step.specs.Next.{next}
use Rattle.stepping.specs.Closing.{Closing}
use Rattle.underway.specs.Under.{Under}
use Rattle.underway.specs.Whole.{init_call, blocks_call, status_call}
use Rattle.feed.specs.Runs.{came_of, no_closing}
use Rattle.feed.specs.Turns.{starts, fed_from}
use Rattle.feed.proofs.Fed.{fed-whole}
use Rattle.feed.proofs.Whole.{init-call, blocks-call, status-call}
use Rattle.book.specs.declared.layout.Asked.{Asked}
use Rattle.book.specs.Readers.{call_asked}
use Rattle.bench.specs.Bench.{asking}
use Rattle.telling.specs.Told.{Leaf, events_of, plan_of, begins}

-- the same plan ahead
pub stands : (host : Sdmmc) {p q : Plan Closing} → p ≡ q
    → ◌≡◌ {A = Under} (record { before = host; ahead = next p host.line }) (record { before = host; ahead = next q host.line })
stands host e = ap (λ (p : Plan Closing). record { before = host; ahead = next p host.line }) e

module _ (host : Sdmmc) (kind a : ℕ) (sent : List ℕ) (bytes : ℕ) where
  pub initialises : kind ≡ 1 → init_call host a ≡ plan_of host kind a sent bytes
  unfolding plan_of
  initialises one = rw one refl

  pub reads : kind ≡ 2 → blocks_call host incoming a bytes ≡ plan_of host kind a sent bytes
  unfolding plan_of
  reads two = rw two refl

  pub writes : kind ≡ 4 → blocks_call host (outgoing sent) a bytes ≡ plan_of host kind a sent bytes
  unfolding plan_of
  writes four = rw four refl

  pub asks-status : kind ≡ 3 → status_call host ≡ plan_of host kind a sent bytes
  unfolding plan_of
  asks-status three = rw three refl

  pub asks-other : Numbered None kind → status_call host ≡ plan_of host kind a sent bytes
  unfolding plan_of
  asks-other other = rw (other.0, other.1, other.3) refl

-- words laid into a buffer leave it as long as it was
long_filled : (ws buffer : List ℕ) → length (blocks_filled ws buffer) ≡ length buffer
unfolding blocks_filled
long_filled ws buffer =
    let n = min (length ws / 128) (length buffer / 512) in
    let front = length-bytes (take (128 * n) ws) in
    let laid = length-take-le (128 * n) ws (omega arith) in
    let parts = length-append (bytes_of (take (128 * n) ws)) (drop (512 * n) buffer) in
    omega (arith, parts, front, laid, length-drop (512 * n) buffer)

module _ (host : Sdmmc) (s : List ℕ) (l : List Row) (a : ℕ) (ws buffer : List ℕ) where
  abbrev out : List ℕ
  out = blocks_filled ws buffer

  abbrev bytes : ℕ
  bytes = length buffer

  abbrev came : Plan Closing → Came
  came p = came_of host (run s (no_closing host) p 0 0 host.line l)

  by_kind : (one two four : Bool)
      → came (cond one (init_call host a) (cond two (blocks_call host incoming a bytes) (cond four (blocks_call host (outgoing (words_of out)) a bytes) (status_call host))))
      ≡ comes host (cond one (S.initialise a s l) (cond two (S.read a bytes s l) (cond four (S.write a out s l) (S.status s l))))
  unfolding comes
  by_kind true two four = sym (init-call host s l a)
  by_kind false true four = sym (blocks-call host s l incoming a bytes)
  by_kind false false true =
      sym (blocks-call host s l (outgoing (words_of out)) a bytes)
      ∙ ap (λ (n : ℕ). blocks_came host (outgoing (words_of out)) a n s l) (sym (long_filled ws buffer))
  by_kind false false false = sym (status-call host s l)

module _ (host : Sdmmc) (ws : List ℕ) (l : List Row) (asked : Asked) (buffer : List ℕ) where
  abbrev script : List ℕ
  script = (call_asked ws asked).script

  abbrev words : List ℕ
  words = (call_asked ws asked).«data»

  -- A CALL OF A BOOK, taken one answer at a time, comes to what it comes to on its script
  as_served : fed_from script (starts (begins host ws asked buffer)) l ≡ comes host (asking l buffer ws asked)
  unfolding plan_of
  as_served =
      fed-whole script (begins host ws asked buffer) host (plan_of host asked.kind asked.a (words_of (blocks_filled words buffer)) (length buffer)) l refl
      ∙ by_kind host script l asked.a words buffer (eqb asked.kind 1) (eqb asked.kind 2) (eqb asked.kind 4)

  -- as the turns have it, of the script and the call that they were taken with
  module _ {s : List ℕ} {u : Under} (part : s ≡ script) (plan : u ≡ begins host ws asked buffer) where
    pub as_called : {c : Called} → c ≡ called_of (fed_from s (starts u) l) → c ≡ called_of (comes host (asking l buffer ws asked))
    as_called e =
        e
        ∙ ap (λ (s : List ℕ). called_of (fed_from s (starts u) l)) part
        ∙ ap (λ (u : Under). called_of (fed_from script (starts u) l)) plan
        ∙ ap called_of as_served

    pub as_told : (p : Leaf) {q : Leaf} → q ≡ events_of s (starts u) l p → q ≡ events_of script (starts (begins host ws asked buffer)) l p
    as_told p e =
        e ∙ ap (λ (s : List ℕ). events_of s (starts u) l p) part ∙ ap (λ (u : Under). events_of script (starts u) l p) plan
