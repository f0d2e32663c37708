-- A book told call by call.
use Prim.Native.Nat.{ℕ, ◌+◌, ◌≤◌, min}
use mathlib.Core.Bool.{true, false}
use Rattle.std.specs.Prelude.{Result, Ok, Err, IsOk}
use mathlib.Core.List.{List}
use mathlib.Core.Path.{◌≡◌, refl, ap, sym, ◌∙◌}
use native.Mathlib.Numerals.{add-one}
use native.Mathlib.Omega.{arith}
use lib.ListN.{length, take, replicate}
use Rattle.tape.specs.declared.rows.Row.{Row}
use Rattle.tape.specs.Layout.{rows_in}
use Rattle.text.specs.Ink.{inked, Laid}
use Rattle.host.specs.declared.host.Called.{Called}
use Rattle.host.specs.declared.host.Sdmmc.{Sdmmc}
use Rattle.host.specs.Calls.{called_of}
use Rattle.calls.specs.Serve.{comes}
use Rattle.feed.specs.Turns.{starts}
use Rattle.book.specs.declared.layout.Asked.{Asked}
use Rattle.std.specs.Prelude as O
use Rattle.types.specs.Words.{words_of}
use Rattle.book.specs.Readers.{asked_at, call_asked, opened_of}
use Rattle.types.proofs.Back.{length-words}
use Rattle.book.proofs.Opening.{opened_some}
use Rattle.bench.specs.declared.trace.Opening.{Opening}
use Rattle.bench.specs.Bench.{asking}
use Rattle.bench.specs.Opens.{OpensAs, head_of}
use Rattle.bench.specs.Trace.{bytes_at, place_after, call_at}
use Rattle.bench.proofs.Opens.{words_lie}
use Rattle.sheet.specs.declared.sheet.Sheet.{Sheet}
use Rattle.sheet.specs.Sheet.{Tells}
use Rattle.sheet.specs.Lines.{begins_text}
use Rattle.tracing.specs.Traced.{Point, start_of, calls_of}
use Rattle.tracing.proofs.Traces.{opened-start, opened-calls}
use Rattle.telling.specs.Told.{Leaf, leaf, events_of, begins, ends_on, call_out, stepped, after_calls, Tellings}
use Rattle.telling.proofs.Lines.{as_leaf}

-- a call's lines, its events and its last two lines are all of it
module _ (number : ℕ) (host : Sdmmc) (ws : List ℕ) (asked : Asked) (buffer : List ℕ) (l : List Row) where
  pub call-out : {at : ℕ} {out out₁ out₂ out₃ : List ℕ} {sheet : Sheet} {c : Called}
      → Tells (begins_text number asked) (record { at = 0; written = Ok tt }) out sheet out₁
      → c ≡ called_of (comes host (asking l buffer ws asked))
      → leaf at out₂ ≡ events_of (call_asked ws asked).script (starts (begins host ws asked buffer)) l (leaf sheet.at out₁)
      → out₃ ≡ (ends_on number asked.kind c (leaf at out₂)).out → out₃ ≡ call_out number host ws asked buffer l out
  call-out {at} {out₂ = out₂} first called events ends =
      let c = called_of (comes host (asking l buffer ws asked)) in
      ends
      ∙ ap (λ (c : Called). (ends_on number asked.kind c (leaf at out₂)).out) called
      ∙ ap (λ (p : Leaf). (ends_on number asked.kind c p).out) events
      ∙ ap (λ (p : Leaf). (ends_on number asked.kind c (events_of (call_asked ws asked).script (starts (begins host ws asked buffer)) l p)).out) (as_leaf first)

-- after k calls
pub record Stands (ws : List ℕ) (room : ℕ) (start : Point) (k : ℕ) (host : Sdmmc) (place : ℕ) (out : List ℕ) : Type 0 where
  pub hosted : host ≡ (after_calls ws room start k).host
  pub placed : place ≡ (after_calls ws room start k).place
  pub laid : out ≡ (after_calls ws room start k).out

pub first : (ws : List ℕ) (room : ℕ) (start : Point) → Stands ws room start 0 start.host start.place start.out
unfolding after_calls
first ws room start = record { hosted = refl; placed = refl; laid = refl }

-- and after one more
pub one_more : (ws : List ℕ) (room : ℕ) (start : Point) (k : ℕ) (host host' : Sdmmc) (place place' : ℕ) (out out' : List ℕ) → Stands ws room start k host place out
    → host' ≡ (comes host (call_at ws k place room)).host → place' ≡ place_after ws k place
    → out' ≡ call_out (k + 1) host ws (asked_at ws k place) (replicate (bytes_at ws k place) 0) (rows_in (replicate (min room 4096) 0)) out → Stands ws room start (k + 1) host' place' out'
unfolding after_calls
one_more ws room start k host host' place place' out out' s h p l =
    let was : record { host = host; place = place; out = out } ≡ after_calls ws room start k = λ i. record { host = s.hosted i; place = s.placed i; out = s.laid i } in
    rw add-one
    (record {
      hosted = h ∙ ap (λ (x : Point). (stepped ws room k x).host) was;
      placed = p ∙ ap (λ (x : Point). (stepped ws room k x).place) was;
      laid = l ∙ ap (λ (x : Point). (stepped ws room k x).out) was;
    })

-- all of them, or the first so many
pub all-calls : {E : Type 0} {ws : List ℕ} {room : ℕ} {start : Point} {host : Sdmmc} {place : ℕ} {out : List ℕ} (k calls : ℕ) → Stands ws room start k host place out → k ≡ calls → Tellings {E = E} ws room start calls (Ok tt) out
all-calls k calls s e = record { served = k; within = omega arith; whole = λ t. e; last = s.laid }

never : {n m : ℕ} → false ≡ true → n ≡ m
never e = let z : ◌≡◌ {A = ℕ} 0 1 = cc in absurd (omega arith)

pub some-calls : {E : Type 0} {ws : List ℕ} {room : ℕ} {start : Point} {host : Sdmmc} {place : ℕ} {out : List ℕ} (k calls : ℕ) → Stands ws room start k host place out → k ≤ calls → (why : E) → Tellings ws room start calls (Err why) out
some-calls k calls s h why = record { served = k; within = h; whole = never; last = s.laid }

-- where there is no call, its words do not matter
none_told : {E : Type 0} (ws ws' : List ℕ) (room : ℕ) (start : Point) (all : Result (Unit {0}) E) (out : List ℕ) → Tellings ws room start 0 all out → Tellings ws' room start 0 all out
unfolding after_calls
none_told ws ws' room start all out t =
    let none : t.served ≡ 0 = omega (arith, t.within) in
    record { served = 0; within = omega arith; whole = λ e. refl; last = rw none at t.last }

module _ {E : Type 0} (bytes words last : List ℕ) (room : ℕ) (r : Opening) (all : Result (Unit {0}) E) (out out' out'' : List ℕ) (at : ℕ) (f : last ≡ inked 0 (words_of bytes) words) where
  by : (o : O.Option ℕ) → opened_of bytes (length words) ≡ o → OpensAs o (words_of bytes) r
      → Tellings (take r.words last) room (start_of o (words_of bytes) out) (calls_of o (words_of bytes)) all out''
      → Tellings (words_of bytes) room (start_of o (words_of bytes) out) (calls_of o (words_of bytes)) all out''
  unfolding OpensAs calls_of
  by (O.Some n) e s t =
      let many : r.words ≡ n = s.words ∙ length-words bytes ∙ sym (opened_some bytes (length words) n e).2 in
      let lie : take r.words last ≡ words_of bytes = rw many (words_lie bytes words last n e f) in
      rw lie at t
  by O.None e s t = none_told (take r.words last) (words_of bytes) room _ all out'' t

  pub book-told : OpensAs (opened_of bytes (length words)) (words_of bytes) r → Laid 0 (head_of (opened_of bytes (length words)) (words_of bytes)) out at out'
      → Tellings (take r.words last) room (record { host = r.host; place = r.body_at; out = out' }) r.calls all out''
      → Tellings (words_of bytes) room (start_of (opened_of bytes (length words)) (words_of bytes) out) (calls_of (opened_of bytes (length words)) (words_of bytes)) all out''
  book-told s l t =
      let o = opened_of bytes (length words) in
      by o refl s (rw (opened-start o (words_of bytes) out out' at r s l, opened-calls o (words_of bytes) r s) at t)

-- its first text could not be written
pub not-begun : {E : Type 0} (o : O.Option ℕ) (ws : List ℕ) (room : ℕ) (r : Opening) (out out' : List ℕ) (at : ℕ) → OpensAs o ws r → Laid 0 (head_of o ws) out at out'
    → (why : E) → Tellings ws room (start_of o ws out) (calls_of o ws) (Err why) out'
unfolding after_calls
not-begun o ws room r out out' at s l why =
    record { served = 0; within = omega arith; whole = never; last = ap (λ (p : Point). p.out) (opened-start o ws out out' at r s l) }
