-- A book traced call by call.
use Prim.Native.Nat.{ℕ, ◌+◌, ◌≤◌}
use mathlib.Core.Bool.{true, false}
use mathlib.Core.List.{List}
use mathlib.Core.Path.{◌≡◌, refl, ap, sym, ◌∙◌}
use native.Mathlib.Numerals.{add-one}
use native.Mathlib.Omega.{arith}
use lib.ListN.{length, take}
use Rattle.std.specs.Prelude.{Result, Ok, Err, IsOk}
use Rattle.text.specs.Ink.{inked, Laid}
use Rattle.host.specs.declared.host.Sdmmc.{Sdmmc}
use Rattle.calls.specs.Serve.{comes}
use Rattle.std.specs.Prelude as O
use Rattle.types.specs.Words.{words_of}
use Rattle.book.specs.Readers.{opened_of}
use Rattle.types.proofs.Back.{length-words}
use Rattle.book.proofs.Opening.{opened_some}
use Rattle.bench.specs.declared.trace.Opening.{Opening}
use Rattle.bench.specs.Opens.{OpensAs, head_of}
use Rattle.bench.specs.Trace.{bytes_at, place_after, call_at, call_text}
use Rattle.bench.proofs.Opens.{words_lie}
use Rattle.tracing.specs.Traced.{Point, stepped, after_calls, Traces, start_of, calls_of}

-- after k calls
pub record Stands (ws : List ℕ) (room : ℕ) (start : Point) (k : ℕ) (host : Sdmmc) (place : ℕ) (out : List ℕ) : Type 0 where
  pub hosted : host ≡ (after_calls ws room start k).host
  pub placed : place ≡ (after_calls ws room start k).place
  pub laid : out ≡ (after_calls ws room start k).out

pub first : (ws : List ℕ) (room : ℕ) (start : Point) → Stands ws room start 0 start.host start.place start.out
unfolding after_calls
first ws room start = record { hosted = refl; placed = refl; laid = refl }

-- and after one more
pub one_more : (ws : List ℕ) (room : ℕ) (start : Point) (k : ℕ) (host host' : Sdmmc) (place place' at : ℕ) (out out' : List ℕ) → Stands ws room start k host place out
    → host' ≡ (comes host (call_at ws k place room)).host → place' ≡ place_after ws k place
    → Laid 0 (call_text (k + 1) host (bytes_at ws k place) (call_at ws k place room)) out at out' → Stands ws room start (k + 1) host' place' out'
unfolding after_calls
one_more ws room start k host host' place place' at out out' s h p l =
    let was : record { host = host; place = place; out = out } ≡ after_calls ws room start k = λ i. record { host = s.hosted i; place = s.placed i; out = s.laid i } in
    rw add-one
    (record {
      hosted = h ∙ ap (λ (x : Point). (stepped ws room k x).host) was;
      placed = p ∙ ap (λ (x : Point). (stepped ws room k x).place) was;
      laid = l.laid ∙ ap (λ (x : Point). (stepped ws room k x).out) was;
    })

-- all of them, or the first so many
pub all-calls : {E : Type 0} {ws : List ℕ} {room : ℕ} {start : Point} {host : Sdmmc} {place : ℕ} {out : List ℕ} (k calls : ℕ) → Stands ws room start k host place out → k ≡ calls → Traces {E = E} ws room start calls (Ok tt) out
all-calls k calls s e = record { served = k; within = omega arith; whole = λ t. e; left = s.laid }

never : {n m : ℕ} → false ≡ true → n ≡ m
never e = let z : ◌≡◌ {A = ℕ} 0 1 = cc in absurd (omega arith)

pub some-calls : {E : Type 0} {ws : List ℕ} {room : ℕ} {start : Point} {host : Sdmmc} {place : ℕ} {out : List ℕ} (k calls : ℕ) → Stands ws room start k host place out → k ≤ calls → (why : E) → Traces ws room start calls (Err why) out
some-calls k calls s h why = record { served = k; within = h; whole = never; left = s.laid }

-- a book that was opened, by how it was
pub opened-start : (o : O.Option ℕ) (ws out out' : List ℕ) (at : ℕ) (r : Opening) → OpensAs o ws r → Laid 0 (head_of o ws) out at out'
    → record { host = r.host; place = r.body_at; out = out' } ≡ start_of o ws out
unfolding OpensAs start_of
opened-start (O.Some n) ws out out' at r s l = λ i. record { host = s.host i; place = s.place i; out = l.laid i }
opened-start O.None ws out out' at r s l = λ i. record { host = s.host i; place = s.place i; out = l.laid i }

pub opened-calls : (o : O.Option ℕ) (ws : List ℕ) (r : Opening) → OpensAs o ws r → r.calls ≡ calls_of o ws
unfolding OpensAs calls_of
opened-calls (O.Some n) ws r s = s.calls
opened-calls O.None ws r s = s.calls

-- where there is no call, its words do not matter
none-traced : {E : Type 0} (ws ws' : List ℕ) (room : ℕ) (start : Point) (all : Result (Unit {0}) E) (out : List ℕ) → Traces ws room start 0 all out → Traces ws' room start 0 all out
unfolding after_calls
none-traced ws ws' room start all out t =
    let none : t.served ≡ 0 = omega (arith, t.within) in
    record { served = 0; within = omega arith; whole = λ e. refl; left = rw none at t.left }

module _ {E : Type 0} (bytes words last : List ℕ) (room : ℕ) (r : Opening) (all : Result (Unit {0}) E) (out out' out'' : List ℕ) (at : ℕ) (f : last ≡ inked 0 (words_of bytes) words) where
  by : (o : O.Option ℕ) → opened_of bytes (length words) ≡ o → OpensAs o (words_of bytes) r
      → Traces (take r.words last) room (start_of o (words_of bytes) out) (calls_of o (words_of bytes)) all out''
      → Traces (words_of bytes) room (start_of o (words_of bytes) out) (calls_of o (words_of bytes)) all out''
  unfolding OpensAs calls_of
  by (O.Some n) e s t =
      let many : r.words ≡ n = s.words ∙ length-words bytes ∙ sym (opened_some bytes (length words) n e).2 in
      let lie : take r.words last ≡ words_of bytes = rw many (words_lie bytes words last n e f) in
      rw lie at t
  by O.None e s t = none-traced (take r.words last) (words_of bytes) room _ all out'' t

  pub book-traced : {rows : ℕ} → rows ≡ room → OpensAs (opened_of bytes (length words)) (words_of bytes) r → Laid 0 (head_of (opened_of bytes (length words)) (words_of bytes)) out at out'
      → Traces (take r.words last) rows (record { host = r.host; place = r.body_at; out = out' }) r.calls all out''
      → Traces (words_of bytes) room (start_of (opened_of bytes (length words)) (words_of bytes) out) (calls_of (opened_of bytes (length words)) (words_of bytes)) all out''
  book-traced same s l t =
      let o = opened_of bytes (length words) in
      by o refl s (rw (same, opened-start o (words_of bytes) out out' at r s l, opened-calls o (words_of bytes) r s) at t)

-- its first text could not be written
pub not-begun : {E : Type 0} (o : O.Option ℕ) (ws : List ℕ) (room : ℕ) (r : Opening) (out out' : List ℕ) (at : ℕ) → OpensAs o ws r → Laid 0 (head_of o ws) out at out'
    → (why : E) → Traces ws room (start_of o ws out) (calls_of o ws) (Err why) out'
unfolding after_calls
not-begun o ws room r out out' at s l why =
    record { served = 0; within = omega arith; whole = never; left = ap (λ (p : Point). p.out) (opened-start o ws out out' at r s l) }
