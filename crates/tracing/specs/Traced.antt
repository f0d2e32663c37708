-- What is left behind when a book is traced, as far as it got: each call's text is laid in the buffer over the one before.
use Rattle.std.specs.Prelude.{ℕ, zero, suc, ◌+◌, ◌≤◌, List, Option, Some, None, Result, IsOk, ◌≡◌}
use Rattle.text.specs.Ink.{inked}
use Rattle.host.specs.declared.host.Sdmmc.{Sdmmc}
use Rattle.host.specs.Calls.{no_host, made}
use Rattle.calls.specs.Serve.{comes}
use Rattle.book.specs.Layout.{count_of, contents_of, book_in}
use Rattle.bench.specs.Bench.{settings_of}
use Rattle.bench.specs.Opens.{head_of}
use Rattle.bench.specs.Trace.{bytes_at, place_after, call_at, call_text, calls_served}

-- the next host, where the next body starts, and what the buffer holds
pub record Point : Type 0 where
  pub host : Sdmmc
  pub place : ℕ
  pub out : List ℕ

-- call k of a book's words, counted from 0, with so many rows of room
abbrev pub stepped : List ℕ → ℕ → ℕ → Point → Point
stepped ws room k p = record {
  host = (comes p.host (call_at ws k p.place room)).host;
  place = place_after ws k p.place;
  out = inked 0 (call_text (k + 1) p.host (bytes_at ws k p.place) (call_at ws k p.place room)) p.out;
}

-- after the first so many calls
unfoldable pub after_calls : List ℕ → ℕ → Point → ℕ → Point
after_calls ws room start zero = start
after_calls ws room start (suc k) = stepped ws room k (after_calls ws room start k)

-- so many of the calls were traced, all of them where all was written, and this is what the buffer holds. How many could be
-- written is in no contract
pub record Traces {E : Type 0} (ws : List ℕ) (room : ℕ) (start : Point) (calls : ℕ) (all : Result (Unit {0}) E) (out : List ℕ) : Type 0 where
  pub served : ℕ
  pub within : served ≤ calls
  pub whole : IsOk all → served ≡ calls
  pub left : out ≡ (after_calls ws room start served).out

-- a book that was opened: its host, where its first body starts, and the host's text in the buffer; and its calls, where there is a host
unfoldable pub start_of : Option ℕ → List ℕ → List ℕ → Point
start_of (Some n) ws out = record {
  host = (made (settings_of (book_in ws))).host;
  place = contents_of ws;
  out = inked 0 (head_of (Some n) ws) out;
}
start_of None ws out = record { host = no_host; place = 0; out = inked 0 (head_of None ws) out }

unfoldable pub calls_of : Option ℕ → List ℕ → ℕ
calls_of (Some n) ws = calls_served (made (settings_of (book_in ws))).answer (count_of ws)
calls_of None ws = 0
