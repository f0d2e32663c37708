-- A line for each public function of `bench`.
use Prim.Native.Nat.{ℕ}
use mathlib.Core.List.{List}
use mathlib.Core.Path.{◌≡◌}
use lib.ListN.{length}
use Rattle.host.specs.Calls.{no_host, made}
use Rattle.std.specs.Prelude.{Option, Some, None}
use Rattle.types.specs.Words.{words_of}
use Rattle.book.specs.Layout.{count_of, contents_of, book_in}
use Rattle.book.specs.Readers.{opened_of}
use Rattle.bench.specs.declared.trace.Opening.{Opening}
use Rattle.bench.specs.Bench.{settings_of}
use Rattle.bench.specs.Opens.{OpensAs}
use Rattle.bench.specs.Trace.{calls_served}
use Rattle.bench.proofs.print
use Rattle.bench.proofs.serve
use Rattle.bench.proofs.trace
use Rattle.unique.specs.Unique.{Unique, UniqueIn}
use Rattle.unique.proofs.Determined.{determined, part-determined}
use Rattle.unique.proofs.Steps.{by-words}

-- what opening a file comes to
opening : Option ℕ → List ℕ → Opening
opening (Some n) ws = record {
  host = (made (settings_of (book_in ws))).host;
  calls = calls_served (made (settings_of (book_in ws))).answer (count_of ws);
  words = length ws;
  body_at = contents_of ws;
}
opening None ws = record { host = no_host; calls = 0; words = 0; body_at = 0 }

opens : (o : Option ℕ) (ws : List ℕ) (r : Opening) → OpensAs o ws r → r ≡ opening o ws
unfolding OpensAs opening
opens (Some n) ws r e = λ i. record { host = e.host i; calls = e.calls i; words = e.words i; body_at = e.place i }
opens None ws r e = λ i. record { host = e.host i; calls = e.calls i; words = e.words i; body_at = e.place i }

print_print_book : Unique print.print_book.Kinds.ps print.print_book.Kinds.r print.print_book.Reads.Learnt
print_print_book = determined _ λ _ _ _ p i. (p.laid i, p.placed i)

serve_ask : Unique serve.ask.Kinds.ps serve.ask.Kinds.r serve.ask.Reads.Learnt
serve_ask = determined _ λ _ _ _ p. by-words p.1.0 (λ i. (p.1.1 i, p.0 i))

serve_ask_in : Unique serve.ask_in.Kinds.ps serve.ask_in.Kinds.r serve.ask_in.Reads.Learnt
serve_ask_in = determined _ λ _ _ _ p. by-words p.1.0 (λ i. (p.1.1 i, p.0 i))

serve-settings : Unique serve.settings.Kinds.ps serve.settings.Kinds.r serve.settings.Reads.Learnt
serve-settings = determined _ λ _ _ _ p. p

trace_behind : Unique trace.behind.Kinds.ps trace.behind.Kinds.r trace.behind.Reads.Learnt
trace_behind = determined _ λ _ _ _ p. p

trace_served : Unique trace.served.Kinds.ps trace.served.Kinds.r trace.served.Reads.Learnt
trace_served = determined _ λ _ _ _ p. p

trace_trace_call : Unique trace.trace_call.Kinds.ps trace.trace_call.Kinds.r trace.trace_call.Reads.Learnt
trace_trace_call = determined _ λ _ _ _ p i. (p.1.1 i, record { host = p.0 i; body_at = p.1.0 i })

trace_open : Unique trace.«open».Kinds.ps trace.«open».Kinds.r trace.«open».Reads.Learnt
trace_open = determined _ λ _ a x p i.
    (p.0 i, (p.1.1 i, opens (opened_of a.0.now (length a.1.0.now)) (words_of a.0.now) x.0 p.1.0 i))

-- Exceptions: what they give is lent. What it holds is promised, and not where it lies.
serve_data_of : UniqueIn serve.data_of.Kinds.ps serve.data_of.Kinds.r serve.data_of.Reads.Learnt (λ _ _ x. x.0.now)
serve_data_of = part-determined _ λ _ _ _ p. p

serve-script-of : UniqueIn serve.script_of.Kinds.ps serve.script_of.Kinds.r serve.script_of.Reads.Learnt (λ _ _ x. x.0.now)
serve-script-of = part-determined _ λ _ _ _ p. p
