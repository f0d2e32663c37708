-- A text, and behind it another only where an answer is accepted: a host's line with its state, or with its calls' lines.
use Prim.Native.Nat.{ℕ}
use mathlib.Core.List.{List, [], ◌++◌, map, append-nil}
use mathlib.Core.Path.{◌≡◌, refl}
use Rattle.types.specs.declared.error.Answer.{Answer}
use Rattle.types.specs.declared.error.Answer.TheVariants as Answered
use Rattle.text.specs.Pens.{written}
use Rattle.text.specs.declared.pen.Pen.{Pen}
use Rattle.text.proofs.Pens.{and_written}
use Rattle.host.specs.declared.host.Made.{Made}
use Rattle.host.specs.Calls.{made}
use Rattle.book.specs.Layout.{Book}
use Rattle.book.specs.Lines.{host_line}
use Rattle.bench.specs.Bench.{settings_of, call_of, number_of, lines_served, where_accepted, book_lines}
use Rattle.bench.specs.Trace.{calls_served}

pub refused : (a : Answer) (text : List ℕ) → (a ≡ Answered.Accepted → ⊥) → where_accepted a text ≡ []
unfolding where_accepted
refused Answered.Accepted text h = absurd (h refl)
refused (Answered.Refused e) text h = refl
refused Answered.ScriptEnded text h = refl
refused Answered.TraceFull text h = refl
refused Answered.BadBook text h = refl

pub none_served : (a : Answer) (n : ℕ) → (a ≡ Answered.Accepted → ⊥) → calls_served a n ≡ 0
unfolding calls_served
none_served Answered.Accepted n h = absurd (h refl)
none_served (Answered.Refused e) n h = refl
none_served Answered.ScriptEnded n h = refl
none_served Answered.TraceFull n h = refl
none_served Answered.BadBook n h = refl

module _ (a : Answer) (first second : List ℕ) (pen : Pen) {line : Pen} (p : line ≡ written first pen) where
  pub and_accepted : {end : Pen} → a ≡ Answered.Accepted → end ≡ written second line → end ≡ written (first ++ where_accepted a second) pen
  unfolding where_accepted
  and_accepted e rest = rw e (and_written _ _ _ p rest)

  pub and_refused : (a ≡ Answered.Accepted → ⊥) → line ≡ written (first ++ where_accepted a second) pen
  and_refused h = rw (refused a second h, append-nil) p

-- of a book's host
module _ (book : Book) (m : Made) (e : made (settings_of book) ≡ m) (pen : Pen) {line : Pen} (p : line ≡ written (host_line (number_of m.answer)) pen) where
  abbrev calls : List ℕ
  calls = lines_served 1 m.host (map (call_of 4096) book.calls)

  pub with-host : {end : Pen} → m.answer ≡ Answered.Accepted → end ≡ written calls line → end ≡ written (book_lines book) pen
  unfolding book_lines
  with-host a rest = rw e (and_accepted m.answer _ calls pen p a rest)

  pub without_host : (m.answer ≡ Answered.Accepted → ⊥) → line ≡ written (book_lines book) pen
  unfolding book_lines
  without_host h = rw e (and_refused m.answer _ calls pen p h)
