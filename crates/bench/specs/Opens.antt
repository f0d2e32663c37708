-- What opening a book hands on.
use Rattle.std.specs.Prelude.{List, Option, Some, None, ◌≡◌, ℕ, length}
use Rattle.types.specs.declared.error.Answer.TheVariants as Answered
use Rattle.host.specs.Calls.{no_host, made}
use Rattle.book.specs.Layout.{count_of, contents_of, book_in}
use Rattle.book.specs.Lines.{host_line}
use Rattle.bench.specs.declared.trace.Opening.{Opening}
use Rattle.bench.specs.Bench.{settings_of, number_of}
use Rattle.bench.specs.Trace.{calls_served, head_text}

-- of good words: the host that is made, the calls where there is one, all the words, and where the bodies begin
pub record Opens (ws : List ℕ) (r : Opening) : Type 0 where
  pub host : r.host ≡ (made (settings_of (book_in ws))).host
  pub calls : r.calls ≡ calls_served (made (settings_of (book_in ws))).answer (count_of ws)
  pub words : r.words ≡ length ws
  pub place : r.body_at ≡ contents_of ws

-- of what is no book: nothing
pub record OpensNone (r : Opening) : Type 0 where
  pub host : r.host ≡ no_host
  pub calls : r.calls ≡ 0
  pub words : r.words ≡ 0
  pub place : r.body_at ≡ 0

unfoldable pub OpensAs : Option ℕ → List ℕ → Opening → Type 0
OpensAs (Some n) ws r = Opens ws r
OpensAs None ws r = OpensNone r

-- what is printed of it
unfoldable pub head_of : Option ℕ → List ℕ → List ℕ
head_of (Some n) ws = head_text (made (settings_of (book_in ws)))
head_of None ws = host_line (number_of Answered.BadBook)
