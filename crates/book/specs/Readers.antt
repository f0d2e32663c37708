-- The words of a book as the readers hand them out.
use Rattle.std.specs.Prelude.{ℕ, ◌+◌, ◌*◌, ◌/◌, cond, ◌||◌, List, Option, Some, None, if◌then◌else◌, ◌==◌, ltb, length, get_or, take, drop}
use Rattle.book.specs.Layout.{Call, call_in, calls_of, bad_book}
use Rattle.book.specs.declared.layout.Asked.{Asked}
use Rattle.book.specs.declared.layout.Heading.{Heading}
use Rattle.book.specs.declared.layout.Kind.{Kind}
use Rattle.book.specs.declared.layout.Kind.TheVariants.{Initialise, Read, Status, Write}

abbrev pub heading_of : List ℕ → Heading
heading_of ws =
    record {
      source = get_or ws 0 0;
      poll_limit = get_or ws 1 0;
      ready_attempts = get_or ws 2 0;
      data_timeout = get_or ws 3 0;
      software_timeout = get_or ws 4 0;
      flags = get_or ws 5 0;
      calls = get_or ws 6 0;
    }

-- the kind of a number, none of another
abbrev pub kind_in : ℕ → Option Kind
kind_in n =
    if n == 1 then Some Initialise
    else (if n == 2 then Some Read else (if n == 3 then Some Status else (if n == 4 then Some Write else None)))

-- row k, counted from 0, with its body from a place on
abbrev pub asked_at : List ℕ → ℕ → ℕ → Asked
asked_at ws k place =
    record {
      kind = get_or ws (7 + 4 * k) 0;
      a = get_or ws (7 + 4 * k + 1) 0;
      b = get_or ws (7 + 4 * k + 2) 0;
      body_at = place;
      body_len = get_or ws (7 + 4 * k + 3) 0;
    }

-- the call that it is
abbrev pub call_asked : List ℕ → Asked → Call
call_asked ws x = call_in x.kind x.a x.b (take x.body_len (drop x.body_at ws))

-- the m calls from row k on, with their bodies from a place on
unfoldable pub calls_from : List ℕ → ℕ → ℕ → ℕ → List Call
calls_from ws k place m = calls_of m (drop (7 + 4 * k) ws) (drop place ws)

-- what opening a file's bytes comes to, in a list of so many words: how many of them are the book's, or none
unfoldable pub opened_of : List ℕ → ℕ → Option ℕ
opened_of bytes room = cond (bad_book bytes || ltb room (length bytes / 4)) None (Some (length bytes / 4))
