-- Document 01, 'The bench book and its program', with request P5's writes: the layout of a book, and the causes for answer 23.
use Rattle.std.specs.Prelude.{ℕ, zero, suc, ◌+◌, ◌*◌, ◌-◌, ◌%◌, ◌^◌, ◌≤◌, ◌<◌, Bool, true, false, cond, not, ◌||◌, List, [], ◌∷◌, ◌++◌, ◌≡◌, eqb, ltb, length, get_or, take, drop}
use Rattle.std.proofs.Math.Option.{Option, none, some}
use Rattle.types.specs.Words.{bytes_of, words_of}

-- a call: kind (1 initialise, 2 read, 3 status, 4 write), a (frequency, index, 0, index), b (0, blocks, 0, blocks), the data
-- words of a write, its script
pub record Call : Type 0 where
  pub kind : ℕ
  pub a : ℕ
  pub b : ℕ
  pub «data» : List ℕ
  pub script : List ℕ

pub record Book : Type 0 where
  pub source : ℕ
  pub poll_limit : ℕ
  pub ready_attempts : ℕ
  pub data_timeout : ℕ
  pub software_timeout : ℕ
  pub flags : ℕ
  pub calls : List Call

-- The body of a call is its script; that of a write starts with the data words, 128 a block.

abbrev pub body_of : Call → List ℕ
body_of c = c.«data» ++ c.script

unfoldable pub data_count : ℕ → ℕ → ℕ
data_count kind b = cond (eqb kind 4) (128 * b) 0

-- The words of a book: contents first; n rows of kind, a, b, body words; then the bodies in that order.

unfoldable pub rows_in : List Call → List ℕ
rows_in [] = []
rows_in (c ∷ cs) = c.kind ∷ c.a ∷ c.b ∷ length (body_of c) ∷ rows_in cs

unfoldable pub bodies_in : List Call → List ℕ
bodies_in [] = []
bodies_in (c ∷ cs) = body_of c ++ bodies_in cs

unfoldable pub words_in : Book → List ℕ
words_in book =
    book.source
    ∷ book.poll_limit
    ∷ book.ready_attempts
    ∷ book.data_timeout
    ∷ book.software_timeout
    ∷ book.flags
    ∷ length book.calls
    ∷ (rows_in book.calls ++ bodies_in book.calls)

unfoldable pub encode : Book → List ℕ
encode book = bytes_of (words_in book)

-- What words say. The number of calls, and how many words the contents are.

abbrev pub count_of : List ℕ → ℕ
count_of ws = get_or ws 6 0

abbrev pub contents_of : List ℕ → ℕ
contents_of ws = 7 + 4 * count_of ws

-- a call, of its row and its body
abbrev pub call_in : ℕ → ℕ → ℕ → List ℕ → Call
call_in kind a b body =
    record {
      kind = kind;
      a = a;
      b = b;
      «data» = take (data_count kind b) body;
      script = drop (data_count kind b) body;
    }

-- n calls, of rows and bodies
unfoldable pub calls_of : ℕ → List ℕ → List ℕ → List Call
calls_of zero rows bodies = []
calls_of (suc n) rows bodies =
    call_in (get_or rows 0 0) (get_or rows 1 0) (get_or rows 2 0) (take (get_or rows 3 0) bodies)
    ∷ calls_of n (drop 4 rows) (drop (get_or rows 3 0) bodies)

unfoldable pub book_in : List ℕ → Book
book_in ws =
    record {
      source = get_or ws 0 0;
      poll_limit = get_or ws 1 0;
      ready_attempts = get_or ws 2 0;
      data_timeout = get_or ws 3 0;
      software_timeout = get_or ws 4 0;
      flags = get_or ws 5 0;
      calls = calls_of (count_of ws) (drop 7 ws) (drop (contents_of ws) ws);
    }

-- Answer 23, exactly for:

-- unknown kind, a or b nonzero where 0 is due, over 16 blocks, a write's body shorter than its data
unfoldable pub bad_row : ℕ → ℕ → ℕ → ℕ → Bool
bad_row kind a b len =
    cond (eqb kind 1) (not (eqb b 0))
    (cond (eqb kind 2) (ltb 16 b)
    (cond (eqb kind 3) (not (eqb a 0) || not (eqb b 0)) (cond (eqb kind 4) (ltb 16 b || ltb len (128 * b)) true)))

unfoldable pub bad_rows : ℕ → List ℕ → Bool
bad_rows zero rows = false
bad_rows (suc n) rows =
    bad_row (get_or rows 0 0) (get_or rows 1 0) (get_or rows 2 0) (get_or rows 3 0) || bad_rows n (drop 4 rows)

-- the body words of n rows together
unfoldable pub body_words : ℕ → List ℕ → ℕ
body_words zero rows = 0
body_words (suc n) rows = get_or rows 3 0 + body_words n (drop 4 rows)

-- over 4,096 words, contents cut short, flags over 3, attempts over 65,535, n outside 1 to 64, a bad row, body lengths not
-- filling the rest
unfoldable pub bad_words : List ℕ → Bool
bad_words ws =
    ltb 4096 (length ws)
    || (ltb (length ws) (contents_of ws)
    || (ltb 3 (get_or ws 5 0)
    || (ltb 65535 (get_or ws 2 0)
    || (eqb (count_of ws) 0
    || (ltb 64 (count_of ws)
    || (bad_rows (count_of ws) (drop 7 ws)
    || not (eqb (body_words (count_of ws) (drop 7 ws)) (length ws - contents_of ws))))))))

-- a byte length no multiple of 4, or words that are bad
unfoldable pub bad_book : List ℕ → Bool
bad_book bytes = not (eqb (length bytes % 4) 0) || bad_words (words_of bytes)

-- THE BOOK OF A FILE'S BYTES, none exactly for answer 23
unfoldable pub book_of : List ℕ → Option Book
book_of bytes = cond (bad_book bytes) none (some (book_in (words_of bytes)))

-- A book that can be written so.

-- a row that is bad, or data words that are not 128 a block of a write
unfoldable pub bad_call : Call → Bool
bad_call c =
    bad_row c.kind c.a c.b (length (body_of c)) || not (eqb (length c.«data») (data_count c.kind c.b))

unfoldable pub bad_calls : List Call → Bool
bad_calls [] = false
bad_calls (c ∷ cs) = bad_call c || bad_calls cs

pub record WellFormed (book : Book) : Type 0 where
  pub words : (i : ℕ) → get_or (words_in book) i 0 < 2 ^ 32
  pub long : length (words_in book) ≤ 4096
  pub flags : book.flags ≤ 3
  pub attempts : book.ready_attempts ≤ 65535
  pub least : 0 < length book.calls
  pub most : length book.calls ≤ 64
  pub calls : bad_calls book.calls ≡ false
