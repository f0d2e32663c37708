-- Document 01's book, read by the definition; and its neighbours, good and bad, those with writes of request P5 among them. (What is printed of it: bench/specs/Cases.antt.)
use Rattle.std.specs.Prelude.{ℕ, true, false, List, [], ◌∷◌, ◌++◌, map, ◌≡◌, refl, length, replicate}
use Rattle.std.proofs.Math.Option.{some}
use Rattle.types.specs.Words.{bytes_of, words_of}
use Rattle.book.specs.Layout.{Book, Call, data_count, calls_of, book_in, bad_row, bad_rows, body_words, bad_words, bad_book, book_of}

abbrev call : ℕ → ℕ → ℕ → List ℕ → Call
call kind a b script = record { kind = kind; a = a; b = b; «data» = []; script = script }

abbrev pub words : List ℕ
words =
    8000000 ∷ 1 ∷ 1 ∷ 1 ∷ 1 ∷ 0 ∷ 3 ∷ 1 ∷ 50000001 ∷ 0 ∷ 0 ∷ 2 ∷ 0 ∷ 1 ∷ 0 ∷ 1 ∷ 25000000 ∷ 0 ∷ 1 ∷ 2048 ∷ []

abbrev book : Book
book =
    record {
      source = 8000000;
      poll_limit = 1;
      ready_attempts = 1;
      data_timeout = 1;
      software_timeout = 1;
      flags = 0;
      calls = call 1 50000001 0 [] ∷ call 2 0 1 [] ∷ call 1 25000000 0 (2048 ∷ []) ∷ [];
    }

document : book_of (bytes_of words) ≡ some book
unfolding bytes_of words_of data_count calls_of book_in bad_row bad_rows body_words bad_words bad_book book_of
document = refl

-- a book of one call, of these flags, attempts and number of calls, this row, and these words behind it
abbrev one : ℕ → ℕ → ℕ → List ℕ → List ℕ → List ℕ
one flags attempts n row rest = 8000000 ∷ 1 ∷ attempts ∷ 1 ∷ 1 ∷ flags ∷ n ∷ row ++ rest

-- those that are good, and those that are not for one cause each
good : map bad_words (
    one 3 65535 1 (1 ∷ 25000000 ∷ 0 ∷ 1 ∷ []) (2048 ∷ [])
    ∷ one 0 1 1 (2 ∷ 7 ∷ 0 ∷ 0 ∷ []) []
    ∷ one 0 1 1 (2 ∷ 7 ∷ 16 ∷ 0 ∷ []) []
    ∷ one 0 1 1 (3 ∷ 0 ∷ 0 ∷ 0 ∷ []) []
    ∷ []
    ) ≡ false ∷ false ∷ false ∷ false ∷ []
unfolding bad_row bad_rows body_words bad_words
good = refl

bad : map bad_words (
    one 4 1 1 (3 ∷ 0 ∷ 0 ∷ 0 ∷ []) []
    ∷ one 0 65536 1 (3 ∷ 0 ∷ 0 ∷ 0 ∷ []) []
    ∷ one 0 1 0 (3 ∷ 0 ∷ 0 ∷ 0 ∷ []) []
    ∷ one 0 1 2 (3 ∷ 0 ∷ 0 ∷ 0 ∷ []) []
    ∷ one 0 1 1 (5 ∷ 0 ∷ 0 ∷ 0 ∷ []) []
    ∷ one 0 1 1 (0 ∷ 0 ∷ 0 ∷ 0 ∷ []) []
    ∷ one 0 1 1 (1 ∷ 25000000 ∷ 1 ∷ 0 ∷ []) []
    ∷ one 0 1 1 (2 ∷ 0 ∷ 17 ∷ 0 ∷ []) []
    ∷ one 0 1 1 (3 ∷ 1 ∷ 0 ∷ 0 ∷ []) []
    ∷ one 0 1 1 (3 ∷ 0 ∷ 0 ∷ 0 ∷ []) (2048 ∷ [])
    ∷ one 0 1 1 (3 ∷ 0 ∷ 0 ∷ 1 ∷ []) []
    ∷ (8000000 ∷ 1 ∷ 1 ∷ 1 ∷ 1 ∷ 0 ∷ [])
    ∷ []
    ) ≡ true ∷ true ∷ true ∷ true ∷ true ∷ true ∷ true ∷ true ∷ true ∷ true ∷ true ∷ true ∷ []
unfolding bad_row bad_rows body_words bad_words
bad = refl

-- a write at index 7 with these blocks and this body, alone in its book
abbrev write : ℕ → List ℕ → List ℕ
write blocks body = one 0 1 1 (4 ∷ 7 ∷ blocks ∷ length body ∷ []) body

-- its data words fill its body, or a script follows; no block, with a script and without one; and 16 blocks
written : map bad_words (
    write 1 (replicate 128 5)
    ∷ write 1 (replicate 129 5)
    ∷ write 0 []
    ∷ write 0 (5 ∷ [])
    ∷ write 16 (replicate 2048 5)
    ∷ []
    ) ≡ false ∷ false ∷ false ∷ false ∷ false ∷ []
unfolding bad_row bad_rows body_words bad_words
written = refl

-- a word short of its data; 17 blocks; a kind that is none, where a write would be good
unwritten : map bad_words (
    write 1 (replicate 127 5)
    ∷ write 16 (replicate 2047 5)
    ∷ write 17 (replicate 2176 5)
    ∷ one 0 1 1 (5 ∷ 7 ∷ 1 ∷ 128 ∷ []) (replicate 128 5)
    ∷ one 0 1 1 (0 ∷ 7 ∷ 1 ∷ 128 ∷ []) (replicate 128 5)
    ∷ []
    ) ≡ true ∷ true ∷ true ∷ true ∷ true ∷ []
unfolding bad_row bad_rows body_words bad_words
unwritten = refl

-- the data words come first in a body, 128 a block, and the script is what is left
parted : (book_in (write 1 (replicate 128 5 ++ 6 ∷ []))).calls
    ≡ record { kind = 4; a = 7; b = 1; «data» = replicate 128 5; script = 6 ∷ [] } ∷ []
unfolding data_count calls_of book_in
parted = refl
