-- What a write of a book sends: the bytes of its data words, lowest first, and so exactly these words. A book that is read from
-- a file's bytes can be written (book/proofs/Both.antt, `read-well`), so this holds of its calls.
use Prim.Native.Nat.{ℕ, ◌*◌, ◌/◌, min}
use mathlib.Core.List.{List, ◌∷◌, ◌++◌, append-nil}
use mathlib.Core.Path.{◌≡◌, ap, ◌∙◌}
use native.Mathlib.Omega.{arith}
use borrow.Author.Tests.{eq-eqb, ne_eqb}
use lib.ListN.{length, replicate, length-replicate, drop_of_length-le}
use lib.Seq.{take_all}
use Rattle.types.specs.Words.{bytes_of, words_of}
use Rattle.types.proofs.Back.{words_back}
use Rattle.types.proofs.Bytes.{length-bytes}
use Rattle.tape.specs.Layout.{rows_in}
use Rattle.bus.specs.Transfer.{outgoing}
use Rattle.host.specs.declared.host.Sdmmc.{Sdmmc}
use Rattle.host.specs.Calls.{Came, blocks_filled, blocks_came}
use Rattle.calls.specs.Serve as S
use Rattle.calls.specs.Serve.{comes}
use Rattle.book.specs.Layout.{Book, Call, WellFormed}
use Rattle.book.proofs.Each.{its_data, its_count}
use Rattle.bench.specs.Bench.{call_of}

-- words of b blocks, in a buffer of b blocks: all of it is their bytes
all-bytes : (ws buffer : List ℕ) (b : ℕ) → length ws ≡ 128 * b → length buffer ≡ 512 * b → blocks_filled ws buffer ≡ bytes_of ws
unfolding blocks_filled
all-bytes ws buffer b e f =
    let blocks : min (length ws / 128) (length buffer / 512) ≡ b = omega arith in
    rw (blocks, take_all (128 * b) ws (omega arith), drop_of_length-le buffer {i = 512 * b} (omega arith)) (append-nil (bytes_of ws))

-- of a call of a book
module _ (book : Book) (well : WellFormed book) (before : List Call) (c : Call) (after : List Call) (e : book.calls ≡ before ++ c ∷ after) (four : c.kind ≡ 4) where
  pub sends-bytes : (room : ℕ) → call_of room c ≡ S.write c.a (bytes_of c.«data») c.script (rows_in (replicate room 0))
  sends-bytes room =
      let one : c.kind ≡ 1 → ⊥ = λ k. omega arith in
      let two : c.kind ≡ 2 → ⊥ = λ k. omega arith in
      rw (
        ne_eqb c.kind 1 one,
        ne_eqb c.kind 2 two,
        eq-eqb c.kind 4 four,
        all-bytes c.«data» (replicate (512 * c.b) 0) c.b (its_count book well before c after e four) (length-replicate (512 * c.b) 0),
      )

  pub sends-words : words_of (bytes_of c.«data») ≡ c.«data»
  sends-words = words_back c.«data» (its_data book well before c after e)

  -- WHAT IT COMES TO: a write of its data words, to so many blocks as its row says
  pub sends_data : (host : Sdmmc) (room : ℕ)
      → comes host (call_of room c) ≡ blocks_came host (outgoing c.«data») c.a (512 * c.b) c.script (rows_in (replicate room 0))
  unfolding comes
  sends_data host room =
      let bytes : length (bytes_of c.«data») ≡ 512 * c.b = omega (arith, length-bytes c.«data», its_count book well before c after e four) in
      let came : List ℕ → ℕ → Came = λ ws n. blocks_came host (outgoing ws) c.a n c.script (rows_in (replicate room 0)) in
      ap (comes host) (sends-bytes room)
      ∙ ap (λ (ws : List ℕ). came ws (length (bytes_of c.«data»))) sends-words
      ∙ ap (came c.«data») bytes
