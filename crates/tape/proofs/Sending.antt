-- Words sent, each a row: what becomes of the list and of the call, and how parts of the words are joined.
use Prim.Native.Nat.{ℕ, zero, suc, ◌+◌, ◌*◌, ◌-◌, ◌/◌, ◌<◌, ◌≤◌}
use mathlib.Core.Path.{◌≡◌, refl, ap, sym, ◌∙◌}
use mathlib.Core.List.{List}
use native.Mathlib.Omega.{arith}
use native.Mathlib.Decide.{dec_lt}
use native.Mathlib.Nat.{add-zero, zero-add, add_assoc}
use lib.ListN.{length, get_or, set, take, drop, length-set, length-drop}
use lib.Seq.{get_or-take, get_or-drop, length-take-le}
use borrow.Author.Tests.{le-ltb, lt-ltb}
use Rattle.types.specs.Words.{word4, words_of}
use Rattle.types.proofs.Back.{word-is}
use Rattle.std.specs.Prelude.{Result}
use Rattle.tape.specs.declared.progress.Halt.{Halt}
use Rattle.tape.specs.declared.progress.Halt.TheVariants.{TraceFull}
use Rattle.tape.specs.declared.progress.Head.{Head}
use Rattle.tape.specs.declared.progress.Line.{Line}
use Rattle.tape.specs.Pace.{Going, Stopped}
use Rattle.tape.specs.declared.rows.Row.{Row}
use Rattle.tape.specs.Layout.{sent_over}
use Rattle.tape.specs.Plan.{Nothing, write, handle, ◌then◌}
use Rattle.tape.specs.Rows.{FIFO}
use Rattle.tape.specs.Run.{after, noted, run, Went}
use Rattle.tape.specs.Steps.{row, send_from}

abbrev pub fifo : ℕ → Row
fifo w = record { register = FIFO; value = w }

-- one more, behind those that are there
pub sent-more : (ws : List ℕ) (k n m : ℕ) (l : List Row) → set (sent_over ws k n m l) (m + n) (fifo (get_or ws (k + n) 0)) ≡ sent_over ws k (suc n) m l
unfolding sent_over
sent-more ws k zero m l = rw (add-zero k, add-zero m)
sent-more ws k (suc n) m l =
    let place : m + suc n ≡ m + 1 + n = omega arith in
    let word : k + suc n ≡ k + 1 + n = omega arith in
    rw (place, word) (sent-more ws (k + 1) n (m + 1) (set l m (fifo (get_or ws k 0))))

pub sent-long : (ws : List ℕ) (k n m : ℕ) (l : List Row) → length (sent_over ws k n m l) ≡ length l
unfolding sent_over
sent-long ws k zero m l = refl
sent-long ws k (suc n) m l = sent-long ws (k + 1) n (m + 1) (set l m (fifo (get_or ws k 0))) ∙ length-set l m (fifo (get_or ws k 0))

-- word i, made of its four bytes
pub word_made : (bytes : List ℕ) (i w : ℕ) → 4 * i + 4 ≤ length bytes
    → w ≡ word4 (get_or bytes (4 * i) 0) (get_or bytes (4 * i + 1) 0) (get_or bytes (4 * i + 2) 0) (get_or bytes (4 * i + 3) 0) → w ≡ get_or (words_of bytes) i 0
word_made bytes i w there e = e ∙ sym (word-is i bytes there)

module _ (s ws : List ℕ) (u : ℕ) (h : Line) where
  -- with room for all of them
  pub sent-all : (k n m : ℕ) (l : List Row) → n ≤ length l - m → run s (tt {0}) (send_from ws k n) u m h l ≡ after tt Going u (m + n) h (sent_over ws k n m l)
  unfolding run send_from handle row noted sent_over
  sent-all k zero m l e = rw (add-zero m)
  sent-all k (suc n) m l e =
      let next : m + suc n ≡ m + 1 + n = omega arith in
      rw (lt-ltb m (length l) (omega arith), next) (sent-all (k + 1) n (m + 1) (set l m (fifo (get_or ws k 0))) (rw length-set (omega arith)))

  -- without: as many as there is room for
  pub sent-full : (k n m : ℕ) (l : List Row) → length l - m < n
      → run s (tt {0}) (send_from ws k n) u m h l ≡ after tt (Stopped TraceFull) u (m + (length l - m)) h (sent_over ws k (length l - m) m l)
  unfolding run send_from handle row noted sent_over
  sent-full k zero m l e = absurd (omega arith)
  sent-full k (suc n) m l e =
      let more = set l m (fifo (get_or ws k 0)) in
      let long : length more ≡ length l = length-set l m (fifo (get_or ws k 0)) in
      by (dec_lt m (length l)) (λ room. rw long at (sent-full (k + 1) n (m + 1) more (rw long (omega arith))))
    where
      set_l : List Row
      set_l = set l m (fifo (get_or ws k 0))

      by : Dec (m < length l)
          → (m < length l → run s (tt {0}) (send_from ws (k + 1) n) u (m + 1) h set_l ≡ after tt (Stopped TraceFull) u (m + 1 + (length l - (m + 1))) h (sent_over ws (k + 1) (length l - (m + 1)) (m + 1) set_l))
          → run s (tt {0}) (send_from ws k (suc n)) u m h l ≡ after tt (Stopped TraceFull) u (m + (length l - m)) h (sent_over ws k (length l - m) m l)
      by (yes room) ih =
          let one : length l - m ≡ suc (length l - (m + 1)) = omega arith in
          let place : m + suc (length l - (m + 1)) ≡ m + 1 + (length l - (m + 1)) = omega arith in
          rw (lt-ltb m (length l) room, one, place) (ih room)
      by (no full) ih =
          let none : length l - m ≡ 0 = omega arith in
          rw (le-ltb m (length l) (omega arith), none, add-zero m)

-- the words of a part: those from its place on
pub part_of : (ws vs : List ℕ) (k j n : ℕ) → ((i : ℕ) → i < n → get_or vs (k + i) 0 ≡ get_or ws (j + i) 0) → send_from vs k n ≡ send_from ws j n
unfolding send_from
part_of ws vs k j zero e = refl
part_of ws vs k j (suc n) e =
    let first : get_or vs k 0 ≡ get_or ws j 0 = rw (add-zero k, add-zero j) at (e 0 (omega arith)) in
    let rest = part_of ws vs (k + 1) (j + 1) n (λ i less. rw (add_assoc k 1 i, add_assoc j 1 i) (e (1 + i) (omega arith))) in
    rw (first, rest)

-- some, and then the rest
pub sent-joined : (ws : List ℕ) (k n m : ℕ) → send_from ws k (n + m) ≡ (send_from ws k n then λ _. send_from ws (k + n) m)
unfolding send_from handle row
sent-joined ws k zero m = rw (zero-add m, add-zero k)
sent-joined ws k (suc n) m =
    let more : suc n + m ≡ suc (n + m) = omega arith in
    let place : k + suc n ≡ k + 1 + n = omega arith in
    rw (more, sent-joined ws (k + 1) n m)
    (ap (λ (t : ℕ). write (fifo (get_or ws k 0)) (send_from ws (k + 1) n then λ _. send_from ws t m)) (sym place))

-- block k of the data: its words are those from place 128 * k on
module _ (bytes : List ℕ) (k m : ℕ) (whole : m ≡ 512) (there : 512 * k + 512 ≤ length bytes) where
  abbrev block : List ℕ
  block = take m (drop (512 * k) bytes)

  block-long : length block ≡ 512
  block-long = length-take-le m (drop (512 * k) bytes) (rw (length-drop (512 * k) bytes) (omega arith)) ∙ whole

  -- byte j of it
  byte_of : (j : ℕ) → j < 512 → get_or block j 0 ≡ get_or bytes (512 * k + j) 0
  byte_of j less = get_or-take m (drop (512 * k) bytes) j 0 (omega arith) ∙ get_or-drop (512 * k) bytes j 0

  word_of : (i : ℕ) → i < 128 → get_or (words_of block) (0 + i) 0 ≡ get_or (words_of bytes) (128 * k + i) 0
  word_of i less =
      let at : (j : ℕ) → 512 * k + (4 * i + j) ≡ 4 * (128 * k + i) + j = λ j. omega arith in
      let first : 512 * k + 4 * i ≡ 4 * (128 * k + i) = omega arith in
      rw (zero-add i)
      (word-is i block (rw block-long (omega arith))
      ∙ rw (byte_of (4 * i) (omega arith), byte_of (4 * i + 1) (omega arith), byte_of (4 * i + 2) (omega arith), byte_of (4 * i + 3) (omega arith), at 1, at 2, at 3, first)
      (sym (word-is (128 * k + i) bytes (omega arith))))

  block-sent : send_from (words_of block) 0 (length block / 4) ≡ send_from (words_of bytes) (128 * k) 128
  block-sent = ap (λ (n : ℕ). send_from (words_of block) 0 (n / 4)) block-long ∙ part_of (words_of bytes) (words_of block) 0 (128 * k) 128 word_of

-- so sending its bytes, lent as a part of the data, sends those
pub block_went : (bytes : List ℕ) (k : ℕ) {part : List ℕ} {s : List ℕ} {h h' : Head} {l l' : List Row} {r : Result Nothing Halt}
    → Went s (send_from (words_of part) 0 (length part / 4)) h l r h' l'
    → part ≡ take 512 (drop (512 * k) bytes) → 512 * k + 512 ≤ length bytes → Went s (send_from (words_of bytes) (128 * k) 128) h l r h' l'
block_went bytes k {part} {s} {h} {h'} {l} {l'} {r} went is there =
    let lent : Went s (send_from (words_of (take 512 (drop (512 * k) bytes))) 0 (length (take 512 (drop (512 * k) bytes)) / 4)) h l r h' l' = rw is at went in
    rw (← block-sent bytes k 512 refl there) lent
