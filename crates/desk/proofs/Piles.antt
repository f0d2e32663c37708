-- What is read of a pile, part by part.
use Rattle.std.proofs.Common.{◌≡◌, ℕ, ◌+◌, ◌-◌, ◌≤◌, min, Option, Some, Ok, Err, List, [], ◌∷◌, ◌++◌, length, take, drop, refl, arith, length-append, length-drop}
use lib.Seq.{take_at}
use Rattle.std.specs.Io.KnownBytes.{Consumes}
use Rattle.std.proofs.KnownBytes.{Consumes-trans}
use Rattle.desk.specs.declared.pile.PileError.{PileError}
use Rattle.desk.specs.declared.pile.PileError.TheVariants.{Cut, Failed}
use Rattle.desk.specs.Pile.{little_of, Past, Passes, Lengths, Books}

-- as many bytes are read past as were asked for at once
pub past_more : (a b c : Option (List ℕ)) (left now count : ℕ) → now ≤ left → Past a b left count → (bs : List ℕ) → length bs ≡ now → Consumes b c bs → Past a c (left - now) count
past_more a b c left now count some past bs long read =
    (past.0 ++ bs, omega (arith, length-append past.0 bs, past.1, long), Consumes-trans a b c past.0 bs past.2 read)

-- or fewer, and then it is over
pub past_fewer : (a b c : Option (List ℕ)) (e : PileError) (left now count : ℕ) → now ≤ left → Past a b left count → Passes b c (Err e) now → Passes a c (Err e) count
past_fewer a b c Cut left now count some past part =
    (past.0 ++ part.0, omega (arith, length-append past.0 part.0, past.1, part.1), Consumes-trans a b c past.0 part.0 past.2 part.2, part.3)
past_fewer a b c (Failed why) left now count some past part =
    (past.0 ++ part.0, omega (arith, length-append past.0 part.0, past.1, part.1), Consumes-trans a b c past.0 part.0 past.2 part.2)

-- a length is told by its four bytes, whatever comes behind them
pub little-front : (front bs : List ℕ) → 4 ≤ length front → little_of (front ++ bs) ≡ little_of front
little-front (p ∷ q ∷ r ∷ s ∷ rest) bs h = refl
little-front [] bs h = absurd (omega arith)
little-front (p ∷ []) bs h = absurd (omega arith)
little-front (p ∷ q ∷ []) bs h = absurd (omega arith)
little-front (p ∷ q ∷ r ∷ []) bs h = absurd (omega arith)

-- behind a length and some of its book's bytes fewer came than were asked for, of those that the length tells of
pub cut_behind : (a b c : Option (List ℕ)) (front buffer : List ℕ) (e : PileError) (count : ℕ) → 4 ≤ length front → length front + count ≤ 4 + little_of front
    → Consumes a b front → Passes b c (Err e) count → Books a c (Err e) buffer
cut_behind a b c front buffer Cut count four told before part = (
  front ++ part.0,
  omega (arith, length-append front part.0),
  omega (arith, length-append front part.0, little-front front part.0 four, told, part.1),
  Consumes-trans a b c front part.0 before part.2,
  part.3,
)
cut_behind a b c front buffer (Failed why) count four told before part = (
  front ++ part.0,
  omega (arith, length-append front part.0, little-front front part.0 four, told, part.1),
  Consumes-trans a b c front part.0 before part.2,
)

-- the length of the next book came, and then fewer of its bytes than were asked for
pub cut_in_buffer : (a b c : Option (List ℕ)) (size held count : ℕ) (buffer : List ℕ) (e : PileError) → Lengths a b (Ok (Some size)) → held ≡ min size (length buffer) → count ≡ held
    → Passes b c (Err e) count → Books a c (Err e) buffer
cut_in_buffer a b c size held count buffer e head least same part = cut_behind a b c head.0 buffer e count (omega arith) (omega arith) head.3 part

-- or of those that the buffer has no room for
pub cut_past_buffer : (a b c d : Option (List ℕ)) (size held : ℕ) (part buffer : List ℕ) (e : PileError) → Lengths a b (Ok (Some size)) → length part ≡ held → held ≤ size
    → Consumes b c part → Passes c d (Err e) (size - held) → Books a d (Err e) buffer
cut_past_buffer a b c d size held part buffer e head long within read passed =
    cut_behind a c d (head.0 ++ part) buffer e (size - held) (omega (arith, length-append head.0 part))
    (omega (arith, length-append head.0 part, little-front head.0 part (omega arith), head.1, head.2, long))
    (Consumes-trans a b c head.0 part head.3 read)
    passed

-- or all of them
pub whole_book : (a b c d : Option (List ℕ)) (size held : ℕ) (part was : List ℕ) (x : Unit {0}) → Lengths a b (Ok (Some size)) → length part ≡ held → held ≡ min size (length was)
    → Consumes b c part → Passes c d (Ok x) (size - held) → Books a d (Ok (Some held)) (part ++ drop held was)
whole_book a b c d size held part was x head long least read passed =
    let all : length (part ++ drop held was) ≡ length was = omega (arith, length-append part (drop held was), length-drop held was) in
    let taken : take held (part ++ drop held was) ≡ part = take_at part (drop held was) held long in (
      head.0,
      passed.0,
      head.1,
      rw (all, ← head.2) least,
      rw (← head.2) passed.1,
      rw taken (Consumes-trans a b d head.0 (part ++ passed.0) head.3 (Consumes-trans b c d part passed.0 read passed.2)),
    )
