-- What a buffer holds, reading by reading.
use Rattle.std.proofs.Common.{◌≡◌, ℕ, zero, suc, ◌+◌, ◌≤◌, List, ◌++◌, Option, Some, Result, Ok, Err, length, take, drop, sym, ap, ◌∙◌, subst, le_refl, drop_at, length-take-le}
use Rattle.std.proofs.lemmas.Slice.{take-put_mid_below}
use Rattle.std.specs.Io.KnownBytes.{Consumes}
use Rattle.std.specs.declared.io.Error.{Error}
use Rattle.desk.specs.Input.{came}
use Rattle.std.proofs.KnownBytes.{Consumes-trans}
use borrow.Rule.Slice.PartMut.{put_mid, post_of}
use lib.Seq.{take-add, take-append-le}

-- a list up to a place, and what was read there
part : (a k n : ℕ) (xs ys : List ℕ) → a ≤ length xs → n ≤ length ys → take a xs ++ take n ys ≡ take (a + n) (put_mid a k xs ys)
part a k n xs ys within fits =
    let new : List ℕ = put_mid a k xs ys in
    let after : List ℕ = post_of a k xs in
    let front : take a new ≡ take a xs = take-put_mid_below a k xs ys a (le_refl a) within in
    let read : take n (drop a new) ≡ take n ys = ap (take n) (drop_at (take a xs) (ys ++ after) a (length-take-le a xs within)) ∙ take-append-le n ys after fits in
    ap (λ (l : List ℕ). take a xs ++ l) (sym read) ∙ ap (λ (l : List ℕ). l ++ take n (drop a new)) (sym front) ∙ sym (take-add a n new)

pub more_read : (a b c : Option (List ℕ)) (at k n : ℕ) (xs ys : List ℕ) → at ≤ length xs → n ≤ length ys → Consumes a b (take at xs) → Consumes b c (take n ys)
    → Consumes a c (take (at + n) (put_mid at k xs ys))
more_read a b c at k n xs ys within fits before read = subst (Consumes a c) (part at k n xs ys within fits) (Consumes-trans a b c _ _ before read)

-- bytes came where a reading gave them
pub came_some : (got : Result ℕ Error) (more : ℕ) → came got ≡ Ok (Some more) → got ≡ Ok more
came_some (Ok zero) more told = cc
came_some (Ok (suc n)) more told = cc
came_some (Err why) more told = cc
