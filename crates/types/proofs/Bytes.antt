-- Words laid over bytes, one after the other.
use Prim.Native.Nat.{ℕ, ◌+◌, ◌*◌, ◌<◌, ◌≤◌}
use mathlib.Core.List.{List, [], ◌∷◌, ◌++◌, append_assoc}
use mathlib.Core.Path.{◌≡◌, refl, ap, sym, ◌∙◌}
use native.Mathlib.Numerals.{add-one}
use native.Mathlib.Omega.{arith}
use lib.ListN.{length, get_or, take, drop, length-append, length-take, length-drop}
use lib.Seq.{take-suc, take_at, drop-append-add, drop-drop}
use borrow.Rule.Slice.PartMut.{put_mid}
use Rattle.types.specs.Words.{bytes4, bytes_of}

pub bytes-append : (xs ys : List ℕ) → bytes_of (xs ++ ys) ≡ bytes_of xs ++ bytes_of ys
unfolding bytes_of
bytes-append [] ys = refl
bytes-append (x ∷ xs) ys = ap (λ (l : List ℕ). bytes4 x ++ l) (bytes-append xs ys)

pub length-bytes : (xs : List ℕ) → length (bytes_of xs) ≡ 4 * length xs
unfolding bytes_of
length-bytes [] = refl
length-bytes (x ∷ xs) = omega (arith, length-bytes xs)

-- the first i words, laid over the start of the bytes
abbrev pub laid : List ℕ → List ℕ → ℕ → List ℕ
laid words bytes i = bytes_of (take i words) ++ drop (4 * i) bytes

module _ (words bytes : List ℕ) (i : ℕ) (word : i < length words) (room : 4 * i + 4 ≤ length bytes) where
  front : length (bytes_of (take i words)) ≡ 4 * i
  front = length-bytes (take i words) ∙ ap (λ (n : ℕ). 4 * n) (rw length-take (omega arith))

  pub laid-length : length (laid words bytes i) ≡ length bytes
  laid-length = rw (length-append, front, length-drop) (omega arith)

  more : bytes_of (take (i + 1) words) ≡ bytes_of (take i words) ++ bytes4 (get_or words i 0)
  unfolding bytes_of
  more = rw (add-one, take-suc words i 0) (bytes-append (take i words) (get_or words i 0 ∷ []))

  rest : drop (4 * i + 4) (laid words bytes i) ≡ drop (4 * (i + 1)) bytes
  rest =
      let place : 4 * i + 4 ≡ 4 * (i + 1) = omega arith in
      ap (λ (n : ℕ). drop (n + 4) (laid words bytes i)) (sym front)
      ∙ drop-append-add (bytes_of (take i words)) (drop (4 * i) bytes) 4
      ∙ drop-drop 4 (4 * i) bytes
      ∙ ap (λ (n : ℕ). drop n bytes) place

  -- the four bytes of a turn, written over what stood there
  pub one_more : (k : ℕ) (ys : List ℕ) → k ≡ 4 → ys ≡ bytes4 (get_or words i 0) → put_mid (4 * i) k (laid words bytes i) ys ≡ laid words bytes (i + 1)
  one_more k ys e same =
      rw (e, same)
      (sym (append_assoc (take (4 * i) (laid words bytes i)) (bytes4 (get_or words i 0)) (drop 4 (drop (4 * i) (laid words bytes i))))
      ∙ ap (λ (l : List ℕ). l ++ bytes4 (get_or words i 0) ++ drop 4 (drop (4 * i) (laid words bytes i))) (take_at (bytes_of (take i words)) (drop (4 * i) bytes) (4 * i) front)
      ∙ ap (λ (l : List ℕ). bytes_of (take i words) ++ bytes4 (get_or words i 0) ++ l) (drop-drop 4 (4 * i) (laid words bytes i) ∙ rest)
      ∙ ap (λ (l : List ℕ). l ++ drop (4 * (i + 1)) bytes) (sym more))
