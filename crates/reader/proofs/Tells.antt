-- What is found at a place tells where it lies: a word was found inside the script, and is the word there; the end past it.
use Rattle.std.specs.Prelude.{Option, Some, None}
use Prim.Native.Nat.{ℕ, ◌<◌, ◌≤◌}
use mathlib.Core.Path.{◌≡◌, ap, ◌∙◌}
use mathlib.Core.List.{List}
use lib.ListN.{length, get_or}
use native.Mathlib.Omega.{arith}
use native.Mathlib.Decide.{dec_lt}
use borrow.Author.Tests.{le-ltb, lt-ltb}
use Rattle.reader.specs.Place.{word_at}

-- the word, or 0 at the end
abbrev value_of : Option ℕ → ℕ
value_of (Some w) = w
value_of None = 0

module _ (s : List ℕ) (n : ℕ) where
  there : n < length s → word_at s n ≡ Some (get_or s n 0)
  unfolding word_at
  there h = rw (lt-ltb n (length s) h)

  past : length s ≤ n → word_at s n ≡ None
  unfolding word_at
  past h = rw (le-ltb n (length s) h)

  pub inside : (w : ℕ) → Some w ≡ word_at s n → n < length s
  inside w e = by (dec_lt n (length s))
    where
      by : Dec (n < length s) → n < length s
      by (yes h) = h
      by (no h) =
          let clash : Some w ≡ None = e ∙ past (omega arith) in
          let z : ◌≡◌ {A = ℕ} 0 1 = cc in absurd (omega arith)

  pub is_word : (w : ℕ) → Some w ≡ word_at s n → w ≡ get_or s n 0
  is_word w e = ap value_of (e ∙ there (inside w e))

  pub outside : None ≡ word_at s n → length s ≤ n
  outside e = by (dec_lt n (length s))
    where
      by : Dec (n < length s) → length s ≤ n
      by (yes h) =
          let clash : None ≡ Some (get_or s n 0) = e ∙ there h in
          let z : ◌≡◌ {A = ℕ} 0 1 = cc in absurd (omega arith)
      by (no h) = omega arith
